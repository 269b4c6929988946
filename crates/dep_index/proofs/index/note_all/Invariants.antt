use Rattle.std.proofs.Common.{◌≡◌, ℕ, drop}
use Rattle.std.specs.Prelude.{vec_len}
use Rattle.dep_index.specs.Noting.{with_mentions}
use Rattle.dep_index.specs.Readers.{readers_of}
use Rattle.dep_index.proofs.index.note_all.Given as goal

-- what is left to note leads to the whole
abbrev pub invariant-loop-mention : goal.invariant-loop-mention
invariant-loop-mention l = record {
  count : vec_len l.by_fact ≡ vec_len l.initial.by_fact;
  noted : (fact : ℕ) → with_mentions fact l.reader (readers_of l.by_fact.items fact) (drop l.mention-index l.mentions) ≡ with_mentions fact l.reader (readers_of l.initial.by_fact.items fact) l.mentions;
}
