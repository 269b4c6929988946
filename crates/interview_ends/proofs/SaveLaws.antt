-- A save has one end at most, and its script leads to it.
use Rattle.std.proofs.Common.{◌≡◌, ◌≢◌, ℕ, List, Option, inl, inr, refl, sym, ap, subst, ◌∙◌}
use Rattle.fg_io.specs.Outside.{Input, Output}
use Rattle.std.specs.Io.KnownBytes.{Appends, Keeps}
use Rattle.std.proofs.KnownBytes.{Keeps-refl}
use Rattle.fg_io.specs.Sent.{Sent}
use Rattle.answers.specs.Answered.{Answered}
use Rattle.graph_session.specs.Rules.{Rules, tree_of}
use Rattle.script_runs.specs.Meanings.{Meaning, silently}
use Rattle.saved_text.specs.SavedText.{saved}
use Rattle.script_runs.specs.declared.status.Status.{Status}
use Rattle.script_runs.specs.declared.status.Status.TheVariants.{Done, ReadFault, WriteFault, ScriptTooLong, NoMemory}
use Rattle.interview_ends.specs.DefinedEnds.{defined_fault}
use Rattle.script_runs.specs.DefinedScript.{defined_script}
use Rattle.interview_ends.specs.Save.{OneEndOfSave, ScriptSaves, defined_save, save_meaning, saved_after}
use Rattle.script_runs.specs.ScriptEnds.{LeavesAnswers, ReadThrough, ScriptDid, ScriptEnds, script_did}
use Rattle.interview_ends.specs.StepEnds.{EndedBy}
use Rattle.interview_ends.proofs.DictionaryLaws.{accepted_is_faultless, one_first_fault, one_set_of_rules}

-- ---- it comes to one end

pub one_save : OneEndOfSave
one_save content checks relations script d e (inl (r, is, to)) (inl (s, is_other, to_other)) = to ∙ ap (λ q. defined_save q (save_meaning q relations) script) (one_set_of_rules checks content r s is is_other) ∙ sym to_other
one_save content checks relations script d e (inl (r, is, to)) (inr (fault, is_fault, to_fault)) = absurd (accepted_is_faultless checks content r fault is is_fault)
one_save content checks relations script d e (inr (fault, is_fault, to_fault)) (inl (r, is, to)) = absurd (accepted_is_faultless checks content r fault is is_fault)
one_save content checks relations script d e (inr (fault, is, to)) (inr (other, is_other, to_other)) = to ∙ ap defined_fault (one_first_fault checks content fault other is is_other) ∙ sym to_other

-- ---- what was written before the end: nothing

pub nothing : (before now : Option (List ℕ)) → before ≡ now → Keeps before now
nothing before now still = subst (Keeps before) still (Keeps-refl before)

-- ---- a script that was run silently

-- it has the status that it has with its replies
silent_status : (m : Meaning) (script : List ℕ) → (defined_script m script).status ≡ (defined_script (silently m) script).status
unfolding defined_script
silent_status m script = refl

module _ (r : Rules) (m : Meaning) (source source_now : Input) (sink ran : Output) (same_sink : ran ≡ sink) where
  -- what the run itself did
  abbrev silent_did : ScriptDid
  silent_did = script_did source source_now sink ran

  module _ (sink_now : Output) where
    abbrev did : ScriptDid
    did = script_did source source_now sink sink_now

    read_so : ReadThrough (silently m) silent_did → ReadThrough m did
    read_so (inl end) = inl end
    read_so (inr quit) = inr (record { earlier = quit.earlier; piece = quit.piece; read = quit.read; short = quit.short; unquit = quit.unquit; quit = quit.quit })

    -- it was done, and the answers that stand were written, whole or in part
    pub saves_done : (k : Rules) (answers : Answered) → k ≡ r → ScriptEnds (silently m) silent_did Done → LeavesAnswers (silently m) source.left answers Done → (status : Status)
        → EndedBy ran sink_now (saved (tree_of k) answers) Done status → ScriptSaves r m did status
    saves_done k answers same_rules ends leaves status ended =
        let text : saved (tree_of k) answers ≡ saved_after r m leaves.0 = ap (λ q. saved (tree_of q) answers) same_rules ∙ ap (saved (tree_of r)) (sym leaves.3) in
        let done : (defined_script m leaves.0).status ≡ Done = silent_status m leaves.0 ∙ leaves.2 in
        elim (subst (λ (o : Output). EndedBy o sink_now (saved (tree_of k) answers) Done status) same_sink ended) as (λ _. ScriptSaves r m did status) [
          | inl wrote ↦ subst (ScriptSaves r m did) (sym wrote.0) ((leaves.0, (leaves.1, done), subst (Appends sink.taken sink_now.taken) text wrote.1), read_so ends.1)
          | inr part ↦ subst (ScriptSaves r m did) (sym part.0) (part.1, (leaves.0, (leaves.1, done), subst (λ t. (rest : List ℕ) × Sent sink.taken sink_now.taken t rest) text part.2))
        ]

  -- it wasn't done, and nothing was written
  pub saves_nothing : (status : Status) → (status ≡ Done → ⊥) → status ≢ WriteFault → ScriptEnds (silently m) silent_did status → ScriptSaves r m silent_did status
  saves_nothing status not unfailing ends = by status not unfailing ends
    where
      still : Keeps sink.taken ran.taken
      still = nothing sink.taken ran.taken (ap (λ (o : Output). o.taken) (sym same_sink))

      by : (status : Status) → (status ≡ Done → ⊥) → status ≢ WriteFault → ScriptEnds (silently m) silent_did status → ScriptSaves r m silent_did status
      by Done not unfailing ends = absurd (not refl)
      by ReadFault not unfailing (rose, so_far) = (rose, record { bytes = so_far.bytes; read = so_far.read; within = so_far.within; unquit = so_far.unquit }, still)
      by WriteFault not unfailing ends = absurd (unfailing refl)
      by ScriptTooLong not unfailing (script, may, status, wrote) = (script, may, silent_status m script ∙ status, still)
      by NoMemory not unfailing ends = still
      by other not unfailing ends = absurd ends
