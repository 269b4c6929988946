-- Which slots the readers of a slot's fact let wait.
use Rattle.std.specs.Prelude.{◌≡◌, ℕ, Bool, not, ◌&&◌, ◌||◌, nat_eq, List}
use Rattle.std.specs.List.{list_any}
use Rattle.fact_values.specs.declared.slot.Slot.{Slot}
use Rattle.answers.specs.Answered.{Answered}
use Rattle.dict_meaning.specs.Accepted.{Accepted}
use Rattle.dict_meaning.specs.Feeds.{feeds}
use Rattle.dict_meaning.specs.Homes.{home}
use Rattle.dict_meaning.specs.Plain.{rank}
use Rattle.evaluation.specs.Results.{slot}
use Rattle.dict_meaning.specs.Slots.{members_of_home, stands}
use Rattle.dep_index.specs.Readers.{AreReaders}
use Rattle.dep_index.specs.declared.readers_of.ReaderOf.{ReaderOf}
use Rattle.dirty_slots.specs.Waiting.{dirty_same}
use Rattle.dirty_slots.specs.declared.dirty_slot.DirtySlot.{DirtySlot}

-- a slot with the rank of its fact
abbrev pub dirty_of : Accepted → Slot → DirtySlot
dirty_of d s = record { rank = rank d s.fact; fact = s.fact; member = s.member }

-- at this member the reader reads the slot
abbrev pub reads_at : Slot → ReaderOf → ℕ → Bool
reads_at s r member = not r.same || nat_eq s.member member

-- what waits is the reader's slot at this member, where it reads the slot and isn't shielded
abbrev pub marks_at : (Slot → Bool) → Slot → ReaderOf → ℕ → DirtySlot → ℕ → Bool
marks_at shielded s r rank q member = (reads_at s r member && not (shielded (slot r.fact member))) && dirty_same q (record { rank = rank; fact = r.fact; member = member })

-- at one of the members where the reader has slots
abbrev pub marks_of : Accepted → Answered → (Slot → Bool) → Slot → DirtySlot → ReaderOf → Bool
marks_of d a shielded s q r = list_any (marks_at shielded s r (rank d r.fact) q) (members_of_home a (home d.tree r.fact))

-- of one of these readers
abbrev pub marks : Accepted → Answered → (Slot → Bool) → Slot → List ReaderOf → DirtySlot → Bool
marks d a shielded s rs q = list_any (marks_of d a shielded s q) rs

-- ---- a law

-- so the slots that stand and that this one feeds, but for those that are shielded
abbrev pub MarksFeed : Type 0
MarksFeed =
    (d : Accepted) (a : Answered) (shielded : Slot → Bool) (s : Slot) (rs : List ReaderOf) → AreReaders d s.fact rs
    → (q : Slot) → marks d a shielded s rs (dirty_of d q) ≡ (stands d.tree a q && (feeds d.tree s q && not (shielded q)))
