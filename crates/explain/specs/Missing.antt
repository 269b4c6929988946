-- Which answers are missing.
use Rattle.std.specs.Prelude.{◌≡◌, ℕ, ◌&&◌, Bool, false, IsTrue, is_none, List, ◌∷◌, filter, flat_map, Option, Some, None}
use Rattle.std.specs.List.{list_all}
use Rattle.fact_values.specs.declared.slot.Slot.{Slot}
use Rattle.dict_source.specs.Dictionary.{Dictionary as Tree}
use Rattle.dict_source.specs.Facts.{Fact}
use Rattle.dict_source.specs.Finding.{fact_at}
use Rattle.answers.specs.Answered.{Answered}
use Rattle.dict_meaning.specs.Accepted.{Accepted, IsAccepted}
use Rattle.dict_meaning.specs.Extension.{IsExtension}
use Rattle.dict_meaning.specs.Fits.{is_writable}
use Rattle.dict_meaning.specs.Plain.{given_value, plain}
use Rattle.dict_meaning.specs.Slots.{standing, stands}
use Rattle.explain.specs.Reads.{all_reads, is_read, standing_reads}

-- a writable slot that has no answer, or is a collection that isn't open
abbrev pub lacks_answer : Answered → Slot → Option Fact → Bool
lacks_answer a s None = false
lacks_answer a s (Some f) = is_writable f && is_none (given_value f.stated a s)

abbrev pub is_unanswered : Tree → Answered → Slot → Bool
is_unanswered d a s = lacks_answer a s (fact_at d.facts s.fact)

-- a slot that s reads, and that is unanswered
abbrev pub is_missing : Accepted → Answered → Slot → Slot → Bool
is_missing d a s t = is_read d a s t && is_unanswered d.tree a t

-- those that are missing of s: by fact, and of a fact in the order of the members
abbrev pub missing : Accepted → Answered → Slot → List Slot
missing d a s = filter (is_missing d a s) (standing d.tree a)

-- ---- laws

-- a slot reads itself, and all that the slots read that it reads
abbrev pub ReadsAreRecursive : Type 0
ReadsAreRecursive =
    (names : List (List ℕ)) (d : Accepted) → IsAccepted names d → (a : Answered) (s : Slot)
    → all_reads d a s ≡ s ∷ flat_map (all_reads d a) (standing_reads d a s)

-- under an extension of the answers in which all of these slots are still unanswered, the result is the same
abbrev pub Keeps : Accepted → Answered → Slot → List Slot → Type 0
Keeps d a s missing = (b : Answered) → IsExtension d.tree a b → IsTrue (list_all (is_unanswered d.tree b) missing) → plain d b s ≡ plain d a s

-- so where the missing answers stay away, no other answer changes the result
abbrev pub MissingKeep : Type 0
MissingKeep = (names : List (List ℕ)) (d : Accepted) → IsAccepted names d → (a : Answered) (s : Slot) → IsTrue (stands d.tree a s) → Keeps d a s (missing d a s)
