-- A walk from slot to slot: what is found, and what is still to be walked.
use Rattle.std.specs.Prelude.{◌≡◌, ℕ, ◌+◌, ◌≤◌, ◌||◌, ◌++◌, not, IsTrue, List, filter, length}
use Rattle.fact_values.specs.declared.slot.Slot.{Slot}
use Rattle.dict_source.specs.Dictionary.{Dictionary as Tree}
use Rattle.answers.specs.Answered.{Answered}
use Rattle.dict_meaning.specs.Accepted.{Accepted}
use Rattle.dict_meaning.specs.Slots.{standing, stands}
use Rattle.explain.specs.declared.found.Found.{Found}
use Rattle.explain.specs.Found.{has}
use Rattle.explain.specs.Reads.{is_in, is_read, new_among, standing_reads}

-- how many slots that stand aren't found yet
abbrev pub unfound : Tree → Answered → Found → ℕ
unfound d a f = length (filter (λ s. not (has f s)) (standing d a))

-- Those of the slots that stand are found beside those before; what is new is to be walked, in order, and what is found is not.
pub record AddsReads (d : Tree) (a : Answered) (slots : List Slot) (before after : Found) (todo todo' : List Slot) : Type 0 where
  pub found : (s : Slot) → has after s ≡ (has before s || is_in s (filter (stands d a) slots))
  pub order : todo' ≡ todo ++ new_among (has before) (filter (stands d a) slots)
  pub kept : (s : Slot) → IsTrue (is_in s todo) → IsTrue (is_in s todo')
  pub fresh : (s : Slot) → IsTrue (has after s) → IsTrue (has before s || is_in s todo')
  pub of_these : (s : Slot) → IsTrue (is_in s todo') → IsTrue (is_in s todo || has after s)
  pub left : length todo' + unfound d a after ≤ length todo + unfound d a before

-- What is found is read from s, s is found, and so is what each of these reads, but for those that are to be walked.
pub record IsWalked (d : Accepted) (a : Answered) (s : Slot) (f : Found) (todo : List Slot) : Type 0 where
  pub is_read : (t : Slot) → IsTrue (has f t) → IsTrue (is_read d a s t)
  pub start : IsTrue (has f s)
  pub todo_found : (t : Slot) → IsTrue (is_in t todo) → IsTrue (has f t)
  pub closed : (t : Slot) → IsTrue (has f t) → (u : Slot) → IsTrue (is_in u (standing_reads d a t)) → IsTrue (has f u || is_in t todo)
