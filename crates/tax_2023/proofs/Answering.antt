-- Answers that are given one behind the other fit the dictionary, and are those that were given.
use Rattle.std.proofs.Common.{◌≡◌, ◌<◌, ℕ, Bool, true, false, ◌&&◌, if◌then◌else◌, IsTrue, List, [], ◌∷◌, length, ◌++◌, Option, Some, None, unwrap_or, refl, sym, ap, subst, ◌∙◌, arith}
use Rattle.std.specs.Prelude.{IsSome}
use Rattle.std.specs.Ordering.{nat_cmp}
use Rattle.std.specs.FinMap as map
use Rattle.common_lemmas.proofs.Bools.{both_left}
use Rattle.fact_values.specs.declared.slot.Slot.{Slot}
use Rattle.fact_values.specs.declared.value.Value.{Value}
use Rattle.dict_source.specs.Dictionary.{Dictionary as Tree}
use Rattle.answers.specs.Answered.{Answered, Entry, blank, entry, of_side, start, value_of}
use Rattle.answers.specs.Change.{Stands, adds, applied, sets}
use Rattle.answers.specs.Finite.{Numbered, and_then}
use Rattle.answers.specs.declared.edit.Side.{Side}
use Rattle.answers.specs.declared.edit.Side.TheVariants.{Answer, Override}
use Rattle.answers.proofs.FiniteLaws.{get_put_own}
use Rattle.answers.proofs.StandLaws.{entry_stands}
use Rattle.dict_meaning.specs.Accepted.{Accepted, IsAccepted}
use Rattle.dict_meaning.specs.Fits.{AnswersFit, IsOfFact, is_list, takes}
use Rattle.dict_meaning.specs.Slots.{slot_same, stands}
use Rattle.dict_meaning.proofs.ChangedAnswers.{nothing_put}
use Rattle.dict_meaning.proofs.FitChangeLaws.{allowed_changes_fit}
use Rattle.dict_meaning.proofs.FitStart.{blank_value, given_value, start_fits}
use Rattle.dict_meaning.proofs.SetLaws.{set_is}
use Rattle.dict_meaning.proofs.SlotLaws.{slot_stands}

-- ---- one member of a collection, of which nothing is answered

abbrev pub with_member : ℕ → Answered
with_member c = applied (adds c) start

pub member_fits : (names : List (List ℕ)) (d : Accepted) → IsAccepted names d → (c : ℕ) → IsTrue (is_list d.tree c) → AnswersFit d.tree (with_member c)
member_fits names d accepted c is =
    allowed_changes_fit names d accepted start (adds c) (start_fits d.tree) (few (map.get start.lists c) (map.get-empty nat_cmp c), omega arith) is
  where
    few : (o : Option (List ℕ)) → o ≡ None → length (unwrap_or o []) < 100
    few None e = omega arith
    few (Some ms) e = absurd cc

pub member_listed : (c : ℕ) → map.get (with_member c).lists c ≡ Some (1 ∷ [])
member_listed c = get_put_own start.lists c _ ∙ ap (λ (o : Option (List ℕ)). Some (unwrap_or o [] ++ 1 ∷ [])) (map.get-empty nat_cmp c)

pub nothing_given : (c : ℕ) (side : Side) (s : Slot) → value_of side (with_member c) s ≡ None
nothing_given c side s =
    nothing_put side start.globals start.members 1 s.fact s.member (Some blank) (blank_value side s.fact) (ap (and_then (λ (e : Entry). map.get (of_side side e) s.fact)) (map.get-empty nat_cmp 1))
    ∙ given_value [] 1 start (record { number = refl; lists_are = refl; no_globals = refl; no_entries = λ m. map.get-empty nat_cmp m }) side s

-- ---- answers

-- a slot, and its answer
abbrev pub Given : Type 0
Given = Slot × Value

-- these are given, the first of them last
abbrev pub with_answers : List Given → Answered → Answered
with_answers [] a = a
with_answers (e ∷ es) a = applied (sets Answer e.0 (Some e.1)) (with_answers es a)

-- what is given to a slot
abbrev pub given_to : List Given → Slot → Option Value
given_to [] s = None
given_to (e ∷ es) s = if slot_same e.0 s then Some e.1 else given_to es s

abbrev pub or_else : Option Value → Option Value → Option Value
or_else None other = other
or_else (Some v) other = Some v

-- the slot may have the value
abbrev MayHave : Tree → Answered → Given → Type 0
MayHave d a e = IsTrue (stands d a e.0 && takes Answer d e.0.fact) × IsOfFact d a e.0.fact e.1

abbrev pub AllMayHave : Tree → Answered → List Given → Type 0
AllMayHave d a [] = Unit {0}
AllMayHave d a (e ∷ es) = MayHave d a e × AllMayHave d a es

-- with the collections of other answers
abbrev with_lists : Answered → Numbered (List ℕ) → Answered
with_lists a lists = record a { lists = lists }

pub same_lists : (es : List Given) (a : Answered) → (with_answers es a).lists ≡ a.lists
same_lists [] a = refl
same_lists (e ∷ es) a = same_lists es a

module _ (names : List (List ℕ)) (d : Accepted) (accepted : IsAccepted names d) (a : Answered) (fit : AnswersFit d.tree a) where
  -- what may be given may be given behind others
  may_behind : (es : List Given) (e : Given) → MayHave d.tree a e → MayHave d.tree (with_answers es a) e
  may_behind es e may = subst (λ lists. MayHave d.tree (with_lists a lists) e) (sym (same_lists es a)) may

  can_behind : (es : List Given) (e : Given) → MayHave d.tree a e → Stands (with_answers es a) e.0.member
  can_behind es e may = slot_stands d.tree (with_answers es a) e.0 (both_left (stands d.tree (with_answers es a) e.0) (takes Answer d.tree e.0.fact) (may_behind es e may).0)

  pub answers_fit : (es : List Given) → AllMayHave d.tree a es → AnswersFit d.tree (with_answers es a)
  answers_fit [] may = fit
  answers_fit (e ∷ es) may =
      allowed_changes_fit names d accepted (with_answers es a) (sets Answer e.0 (Some e.1)) (answers_fit es may.1) (can_behind es e may.0) (may_behind es e may.0)

  entry_there : (es : List Given) (e : Given) → MayHave d.tree a e → AllMayHave d.tree a es → IsSome (entry (with_answers es a) e.0.member)
  entry_there es e may all = entry_stands (with_answers es a) e.0.member (answers_fit es all).well (can_behind es e may)

  pub answers_are : (es : List Given) → AllMayHave d.tree a es → (s : Slot) → value_of Answer (with_answers es a) s ≡ or_else (given_to es s) (value_of Answer a s)
  answers_are [] all s = refl
  answers_are (e ∷ es) all s =
      set_is Answer Answer (with_answers es a) e.0 s (Some e.1) (entry_there es e all.0 all.1)
      ∙ ap (λ (o : Option Value). if slot_same e.0 s then Some e.1 else o) (answers_are es all.1 s)
      ∙ chosen (slot_same e.0 s)
    where
      chosen : (b : Bool) → (if b then Some e.1 else or_else (given_to es s) (value_of Answer a s)) ≡ or_else (if b then Some e.1 else given_to es s) (value_of Answer a s)
      chosen true = refl
      chosen false = refl

  pub overrides_are : (es : List Given) → AllMayHave d.tree a es → (s : Slot) → value_of Override (with_answers es a) s ≡ value_of Override a s
  overrides_are [] all s = refl
  overrides_are (e ∷ es) all s = set_is Answer Override (with_answers es a) e.0 s (Some e.1) (entry_there es e all.0 all.1) ∙ overrides_are es all.1 s
