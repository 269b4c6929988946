-- Given lists of Writable collections, and so the answers at the start, fit.
use Rattle.std.proofs.Common.{◌≡◌, ℕ, Bool, true, false, cond, if◌then◌else◌, nat_eq, IsTrue, List, [], ◌∷◌, Option, Some, None, refl, sym, ap, subst, ◌∙◌, arith}
use Rattle.std.specs.Prelude.{IsSome}
use Rattle.std.specs.List.{All}
use Rattle.std.specs.Map.{lookup}
use Rattle.std.specs.Ordering.{nat_cmp}
use Rattle.std.specs.FinMap as map
use Rattle.std.proofs.lemmas.List.Elements.{All-head, All-tail}
use Rattle.fact_values.specs.declared.slot.Slot.{Slot}
use Rattle.dict_source.specs.Dictionary.{Dictionary as Tree}
use Rattle.common_lemmas.proofs.Numbers.{same_number}
use Rattle.answers.specs.Answered.{Answered, Entry, blank, of_side, start, value_of}
use Rattle.answers.specs.Finite.{Numbered, and_then}
use Rattle.answers.specs.GivenLists.{IsOfLists, is_in_some}
use Rattle.answers.specs.declared.edit.Side.{Side}
use Rattle.answers.specs.declared.edit.Side.TheVariants.{Answer, Override}
use Rattle.answers.proofs.FiniteLaws.{get_map_of}
use Rattle.answers.proofs.StandLaws.{none_some}
use Rattle.answers.proofs.Start.{start_from_one, start_well}
use Rattle.dict_meaning.specs.Allowed.{GivenFit}
use Rattle.dict_meaning.specs.Fits.{AnswersFit, is_list}

pub blank_value : (side : Side) (f : ℕ) → map.get (of_side side blank) f ≡ None
blank_value Answer f = map.get-empty nat_cmp f
blank_value Override f = map.get-empty nat_cmp f

-- no slot has anything
pub given_value : (lists : List (ℕ × List ℕ)) (next : ℕ) (a : Answered) → IsOfLists lists next a → (side : Side) (s : Slot) → value_of side a s ≡ None
given_value lists next a is side s = at (nat_eq s.member 0)
  where
    member : (b : Bool) → and_then (λ (e : Entry). map.get (of_side side e) s.fact) (if b then Some blank else None) ≡ None
    member true = blank_value side s.fact
    member false = refl

    at : (b : Bool) → and_then (λ (e : Entry). map.get (of_side side e) s.fact) (if b then Some a.globals else map.get a.members s.member) ≡ None
    at true = ap (λ (e : Entry). map.get (of_side side e) s.fact) is.no_globals ∙ blank_value side s.fact
    at false = ap (and_then (λ (e : Entry). map.get (of_side side e) s.fact)) (is.no_entries s.member) ∙ member (is_in_some s.member lists)

-- a list that is there is one of those given
given_list : (P : ℕ → Type 0) (lists : List (ℕ × List ℕ)) → All (λ (e : ℕ × List ℕ). P e.0) lists → (c : ℕ) → IsSome (and_then (λ (xs : List ℕ). Some xs) (lookup (nat_eq c) lists)) → P c
given_list P [] all c some = absurd (cc)
given_list P (e ∷ es) all c some = at (nat_eq c e.0) refl (given_list P es (All-tail (λ (e : ℕ × List ℕ). P e.0) e es all) c) some
  where
    at : (b : Bool) → nat_eq c e.0 ≡ b → (IsSome (and_then (λ (xs : List ℕ). Some xs) (lookup (nat_eq c) es)) → P c) → IsSome (and_then (λ (xs : List ℕ). Some xs) (cond b (Some e.1) (lookup (nat_eq c) es))) → P c
    at true same rest some = subst P (sym (same_number c e.0 same)) (All-head (λ (e : ℕ × List ℕ). P e.0) e es all)
    at false same rest some = rest some

pub given_fit : GivenFit
given_fit d lists next a well from_one is all = record {
  well = well;
  from_one = from_one;
  lists = λ c some. given_list (λ n. IsTrue (is_list d n)) lists all c
      (subst (λ (o : Option (List ℕ)). IsSome o) (ap (λ (ls : Numbered (List ℕ)). map.get ls c) is.lists_are ∙ get_map_of (λ (xs : List ℕ). Some xs) lists c) some);
  placed = λ side s some. absurd (none_some (value_of side a s) (given_value lists next a is side s) some);
  typed = λ side s v e. absurd (none_some (value_of side a s) (given_value lists next a is side s) (rw e refl));
}

pub start_fits : (d : Tree) → AnswersFit d start
start_fits d =
    given_fit d [] 1 start (start_well 1 (omega arith)) (start_from_one 1 (omega arith))
    (record { number = refl; lists_are = refl; no_globals = refl; no_entries = λ m. map.get-empty nat_cmp m }) (λ k e h. absurd (omega arith))
