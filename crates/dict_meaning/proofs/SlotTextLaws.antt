-- A slot that stands has a text, and that is short.
use Rattle.std.proofs.Common.{◌≡◌, ℕ, ◌<◌, ◌≤◌, Bool, true, false, nat_eq, if◌then◌else◌, IsTrue, List, ◌++◌, length, refl, sym, ap, subst, arith, length-append}
use Rattle.std.specs.Prelude.{codes, decimal}
use Rattle.std.proofs.lemmas.Bool.{eqb-true}
use Rattle.fact_paths.specs.Paths.{IsSlotPath, slot_path_text}
use Rattle.fact_paths.specs.declared.slot_path.SlotPath.{SlotPath}
use Rattle.fact_paths.specs.declared.slot_path.SlotPath.TheVariants as paths
use Rattle.fact_values.specs.declared.slot.Slot.{Slot}
use Rattle.value_text.proofs.Decimals.{decimal_of_member}
use Rattle.value_text.proofs.EnumLemmas.{name_short}
use Rattle.dict_source.specs.Dictionary.{Dictionary as Tree}
use Rattle.answers.specs.Answered.{Answered, list_of}
use Rattle.answers.specs.Lists.{IsIn}
use Rattle.answers.specs.WellFormed.{FromOne, WellFormed}
use Rattle.dict_meaning.specs.Accepted.{Accepted, IsAccepted}
use Rattle.dict_meaning.specs.Homes.{home}
use Rattle.dict_meaning.specs.Slots.{is_member, stands}
use Rattle.dict_meaning.specs.SlotText.{IsSlot, slot_text}
use Rattle.dict_meaning.proofs.HomeLaws.{text_spells}
use Rattle.dict_meaning.proofs.ListTypes.{below_next, from_one}
use Rattle.dict_meaning.proofs.NumberLaws.{fact_within}
use Rattle.dict_meaning.proofs.SlotLaws.{fact_of_standing}

-- ---- members

pub member_from_one : (a : Answered) → WellFormed a → FromOne a → (c m : ℕ) → IsIn m (list_of a c) → 1 ≤ m
member_from_one a well low c m i = from_one a low m (well.listed c m i)

pub member_below : (a : Answered) → WellFormed a → (c m : ℕ) → IsIn m (list_of a c) → m < a.next
member_below a well c m i = below_next a well m (well.listed c m i)

-- ---- slots

-- a slot that stands has a text
pub standing_slot : (d : Tree) (a : Answered) → WellFormed a → FromOne a → (s : Slot) → IsTrue (stands d a s) → IsSlot d s
standing_slot d a well low s h =
    let f = fact_of_standing d a s h in
    let n = fact_within d.facts s.fact f.0 f.1 in
    record {
      there = (omega (arith, n.0), n.1);
      once = once (home d s.fact) (nat_eq (home d s.fact) 0) refl f.2;
      member = short (home d s.fact) (nat_eq (home d s.fact) 0) refl f.2;
    }
  where
    once : (h : ℕ) (b : Bool) → nat_eq h 0 ≡ b → IsTrue (if b then nat_eq s.member 0 else is_member a h s.member) → ((s.member ≡ 0) → (h ≡ 0)) × ((h ≡ 0) → (s.member ≡ 0))
    once h true e i = (λ _. eqb-true h 0 e, λ _. eqb-true s.member 0 i)
    once h false e i = (λ z. absurd (let up : 1 ≤ s.member = member_from_one a well low h s.member i in omega arith), λ z. absurd (let t : nat_eq h 0 ≡ true = ap (λ n. nat_eq n 0) z in cc))

    short : (h : ℕ) (b : Bool) → nat_eq h 0 ≡ b → IsTrue (if b then nat_eq s.member 0 else is_member a h s.member) → s.member ≤ 1000000
    short h true e i = let z : s.member ≡ 0 = eqb-true s.member 0 i in omega arith
    short h false e i = omega (arith, member_below a well h s.member i, well.high)

-- ---- how long the text of a slot is

path_short : (path : SlotPath) → IsSlotPath path → length (slot_path_text path) ≤ 140
path_short (paths.Global n) is = omega (arith, name_short n is)
path_short (paths.Member n k m) is =
    let digits : length (decimal k) ≤ 7 = decimal_of_member k (omega (arith, is.1)) in
    omega (arith, name_short n is.0, name_short m is.2, length-append n (codes "/#" ++ (decimal k ++ (codes "/" ++ m))), length-append (decimal k) (codes "/" ++ m))

pub slot_short : (names : List (List ℕ)) (d : Accepted) → IsAccepted names d → (s : Slot) → IsSlot d.tree s → length (slot_text d.tree s) ≤ 140
slot_short names d is s slot =
    let found = text_spells names d s is slot in
    subst (λ (t : List ℕ). length t ≤ 140) (sym found.2.1) (path_short found.0 found.2.0)
