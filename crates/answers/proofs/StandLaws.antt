-- Which members stand, and where.
use Rattle.std.proofs.Common.{◌≡◌, ℕ, Bool, true, false, cond, List, [], Option, Some, None, refl, sym, ap, ◌∙◌, subst, ◌≤◌, ◌-◌, arith}
use Rattle.std.specs.Prelude.{nat_eq, unwrap_or, IsSome, if◌then◌else◌}
use Rattle.std.proofs.lemmas.Bool.Decides.{nat_tests}
use Rattle.std.specs.FinMap as map
use Rattle.std.proofs.lemmas.Bool.{both_ways, false_from_ne_true}
use Rattle.common_lemmas.proofs.Numbers.{equal_number}
use Rattle.common_lemmas.proofs.Options.{nothing}
use Rattle.answers.specs.Finite.{Numbered, put_at}
use Rattle.answers.specs.Lists.{IsIn, IsNotIn}
use Rattle.answers.specs.Answered.{Answered, entry, list_of}
use Rattle.answers.specs.Change.{IsListed, Stands}
use Rattle.answers.specs.WellFormed.{WellFormed}
use Rattle.answers.proofs.FiniteLaws.{get_put}

pub none_some : {X : Type 0} (o : Option X) → o ≡ None → IsSome o → ⊥
none_some None e h = cc
none_some (Some x) e h = cc

pub pick : {X : Type 0} (P : X → Type 0) (b : Bool) (x y : X) → (b ≡ true → P x) → (b ≡ false → P y) → P (if b then x else y)
pick P true x y t f = t refl
pick P false x y t f = f refl

-- the members of an open collection
pub list_is : (a : Answered) (c : ℕ) (xs : List ℕ) → map.get a.lists c ≡ Some xs → list_of a c ≡ xs
list_is a c xs h = ap (λ o. unwrap_or o []) h

-- a member that stands has an entry
pub entry_stands : (a : Answered) (m : ℕ) → WellFormed a → Stands a m → IsSome (entry a m)
entry_stands a m w stands = pick (λ o. IsSome o) (nat_eq m 0) (Some a.globals) (map.get a.members m) (λ _. refl) (λ e. let l : IsListed a m = stands e in w.listed l.0 m l.1)

-- one that is in no list has none
pub not_listed : (a : Answered) (m : ℕ) → WellFormed a → ((d : ℕ) → IsNotIn m (list_of a d)) → map.get a.members m ≡ None
not_listed a m w out = nothing (map.get a.members m) (false_from_ne_true _ (λ some. let l : IsListed a m = w.only m some in both_ways _ (out l.0) l.1))

-- a collection that lists a member is open
pub list_there : (a : Answered) (c m : ℕ) → IsIn m (list_of a c) → map.get a.lists c ≡ Some (list_of a c)
list_there a c m here = by (map.get a.lists c) here
  where
    by : (o : Option (List ℕ)) → IsIn m (unwrap_or o []) → o ≡ Some (unwrap_or o [])
    by None h = absurd cc
    by (Some xs) h = refl

-- a member is in one list alone
pub elsewhere : (a : Answered) (c d m : ℕ) → WellFormed a → IsIn m (list_of a c) → nat_eq c d ≡ false → IsNotIn m (list_of a d)
elsewhere a c d m w here e = false_from_ne_true _ (λ there. both_ways _ e (subst (λ z. nat_eq c z ≡ true) (w.apart c d m here there) (equal_number c)))

-- the lists after one of them changed
pub list_after : (ls : Numbered (List ℕ)) (c d : ℕ) (o : Option (List ℕ)) → unwrap_or (map.get (put_at ls c o) d) [] ≡ (if nat_eq c d then unwrap_or o [] else unwrap_or (map.get ls d) [])
list_after ls c d o = ap (λ p. unwrap_or p []) (get_put ls c o d) ∙ by (nat_eq c d)
  where
    by : (b : Bool) → unwrap_or (cond b o (map.get ls d)) [] ≡ (if b then unwrap_or o [] else unwrap_or (map.get ls d) [])
    by true = refl
    by false = refl

pub after : (P : List ℕ → Type 0) (ls : Numbered (List ℕ)) (c d : ℕ) (o : Option (List ℕ)) → (nat_eq c d ≡ true → P (unwrap_or o [])) → (nat_eq c d ≡ false → P (unwrap_or (map.get ls d) [])) → P (unwrap_or (map.get (put_at ls c o) d) [])
after P ls c d o own other = subst P (sym (list_after ls c d o)) (pick P (nat_eq c d) (unwrap_or o []) (unwrap_or (map.get ls d) []) own other)

-- where the newest member has an entry, there is a number below the next
pub some_below : (a : Answered) → WellFormed a → IsSome (map.get a.members (a.next - 1)) → 1 ≤ a.next
some_below a w some =
    let other : nat_eq a.next 0 ≡ false = false_from_ne_true _ (λ e. let le : a.next ≤ a.next - 1 = grind (arith, nat_tests) in none_some _ (w.below (a.next - 1) le) some) in
    grind (arith, nat_tests)
