-- Looks against stamps.
use Rattle.std.proofs.Common.{◌≡◌, ◌⊎◌, inl, inr, ℕ, zero, suc, ◌+◌, ◌<◌, ◌≤◌, Bool, true, false, ◌&&◌, ◌||◌, nat_eq, nat_le, if◌then◌else◌, cond, IsTrue, List, [], ◌∷◌, ◌++◌, length, Option, Some, refl, sym, ap, ◌∙◌, subst, arith}
use Rattle.std.specs.Prelude.{unwrap_or}
use Rattle.std.specs.Map.{lookup}
use Rattle.std.proofs.lemmas.Bool.{le-leb, lt-leb}
use Rattle.fact_values.specs.declared.slot.Slot.{Slot}
use Rattle.common_lemmas.proofs.Numbers.{nat_eq-comm}
use Rattle.shared_desk.specs.Desk.{changer, is_party}
use Rattle.shared_desk.specs.LastSeen.{Key, key_of, look_in, same_key}
use Rattle.shared_desk.proofs.Changers.{changer_kept, changer_last}
use Rattle.shared_desk.proofs.StampLaws.{StampAfter}

-- ---- a look that is kept

chosen_or : (b : Bool) (n : ℕ) (o : Option ℕ) → unwrap_or (cond b (Some n) o) 0 ≡ if b then n else unwrap_or o 0
chosen_or true n o = refl
chosen_or false n o = refl

-- after a look is put
pub look_put : (before after : List (Key × ℕ)) (k : Key) (n : ℕ)
    → ((q : Key) → lookup (same_key q) after ≡ cond (same_key k q) (Some n) (lookup (same_key q) before))
    → (p : ℕ) (s : Slot) → look_in after p s ≡ if same_key k (key_of p s) then n else look_in before p s
look_put before after k n h p s =
    ap (λ o. unwrap_or o 0) (h (key_of p s)) ∙ chosen_or (same_key k (key_of p s)) n (lookup (same_key (key_of p s)) before)

-- ---- a look of some party, and one of all

pub and_false : (b : Bool) → (b && false) ≡ false
and_false true = refl
and_false false = refl

pub or_true : (b : Bool) → (b || true) ≡ true
or_true true = refl
or_true false = refl

pub looked_low : (b : Bool) (number before bound : ℕ) → number ≤ bound → before ≤ bound → (if b then number else before) ≤ bound
looked_low true number before bound f g = f
looked_low false number before bound f g = g

pub looked_high : (b : Bool) (number before bound : ℕ) → bound ≤ number → bound ≤ before → bound ≤ (if b then number else before)
looked_high true number before bound f g = f
looked_high false number before bound f g = g

-- 0 is no later than any
pub zero_first : (n look kept : ℕ) (own : Bool) → n ≡ 0 → nat_le n look ≡ (nat_le n kept || own)
zero_first n look kept own e = le-leb n look (omega (arith, e)) ∙ sym (ap (λ (b : Bool). b || own) (le-leb n kept (omega (arith, e))))

-- where a question is answered
pub kept_asked : (n changes look kept : ℕ) (b own : Bool) → n ≤ changes → nat_le n look ≡ (nat_le n kept || own)
    → nat_le n (if b then changes else look) ≡ (nat_le n (if b then changes else kept) || own)
kept_asked n changes look kept true own low e = le-leb n changes low ∙ sym (ap (λ (t : Bool). t || own) (le-leb n changes low))
kept_asked n changes look kept false own low e = e

-- ---- where the party p makes the change after so many

pub stamp_low : (changes before n : ℕ) (is : Bool) → before ≤ changes → StampAfter (changes + 1) before is n → n ≤ changes + 1
stamp_low changes before n is low (inl t) = let e = t.1 in omega (arith, e)
stamp_low changes before n is low (inr u) = by u.1
  where
    by : (n ≡ 0) ⊎ (n ≡ before) → n ≤ changes + 1
    by (inl e) = omega (arith, e)
    by (inr e) = omega (arith, e, low)

module _ (changes : ℕ) (p : ℕ) (xs : List ℕ) (numbered : length xs ≡ changes) where
  made : (n : ℕ) → n ≡ changes + 1 → changer (xs ++ p ∷ []) n ≡ Some p
  made n e = ap (changer (xs ++ p ∷ [])) e ∙ changer_last xs p changes numbered

  kept_party : (n : ℕ) → 0 < n → n ≤ changes → changer (xs ++ p ∷ []) n ≡ changer xs n
  kept_party n some low = changer_kept xs p n some (omega (arith, low, numbered))

  -- a party looks at what its own change touches
  pub own_changed : (q before n look : ℕ) (is : Bool) → before ≤ changes → (IsTrue (is_party q (changer xs before)) → before ≤ look) → StampAfter (changes + 1) before is n
      → IsTrue (is_party q (changer (xs ++ p ∷ []) n)) → n ≤ (if nat_eq q p && is then changes + 1 else look)
  own_changed q before n look is low own (inl t) by_q =
      let same : nat_eq q p ≡ true = nat_eq-comm q p ∙ sym (ap (is_party q) (made n t.1)) ∙ by_q in
      let both : (nat_eq q p && is) ≡ true = ap (λ (b : Bool). b && is) same ∙ t.0 in
      let e = t.1 in
      subst (λ (b : Bool). n ≤ (if b then changes + 1 else look)) (sym both) (omega (arith, e))
  own_changed q before n look is low own (inr u) by_q = subst (λ (b : Bool). n ≤ (if nat_eq q p && b then changes + 1 else look)) (sym u.0) (subst (λ (b : Bool). n ≤ (if b then changes + 1 else look)) (sym (and_false (nat_eq q p))) (at u.1))
    where
      some_or : (m : ℕ) → before ≡ m → n ≡ before → n ≤ look
      some_or zero e f = omega (arith, e, f)
      some_or (suc m) e f =
          let as_before : IsTrue (is_party q (changer xs before)) = sym (ap (is_party q) (kept_party before (omega (arith, e)) low)) ∙ ap (λ (k : ℕ). is_party q (changer (xs ++ p ∷ []) k)) (sym f) ∙ by_q in
          let high = own as_before in
          omega (arith, f, high)

      at : (n ≡ 0) ⊎ (n ≡ before) → n ≤ look
      at (inl e) = omega (arith, e)
      at (inr e) = some_or before refl e

  -- and so what is kept tells the same
  pub kept_changed : (q before n look kept : ℕ) (is : Bool) → before ≤ changes → look ≤ changes → kept ≤ changes
      → nat_le before look ≡ (nat_le before kept || is_party q (changer xs before)) → StampAfter (changes + 1) before is n
      → nat_le n (if nat_eq q p && is then changes + 1 else look) ≡ (nat_le n kept || is_party q (changer (xs ++ p ∷ []) n))
  kept_changed q before n look kept is low seen asked same (inl t) =
      ap (λ (b : Bool). nat_le n (if nat_eq q p && b then changes + 1 else look)) t.0
      ∙ whose (nat_eq q p) refl
      ∙ sym (ap (λ (o : Option ℕ). nat_le n kept || is_party q o) (made n t.1))
    where
      later : (m : ℕ) → m ≤ changes → nat_le n m ≡ false
      later m f = let e = t.1 in lt-leb n m (omega (arith, e, f))

      whose : (b : Bool) → nat_eq q p ≡ b → nat_le n (if b && true then changes + 1 else look) ≡ (nat_le n kept || nat_eq p q)
      whose true e = let number = t.1 in le-leb n (changes + 1) (omega (arith, number)) ∙ sym (ap (λ (b : Bool). nat_le n kept || b) (nat_eq-comm p q ∙ e) ∙ or_true (nat_le n kept))
      whose false e = later look seen ∙ sym (ap (λ (b : Bool). b || nat_eq p q) (later kept asked) ∙ nat_eq-comm p q ∙ e)
  kept_changed q before n look kept is low seen asked same (inr u) =
      ap (λ (b : Bool). nat_le n (if nat_eq q p && b then changes + 1 else look)) u.0
      ∙ ap (λ (b : Bool). nat_le n (if b then changes + 1 else look)) (and_false (nat_eq q p))
      ∙ at u.1
    where
      some_or : (m : ℕ) → before ≡ m → n ≡ before → nat_le n look ≡ (nat_le n kept || is_party q (changer (xs ++ p ∷ []) n))
      some_or zero e f = zero_first n look kept (is_party q (changer (xs ++ p ∷ []) n)) (f ∙ e)
      some_or (suc m) e f =
          subst (λ (k : ℕ). nat_le k look ≡ (nat_le k kept || is_party q (changer (xs ++ p ∷ []) k))) (sym f)
          (same ∙ sym (ap (λ (o : Option ℕ). nat_le before kept || is_party q o) (kept_party before (omega (arith, e)) low)))

      at : (n ≡ 0) ⊎ (n ≡ before) → nat_le n look ≡ (nat_le n kept || is_party q (changer (xs ++ p ∷ []) n))
      at (inl e) = zero_first n look kept (is_party q (changer (xs ++ p ∷ []) n)) e
      at (inr e) = some_or before refl e
