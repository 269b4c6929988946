-- What the slots have after an answer or an override was given or taken away.
use Rattle.std.proofs.Common.{◌≡◌, ◌⊎◌, ℕ, Bool, true, false, cond, ◌&&◌, if◌then◌else◌, nat_eq, Option, Some, None, option_map, inl, inr, refl, sym, ap, subst, ◌∙◌, arith}
use Rattle.std.specs.Prelude.{IsSome}
use Rattle.std.specs.FinMap as map
use Rattle.std.proofs.lemmas.Bool.Decides.{nat_tests}
use Rattle.fact_values.specs.declared.slot.Slot.{Slot}
use Rattle.fact_values.specs.declared.value.Value.{Value}
use Rattle.common_lemmas.proofs.Numbers.{same_number}
use Rattle.answers.specs.Answered.{Answered, Entry, entry, of_side, value_of}
use Rattle.answers.specs.Change.{applied, sets, with_value}
use Rattle.answers.specs.Finite.{and_then, put_at}
use Rattle.answers.specs.declared.edit.Side.{Side}
use Rattle.answers.specs.declared.edit.Side.TheVariants.{Answer, Override}
use Rattle.answers.proofs.FiniteLaws.{get_put}
use Rattle.dict_meaning.specs.Slots.{slot_same}
use Rattle.dict_meaning.proofs.SlotLaws.{slot_same-equal}

entry_after : (side : Side) (a : Answered) (s : Slot) (v : Option Value) (k : ℕ) → entry (applied (sets side s v) a) k ≡ (if nat_eq s.member k then option_map (with_value side s.fact v) (entry a k) else entry a k)
entry_after side a s v k = at (nat_eq s.member 0) (nat_eq k 0) refl refl
  where
    member : (b : Bool) → nat_eq s.member k ≡ b → cond b (option_map (with_value side s.fact v) (map.get a.members s.member)) (map.get a.members k) ≡ (if b then option_map (with_value side s.fact v) (map.get a.members k) else map.get a.members k)
    member true e = ap (λ m. option_map (with_value side s.fact v) (map.get a.members m)) (same_number s.member k e)
    member false e = refl

    at : (b c : Bool) → nat_eq s.member 0 ≡ b → nat_eq k 0 ≡ c
        → (if c then Some (if b then with_value side s.fact v a.globals else a.globals) else map.get (if b then a.members else put_at a.members s.member (option_map (with_value side s.fact v) (map.get a.members s.member))) k)
        ≡ (if nat_eq s.member k then option_map (with_value side s.fact v) (if c then Some a.globals else map.get a.members k) else (if c then Some a.globals else map.get a.members k))
    at true true e g = let same : nat_eq s.member k ≡ true = grind (arith, nat_tests) in rw same refl
    at true false e g = let other : nat_eq s.member k ≡ false = grind (arith, nat_tests) in rw other refl
    at false true e g = let other : nat_eq s.member k ≡ false = grind (arith, nat_tests) in rw other refl
    at false false e g = get_put a.members s.member (option_map (with_value side s.fact v) (map.get a.members s.member)) k ∙ member (nat_eq s.member k) refl

abbrev pub is_side : Side → Side → Bool
is_side Answer Answer = true
is_side Answer Override = false
is_side Override Answer = false
is_side Override Override = true

chosen : (b : Bool) (x y : Option Value) → cond b x y ≡ (if b && true then x else y)
chosen true x y = refl
chosen false x y = refl

never : (p b : Bool) (x y : Option Value) → y ≡ (if p && (b && false) then x else y)
never true true x y = refl
never true false x y = refl
never false b x y = refl

entry_has : (side other : Side) (o : Option Entry) (f g : ℕ) (v : Option Value) → IsSome o
    → and_then (λ (e : Entry). map.get (of_side other e) g) (option_map (with_value side f v) o) ≡ (if is_side side other && (nat_eq f g && true) then v else and_then (λ (e : Entry). map.get (of_side other e) g) o)
entry_has side other None f g v some = absurd (cc)
entry_has Answer Answer (Some e) f g v some = get_put e.values f v g ∙ chosen (nat_eq f g) v (map.get e.values g)
entry_has Answer Override (Some e) f g v some = refl
entry_has Override Answer (Some e) f g v some = refl
entry_has Override Override (Some e) f g v some = get_put e.overrides f v g ∙ chosen (nat_eq f g) v (map.get e.overrides g)

-- a slot that may be set has what it was given, and the others what they had
pub set_is : (side other : Side) (a : Answered) (s t : Slot) (v : Option Value) → IsSome (entry a s.member)
    → value_of other (applied (sets side s v) a) t ≡ (if is_side side other && slot_same s t then v else value_of other a t)
set_is side other a s t v there = ap (and_then (λ (e : Entry). map.get (of_side other e) t.fact)) (entry_after side a s v t.member) ∙ at (nat_eq s.member t.member) refl
  where
    at : (b : Bool) → nat_eq s.member t.member ≡ b
        → and_then (λ (e : Entry). map.get (of_side other e) t.fact) (if b then option_map (with_value side s.fact v) (entry a t.member) else entry a t.member)
        ≡ (if is_side side other && (nat_eq s.fact t.fact && b) then v else value_of other a t)
    at true e = entry_has side other (entry a t.member) s.fact t.fact v (subst (λ m. IsSome (entry a m)) (same_number s.member t.member e) there)
    at false e = never (is_side side other) (nat_eq s.fact t.fact) v (value_of other a t)

pub same_side : (p q : Side) → is_side p q ≡ true → p ≡ q
same_side Answer Answer h = refl
same_side Answer Override h = absurd (cc)
same_side Override Answer h = absurd (cc)
same_side Override Override h = refl

-- so what a slot has it had before, or it is the one that was given
pub set_has : (side other : Side) (a : Answered) (s t : Slot) (v : Option Value) (w : Value) → IsSome (entry a s.member) → value_of other (applied (sets side s v) a) t ≡ Some w
    → (value_of other a t ≡ Some w) ⊎ ((side ≡ other) × (s ≡ t) × (v ≡ Some w))
set_has side other a s t v w there h = at (is_side side other) (slot_same s t) refl refl (sym (set_is side other a s t v there) ∙ h)
  where
    at : (p q : Bool) → is_side side other ≡ p → slot_same s t ≡ q → (if p && q then v else value_of other a t) ≡ Some w → (value_of other a t ≡ Some w) ⊎ ((side ≡ other) × (s ≡ t) × (v ≡ Some w))
    at true true e g k = inr (same_side side other e, slot_same-equal s t g, k)
    at true false e g k = inl k
    at false q e g k = inl k
