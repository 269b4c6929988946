-- A change's inverse gives back what was before, all of it.
use Rattle.std.proofs.Common.{◌≡◌, ℕ, Bool, true, false, List, [], ◌∷◌, ◌++◌, Option, Some, None, refl, sym, ap, ◌∙◌, arith, subst, ◌≤◌, ◌-◌, ◌+◌}
use Rattle.std.specs.Prelude.{nat_eq, is_some, not, option_map, unwrap_or, insert, IsSome, if◌then◌else◌}
use Rattle.std.specs.FinMap as map
use Rattle.fact_values.specs.declared.slot.Slot.{Slot}
use Rattle.fact_values.specs.declared.value.Value.{Value}
use Rattle.answers.specs.declared.edit.Side.{Side}
use Rattle.answers.specs.declared.edit.Side.TheVariants.{Answer, Override}
use Rattle.answers.specs.Finite.{Numbered, put_at, and_then}
use Rattle.answers.specs.Lists.{IsNotIn, without, without_last}
use Rattle.answers.proofs.ListLaws.{put_in_place, taken_out, last_off}
use Rattle.answers.specs.Answered.{Entry, blank, Answered, entry, of_side, list_of}
use Rattle.answers.specs.Change.{Change, sets, opens, closes, adds, takes, removes, puts_back, with_value, applied, inverse, Fits}
use Rattle.answers.specs.WellFormed.{WellFormed}
use Rattle.answers.proofs.StandLaws.{entry_stands, list_is, not_listed, list_there, some_below}
use Rattle.answers.proofs.FiniteLaws.{put_back, get_put_own}

-- the four parts of two answers
pub answered_same : (a b : Answered) → a.next ≡ b.next → a.lists ≡ b.lists → a.globals ≡ b.globals → a.members ≡ b.members → a ≡ b
answered_same a b n l g m = λ i. record { next = n i; lists = l i; globals = g i; members = m i }

-- an entry with its old value again
value_back : (side : Side) (f : ℕ) (v old : Option Value) (e : Entry) → map.get (of_side side e) f ≡ old → with_value side f old (with_value side f v e) ≡ e
value_back Answer f v old e h = λ i. record { values = put_back e.values f v old h i; overrides = e.overrides }
value_back Override f v old e h = λ i. record { values = e.values; overrides = put_back e.overrides f v old h i }

member_back : (side : Side) (ms : Numbered Entry) (m f : ℕ) (v : Option Value) (o : Option Entry) → map.get ms m ≡ o → IsSome o →
    put_at (put_at ms m (option_map (with_value side f v) o)) m (option_map (with_value side f (and_then (λ (e : Entry). map.get (of_side side e) f) o)) (map.get (put_at ms m (option_map (with_value side f v) o)) m)) ≡ ms
member_back side ms m f v (Some e) h there =
    rw (get_put_own ms m (Some (with_value side f v e))) (rw (value_back side f v (map.get (of_side side e) f) e refl) (put_back ms m (Some (with_value side f v e)) (Some e) h))
member_back side ms m f v None h there = absurd cc

at_global : (side : Side) (a : Answered) (s : Slot) (v : Option Value) (b : Bool) → nat_eq s.member 0 ≡ b → IsSome (entry a s.member) → applied (inverse (sets side s v) a) (applied (sets side s v) a) ≡ a
at_global side a s v true e h = rw e (answered_same _ a refl refl (value_back side s.fact v (map.get (of_side side a.globals) s.fact) a.globals refl) refl)
at_global side a s v false e h = rw e (answered_same _ a refl refl refl (member_back side a.members s.member s.fact v (map.get a.members s.member) refl (rw e at h)))

whole : (o : Option Entry) (d : Entry) → IsSome o → Some (unwrap_or o d) ≡ o
whole (Some e) d h = refl
whole None d h = absurd cc

lists_added : (ls : Numbered (List ℕ)) (c n : ℕ) (o : Option (List ℕ)) → map.get ls c ≡ o →
    put_at (put_at ls c (Some (unwrap_or o [] ++ n ∷ []))) c (if not (is_some o) then None else Some (without_last (unwrap_or (map.get (put_at ls c (Some (unwrap_or o [] ++ n ∷ []))) c) []))) ≡ ls
lists_added ls c n None h = put_back ls c (Some (n ∷ [])) None h
lists_added ls c n (Some xs) h = rw (get_put_own ls c (Some (xs ++ n ∷ []))) (rw (last_off xs n) (put_back ls c (Some (xs ++ n ∷ [])) (Some xs) h))

lists_taken : (ls : Numbered (List ℕ)) (c n : ℕ) (xs : List ℕ) (closed : Bool) → map.get ls c ≡ Some (xs ++ n ∷ []) → (closed ≡ true → xs ≡ []) →
    put_at (put_at ls c (if closed then None else Some (without_last (xs ++ n ∷ [])))) c (Some (unwrap_or (map.get (put_at ls c (if closed then None else Some (without_last (xs ++ n ∷ [])))) c) [] ++ n ∷ [])) ≡ ls
lists_taken ls c n xs true h one = rw (get_put_own {X = List ℕ} ls c None) (put_back ls c None (Some (n ∷ [])) (h ∙ ap (λ (ys : List ℕ). Some (ys ++ n ∷ [])) (one refl)))
lists_taken ls c n xs false h one =
    rw (get_put_own ls c (Some (without_last (xs ++ n ∷ [])))) (rw (last_off xs n) (put_back ls c (Some xs) (Some (xs ++ n ∷ [])) h))

pub fits_inverse_undoes : (c : Change) (a : Answered) → WellFormed a → Fits c a → applied (inverse c a) (applied c a) ≡ a
fits_inverse_undoes (sets side s v) a w fits = at_global side a s v (nat_eq s.member 0) refl (entry_stands a s.member w fits)
fits_inverse_undoes (opens c) a w fits = answered_same _ a refl (put_back a.lists c (Some []) None fits) refl refl
fits_inverse_undoes (closes c) a w fits = answered_same _ a refl (put_back a.lists c None (Some []) fits) refl refl
fits_inverse_undoes (adds c) a w fits =
    let n : a.next + 1 - 1 ≡ a.next = omega arith in
    answered_same _ a n (lists_added a.lists c a.next (map.get a.lists c) refl) refl (rw n (put_back a.members a.next (Some blank) None (w.below a.next (omega arith))))
fits_inverse_undoes (takes c closed) a w (xs, at, empty, one) =
    let low : 1 ≤ a.next = some_below a w (rw empty refl) in
    let n : a.next - 1 + 1 ≡ a.next = omega arith in
    let listed : list_of a c ≡ xs ++ (a.next - 1) ∷ [] = list_is a c (xs ++ (a.next - 1) ∷ []) at in
    answered_same _ a n (rw listed (lists_taken a.lists c (a.next - 1) xs closed at one)) refl (put_back a.members (a.next - 1) None (Some blank) empty)
fits_inverse_undoes (removes c m) a w here =
    answered_same _ a refl
    (rw (get_put_own a.lists c (Some (without m (list_of a c)))) (rw (put_in_place m (list_of a c) here) (put_back a.lists c (Some (without m (list_of a c))) (Some (list_of a c)) (list_there a c m here))))
    refl
    (put_back a.members m None (Some (unwrap_or (map.get a.members m) blank)) (sym (whole (map.get a.members m) blank (w.listed c m here))))
fits_inverse_undoes (puts_back c place m e) a w (xs, at, short, within, out, early) =
    let listed : list_of a c ≡ xs = list_is a c xs at in
    answered_same _ a refl
    (rw (get_put_own a.lists c (Some (insert (list_of a c) place m))) (rw listed (rw (taken_out m place xs within (subst (IsNotIn m) listed (out c))) (put_back a.lists c (Some (insert xs place m)) (Some xs) at))))
    refl
    (put_back a.members m (Some e) None (not_listed a m w out))
