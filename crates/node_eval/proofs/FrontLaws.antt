-- The numbers at the front of results.
use Rattle.std.proofs.Common.{◌≡◌, ◌<◌, ◌+◌, ℕ, zero, suc, ℤ, List, [], ◌∷◌, length, map, drop, Option, Some, None, ap, ◌∙◌, arith, fold, inr, sym, if◌then◌else◌, inl, take}
use Rattle.std.specs.Prelude.{is_some, slice_index}
use Rattle.fact_values.specs.declared.value.Value.TheVariants.{Dollar, Int}
use Rattle.three_state.specs.declared.res.Res.{Res}
use Rattle.three_state.specs.declared.res.Res.TheVariants.{Complete}
use Rattle.operations.specs.ManyFolds.{ManySeen, saw}
use Rattle.node_eval.specs.Globals.{amount_of, leading, whole_of}
use Rattle.node_eval.specs.Memory.{SomeOf}

-- a result of which the number is known
pub amount_is : (r : Res) (cents : ℤ) → Some cents ≡ amount_of r → r ≡ Complete (Dollar cents)
amount_is (Complete (Dollar n)) cents h = cc
amount_is _ cents h = absurd cc

pub whole_is : (r : Res) (n : ℤ) → Some n ≡ whole_of r → r ≡ Complete (Int n)
whole_is (Complete (Int m)) n h = cc
whole_is _ n h = absurd cc

after : (i : ℕ) → suc i ≡ i + 1
after i = omega arith

-- one more at the front
more : (number : Res → Option ℤ) (result : ℕ → Res) (facts : List ℕ) (i : ℕ) (n : ℤ) → i < length facts → Some n ≡ number (result (slice_index facts i))
    → leading number (map result (drop i facts)) ≡ suc (leading number (map result (drop (suc i) facts)))
more number result [] i n within h = absurd (omega (arith, within))
more number result (fact ∷ facts) zero n within h = ap (λ o. if is_some o then suc (leading number (map result facts)) else 0) (sym h)
more number result (fact ∷ facts) (suc i) n within h = more number result facts i n (omega (arith, within)) h

pub one_more : (number : Res → Option ℤ) (result : ℕ → Res) (facts : List ℕ) (i : ℕ) (n : ℤ) → i < length facts → Some n ≡ number (result (slice_index facts i))
    → leading number (map result (drop i facts)) ≡ suc (leading number (map result (drop (i + 1) facts)))
one_more number result facts i n within h = more number result facts i n within h ∙ ap (λ j. suc (leading number (map result (drop j facts)))) (after i)

-- the front has ended
pub no_more : (number : Res → Option ℤ) (result : ℕ → Res) (facts : List ℕ) (i : ℕ) → i < length facts → None ≡ number (result (slice_index facts i)) → leading number (map result (drop i facts)) ≡ 0
no_more number result [] i within h = absurd (omega (arith, within))
no_more number result (fact ∷ facts) zero within h = ap (λ o. if is_some o then suc (leading number (map result facts)) else 0) (sym h)
no_more number result (fact ∷ facts) (suc i) within h = no_more number result facts i (omega (arith, within)) h

-- one more operand is seen
seen : (result : ℕ → Res) (facts : List ℕ) (i : ℕ) (run next : ManySeen) (r : Res) → i < length facts → next ≡ saw run r → result (slice_index facts i) ≡ r
    → fold saw next (map result (drop (suc i) facts)) ≡ fold saw run (map result (drop i facts))
seen result [] i run next r within is e = absurd (omega (arith, within))
seen result (fact ∷ facts) zero run next r within is e = λ k. fold saw ((is ∙ ap (saw run) (sym e)) k) (map result facts)
seen result (fact ∷ facts) (suc i) run next r within is e = seen result facts i run next r (omega (arith, within)) is e

pub one_seen : (result : ℕ → Res) (facts : List ℕ) (i : ℕ) (run next : ManySeen) (r : Res) → i < length facts → next ≡ saw run r → result (slice_index facts i) ≡ r
    → fold saw next (map result (drop (i + 1) facts)) ≡ fold saw run (map result (drop i facts))
one_seen result facts i run next r within is e = ap (λ j. fold saw next (map result (drop j facts))) (sym (after i)) ∙ seen result facts i run next r within is e

-- what holds of one of the rest holds of one of the whole
of_rest : {X : Type 0} (M : X → Type 0) (n : ℕ) (xs : List X) → SomeOf M (drop n xs) → SomeOf M xs
of_rest M zero xs h = h
of_rest M (suc n) [] h = h
of_rest M (suc n) (x ∷ xs) h = inr (of_rest M n xs h)

of_front : {X : Type 0} (M : X → Type 0) (n : ℕ) (xs : List X) → SomeOf M (take n xs) → SomeOf M xs
of_front M zero [] h = h
of_front M zero (x ∷ xs) h = absurd h
of_front M (suc n) [] h = h
of_front M (suc n) (x ∷ xs) (inl h) = inl h
of_front M (suc n) (x ∷ xs) (inr h) = inr (of_front M n xs h)

pub some_of_rest : {X : Type 0} (M : X → Type 0) (n count : ℕ) (xs : List X) → SomeOf M (take count (drop n xs)) → SomeOf M xs
some_of_rest M n count xs h = of_rest M n xs (of_front M count (drop n xs) h)

pub ruleset firsts = (amount_is, whole_is)
