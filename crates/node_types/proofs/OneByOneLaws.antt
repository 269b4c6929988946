-- Results of elements one after another: what is found so far, and what those that are left give.
use Rattle.std.proofs.Common.{◌≡◌, ℕ, suc, ◌<◌, List, [], ◌∷◌, ◌++◌, length, drop, get_or, map, Result, Ok, Err, refl, sym, ap, ◌∙◌, append_assoc}
use Rattle.std.proofs.lemmas.List.{drop-map}
use Rattle.dict_source.proofs.FindingLaws.{drop-view}
use Rattle.node_types.specs.Inferring.{◌>>=◌}

-- what is left begins with the next element
pub left_next : {X Y : Type 0} (view : X → Y) (xs : List X) (i k : ℕ) (x : X) → i < length xs → x ≡ get_or xs i x → k ≡ suc i → map view (drop i xs) ≡ view x ∷ map view (drop k xs)
left_next view xs i k x low at next = sym (drop-map view i xs) ∙ drop-view view xs i k x low at next ∙ ap (λ r. view x ∷ r) (drop-map view k xs)

module _ {Y E : Type 0} where
  pub moved : (out new : List Y) (y : Y) → new ≡ out ++ y ∷ [] → (r : Result (List Y) E) → (r >>= λ ys. Ok (new ++ ys)) ≡ ((r >>= λ ys. Ok (y ∷ ys)) >>= λ ys. Ok (out ++ ys))
  moved out new y same (Ok ys) = ap Ok (ap (λ (l : List Y). l ++ ys) same ∙ append_assoc out (y ∷ []) ys)
  moved out new y same (Err e) = refl

  -- one element more has a result
  pub all_next : {X : Type 0} (one : ℕ → X → Result Y E) (all : ℕ → List X → Result (List Y) E)
      → ((n : ℕ) (x : X) (xs : List X) → all n (x ∷ xs) ≡ (one n x >>= λ y. all (suc n) xs >>= λ ys. Ok (y ∷ ys)))
      → (n k : ℕ) (left later : List X) (x : X) (y : Y) (out new : List Y) (whole : Result (List Y) E) → left ≡ x ∷ later → k ≡ suc n
      → (all n left >>= λ ys. Ok (out ++ ys)) ≡ whole → one n x ≡ Ok y → new ≡ out ++ y ∷ [] → (all k later >>= λ ys. Ok (new ++ ys)) ≡ whole
  all_next one all step n k left later x y out new whole is next before found same =
      ap (λ (j : ℕ). all j later >>= λ ys. Ok (new ++ ys)) next
      ∙ moved out new y same (all (suc n) later)
      ∙ ap (λ (r : Result (List Y) E). r >>= λ ys. Ok (out ++ ys)) (sym (ap (all n) is ∙ step n x later ∙ ap (λ (r : Result Y E). r >>= λ z. all (suc n) later >>= λ ys. Ok (z ∷ ys)) found))
      ∙ before
