-- Where the facts of a chain stand.
use Rattle.std.proofs.Common.{◌≡◌, ℕ, zero, suc, ◌+◌, ◌≤◌, ◌<◌, Bool, true, false, cond, List, [], ◌∷◌, ◌++◌, length, Option, Some, None, inl, inr, refl, sym, ap, ◌∙◌, arith}
use Rattle.std.specs.List.{slice_get}
use Rattle.std.proofs.lemmas.List.{length-append}
use Rattle.std.proofs.lemmas.Option.{none-some}
use Rattle.fact_paths.specs.declared.fact_path.FactPath.{FactPath}
use Rattle.fact_paths.specs.declared.fact_path.FactPath.TheVariants as paths
use Rattle.dict_source.specs.Dictionary.{number_from}
use Rattle.dict_source.specs.Facts.{Fact}
use Rattle.dict_source.specs.Finding.{find_path, is_path}
use Rattle.dict_source.proofs.FindingLaws.{is_path-some}
use Rattle.dict_order.proofs.ListLaws.{at_most_or_above}
use Rattle.common_lemmas.proofs.Lists.{get_last}
use Rattle.dict_gen.specs.Chain.{chain, chain_facts, member_facts, sum_fact}
use Rattle.dict_gen.proofs.SumNames.{names_differ, sum_name, sum_path_is}

-- ---- the first element that passes a test, with one more at the end

kept_chosen : (b : Bool) (n k : ℕ) (o p : Option ℕ) → cond b (Some n) o ≡ Some k → (o ≡ Some k → p ≡ Some k) → cond b (Some n) p ≡ Some k
kept_chosen true n k o p h f = h
kept_chosen false n k o p h f = f h

new_chosen : (b : Bool) (n : ℕ) (o p q : Option ℕ) → cond b (Some n) o ≡ None → (o ≡ None → p ≡ q) → cond b (Some n) p ≡ q
new_chosen true n o p q h f = absurd cc
new_chosen false n o p q h f = f h

-- one that was there stays the first
number_kept : {X : Type 0} (test : X → Bool) (n k : ℕ) (xs ys : List X) → number_from test n xs ≡ Some k → number_from test n (xs ++ ys) ≡ Some k
number_kept test n k [] ys h = absurd (none-some k h)
number_kept test n k (x ∷ xs) ys h = kept_chosen (test x) n k (number_from test (suc n) xs) (number_from test (suc n) (xs ++ ys)) h (λ e. number_kept test (suc n) k xs ys e)

-- where there was none, the last may be
number_last : {X : Type 0} (test : X → Bool) (n : ℕ) (xs : List X) (x : X) → number_from test n xs ≡ None → test x ≡ true → number_from test n (xs ++ x ∷ []) ≡ Some (n + length xs)
number_last test n [] x h t = ap (λ b. cond b (Some n) None) t ∙ ap Some (omega arith)
number_last test n (y ∷ ys) x h t =
    new_chosen (test y) n (number_from test (suc n) ys) (number_from test (suc n) (ys ++ x ∷ [])) (Some (n + length (y ∷ ys))) h
    (λ e. number_last test (suc n) ys x e t ∙ ap Some (omega arith))

-- or none is
pub number_none : {X : Type 0} (test : X → Bool) (n : ℕ) (xs : List X) (x : X) → number_from test n xs ≡ None → test x ≡ false → number_from test n (xs ++ x ∷ []) ≡ None
number_none test n [] x h t = ap (λ b. cond b (Some n) None) t
number_none test n (y ∷ ys) x h t =
    new_chosen (test y) n (number_from test (suc n) ys) (number_from test (suc n) (ys ++ x ∷ [])) None h
    (λ e. number_none test (suc n) ys x e t)

-- ---- elements by their place

get_kept : {X : Type 0} (xs ys : List X) (i : ℕ) (x : X) → slice_get xs i ≡ Some x → slice_get (xs ++ ys) i ≡ Some x
get_kept [] ys i x h = absurd (none-some x h)
get_kept (z ∷ xs) ys zero x h = h
get_kept (z ∷ xs) ys (suc i) x h = get_kept xs ys i x h

-- ---- chains

pub length_chain : (n : ℕ) → length (chain_facts n) ≡ 3 + n
length_chain zero = refl
length_chain (suc n) = let before = length_chain n in length-append (chain_facts n) (sum_fact n ∷ []) ∙ omega (arith, before)

-- what was found among the first three facts is found there
pub member_found : (n k : ℕ) (p : FactPath) → find_path member_facts p ≡ Some k → find_path (chain n).facts p ≡ Some k
member_found zero k p h = h
member_found (suc n) k p h = number_kept (λ (f : Fact). is_path p f.path) 1 k (chain_facts n) (sum_fact n ∷ []) (member_found n k p h)

pub member_at : (n i : ℕ) (f : Fact) → slice_get member_facts i ≡ Some f → slice_get (chain_facts n) i ≡ Some f
member_at zero i f h = h
member_at (suc n) i f h = get_kept (chain_facts n) (sum_fact n ∷ []) i f (member_at n i f h)

-- the path of a sum that isn't there yet
other_sum : (j m : ℕ) → j < 1000 → m < j → is_path (paths.Global (sum_name (suc j))) (sum_fact m).path ≡ false
other_sum j m few lt =
    ap (is_path (paths.Global (sum_name (suc j)))) (sum_path_is (suc m) (omega (arith, few, lt)))
    ∙ names_differ (suc j) (suc m) (omega (arith, few)) (omega (arith, few, lt)) (λ e. absurd (omega (arith, e, lt)))

no_sum : (n j : ℕ) → j < 1000 → n ≤ j → find_path (chain n).facts (paths.Global (sum_name (suc j))) ≡ None
no_sum zero j few le = refl
no_sum (suc m) j few le =
    number_none (λ (f : Fact). is_path (paths.Global (sum_name (suc j))) f.path) 1 (chain_facts m) (sum_fact m) (no_sum m j few (omega (arith, le))) (other_sum j m few (omega (arith, le)))

own_sum : (j m : ℕ) → m < 1000 → j ≡ m → is_path (paths.Global (sum_name (suc j))) (sum_fact m).path ≡ true
own_sum j m few e = is_path-some (paths.Global (sum_name (suc j))) (sum_fact m).path (sum_path_is (suc m) (omega (arith, few)) ∙ ap (λ i. Some (paths.Global (sum_name (suc i)))) (sym e))

-- the sum behind j has the number 4 + j
pub sum_found : (n j : ℕ) → n ≤ 1000 → j < n → find_path (chain n).facts (paths.Global (sum_name (suc j))) ≡ Some (4 + j)
sum_found zero j few lt = absurd (omega arith)
sum_found (suc m) j few lt = elim (at_most_or_above (suc j) m) [
  | inl l ↦ number_kept (λ (f : Fact). is_path (paths.Global (sum_name (suc j))) f.path) 1 (4 + j) (chain_facts m) (sum_fact m ∷ []) (sum_found m j (omega (arith, few)) (omega (arith, l)))
  | inr l ↦
      number_last (λ (f : Fact). is_path (paths.Global (sum_name (suc j))) f.path) 1 (chain_facts m) (sum_fact m) (no_sum m j (omega (arith, few, lt)) (omega (arith, l))) (own_sum j m (omega (arith, few)) (omega (arith, l, lt)))
      ∙ (let count = length_chain m in ap Some (omega (arith, count, l, lt)))
]

pub sum_at : (n j : ℕ) → j < n → slice_get (chain_facts n) (3 + j) ≡ Some (sum_fact j)
sum_at zero j lt = absurd (omega arith)
sum_at (suc m) j lt = elim (at_most_or_above (suc j) m) [
  | inl l ↦ get_kept (chain_facts m) (sum_fact m ∷ []) (3 + j) (sum_fact j) (sum_at m j (omega (arith, l)))
  | inr l ↦
      let same : m ≡ j = omega (arith, l, lt) in
      let count = length_chain m in
      ap (slice_get (chain_facts (suc m))) (omega (arith, count, same)) ∙ get_last (chain_facts m) (sum_fact m) ∙ ap (λ i. Some (sum_fact i)) same
]
