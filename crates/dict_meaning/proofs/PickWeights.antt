-- What a Filter and a Find weigh: their condition weighs the same at each member, since its collections are read by its base alone.
use Rattle.std.proofs.Common.{◌≡◌, ℕ, suc, ◌+◌, ◌*◌, List, [], ◌∷◌, length, refl, sym, ap, ◌∙◌, arith, sum_by}
use Rattle.std.proofs.Math.Nat.{add_comm, suc-mul}
use Rattle.std.proofs.lemmas.List.Sums.{sum_by-cons}
use Rattle.dict_source.specs.Tree.{Source, Sources, SourceCases, literal, read, switch, many, one, two, pick, no_trees, tree, no_cases, a_case}
use Rattle.dict_source.specs.Dictionary.{Dictionary as Tree}
use Rattle.three_state.specs.Results.{members_of}
use Rattle.evaluation.specs.Over.{weight, weight_of_all, weight_of_cases}
use Rattle.dict_meaning.specs.Dependencies.{EvalPosition, entered, source_env, source_result}
use Rattle.evaluation.specs.Results.{Results}
use Rattle.dict_meaning.specs.Weights.{PickWeighs}

abbrev place : ℕ → ℕ → ℕ → EvalPosition
place b own inner = record { base = b; own = own; inner = inner }

-- at places of one base and one member of the slot
mutual
  alike : (d : Tree) (results : Results) (fact b own k n : ℕ) (t : Source) → weight (source_env d results fact) (place b own k) t ≡ weight (source_env d results fact) (place b own n) t
  alike d results fact b own k n (literal c) = refl
  alike d results fact b own k n (read r) = refl
  alike d results fact b own k n (switch cs) = ap suc (alike_cases d results fact b own k n cs)
  alike d results fact b own k n (many op ts) = ap suc (alike_all d results fact b own k n ts)
  alike d results fact b own k n (one op t) = ap suc (alike d results fact b own k n t)
  alike d results fact b own k n (two op x y) = rw (alike d results fact b own k n x, alike d results fact b own k n y) refl
  alike d results fact b own k n (pick op u t) = refl

  alike_all : (d : Tree) (results : Results) (fact b own k n : ℕ) (ts : Sources) → weight_of_all (source_env d results fact) (place b own k) ts ≡ weight_of_all (source_env d results fact) (place b own n) ts
  alike_all d results fact b own k n no_trees = refl
  alike_all d results fact b own k n (tree t ts) = rw (alike d results fact b own k n t, alike_all d results fact b own k n ts) refl

  alike_cases : (d : Tree) (results : Results) (fact b own k n : ℕ) (cs : SourceCases) → weight_of_cases (source_env d results fact) (place b own k) cs ≡ weight_of_cases (source_env d results fact) (place b own n) cs
  alike_cases d results fact b own k n no_cases = refl
  alike_cases d results fact b own k n (a_case t o cs) = rw (alike d results fact b own k n t, alike d results fact b own k n o, alike_cases d results fact b own k n cs) refl

sum_alike : (f : ℕ → ℕ) (w : ℕ) → ((m : ℕ) → f m ≡ w) → (ms : List ℕ) → sum_by f ms ≡ length ms * w
sum_alike f w h [] = let none : 0 * w ≡ 0 = omega arith in rw none refl
sum_alike f w h (m ∷ ms) =
    sum_by-cons f m ms ∙ ap (λ n. n + sum_by f ms) (h m) ∙ ap (λ n. w + n) (sum_alike f w h ms) ∙ add_comm w (length ms * w) ∙ sym (suc-mul (length ms) w)

pub pick_weighs : PickWeighs
pick_weighs d results fact at op u t m =
    ap suc (sum_alike (λ k. weight (source_env d results fact) (entered d fact at u.path k) t) (weight (source_env d results fact) (entered d fact at u.path m) t)
    (λ k. alike d results fact (entered d fact at u.path m).base at.own k m t) (members_of (source_result d results fact at u.path)))
