-- Lists of operands and of cases, compiled one by one.
use Rattle.std.proofs.Common.{◌≡◌, ℕ, ◌+◌, ◌<◌, List, [], ◌∷◌, ◌++◌, length, get_or, map, take, refl, sym, ap, ◌∙◌, add-one}
use Rattle.std.proofs.Math.Seq.{take-suc}
use Rattle.std.proofs.lemmas.List.{map-append}
use Rattle.dict_source.specs.Dictionary.{Dictionary as Tree}
use Rattle.dict_source.specs.Tree.{Cases, Trees, a_case, tree}
use Rattle.dict_source.specs.View.{cases_view, trees_view, view}
use Rattle.dict_source.specs.declared.expr.Case.{Case}
use Rattle.dict_source.specs.declared.expr.Expr.{Expr}
use Rattle.fact_values.specs.declared.value.Value.{Value}
use Rattle.evaluation.specs.Resolving.{resolved, resolved_all, resolved_cases}
use Rattle.node_eval.specs.View.{Compiled as NodeTree, CompiledCase as NodeTreeCase, Reading as NodeReading, cases_of, trees_of}
use Rattle.node_eval.specs.declared.node.ResolvedPath.{ResolvedPath}
use Rattle.node_compile.specs.Compiling.{names}

module _ (d : Tree) (fact base : ℕ) where
  abbrev pub node_of : Expr → NodeTree
  node_of e = resolved (names d fact) base (view e)

  abbrev pub node_case_of : Case → NodeTreeCase
  node_case_of c = (resolved (names d fact) base (view c.test), resolved (names d fact) base (view c.outcome))

  pub all_resolved : (es : List Expr) → resolved_all (names d fact) base (trees_view es) ≡ trees_of (map node_of es)
  all_resolved [] = refl
  all_resolved (e ∷ es) = ap (λ (ts : Trees Value NodeReading ResolvedPath). tree (node_of e) ts) (all_resolved es)

  pub cases_resolved : (cs : List Case) → resolved_cases (names d fact) base (cases_view cs) ≡ cases_of (map node_case_of cs)
  cases_resolved [] = refl
  cases_resolved (c ∷ cs) = ap (λ (ts : Cases Value NodeReading ResolvedPath). a_case (resolved (names d fact) base (view c.test)) (resolved (names d fact) base (view c.outcome)) ts) (cases_resolved cs)

-- one element more is compiled
pub next_compiled : {X Y Z : Type 0} (f : X → Z) (g : Y → Z) (ys : List Y) (i : ℕ) (y : Y) (so_far more : List X) (x : X)
    → i < length ys → y ≡ get_or ys i y → map f so_far ≡ map g (take i ys) → f x ≡ g y → more ≡ so_far ++ x ∷ [] → map f more ≡ map g (take (i + 1) ys)
next_compiled f g ys i y so_far more x low at before same pushed =
    ap (map f) pushed
    ∙ map-append f so_far (x ∷ [])
    ∙ ap (λ l. l ++ f x ∷ []) before
    ∙ ap (λ z. map g (take i ys) ++ z ∷ []) (same ∙ ap g at)
    ∙ sym (map-append g (take i ys) (get_or ys i y ∷ []))
    ∙ ap (map g) (sym (take-suc ys i y low) ∙ ap (λ (k : ℕ). take k ys) (sym (add-one i)))
