-- The node of a typed expression gives what the expression gives over any cells, weighs as much, and its evaluation visits as many
-- nodes.
use Rattle.std.proofs.Common.{◌≡◌, ℕ, suc, List, [], ◌∷◌, sum_by, refl, sym, ap, subst, ◌∙◌}
use Rattle.fact_values.specs.declared.fact_type.FactType.{FactType}
use Rattle.fact_values.specs.declared.fact_type.FactType.TheVariants as types
use Rattle.dict_source.specs.Dictionary.{Dictionary as Tree}
use Rattle.dict_source.specs.Mentions.{condition_base}
use Rattle.dict_source.specs.Tree.{Source, Sources, SourceCases, literal, read, switch, many, one, two, pick, no_trees, tree, no_cases, a_case}
use Rattle.dict_source.specs.Typing.{HasType, HaveTypes, HaveCaseTypes}
use Rattle.node_types.specs.FactTyping.{path_type}
use Rattle.three_state.specs.Results.{members_of, switch_of}
use Rattle.evaluation.specs.Over.{over, over_all, over_cases, many_of, one_of, pick_of, weight, weight_of_all, weight_of_cases}
use Rattle.evaluation.specs.Resolving.{resolved, resolved_all, resolved_cases}
use Rattle.evaluation.specs.SlotsRead.{members_visited}
use Rattle.evaluation.specs.Visits.{visits, visits_of_all, visits_of_cases}
use Rattle.evaluation.proofs.ResolvingLaws.{everywhere}
use Rattle.dict_meaning.specs.Dependencies.{source_env, source_result}
use Rattle.evaluation.specs.Results.{Results}
use Rattle.dict_meaning.proofs.PlacedReads.{placed_types}
use Rattle.node_eval.specs.Dependencies.{entered, node_env}
use Rattle.node_eval.specs.declared.node_position.NodePosition.{NodePosition}
use Rattle.node_compile.specs.Compiling.{names}
use Rattle.node_compile.proofs.ReadLaws.{list_by_path, read_by_path, standing}
use Rattle.node_compile.proofs.TargetLaws.{unsuited}
use Rattle.dict_meaning.proofs.ReadTypes.{known_is}

module _ (d : Tree) (fact : ℕ) (results : Results) where
  -- the result, the weight, and the nodes that are visited
  abbrev pub Same : Source → ℕ → NodePosition → Type 0
  Same t base at =
      (over (node_env results) at (resolved (names d fact) base t) ≡ over (source_env d results fact) (standing base at) t)
      × (weight (node_env results) at (resolved (names d fact) base t) ≡ weight (source_env d results fact) (standing base at) t)
      × (visits (node_env results) at (resolved (names d fact) base t) ≡ visits (source_env d results fact) (standing base at) t)

  abbrev AllSame : Sources → ℕ → NodePosition → Type 0
  AllSame ts base at =
      (over_all (node_env results) at (resolved_all (names d fact) base ts) ≡ over_all (source_env d results fact) (standing base at) ts)
      × (weight_of_all (node_env results) at (resolved_all (names d fact) base ts) ≡ weight_of_all (source_env d results fact) (standing base at) ts)
      × (visits_of_all (node_env results) at (resolved_all (names d fact) base ts) ≡ visits_of_all (source_env d results fact) (standing base at) ts)

  abbrev CasesSame : SourceCases → ℕ → NodePosition → Type 0
  CasesSame cs base at =
      (over_cases (node_env results) at (resolved_cases (names d fact) base cs) ≡ over_cases (source_env d results fact) (standing base at) cs)
      × (weight_of_cases (node_env results) at (resolved_cases (names d fact) base cs) ≡ weight_of_cases (source_env d results fact) (standing base at) cs)
      × (visits_of_cases (node_env results) at (resolved_cases (names d fact) base cs) ≡ visits_of_cases (source_env d results fact) (standing base at) cs)

  mutual
    pub same : (t : Source) (base : ℕ) (at : NodePosition) (u : FactType) → HasType (placed_types d fact) base t u → Same t base at
    same (literal c) base at u h = (refl, refl, refl)
    same (read r) base at u h = (read_by_path d results base at fact r.0 r.1.path u (unsuited r.0 r.1.path (path_type d fact base r.0 r.1.path) u h), refl, refl)
    same (switch cs) base at u h = let p = cases_same cs base at u h.1 in (ap switch_of p.0, ap suc p.1, ap suc p.2)
    same (many op ts) base at u h = let p = all_same ts base at h.0 h.1 in (ap (many_of op) p.0, ap suc p.1, ap suc p.2)
    same (one op t) base at u h = let p = same t base at h.0 h.1 in (ap (one_of op) p.0, ap suc p.1, ap suc p.2)
    same (two op x y) base at u h =
        let p = same x base at h.0 h.2 in
        let q = same y base at h.1 h.3 in
        (rw (p.0, q.0) refl, rw (p.1, q.1) refl, rw (p.2, q.2) refl)
    same (pick op p t) base at u h =
        let inner = condition_base d fact base p.path in
        let under = subst (λ (c : ℕ). HasType (placed_types d fact) c t types.Boolean) (sym (known_is inner h.0 h.1)) h.2 in
        let list = list_by_path d results base at fact p.path h.0 h.1 in
        let node = resolved (names d fact) inner t in (
          ap (λ s. pick_of op s (λ m. over (node_env results) (entered at m) node)) list
              ∙ ap (pick_of op (source_result d results fact (standing base at) p.path)) (everywhere (λ m. (same t inner (entered at m) types.Boolean under).0)),
          ap (λ s. suc (sum_by (λ m. weight (node_env results) (entered at m) node) (members_of s))) list
              ∙ ap (λ f. suc (sum_by f (members_of (source_result d results fact (standing base at) p.path)))) (everywhere (λ m. (same t inner (entered at m) types.Boolean under).1)),
          ap (λ s. suc (sum_by (λ m. visits (node_env results) (entered at m) node) (members_visited op (λ m. over (node_env results) (entered at m) node) s))) list
              ∙ ap (λ f. suc (sum_by (λ m. visits (node_env results) (entered at m) node) (members_visited op f (source_result d results fact (standing base at) p.path))))
              (everywhere (λ m. (same t inner (entered at m) types.Boolean under).0))
              ∙ ap (λ f. suc (sum_by f (members_visited op (λ m. over (source_env d results fact) (standing inner (entered at m)) t) (source_result d results fact (standing base at) p.path))))
              (everywhere (λ m. (same t inner (entered at m) types.Boolean under).2)),
        )

    all_same : (ts : Sources) (base : ℕ) (at : NodePosition) (us : List FactType) → HaveTypes (placed_types d fact) base ts us → AllSame ts base at
    all_same no_trees base at us h = (refl, refl, refl)
    all_same (tree t ts) base at [] h = absurd h
    all_same (tree t ts) base at (u ∷ us) h =
        let p = same t base at u h.0 in
        let q = all_same ts base at us h.1 in
        (rw (p.0, q.0) refl, rw (p.1, q.1) refl, rw (p.2, q.2) refl)

    cases_same : (cs : SourceCases) (base : ℕ) (at : NodePosition) (u : FactType) → HaveCaseTypes (placed_types d fact) base cs u → CasesSame cs base at
    cases_same no_cases base at u h = (refl, refl, refl)
    cases_same (a_case t o cs) base at u h =
        let p = same t base at types.Boolean h.0 in
        let q = same o base at u h.1 in
        let r = cases_same cs base at u h.2 in
        (rw (p.0, q.0, r.0) refl, rw (p.1, q.1, r.1) refl, rw (p.2, p.0, q.2, r.2) refl)
