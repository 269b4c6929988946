-- How many nodes are visited, by example.
use Rattle.std.proofs.Common.{◌≡◌, ℕ, true, false, List, [], ◌∷◌, map, nat_eq, if◌then◌else◌, refl}
use Rattle.fact_values.specs.declared.value.Value.TheVariants.{Boolean, Members}
use Rattle.dict_source.specs.Tree.{many, one, read, switch, pick, no_cases, a_case}
use Rattle.dict_source.specs.declared.operators.ManyOp.TheVariants.{All}
use Rattle.dict_source.specs.declared.operators.OneOp.TheVariants.{Not}
use Rattle.dict_source.specs.declared.operators.PickOp.TheVariants.{Filter, Find}
use Rattle.three_state.specs.declared.res.Res.{Res}
use Rattle.three_state.specs.declared.res.Res.TheVariants.{Complete, Placeholder, Incomplete}
use Rattle.evaluation.specs.Visits.{visits}
use Rattle.evaluation.proofs.NodeExamples.{Example, dependency, example_env, no, operands, yes}

abbrev three : Res
three = Complete (Members (4 ∷ 5 ∷ 7 ∷ []))

-- a condition of two nodes: what this leads to at member 5, and true else, turned round
abbrev not_at_five : Res → Example
not_at_five r = one Not (read (λ m. if nat_eq m 5 then r else Complete (Boolean true)))

abbrev visited : List Example → List ℕ
visited ts = map (visits example_env 0) ts

picks : visited (
    -- every member
    pick Filter three (not_at_five Incomplete)
    -- up to the one that is found, or at which it isn't known; all, if none is found
    ∷ pick Find three (not_at_five (Complete (Boolean false)))
    ∷ pick Find three (not_at_five Incomplete)
    ∷ pick Find three (not_at_five (Placeholder (Boolean true)))
    -- a collection without a value counts as one without members
    ∷ pick Find Incomplete yes
    ∷ []
    ) ≡ 7 ∷ 5 ∷ 5 ∷ 7 ∷ 1 ∷ []
picks = refl

switches : visited (
    -- the first case
    switch (a_case yes (one Not no) (a_case yes no no_cases))
    -- the second, behind a placeholder
    ∷ switch (a_case (dependency (Placeholder (Boolean false))) (one Not no) (a_case yes no no_cases))
    -- none behind a condition that isn't known
    ∷ switch (a_case (dependency Incomplete) (one Not no) (a_case yes no no_cases))
    ∷ []
    ) ≡ 4 ∷ 4 ∷ 2 ∷ []
switches = refl

-- an operand that decides keeps none from being visited
junctions : visited (many All (operands (no ∷ yes ∷ one Not no ∷ [])) ∷ []) ≡ 5 ∷ []
junctions = refl
