-- What nodes read from cells, by example: each path, in each of the four results.
use Rattle.std.proofs.Common.{◌≡◌, ℕ, pos, negsuc, true, false, nat_eq, if◌then◌else◌, List, [], ◌∷◌, map, Option, Some, None, refl}
use Rattle.fact_values.specs.declared.fault.ValueFault.TheVariants.{Overflow}
use Rattle.fact_values.specs.declared.value.Value.TheVariants.{Boolean, Int, Members, Item}
use Rattle.dict_source.specs.Tree.{read, switch, many, pick, no_trees, tree, no_cases, a_case}
use Rattle.dict_source.specs.declared.operators.ManyOp.TheVariants.{All}
use Rattle.dict_source.specs.declared.operators.PickOp.TheVariants.{Filter, Find}
use Rattle.three_state.specs.declared.res.Res.{Res}
use Rattle.three_state.specs.declared.res.Res.TheVariants.{Complete, Placeholder, Incomplete, Fault}
use Rattle.evaluation.specs.Over.{over}
use Rattle.evaluation.specs.Visits.{visits}
use Rattle.evaluation.specs.Results.{Results}
use Rattle.node_eval.specs.Dependencies.{node_env}
use Rattle.node_eval.specs.View.{Compiled}
use Rattle.node_eval.specs.declared.node.NodeRead.{NodeRead}
use Rattle.node_eval.specs.declared.node.NodeRead.TheVariants.{Dependency, IsComplete, CollectionSize, SumInt, Count}
use Rattle.node_eval.specs.declared.node.ResolvedPath.{ResolvedPath}
use Rattle.node_eval.specs.declared.node.ResolvedPath.TheVariants.{Global, Same, Inner, Each, Through, SameThrough}

-- the results of a fact, by its members
pub record Column : Type 0 where
  pub fact : ℕ
  pub cells : List (ℕ × Res)

abbrev pub cell_of : List (ℕ × Res) → ℕ → Option Res
cell_of [] m = None
cell_of (c ∷ cs) m = if nat_eq c.0 m then Some c.1 else cell_of cs m

abbrev pub results_in : List Column → Results
results_in [] s = None
results_in (c ∷ cs) s = if nat_eq c.fact s.fact then cell_of c.cells s.member else results_in cs s

abbrev int : ℕ → Res
int n = Complete (Int (pos n))

abbrev soft : ℕ → Res
soft n = Placeholder (Int (pos n))

-- facts 1 to 4 stand once; 5 is a collection, 6 an item of it and 7 one that rests on a placeholder; 8 to 11 are facts of its members
abbrev columns : List Column
columns =
    record { fact = 1; cells = (0, int 2) ∷ [] }
    ∷ record { fact = 2; cells = (0, soft 3) ∷ [] }
    ∷ record { fact = 4; cells = (0, Fault Overflow) ∷ [] }
    ∷ record { fact = 5; cells = (0, Complete (Members (11 ∷ 12 ∷ 13 ∷ []))) ∷ [] }
    ∷ record { fact = 6; cells = (0, Complete (Item 12)) ∷ [] }
    ∷ record { fact = 7; cells = (0, Placeholder (Item 11)) ∷ [] }
    ∷ record { fact = 8; cells = (11, int 5) ∷ (12, soft 7) ∷ (13, int 9) ∷ [] }
    ∷ record { fact = 9; cells = (11, Complete (Boolean true)) ∷ (12, Placeholder (Boolean true)) ∷ (13, Complete (Boolean false)) ∷ [] }
    ∷ record { fact = 10; cells = (11, Complete (Item 13)) ∷ (12, Incomplete) ∷ [] }
    ∷ record { fact = 11; cells = (11, int 999999999999999) ∷ (12, int 5) ∷ (13, Complete (Int (negsuc 4))) ∷ [] }
    ∷ []

-- at member 11, and under a condition at member 12
abbrev gives : List Compiled → List Res
gives ts = map (over (node_env (results_in columns)) (record { own = 11; inner = 12 })) ts

abbrev reads : NodeRead → List ResolvedPath → List Compiled
reads op rs = map (λ r. read (op, r)) rs

a_fact_that_stands_once : gives (reads Dependency (Global 1 ∷ Global 2 ∷ Global 3 ∷ Global 4 ∷ [])) ≡ int 2 ∷ soft 3 ∷ Incomplete ∷ Fault Overflow ∷ []
a_fact_that_stands_once = refl

-- of the slot's member, and of the condition's; a slot without a cell is incomplete
a_members_fact : gives (reads Dependency (Same 8 ∷ Inner 8 ∷ Same 1 ∷ [])) ≡ int 5 ∷ soft 7 ∷ Incomplete ∷ []
a_members_fact = refl

-- through an item: to a placeholder; from one; to a field that is missing; from what is no item; from one that is missing
through_an_item : gives (reads Dependency (Through 6 8 ∷ Through 7 8 ∷ Through 6 10 ∷ Through 1 8 ∷ Through 3 8 ∷ Through 4 8 ∷ []))
    ≡ soft 7 ∷ soft 5 ∷ Incomplete ∷ Incomplete ∷ Incomplete ∷ Fault Overflow ∷ []
through_an_item = refl

-- the item is the slot's, the field that of the member which it names
through_the_members_item : gives (reads Dependency (SameThrough 10 8 ∷ SameThrough 9 8 ∷ [])) ≡ int 9 ∷ Incomplete ∷ []
through_the_members_item = refl

whether_it_is_complete : gives (reads IsComplete (Global 1 ∷ Global 2 ∷ Global 3 ∷ Through 6 9 ∷ Through 7 9 ∷ SameThrough 10 9 ∷ []))
    ≡ map (λ b. Complete (Boolean b)) (true ∷ false ∷ false ∷ false ∷ false ∷ true ∷ [])
whether_it_is_complete = refl

over_a_collection : gives (read (CollectionSize, Global 5) ∷ read (CollectionSize, Global 3) ∷ read (SumInt, Each 5 8) ∷ read (Count, Each 5 9) ∷ read (SumInt, Each 5 10) ∷ read (Count, Each 4 9) ∷ [])
    ≡ int 3 ∷ Incomplete ∷ soft 21 ∷ soft 2 ∷ Incomplete ∷ Fault Overflow ∷ []
over_a_collection = refl

-- the partial sums leave the range, the sum is in it
over_the_range : gives (read (SumInt, Each 5 11) ∷ []) ≡ int 999999999999999 ∷ []
over_the_range = refl

-- the condition is asked at each member; a placeholder keeps a member, and makes the list one
the_members_that_are_kept : gives (pick Filter (Global 5) (read (Dependency, Inner 9)) ∷ pick Find (Global 5) (read (Dependency, Inner 9)) ∷ pick Filter (Global 5) (read (Dependency, Same 9)) ∷ [])
    ≡ Placeholder (Members (11 ∷ 12 ∷ [])) ∷ Complete (Item 11) ∷ Complete (Members (11 ∷ 12 ∷ 13 ∷ [])) ∷ []
the_members_that_are_kept = refl

-- a path that its node doesn't have reads nothing, or the first fact alone
paths_out_of_place : gives (reads Dependency (Each 5 8 ∷ [])) ≡ Incomplete ∷ []
paths_out_of_place = refl

-- how many nodes are visited: of an All each operand, of a Switch those up to the case that decides, of a Filter the condition at
-- each member, of a Find up to the member that decides
abbrev visited : List Compiled → List ℕ
visited ts = map (visits (node_env (results_in columns)) (record { own = 11; inner = 0 })) ts

visits_by_node : visited (
    many All (tree (read (Dependency, Global 3)) (tree (read (Dependency, Same 9)) no_trees))
    ∷ switch (a_case (read (Dependency, Same 9)) (read (Dependency, Global 1)) (a_case (read (Dependency, Same 9)) (read (Dependency, Global 2)) no_cases))
    ∷ pick Filter (Global 5) (read (Dependency, Inner 9))
    ∷ pick Find (Global 5) (read (Dependency, Inner 9))
    ∷ pick Find (Global 5) (read (Dependency, Inner 10))
    ∷ pick Find (Global 3) (read (Dependency, Inner 9))
    ∷ []
    ) ≡ 3 ∷ 3 ∷ 4 ∷ 2 ∷ 3 ∷ 1 ∷ []
visits_by_node = refl
