-- How many steps changes take, by example.
use Rattle.std.proofs.Common.{◌≡◌, ℕ, true, false, List, [], ◌∷◌, Some, None, pos}
use Rattle.std.specs.Prelude.{codes, map as map_list}
use Rattle.fact_paths.specs.Paths.{fact_path_text, use_path_text}
use Rattle.fact_paths.specs.declared.fact_path.FactPath.{FactPath}
use Rattle.fact_paths.specs.declared.fact_path.FactPath.TheVariants as facts
use Rattle.fact_paths.specs.declared.use_path.UsePath.{UsePath}
use Rattle.fact_paths.specs.declared.use_path.UsePath.TheVariants as uses
use Rattle.fact_values.specs.declared.fact_type.FactType.{FactType}
use Rattle.fact_values.specs.declared.fact_type.FactType.TheVariants as types
use Rattle.fact_values.specs.declared.value.Value.{Value}
use Rattle.fact_values.specs.declared.value.Value.TheVariants.{Boolean, Int}
use Rattle.dict_source.specs.declared.operators.ManyOp.TheVariants.{Add}
use Rattle.dict_source.specs.declared.operators.ReadOp.TheVariants.{CollectionSum, Dependency}
use Rattle.dict_source.specs.declared.operators.PickOp.TheVariants.{Filter}
use Rattle.dict_source.specs.Tree.{Source, Use, many, no_trees, pick, read, tree}
use Rattle.dict_source.specs.Facts.{Fact, list_of, scalar, writable_list}
use Rattle.answers.specs.Answered.{Answered, Entry}
use Rattle.answers.proofs.SmallMaps.{map_at, get_at}
use Rattle.dict_meaning.specs.Accepted.{Accepted}
use Rattle.dict_meaning.specs.Extension.{extends}
use Rattle.dict_meaning.specs.Plain.{plain, table}
use Rattle.dict_meaning.specs.Slots.{standing}
use Rattle.dict_meaning.specs.Steady.{steady_by_rank}
use Rattle.visit_counts.specs.SlotVisits.{touched_visits}

-- ---- a rate, and a list of members, each with a test, a number, and the sum of that and the rate; those that pass the test, and
-- their sums in all

abbrev written : FactPath → FactType → Fact
written path t = record {
  path_text = fact_path_text path;
  path = Some path;
  stated = scalar t;
  limits = [];
  main = None;
  conditional = None;
  placeholder = None;
  description = None;
}

abbrev global : List ℕ → FactPath
global name = facts.Global name

abbrev field : List ℕ → FactPath
field name = facts.Member (codes "c") name

abbrev used : UsePath → Use
used path = record { text = use_path_text path; path = Some path }

abbrev depends : UsePath → Source
depends path = read (Dependency, used path)

abbrev sums : Accepted
sums = record {
  tree = record {
    enums = [];
    tables = [];
    facts =
        written (global (codes "rate")) types.Int
        ∷ record (written (global (codes "c")) types.Int) { stated = writable_list }
        ∷ written (field (codes "k")) types.Boolean
        ∷ written (field (codes "v")) types.Int
        ∷ record (written (field (codes "w")) types.Int) { main = Some (many Add (tree (depends (uses.Sibling (codes "v"))) (tree (depends (uses.Global (codes "rate"))) no_trees))) }
        ∷ record (written (global (codes "l")) types.Int) { stated = list_of (used (uses.Global (codes "c"))); main = Some (pick Filter (used (uses.Global (codes "c"))) (depends (uses.Inner (codes "k")))) }
        ∷ record (written (global (codes "t")) types.Int) { main = Some (read (CollectionSum, used (uses.Each (codes "l") (codes "w")))) }
        ∷ [];
  };
  typed = record { facts = []; limits = [] };
  ranks = 0 ∷ 0 ∷ 0 ∷ 0 ∷ 1 ∷ 1 ∷ 2 ∷ [];
}

-- ---- answers

abbrev Values : Type 0
Values = List (ℕ × Value)

abbrev entry_of : Values → Entry
entry_of values = record { values = map_at values; overrides = map_at [] }

-- the rate, and what is answered of the members 1 and 2
abbrev given : ℕ → Values → Values → Answered
given rate first second = record {
  next = 3;
  lists = map_at ((2, 1 ∷ 2 ∷ []) ∷ []);
  globals = entry_of ((1, Int (pos rate)) ∷ []);
  members = map_at (map_list (λ (m : ℕ × Values). (m.0, entry_of m.1)) ((1, first) ∷ (2, second) ∷ []));
}

abbrev passes : ℕ → Values
passes v = (3, Boolean true) ∷ (4, Int (pos v)) ∷ []

-- ---- steps

-- one member's number: the three nodes of its sum, and the one that adds all sums up
number_set : touched_visits sums (given 1 (passes 5) (passes 7)) (given 1 (passes 5) (passes 8)) ≡ 4
unfolding plain table standing extends steady_by_rank
number_set = simp get_at

-- the rate: three nodes for each member, and the one that adds their sums up
rate_set : touched_visits sums (given 1 (passes 5) (passes 7)) (given 2 (passes 5) (passes 7)) ≡ 7
unfolding plain table standing extends steady_by_rank
rate_set = simp get_at

-- a test: the Filter and its condition at each member, and the node that adds the sums up
test_set : touched_visits sums (given 1 (passes 5) (passes 7)) (given 1 (passes 5) ((3, Boolean false) ∷ (4, Int (pos 7)) ∷ [])) ≡ 4
unfolding plain table standing extends steady_by_rank
test_set = simp get_at

-- the same value again
same_again : touched_visits sums (given 1 (passes 5) (passes 7)) (given 1 (passes 5) (passes 7)) ≡ 0
unfolding plain table standing extends steady_by_rank
same_again = simp get_at
