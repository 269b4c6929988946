-- What paths name in a worked dictionary of people.
use Rattle.std.proofs.Common.{◌≡◌, ℕ, true, false, List, [], ◌∷◌, Some, None, refl}
use Rattle.std.specs.Prelude.{codes}
use Rattle.fact_paths.specs.declared.fact_path.FactPath.{FactPath}
use Rattle.fact_paths.specs.declared.fact_path.FactPath.TheVariants as facts
use Rattle.fact_paths.specs.declared.use_path.UsePath.{UsePath}
use Rattle.fact_paths.specs.declared.use_path.UsePath.TheVariants as uses
use Rattle.fact_values.specs.declared.fact_type.FactType.TheVariants as types
use Rattle.fact_paths.specs.Paths.{fact_path_text, use_path_text}
use Rattle.dict_source.specs.declared.operators.ReadOp.TheVariants.{Dependency, IsComplete, CollectionSum}
use Rattle.dict_source.specs.declared.operators.ManyOp.TheVariants.{Subtract}
use Rattle.dict_source.specs.declared.operators.TwoOp.TheVariants.{GreaterThan}
use Rattle.dict_source.specs.declared.operators.PickOp.TheVariants.{Filter, Find}
use Rattle.dict_source.specs.declared.mentions.Mention.{Mention}
use Rattle.dict_source.specs.Tree.{Use, Source, literal_int, literal, read, many, two, pick, no_trees, tree}
use Rattle.dict_source.specs.Facts.{Fact, Stated, scalar, writable_list, list_of, item_of}
use Rattle.dict_source.specs.Dictionary.{Dictionary, too_many, too_deep}
use Rattle.dict_source.specs.Finding.{find_path, fact_at}
use Rattle.dict_source.specs.Targets.{targets}
use Rattle.dict_source.specs.Mentions.{condition_base, found_mentions}

-- ---- the dictionary

abbrev used : UsePath → Use
used path = record { text = use_path_text path; path = Some path }

abbrev written : FactPath → Stated → Fact
written path stated = record { path_text = fact_path_text path; path = Some path; stated = stated; limits = []; main = None; conditional = None; placeholder = None; description = None }

abbrev derived : FactPath → Stated → Source → Fact
derived path stated main = record (written path stated) { main = Some main }

abbrev people : List ℕ
people = codes "people"

abbrev age : List ℕ
age = codes "age"

abbrev friend : List ℕ
friend = codes "friend"

-- `["GreaterThan",["Dependency","age"],["Int","17"]]`
abbrev is_adult : Source
is_adult = two GreaterThan (read (Dependency, used (uses.Inner age))) (literal (literal_int (codes "17")))

-- `["Subtract",["Dependency","../age"],["Dependency","../friend/age"]]`
abbrev gap : Source
gap = many Subtract (tree (read (Dependency, used (uses.Sibling age))) (tree (read (Dependency, used (uses.SiblingThrough friend age))) no_trees))

abbrev family : Dictionary
family = record {
  enums = [];
  tables = [];
  facts =
      written (facts.Global people) writable_list
      ∷ written (facts.Member people age) (scalar types.Int)
      ∷ derived (facts.Member people friend) (item_of (used (uses.Global people))) (pick Find (used (uses.Global people)) is_adult)
      ∷ derived (facts.Global (codes "adults")) (list_of (used (uses.Global people))) (pick Filter (used (uses.Global people)) is_adult)
      ∷ derived (facts.Global (codes "eldest")) (item_of (used (uses.Global people))) (pick Find (used (uses.Global (codes "adults"))) is_adult)
      ∷ written (facts.Member people age) (scalar types.Dollar)
      ∷ record (derived (facts.Member people (codes "gap")) (scalar types.Int) gap) {
        conditional = Some (read (IsComplete, used (uses.Sibling age)), read (Dependency, used (uses.Through (codes "eldest") age)));
        placeholder = Some (read (CollectionSum, used (uses.Each (codes "adults") age)));
      }
      ∷ [];
}

-- ---- finding

first_of_two : find_path family.facts (facts.Member people age) ≡ Some 2
first_of_two = refl

last_fact : find_path family.facts (facts.Member people (codes "gap")) ≡ Some 7
last_fact = refl

no_such_fact : find_path family.facts (facts.Global age) ≡ None
no_such_fact = refl

within_limits : too_many family ≡ None
within_limits = refl

not_deep : too_deep family ≡ None
not_deep = refl

-- ---- targets: of a fact, under a base, of a path

global_target : targets family 7 0 (uses.Global people) ≡ record { first = Some 1; second = None }
global_target = refl

sibling_of_a_member : targets family 7 0 (uses.Sibling age) ≡ record { first = Some 2; second = None }
sibling_of_a_member = refl

sibling_of_a_global_fact : targets family 4 0 (uses.Sibling age) ≡ record { first = None; second = None }
sibling_of_a_global_fact = refl

inner_under_a_condition : targets family 4 1 (uses.Inner age) ≡ record { first = Some 2; second = None }
inner_under_a_condition = refl

inner_outside : targets family 4 0 (uses.Inner age) ≡ record { first = None; second = None }
inner_outside = refl

each_of_a_writable_list : targets family 7 0 (uses.Each people age) ≡ record { first = Some 1; second = Some 2 }
each_of_a_writable_list = refl

each_of_a_derived_list : targets family 7 0 (uses.Each (codes "adults") age) ≡ record { first = Some 4; second = Some 2 }
each_of_a_derived_list = refl

through_an_item : targets family 7 0 (uses.Through (codes "eldest") age) ≡ record { first = Some 5; second = Some 2 }
through_an_item = refl

through_a_list : targets family 7 0 (uses.Through (codes "adults") age) ≡ record { first = Some 4; second = None }
through_a_list = refl

through_an_item_of_the_member : targets family 7 0 (uses.SiblingThrough friend age) ≡ record { first = Some 3; second = Some 2 }
through_an_item_of_the_member = refl

second_is_missing : targets family 7 0 (uses.Each people (codes "height")) ≡ record { first = Some 1; second = None }
second_is_missing = refl

-- ---- mentions

base_of_a_derived_list : condition_base family 5 0 (Some (uses.Global (codes "adults"))) ≡ 1
base_of_a_derived_list = refl

abbrev any : ℕ → Mention
any n = record { fact = n; same = false }

abbrev same : ℕ → Mention
same n = record { fact = n; same = true }

-- the path of a filter, and its condition over the filter's base
of_a_filter : found_mentions family 5 (fact_at family.facts 5) ≡ any 4 ∷ any 2 ∷ []
of_a_filter = refl

-- main, then the condition, its value, and then the placeholder
of_the_four_expressions : found_mentions family 7 (fact_at family.facts 7) ≡ same 2 ∷ same 3 ∷ any 2 ∷ same 2 ∷ any 5 ∷ any 2 ∷ any 4 ∷ any 2 ∷ []
of_the_four_expressions = refl

of_a_writable_fact : found_mentions family 1 (fact_at family.facts 1) ≡ []
of_a_writable_fact = refl

of_no_fact : found_mentions family 8 (fact_at family.facts 8) ≡ []
of_no_fact = refl
