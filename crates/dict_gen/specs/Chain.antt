-- The dictionary of the load with so many sums: each member of `/c` has an answer `v`, and `w`, which is one more; `/s1` is the
-- sum of `w` over all members, and each sum behind it is one more than the sum before it.
use Rattle.std.specs.Prelude.{ℕ, zero, suc, decimal, codes, List, [], ◌∷◌, ◌++◌}
use Rattle.fact_values.specs.declared.fact_type.FactType.TheVariants.{Int}
use Rattle.dict_source.specs.declared.operators.ManyOp.TheVariants.{Add}
use Rattle.dict_source.specs.declared.operators.ReadOp.TheVariants.{CollectionSum, Dependency}
use Rattle.dict_source.specs.Tree.{Source, literal, literal_int, many, no_trees, read, tree}
use Rattle.dict_source.specs.Facts.{Fact, scalar, writable_list}
use Rattle.dict_source.specs.Dictionary.{Dictionary}
use Rattle.dict_source.specs.View.{use_of}
use Rattle.written_facts.specs.WrittenFacts.{asked, derived}

-- one more than the fact with this path
abbrev pub one_more : List ℕ → Source
one_more path = many Add (tree (read (Dependency, use_of path)) (tree (literal (literal_int (codes "1"))) no_trees))

-- what the members of `/c` have
abbrev pub member_facts : List Fact
member_facts =
    asked (codes "/c") writable_list
    ∷ asked (codes "/c/*/v") (scalar Int)
    ∷ derived (codes "/c/*/w") (scalar Int) (one_more (codes "../v"))
    ∷ []

-- the path `/sk`, in decimal
abbrev pub sum_path : ℕ → List ℕ
sum_path k = codes "/s" ++ decimal k

-- what the sum behind k others is: the first sums `w` up, and each other is one more than the one before it
abbrev pub sum_of : ℕ → Source
sum_of zero = read (CollectionSum, use_of (codes "/c/*/w"))
sum_of (suc k) = one_more (sum_path (suc k))

-- the sum behind k others, which is `/s1` behind none
abbrev pub sum_fact : ℕ → Fact
sum_fact k = derived (sum_path (suc k)) (scalar Int) (sum_of k)

-- the facts with so many sums
abbrev pub chain_facts : ℕ → List Fact
chain_facts zero = member_facts
chain_facts (suc k) = chain_facts k ++ sum_fact k ∷ []

-- the dictionary with so many sums
abbrev pub chain : ℕ → Dictionary
chain n = record { enums = []; tables = []; facts = chain_facts n }
