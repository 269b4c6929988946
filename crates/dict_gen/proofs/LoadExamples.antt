-- The load with one sum, and with two.
use Rattle.std.proofs.Common.{◌≡◌, [], ◌∷◌, ◌++◌, refl}
use Rattle.std.specs.Prelude.{codes}
use Rattle.std.specs.Fmt.{digits}
use Rattle.fact_values.specs.declared.fact_type.FactType.TheVariants.{Int}
use Rattle.dict_source.specs.declared.operators.ManyOp.TheVariants.{Add}
use Rattle.dict_source.specs.declared.operators.ReadOp.TheVariants.{CollectionSum, Dependency}
use Rattle.dict_source.specs.Facts.{scalar}
use Rattle.dict_source.specs.View.{use_of}
use Rattle.dict_source.specs.Tree.{literal, literal_int, many, no_trees, read, tree}
use Rattle.written_facts.specs.WrittenFacts.{derived}
use Rattle.dict_gen.specs.Chain.{chain, member_facts}
use Rattle.dict_gen.specs.Script.{lines, script}

one_sum : (chain 1).facts ≡ member_facts ++ derived (codes "/s1") (scalar Int) (read (CollectionSum, use_of (codes "/c/*/w"))) ∷ []
unfolding digits
one_sum = refl

two_sums : (chain 2).facts ≡
    member_facts
    ++ derived (codes "/s1") (scalar Int) (read (CollectionSum, use_of (codes "/c/*/w")))
    ∷ derived (codes "/s2") (scalar Int) (many Add (tree (read (Dependency, use_of (codes "/s1"))) (tree (literal (literal_int (codes "1"))) no_trees)))
    ∷ []
unfolding digits
two_sums = refl

one_round : script 1 ≡ codes "add /c\nset /c/#1/v 1\nget /s1\nundo\nget /s1\nredo\nget /s1\n"
unfolding digits
one_round = refl

two_rounds : lines 2 ≡
    codes "add /c"
    ∷ codes "add /c"
    ∷ codes "set /c/#1/v 1"
    ∷ codes "get /s2"
    ∷ codes "set /c/#2/v 2"
    ∷ codes "get /s2"
    ∷ codes "undo"
    ∷ codes "undo"
    ∷ codes "get /s2"
    ∷ codes "redo"
    ∷ codes "redo"
    ∷ codes "get /s2"
    ∷ []
unfolding digits
two_rounds = refl
