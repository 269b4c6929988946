use Rattle.std.proofs.Common.{◌≡◌, map, subst}
use Rattle.dict_source.specs.Dictionary.{Written, dictionary_view}
use Rattle.dictionary.specs.AcceptedParts.{names_of}
use Rattle.node_compile.specs.Compiling.{facts_trees}
use Rattle.node_compile.specs.FactTrees.{trees_of}
use Rattle.node_compile.proofs.FactLaws.{is_compiled}
use Rattle.node_compile.proofs.compiled.compile.Goals as goal

pub returns : goal.returns
returns c =
    let d = c.args.dict.now in
    let all =
    subst (λ (s : Written). map trees_of c.in_ok-facts.facts.items ≡ facts_trees (dictionary_view s) 1 (dictionary_view s).facts) c.source.ensures.value c.in_ok-facts.ensures in
    is_compiled (dictionary_view d.source) (names_of d.checks) d.typed c.source.ensures.is_accepted.typed _ all
