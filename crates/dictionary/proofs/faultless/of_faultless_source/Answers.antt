use Rattle.std.proofs.Common.{ℕ, List, [], map, subst}
use Rattle.dict_source.specs.Dictionary.{dictionary_view}
use Rattle.dict_meaning.specs.Accepted.{IsAccepted}
use Rattle.dictionary.specs.AcceptedParts.{accepted}
use Rattle.dictionary.specs.Faults.{IsFaultOf, Refuses}
use Rattle.dictionary.proofs.FirstLaws.{only_memory}
use Rattle.dictionary.proofs.faultless.of_faultless_source.Goals as goal

pub memory-requires : goal.memory-requires
memory-requires c =
    only_memory (dictionary_view c.args.source) [] c.requires c.in-Err.fault
    (subst (λ items. Refuses (IsFaultOf (dictionary_view c.args.source) (map {B = List ℕ} (λ k. k.name) items)) c.in-Err.fault) c.new-checks.ensures c.in-Err.ensures.refused)

pub returns-in-Ok-clause-is_accepted : goal.returns-in-Ok-clause-is_accepted
returns-in-Ok-clause-is_accepted c =
    subst (λ items. IsAccepted (map {B = List ℕ} (λ k. k.name) items) (accepted c.in-Ok.dictionary)) c.new-checks.ensures c.in-Ok.ensures.is_accepted
