use Rattle.std.proofs.Common.{IsTrue, subst}
use Rattle.dict_meaning.specs.Accepted.{IsAccepted}
use Rattle.dictionary.specs.AcceptedParts.{AcceptedParts, accepted, names_of}
use Rattle.placeholder_laws.proofs.StayLaws.{final_result_stays}
use Rattle.placeholder_laws.proofs.final_result.is_final.Goals as goal

pub returns-clause-stays : goal.returns-clause-stays
returns-clause-stays g c = λ yes.
    let s = c.args.session.now in
    final_result_stays (names_of s.dict.checks) (accepted s.dict)
    (subst (λ (k : AcceptedParts). IsAccepted (names_of k.checks) (accepted k)) c.dict-dict.ensures c.source-source.ensures.is_accepted)
    s.timeline.now c.args.slot (subst IsTrue c.keeps_to_the_rule.ensures yes)
