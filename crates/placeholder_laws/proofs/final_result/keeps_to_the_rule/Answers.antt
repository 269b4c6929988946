use Rattle.std.proofs.Common.{sym, subst}
use Rattle.dict_source.specs.Finding.{IsNumber}
use Rattle.dictionary.specs.AcceptedParts.{AcceptedParts, accepted}
use Rattle.placeholder_laws.proofs.StayLaws.{standing_number}
use Rattle.placeholder_laws.proofs.final_result.keeps_to_the_rule.Goals as goal

pub steady-requires : goal.steady-requires
steady-requires g c =
    let s = c.args.session.now in
    subst (λ (k : AcceptedParts). IsNumber (accepted k).tree.facts c.args.slot.fact) (sym c.dict.ensures) (standing_number (accepted s.dict).tree s.timeline.now c.args.slot c.requires)
