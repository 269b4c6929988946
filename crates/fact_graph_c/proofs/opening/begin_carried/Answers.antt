use Rattle.std.proofs.Common.{inl, inr, refl, subst, arith}
use Rattle.saved_text.specs.CarriedText.{IsCarriedText}
use Rattle.save_file.specs.Carrying.{RefusesCarried}
use Rattle.fact_graph_c.proofs.OpeningLaws.{memory_refuses, refuses_over}
use Rattle.fact_graph_c.proofs.opening.begin_carried.Goals as goal

pub returns-then-saved-gt-SAVED_LIMIT : goal.returns-then-saved-gt-SAVED_LIMIT
returns-then-saved-gt-SAVED_LIMIT g c = record { carried = tt; refused = inl (omega arith, refl) }

pub returns-in-Ok : goal.returns-in-Ok
returns-in-Ok g c = record { carried = c.begin_from.ensures.carried; refused = memory_refuses IsCarriedText c.args.saved.now c.begin_from.result c.begin_from.ensures.memory }

pub returns-in-Err : goal.returns-in-Err
returns-in-Err g c = record {
  carried = tt;
  refused = refuses_over _ _ c.in-Err.fault c.not_resumed.result
      (λ n is. inr (omega arith, subst (RefusesCarried c.args.saved.now) is c.in-Err.ensures.refused)) c.not_resumed.ensures;
}
