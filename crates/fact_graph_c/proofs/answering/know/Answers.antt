use Rattle.std.proofs.Common.{subst, arith}
use Rattle.dict_meaning.specs.Accepted.{IsAccepted}
use Rattle.dictionary.specs.AcceptedParts.{AcceptedParts, accepted, names_of}
use Rattle.fact_graph_c.proofs.answering.know.Goals as goal

pub returns : goal.returns
returns c = record {
  is_accepted = subst (λ (k : AcceptedParts). IsAccepted (names_of k.checks) (accepted k)) c.dict.ensures c.source-accepted.ensures.is_accepted;
  fit = c.answers-fit.ensures.fit;
  few = omega (arith, c.len-few.ensures.few, c.len-few.ensures.count);
}
