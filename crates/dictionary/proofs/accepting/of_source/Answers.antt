use Rattle.dictionary.proofs.KeptLaws.{ok_accepted}
use Rattle.dictionary.proofs.accepting.of_source.Goals as goal

pub returns-in-Ok-rank_source-clause-is_accepted : goal.returns-in-Ok-rank_source-clause-is_accepted
returns-in-Ok-rank_source-clause-is_accepted g c =
    ok_accepted _ _ c.keep.result
    (record {
      valid = c.facts.ensures.valid;
      typed = c.in-Ok.ensures.typed;
      ranked = c.in-Ok-rank_source.ensures.ranked;
    })
    c.keep.ensures.kept
