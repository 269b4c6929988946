use Rattle.std.proofs.Common.{[], sym, subst}
use Rattle.dictionary.specs.Faults.{HasNoFault}
use Rattle.dict_gen.specs.Chain.{chain}
use Rattle.dict_gen.proofs.FactsSound.{facts_are_sound}
use Rattle.dict_gen.proofs.Soundness.{no_fault}
use Rattle.dict_gen.proofs.load.make.Goals as goal

pub of_faultless_source-requires : goal.of_faultless_source-requires
of_faultless_source-requires c =
    subst (λ d. HasNoFault d []) (sym c.in_ok-source.ensures)
    (no_fault (chain c.args.n) (facts_are_sound c.args.n c.requires.most))
