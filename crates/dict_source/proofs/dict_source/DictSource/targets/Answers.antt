use Rattle.std.proofs.Common.{◌≡◌, subst}
use Rattle.dict_source.specs.Dictionary.{dictionary_view}
use Rattle.dict_source.specs.Targets.{AreTargets, targets}
use Rattle.dict_source.proofs.TargetsLaws.{targets-AreTargets, AreTargets-first_within, AreTargets-second_within}
use Rattle.dict_source.proofs.dict_source.DictSource.targets.Goals as goal

pub returns-clause-table : goal.returns-clause-table
returns-clause-table c =
    let d = dictionary_view c.args.self.now in
    let both : targets d c.args.fact c.args.base c.args.path.now ≡ record { first = c.first_target-first.result; second = c.second_target-second.result } = cc (c.first_target-first.ensures, c.second_target-second.ensures) in
    subst (AreTargets d c.args.fact c.args.base c.args.path.now) both (targets-AreTargets d c.args.fact c.args.base c.args.path.now)

pub returns-clause-first_within : goal.returns-clause-first_within
returns-clause-first_within c = AreTargets-first_within (dictionary_view c.args.self.now) c.args.fact c.args.base c.args.path.now _ (returns-clause-table c)

pub returns-clause-second_within : goal.returns-clause-second_within
returns-clause-second_within c = AreTargets-second_within (dictionary_view c.args.self.now) c.args.fact c.args.base c.args.path.now _ (returns-clause-table c)
