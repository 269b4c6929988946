use Rattle.std.proofs.Common.{}
use Rattle.text_checks.specs.Tables.{check_names}
use Rattle.dict_types.proofs.DictLaws.{found_facts, found_limits, found_refused, found_typed}
use Rattle.dict_types.proofs.checking.check.Goals as goal

pub returns-clause-typed : goal.returns-clause-typed
returns-clause-typed g c = found_typed c.args.source.now (check_names c.args.checks.now) c.judge.result c.judge.ensures

pub returns-clause-refused : goal.returns-clause-refused
returns-clause-refused g c = found_refused c.args.source.now (check_names c.args.checks.now) c.judge.result c.judge.ensures

pub returns-clause-facts : goal.returns-clause-facts
returns-clause-facts g c = found_facts c.args.source.now (check_names c.args.checks.now) c.judge.result c.judge.ensures

pub returns-clause-limits : goal.returns-clause-limits
returns-clause-limits g c = found_limits c.args.source.now (check_names c.args.checks.now) c.judge.result c.judge.ensures
