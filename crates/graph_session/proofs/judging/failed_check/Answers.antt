use Rattle.std.proofs.Common.{◌∙◌, ap, List}
use Rattle.text_checks.specs.Tables.{named_checks}
use Rattle.dict_source.specs.Dictionary.{number_from}
use Rattle.dict_types.specs.declared.limit.Limit.{Limit}
use Rattle.graph_session.specs.Judging.{fails}
use Rattle.graph_session.specs.Rules.{rules}
use Rattle.graph_session.proofs.LimitLaws.{checks_agree, table_there}
use Rattle.graph_session.proofs.judging.failed_check.Goals as goal

pub first_failed-requires-clause-there : goal.first_failed-requires-clause-there
first_failed-requires-clause-there g c =
    rw c.limits_of.ensures.limits (table_there (rules c.args.dict.now) c.source-accepted.ensures.is_accepted c.args.fact c.requires.number (λ e. e.name) (λ e. e.code) c.args.checks.now.checks.items c.requires.same_checks)

pub returns : goal.returns
returns g c =
    let table = named_checks c.args.checks.now in
    c.first_failed.ensures
    ∙ ap (λ (l : List Limit). number_from (fails table c.args.value.now) 1 l) c.limits_of.ensures.limits
    ∙ checks_agree (rules c.args.dict.now) c.source-accepted.ensures.is_accepted c.args.fact c.requires.number table c.requires.same_checks c.args.value.now
