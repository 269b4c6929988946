use Rattle.std.proofs.Common.{rules, ◌≡◌, ◌+◌, ◌+ℤ◌, sym, ap, ◌∙◌}
use Rattle.fact_values.specs.declared.value.Value.TheVariants as value
use Rattle.three_state.specs.declared.res.Res.TheVariants.{Complete}
use Rattle.operations.specs.ManyFolds.{saw}
use Rattle.operations.specs.NumberRuns.{are_amounts, numbers_seen}
use Rattle.operations.proofs.RunLaws.{amount_seen}
use Rattle.operations.proofs.number_run.NumberRun.see_amount.Goals as goal

pub returns-clause-seen : goal.returns-clause-seen
returns-clause-seen c =
    let exact : c.plus.new.self.exact ≡ c.self.inside.total.exact +ℤ c.args.amount = search rules in
    (λ i. numbers_seen (c.plus.ensures.calls i + 1) c.self.inside.are_amounts (record {
      exact = exact i;
      calls = c.plus.ensures.calls i;
    }))
    ∙ sym (amount_seen (c.self.inside.total.calls + 1) c.self.inside.are_amounts c.self.inside.total c.args.amount (ap (λ s. are_amounts s.kept) c.self.view_is ∙ c.requires.amounts))
    ∙ ap (λ s. saw s (Complete (value.Dollar c.args.amount))) c.self.view_is
