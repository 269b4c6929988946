use Rattle.std.proofs.Common.{rules, ◌≡◌, ◌+◌, ◌+ℤ◌, sym, ap, ◌∙◌}
use Rattle.fact_values.specs.declared.value.Value.TheVariants as value
use Rattle.three_state.specs.declared.res.Res.TheVariants.{Complete}
use Rattle.operations.specs.ManyFolds.{saw}
use Rattle.operations.specs.NumberRuns.{are_wholes, numbers_seen}
use Rattle.operations.proofs.RunLaws.{whole_seen}
use Rattle.operations.proofs.number_run.NumberRun.see_whole.Goals as goal

pub returns-clause-seen : goal.returns-clause-seen
returns-clause-seen c =
    let exact : c.plus.new.self.exact ≡ c.self.inside.total.exact +ℤ c.args.number = search rules in
    (λ i. numbers_seen (c.plus.ensures.calls i + 1) c.self.inside.are_amounts (record {
      exact = exact i;
      calls = c.plus.ensures.calls i;
    }))
    ∙ sym (whole_seen (c.self.inside.total.calls + 1) c.self.inside.are_amounts c.self.inside.total c.args.number (ap (λ s. are_wholes s.kept) c.self.view_is ∙ c.requires.wholes))
    ∙ ap (λ s. saw s (Complete (value.Int c.args.number))) c.self.view_is
