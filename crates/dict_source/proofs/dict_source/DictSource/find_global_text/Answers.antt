use Rattle.std.proofs.Common.{◌∙◌, sym}
use Rattle.dict_source.proofs.GlobalTexts.{if_none, none_kept, member_kept, global_kept}
use Rattle.dict_source.proofs.dict_source.DictSource.find_global_text.Goals as goal

pub returns-in_err-number-clause-none : goal.returns-in_err-number-clause-none
returns-in_err-number-clause-none c =
    if_none c.from_residual-in_err-number.result _
    (none_kept (record { enums = c.self.inside.enums; tables = c.self.inside.tables.items; facts = c.self.inside.facts.items }) c.args.self.now c.self.inside.index c.args.text.now c.in_ok-behind_slash.field-0.now c.self.view_is c.self.invariant c.in_ok-behind_slash.ensures c.in_err-number.ensures)

pub returns-then-not-is_global-clause-none : goal.returns-then-not-is_global-clause-none
returns-then-not-is_global-clause-none c =
    member_kept (record { enums = c.self.inside.enums; tables = c.self.inside.tables.items; facts = c.self.inside.facts.items }) c.args.self.now c.self.inside.index c.args.text.now c.in_ok-behind_slash.field-0.now c.in_ok-number.number c.self.view_is c.self.invariant c.in_ok-behind_slash.ensures c.in_ok-number.ensures (sym c.is_global.ensures ∙ c.if-not-is_global.true)

pub returns-clause-found : goal.returns-clause-found
returns-clause-found c =
    global_kept (record { enums = c.self.inside.enums; tables = c.self.inside.tables.items; facts = c.self.inside.facts.items }) c.args.self.now c.self.inside.index c.args.text.now c.in_ok-behind_slash.field-0.now c.in_ok-number.number c.self.view_is c.self.invariant c.in_ok-behind_slash.ensures c.in_ok-number.ensures (sym c.is_global.ensures ∙ c.if-not-is_global.false)
