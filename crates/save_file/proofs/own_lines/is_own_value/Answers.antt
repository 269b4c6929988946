use Rattle.save_file.proofs.Common.{ap, is_printed_of, rules, sym, tree_of, ◌∙◌}
use Rattle.save_file.proofs.OwnLaws.{taken_printed}
use Rattle.save_file.proofs.own_lines.is_own_value.Goals as goal

pub is_printed-requires : goal.is_printed-requires
is_printed-requires c = taken_printed (tree_of (rules c.args.dict.now)) c.args.side c.args.fact c.args.text.now c.in-Ok-Some.value (sym (rw c.in-Ok-Some.field-0-is at c.in-Ok-Some.ensures.value))

pub returns-in-Ok-None-clause-own : goal.returns-in-Ok-None-clause-own
returns-in-Ok-None-clause-own c = ap (is_printed_of (tree_of (rules c.args.dict.now)) c.args.text.now) (rw c.in-Ok-None.field-0-is at c.in-Ok-None.ensures.value)

pub returns-in-Ok-Some-clause-own : goal.returns-in-Ok-Some-clause-own
returns-in-Ok-Some-clause-own c = c.is_printed.ensures ∙ ap (is_printed_of (tree_of (rules c.args.dict.now)) c.args.text.now) (rw c.in-Ok-Some.field-0-is at c.in-Ok-Some.ensures.value)
