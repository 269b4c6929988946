use Rattle.save_file.proofs.Common.{answered, arith, kept_value, rules, suc, tree_of, ◌+◌, ◌∙◌, ◌≡◌}
use Rattle.save_file.proofs.CarriedAnswers.{entered_on, item_placed, lists_on, numbers_on}
use Rattle.save_file.proofs.carrying.keep_lines.Goals as goal

pub keep_line-requires-clause-placed : goal.keep_line-requires-clause-placed
keep_line-requires-clause-placed g c =
    item_placed c.args.lines.now c.loop-line.line-index c.line-item.result c.loop-line-test.true c.line-item.is (tree_of (rules c.args.dict.now)) (answered c.args.carried.now.answers) (answered c.loop-line.carried.answers) c.requires.placed c.loop-line.invariant.lists

pub loop-line-preserved : goal.loop-line-preserved
loop-line-preserved g c =
    let r = rules c.args.dict.now in
    let items = c.args.lines.now in
    let i = c.loop-line.line-index in
    let item = c.line-item.result in
    let inv = c.loop-line.invariant in
    let one : c.loop-line.number + 1 ≡ suc c.loop-line.number = omega arith in
    record {
      entered_all = entered_on items i item c.loop-line-test.true c.line-item.is (tree_of r) (kept_value r) (answered c.loop-line.carried.answers) (answered c.keep_line.new.carried.answers) c.in-Ok.ensures.entered ∙ inv.entered_all;
      all = numbers_on items i item c.loop-line-test.true c.line-item.is r c.loop-line.number (c.loop-line.number + 1) c.loop-line.carried.dropped.items c.keep_line.new.carried.dropped.items c.in-Ok.ensures.noted one ∙ inv.all;
      lists = lists_on items i item c.loop-line-test.true c.line-item.is (tree_of r) (kept_value r) (answered c.loop-line.carried.answers) (answered c.keep_line.new.carried.answers) c.in-Ok.ensures.entered ∙ inv.lists;
      number = omega (arith, inv.number);
    }
