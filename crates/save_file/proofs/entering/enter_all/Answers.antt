use Rattle.save_file.proofs.Common.{answered, rules, taken_value, tree_of, ◌∙◌}
use Rattle.save_file.proofs.CarriedAnswers.{entered_on, item_placed, lists_on}
use Rattle.save_file.proofs.entering.enter_all.Goals as goal

pub enter-requires : goal.enter-requires
enter-requires c = record {
  placed =
      item_placed c.args.lines.now c.loop-line.line-index c.line-item.result c.loop-line-test.true c.line-item.is (tree_of (rules c.args.dict.now)) (answered c.args.answers.now) (answered c.loop-line.answers) c.requires.placed c.loop-line.invariant.lists;
}

pub loop-line-preserved : goal.loop-line-preserved
loop-line-preserved c =
    let d = tree_of (rules c.args.dict.now) in
    let inv = c.loop-line.invariant in
    record {
      entered_all = entered_on c.args.lines.now c.loop-line.line-index c.line-item.result c.loop-line-test.true c.line-item.is d (taken_value d) (answered c.loop-line.answers) (answered c.enter.new.answers) c.in-Ok.ensures.entered ∙ inv.entered_all;
      lists = lists_on c.args.lines.now c.loop-line.line-index c.line-item.result c.loop-line-test.true c.line-item.is d (taken_value d) (answered c.loop-line.answers) (answered c.enter.new.answers) c.in-Ok.ensures.entered ∙ inv.lists;
    }
