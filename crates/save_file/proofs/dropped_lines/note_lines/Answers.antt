use Rattle.save_file.proofs.Common.{arith, dropped_line, line_of, map, rules, suc, ◌+◌, ◌∙◌, ◌≡◌}
use Rattle.save_file.proofs.ResumeLaws.{dropped_on}
use Rattle.save_file.proofs.dropped_lines.note_lines.Goals as goal

pub loop-line-preserved : goal.loop-line-preserved
loop-line-preserved g c =
    let one : c.loop-line.number + 1 ≡ suc c.loop-line.number = omega arith in
    let all = dropped_on (rules c.args.dict.now) line_of c.args.lines.now c.loop-line.line-index c.line-item.result c.loop-line-test.true c.line-item.is
    c.loop-line.number (c.loop-line.number + 1) (map dropped_line c.loop-line.dropped.items) (map dropped_line c.note_line.new.dropped.items) c.in-Ok.ensures.noted one in
    record {
      all = all ∙ c.loop-line.invariant.all;
      number = omega (arith, c.loop-line.invariant.number);
    }
