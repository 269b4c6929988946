use Rattle.save_file.proofs.Common.{arith, eqb-true, is_next, length, lines_of, past, refl, said_at, said_if, sym, true, ◌+◌, ◌∙◌, ◌≡◌, ◌≤◌}
use Rattle.saved_text.proofs.LinesLeft.{all_left, failed_next, none_left, wrote_next}
use Rattle.save_file.proofs.DroppedLaws.{next_left, none_said}
use Rattle.save_file.proofs.dropped.put_lines.Goals as goal

pub loop-rest-init : goal.loop-rest-init
loop-rest-init g c = record { left = all_left _ _; room = omega arith }

pub returns-in-Err : goal.returns-in-Err
returns-in-Err g c =
    let all = said_at 1 c.args.dropped.now (lines_of c.args.bytes.now) in
    let cut = c.cut_line-cut.result in
    let number = c.loop-rest.number in
    let left = c.loop-rest.left.now in
    failed_next _ _ _ all (said_if (is_next number left) cut.0.now) (said_at (number + 1) (past number left) (lines_of cut.1.now)) _ _
    (next_left _ _ all number left (past number left) cut.0.now (lines_of c.loop-rest.rest.now) (lines_of cut.1.now) c.cut_line-cut.ensures.lines refl c.loop-rest.invariant.left)
    c.in-Err.ensures

pub loop-rest-preserved : goal.loop-rest-preserved
loop-rest-preserved g c =
    let all = said_at 1 c.args.dropped.now (lines_of c.args.bytes.now) in
    let cut = c.cut_line-cut.result in
    let number = c.loop-rest.number in
    let left = c.loop-rest.left.now in
    record {
      left = wrote_next _ _ _ all (said_if (is_next number left) cut.0.now) (said_at (number + 1) c.past-left.result.now (lines_of cut.1.now)) _
          (next_left _ _ all number left c.past-left.result.now cut.0.now (lines_of c.loop-rest.rest.now) (lines_of cut.1.now) c.cut_line-cut.ensures.lines c.past-left.ensures c.loop-rest.invariant.left)
          c.in-Ok.ensures;
      room = omega (arith, c.loop-rest.invariant.room, c.cut_line-cut.ensures.shorter);
    }

pub returns : goal.returns
returns g c =
    let ended : c.is_empty.result ≡ true = cc in
    let empty : length c.loop-rest.rest.now ≡ 0 = eqb-true (length c.loop-rest.rest.now) 0 (sym c.is_empty.ensures ∙ ended) in
    none_left _ _ (said_at 1 c.args.dropped.now (lines_of c.args.bytes.now)) _ _
    (none_said c.loop-rest.number c.loop-rest.left.now c.loop-rest.rest.now (let none : length c.loop-rest.rest.now ≤ 0 = omega arith in none))
    c.loop-rest.invariant.left
