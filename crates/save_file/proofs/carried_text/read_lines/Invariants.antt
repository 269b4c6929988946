use Rattle.save_file.proofs.Common.{IsCarriedStage, IsOfUpTo, length, lines_of, option_copied, stage_lines, texts_of, ◌++◌, ◌+◌, ◌≡◌, ◌≤◌}
use Rattle.save_file.proofs.carried_text.read_lines.Given as goal

abbrev pub invariant-loop-rest : goal.invariant-loop-rest
invariant-loop-rest l = record {
  lines : lines_of l.fn.bytes ≡ texts_of l.stage ++ lines_of l.rest;
  counted : l.number ≡ length (texts_of l.stage) + 1;
  sound : IsCarriedStage l.stage;
  own : IsOfUpTo (option_copied l.whose) (stage_lines l.stage) l.last;
  room : l.number + length l.rest ≤ length l.fn.bytes + 1;
}

abbrev pub decreases-loop-rest : goal.decreases-loop-rest
decreases-loop-rest l = length l.rest
