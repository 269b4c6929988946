use Rattle.std.proofs.Common.{inl, inr, refl}
use Rattle.interview_ends.proofs.ending.end_by_lines.Goals as goal

pub returns-in-Ok : goal.returns-in-Ok
returns-in-Ok g c = λ lines same. inl (refl, c.in-Ok.ensures lines same)

pub returns-in-Err : goal.returns-in-Err
returns-in-Err g c = λ lines same. inr (refl, c.in-Err.ensures lines same)
