use Rattle.std.proofs.Common.{sym}
use Rattle.session_lines.proofs.changing.write_said.Goals as goal

pub write_change-requires : goal.write_change-requires
write_change-requires g c = record { noted = c.requires.noted (sym c.if-is_change.ensures) }

pub returns-then-is_change-clause-written : goal.returns-then-is_change-clause-written
returns-then-is_change-clause-written g c = λ before noted. rw (sym c.if-is_change.ensures) (c.write_change.ensures.written before (noted (sym c.if-is_change.ensures)))

pub returns-else-is_change-clause-written : goal.returns-else-is_change-clause-written
returns-else-is_change-clause-written g c = λ before noted. rw (sym c.if-is_change.ensures) c.write_reply.ensures.written
