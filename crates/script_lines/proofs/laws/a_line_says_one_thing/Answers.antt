use Rattle.script_lines.proofs.CommandLaws.{one_command, has_reply, spelled_by_text, heard_exactly}
use Rattle.script_lines.proofs.laws.a_line_says_one_thing.Goals as goal

pub returns : goal.returns
returns c = record { one_command = one_command; reply = has_reply; text = spelled_by_text; heard = heard_exactly }
