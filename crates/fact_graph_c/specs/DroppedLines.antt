-- What is said of the lines that are dropped of a text that came from outside.
use Rattle.std.specs.Prelude.{◌≡◌, ℕ, List, [], ◌++◌, map, codes, refl}
use Rattle.graph_session.specs.declared.reply.Refusal.TheVariants.{BadValue}
use Rattle.script_lines.specs.Joined.{joined}
use Rattle.session_lines.specs.Replies.{refusal_text}
use Rattle.save_file.specs.Resuming.{DroppedLine}
use Rattle.save_file.specs.declared.reason.Reason.{Reason}
use Rattle.save_file.specs.declared.reason.Reason.TheVariants.{NoCollection, Override, Refused}

-- of a value, what `set` replies
abbrev pub reason_text : Reason → List ℕ
reason_text NoCollection = []
reason_text (Refused refusal) = codes " " ++ refusal_text refusal
reason_text Override = []

-- `dropped list /N`, `dropped value SLOT refused NUMBER NAME` or `dropped override SLOT`
abbrev pub dropped_line_text : DroppedLine → List ℕ
dropped_line_text (number, (key, reason)) = codes "dropped " ++ (key ++ reason_text reason)

-- each is ended by a newline
abbrev pub dropped_lines_text : List DroppedLine → List ℕ
dropped_lines_text lines = joined (map dropped_line_text lines)

-- worked examples
dropped_line_text-list : dropped_line_text (3, (codes "list /c", NoCollection)) ≡ codes "dropped list /c"
dropped_line_text-list = refl

dropped_line_text-value : dropped_line_text (4, (codes "value /n", Refused BadValue)) ≡ codes "dropped value /n refused 6 BadValue"
dropped_line_text-value = refl

dropped_line_text-override : dropped_line_text (5, (codes "override /s", Override)) ≡ codes "dropped override /s"
dropped_line_text-override = refl
