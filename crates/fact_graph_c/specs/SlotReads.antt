-- What is said to a host of the slots that a slot reads.
use Rattle.std.specs.Prelude.{◌≡◌, [], ◌∷◌, ◌++◌, ℕ, nat_le, List, length, codes, Option, Some, None, if◌then◌else◌}
use Rattle.fact_paths.specs.declared.slot_path.SlotPath.{SlotPath}
use Rattle.script_lines.specs.Joined.{joined}
use Rattle.script_lines.specs.Parsing.{Heard, command, heard_in}
use Rattle.script_lines.specs.declared.command.Command.TheVariants.{Get}
use Rattle.graph_session.specs.Refusals.{slot_found}
use Rattle.graph_session.specs.Rules.{Rules}
use Rattle.graph_session.specs.SessionView.{SessionState, session_state}
use Rattle.session_lines.specs.SlotReads.{read_answer}
use Rattle.session_lines.specs.Replies.{bad_line_text}
use Rattle.fact_graph_c.specs.Answering.{rules_of}
use Rattle.fact_graph_c.specs.declared.engine.Engine.{Engine}

-- no path of a slot has more bytes
abbrev pub path_limit : ℕ
path_limit = 1000

-- the path that `get` asks for
abbrev pub path_heard : Heard → Option SlotPath
path_heard (command (Get path)) = Some path
path_heard heard = None

-- the path that the text is behind `get`: none where it is no path
abbrev pub path_of : List ℕ → Option SlotPath
path_of text = if nat_le (length text) path_limit then path_heard (heard_in (codes "get " ++ text)) else None

-- which slots that slot reads, each in a line, or why there is none
abbrev pub reads_of_path : Rules → SessionState → Option SlotPath → List ℕ
reads_of_path r c (Some path) = joined (read_answer r c (slot_found r c.timeline.now path))
reads_of_path r c None = joined (bad_line_text ∷ [])

abbrev pub IsReads : Engine → List ℕ → List ℕ → Type 0
IsReads e slot text = text ≡ reads_of_path (rules_of e) (session_state e.session) (path_of slot)
