use Rattle.std.proofs.Common.{◌≡◌, ◌+◌, ◌≤◌, ◌++◌, drop, take}
use Rattle.graph_session.specs.Rules.{rules}
use Rattle.graph_session.specs.Run.{ended, replies}
use Rattle.graph_session.specs.SessionView.{session_state}
use Rattle.graph_session.proofs.running.run.Given as goal

-- the answers so far and those to what is left are those to all, and the session is after the first commands
abbrev pub invariant-loop-command : goal.invariant-loop-command
invariant-loop-command g l = record {
  timeline : l.all.items ++ replies (rules l.fn.session.dict) (session_state l.session) (drop l.command-index l.commands) ≡ replies (rules l.fn.session.dict) (session_state l.fn.session) l.commands;
  ended : session_state l.session ≡ ended (rules l.fn.session.dict) (session_state l.fn.session) (take l.command-index l.commands);
  dict : l.session.dict ≡ l.fn.session.dict;
  few : l.session.changes ≤ l.fn.session.changes + l.command-index;
}
