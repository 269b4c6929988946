-- What is owed where a command that isn't refused early is carried out for a party, and what that leaves.
use Rattle.std.specs.Prelude.{◌≡◌, ℕ, ◌<◌, ◌^◌, List, option_map, IsTrue, Result, Ok, IfErr, IfOk, OnErr, OnOk}
use Rattle.script_lines.specs.declared.command.Command.{Command}
use Rattle.graph_session.specs.Refusals.{SameChecks, asks_checks}
use Rattle.graph_session.specs.SessionView.{session_state}
use Rattle.graph_session.specs.Step.{refusal, step}
use Rattle.graph_session.specs.declared.reply.Reply.{Reply}
use Rattle.shared_desk.specs.DeskView.{DeskView, Keeps, rules_of}
use Rattle.shared_desk.specs.Refusals.{Refused}
use Rattle.shared_desk.specs.declared.refusal.DeskRefusal.{DeskRefusal}
use Rattle.shared_desk.specs.declared.refusal.DeskRefusal.TheVariants.{Session}

-- where the command asks checks, a table has those of the dictionary, and one more change can be numbered
pub record CanStep (v : DeskView) (table : List (List ℕ × ℕ)) (c : Command) : Type 0 where
  pub same_checks : IsTrue (asks_checks c) → SameChecks (rules_of v) table
  pub few : v.session.changes < 2 ^ 63

-- the session's step, and what the desk keeps of it; or the session's refusal, which leaves all as it was
pub record HasStepped (v : DeskView) (p : ℕ) (c : Command) (answer : Result Reply DeskRefusal) (w : DeskView) : Type 0 where
  pub ok : IfOk answer (λ r. step (rules_of v) (session_state v.session) c ≡ Ok (r, session_state w.session))
  pub kept : OnOk answer (Keeps v p c w)
  pub dict : w.session.dict ≡ v.session.dict
  pub refused : IfErr answer (λ r. Refused r (option_map Session (refusal (rules_of v) (session_state v.session) c)))
  pub unchanged : OnErr answer (w ≡ v)
