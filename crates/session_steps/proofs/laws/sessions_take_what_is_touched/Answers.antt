use Rattle.dictionary.specs.AcceptedParts.{accepted}
use Rattle.dict_meaning.specs.Weights.{touched_weight}
use Rattle.graph_session.specs.Rules.{rules}
use Rattle.graph_session.specs.SessionView.{session_state}
use Rattle.session_steps.proofs.SessionLaws.{changes_take_touched, questions_take_none, refused_take_none}
use Rattle.session_steps.proofs.laws.sessions_take_what_is_touched.Goals as goal

pub returns : goal.returns
returns c = record {
  change = λ said after is e. changes_take_touched (rules c.args.session.now.dict) (session_state c.args.session.now) after c.args.command.now said is e;
  refused = λ why e. refused_take_none (touched_weight (accepted c.args.session.now.dict)) (rules c.args.session.now.dict) (session_state c.args.session.now) c.args.command.now why e;
  question = λ e. questions_take_none (touched_weight (accepted c.args.session.now.dict)) (rules c.args.session.now.dict) (session_state c.args.session.now) c.args.command.now e;
}
