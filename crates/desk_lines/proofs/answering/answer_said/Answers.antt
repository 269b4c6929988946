use Rattle.std.proofs.Common.{◌≡◌, ℕ, List, [], ◌∷◌, rules, refl, ap, subst}
use Rattle.session_lines.specs.Answering.{WrittenAs}
use Rattle.session_lines.specs.Replies.{bad_line_text}
use Rattle.session_lines.specs.declared.progress.Progress.TheVariants.{More}
use Rattle.shared_desk.specs.DeskView.{rules_of}
use Rattle.desk_lines.specs.DeskStepping.{desk_open, marked_lines, step_said}
use Rattle.desk_lines.proofs.AnsweringLaws.{step_output, written_output}
use Rattle.session_lines.proofs.WritingLaws.{lines_none}
use Rattle.desk_lines.proofs.answering.answer_said.Goals as goal

pub returns-in-Silent-clause-output : goal.returns-in-Silent-clause-output
returns-in-Silent-clause-output g c = λ d stands.
    let r = rules_of c.args.desk.now in
    step_output (g.K.Sink.output c.args.out.now) (g.K.Sink.output c.args.out.now) c.args.desk.now c.args.desk.now (step_said r d c.args.said.now) (record { lines = []; state = desk_open d }) More
    (ap (step_said r d) c.in-Silent.is) (lines_none _, (stands, refl))

pub returns-in-NoParty-clause-output : goal.returns-in-NoParty-clause-output
returns-in-NoParty-clause-output g c = λ d stands.
    let r = rules_of c.args.desk.now in
    step_output _ _ c.args.desk.now c.args.desk.now (step_said r d c.args.said.now) (record { lines = bad_line_text ∷ []; state = desk_open d }) c.write_ended.result
    (ap (step_said r d) c.in-NoParty.is)
    (written_output _ _ c.args.desk.now c.args.desk.now (bad_line_text ∷ []) d c.write_ended.result (c.write_ended.ensures.written bad_line_text refl) stands)

pub returns-in-NoCommand-clause-output : goal.returns-in-NoCommand-clause-output
returns-in-NoCommand-clause-output g c = λ d stands.
    let r = rules_of c.args.desk.now in
    let text : c.push.new.self ≡ bad_line_text = search rules in
    step_output (g.K.Sink.output c.args.out.now) (g.K.Sink.output c.write_line.new.out) c.args.desk.now c.args.desk.now (step_said r d c.args.said.now) (record { lines = marked_lines c.in-NoCommand.party (bad_line_text ∷ []); state = desk_open d }) c.write_line.result
    (ap (step_said r d) c.in-NoCommand.is)
    (written_output _ _ c.args.desk.now c.args.desk.now (marked_lines c.in-NoCommand.party (bad_line_text ∷ [])) d c.write_line.result
    (subst (λ (l : List ℕ). WrittenAs (g.K.Sink.output c.args.out.now) (g.K.Sink.output c.write_line.new.out) (marked_lines c.in-NoCommand.party (l ∷ [])) c.write_line.result) text c.write_line.ensures.written) stands)
