use Rattle.std.proofs.Common.{ℕ, List, slice_get, sym, ap, subst, ◌∙◌}
use Rattle.dictionary.specs.AcceptedParts.{accepted}
use Rattle.dict_meaning.specs.Plain.{plain}
use Rattle.fact_watch.specs.Tables.{named_relations}
use Rattle.fact_watch.specs.Watching.{code_at, says_of_watch}
use Rattle.session_lines.specs.Writing.{WroteAs}
use Rattle.session_lines.proofs.FiringLaws.{line_said, said_stands}
use Rattle.session_lines.proofs.PrintLaws.{stands_with}
use Rattle.session_lines.proofs.firing.put_at.Goals as goal

pub put_line-requires : goal.put_line-requires
put_line-requires g c =
    let d = accepted c.args.session.now.dict in
    let now = plain d c.args.session.now.timeline.now in
    let before = c.requires.noted.0 in
    let says = sym (c.fires.ensures before c.requires.noted.1) ∙ c.if-not-fires.false in
    let there = said_stands d.tree (named_relations c.args.table.now) before now c.in-Some.watch (ap (λ o. says_of_watch (code_at {R = List ℕ × ℕ} (λ r. r.1) (named_relations c.args.table.now)) o before now) c.in-Some.ensures ∙ says) in
    stands_with d c.args.session.now.timeline.now c.in-Some.watch.1 there.0 there.1

pub returns-in-Some : goal.returns-in-Some
returns-in-Some g c = λ before noted.
    let d = accepted c.args.session.now.dict in
    let now = plain d c.args.session.now.timeline.now in
    let says = sym (c.fires.ensures before noted) ∙ c.if-not-fires.false in
    subst (λ (t : List (List ℕ)). WroteAs (g.K.Sink.output c.args.out.now) (g.K.Sink.output c.put_line.new.out) t c.put_line.result)
    (sym (line_said d.tree (named_relations c.args.table.now) before now (slice_get c.args.watches.now.watched c.args.n) c.in-Some.watch (sym c.in-Some.ensures) says)) c.put_line.ensures
