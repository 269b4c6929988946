use Rattle.std.proofs.Common.{ℕ, ◌≡◌, ◌+◌, ◌<◌, ◌≤◌, List, ◌++◌, length, drop, rules as the_rules, refl, sym, subst, arith, ◌∙◌, length-drop}
use Rattle.std.proofs.lemmas.List.{length-take}
use Rattle.script_lines.specs.Lines.{ended_lines}
use Rattle.session_lines.specs.Writing.{WroteLines, WroteSome}
use Rattle.session_lines.proofs.WritingLaws.{lines_on, some_on}
use Rattle.script_runs.specs.AnsweredLines.{LinesOutput}
use Rattle.script_runs.proofs.PieceLaws.{behind_is, no_bytes, output_fed, output_none, quit_answers, some_fed, steps_on, steps_within}
use Rattle.script_runs.proofs.piece.answer_piece.Goals as goal

pub loop-rest-init : goal.loop-rest-init
loop-rest-init g c = record {
  output = λ m begins means. (m, means, begins, output_none m begins _ _ _, omega arith);
  unended = c.requires.unended;
  same_rules = refl;
  few = omega arith;
  later = omega arith;
  quiet = λ q. refl;
}

pub loop-rest-preserved : goal.loop-rest-preserved
loop-rest-preserved g c =
    let left = behind_is c.loop-rest.rest.now c.feed-fed.result.taken _ (omega arith) in
    record {
      output = λ m begins means.
          let so_far = c.loop-rest.invariant.output m begins means in
          let output = c.in-More.ensures.output so_far.0 so_far.1 in
          let on = output.2 in (
            on.there,
            on.means,
            on.begins,
            subst (λ (l : List ℕ). LinesOutput m (WroteLines (g.K.Sink.output c.args.out.now) (g.K.Sink.output c.answer_ready.new.out)) c.args.lines.now.so_far c.args.bytes.now on.there c.feed-fed.new.self.so_far l) (sym left)
                (output_fed so_far.0 c.loop-rest.lines.so_far c.loop-rest.rest.now c.feed-fed.new.self.so_far (drop c.feed-fed.result.taken c.loop-rest.rest.now) c.feed-fed.new.self.line c.line.result.now c.feed-fed.result.ready c.feed-fed.ensures.stream c.line.ensures.line m (g.K.Sink.output c.args.out.now) (g.K.Sink.output c.loop-rest.out) _ _ so_far.3 (WroteLines (g.K.Sink.output c.loop-rest.out) (g.K.Sink.output c.answer_ready.new.out)) _ (lines_on _ _ _) on.there on.left output.0),
            subst (λ (l : List ℕ). c.answer_ready.new.steps + on.there.steps g.T.LineHandler.most (ended_lines (c.feed-fed.new.self.so_far ++ l)) ≤ c.args.steps.now + m.steps g.T.LineHandler.most (ended_lines (c.args.lines.now.so_far ++ c.args.bytes.now))) (sym left)
                (steps_on so_far.0 c.loop-rest.lines.so_far c.loop-rest.rest.now c.feed-fed.new.self.so_far (drop c.feed-fed.result.taken c.loop-rest.rest.now) c.feed-fed.new.self.line c.line.result.now c.feed-fed.result.ready c.feed-fed.ensures.stream c.line.ensures.line g.T.LineHandler.most _ _ _ so_far.4 (c.answer_ready.ensures.steps so_far.0 so_far.1) on.there on.left),
          );
      unended = c.feed-fed.ensures.no_newline;
      same_rules = c.answer_ready.ensures.same_rules ∙ c.loop-rest.invariant.same_rules;
      few =
          let some : 0 < length c.loop-rest.rest.now = search the_rules in
          omega (arith, c.loop-rest.invariant.few, c.answer_ready.ensures.few, c.feed-fed.ensures.some some, c.feed-fed.ensures.taken, length-take {A = ℕ}, length-drop c.feed-fed.result.taken c.loop-rest.rest.now);
      later = omega (arith, c.loop-rest.invariant.later, c.answer_ready.ensures.later);
      quiet = λ q. c.answer_ready.ensures.quiet q ∙ c.loop-rest.invariant.quiet q;
    }

pub returns-in-Over-clause-output : goal.returns-in-Over-clause-output
returns-in-Over-clause-output g c = λ m begins means.
    let so_far = c.loop-rest.invariant.output m begins means in
    let output = c.in-Over.ensures.output so_far.0 so_far.1 in
    let quit = output.2 in (
      some_fed so_far.0 c.loop-rest.lines.so_far c.loop-rest.rest.now c.feed-fed.new.self.so_far (drop c.feed-fed.result.taken c.loop-rest.rest.now) c.feed-fed.new.self.line c.line.result.now c.feed-fed.result.ready c.feed-fed.ensures.stream c.line.ensures.line m (g.K.Sink.output c.args.out.now) (g.K.Sink.output c.loop-rest.out) _ _ so_far.3 (WroteLines (g.K.Sink.output c.loop-rest.out) (g.K.Sink.output c.answer_ready.new.out)) _ (lines_on _ _ _) quit.0 quit.1 output.0,
      quit.2,
      quit_answers so_far.0 quit.0 _ _ quit.1 output.1,
    )

pub returns-in-Unwritten-clause-output : goal.returns-in-Unwritten-clause-output
returns-in-Unwritten-clause-output g c = λ m begins means.
    let so_far = c.loop-rest.invariant.output m begins means in
    let output = c.in-Unwritten.ensures.output so_far.0 so_far.1 in
    let on = output.1 in (
      some_fed so_far.0 c.loop-rest.lines.so_far c.loop-rest.rest.now c.feed-fed.new.self.so_far (drop c.feed-fed.result.taken c.loop-rest.rest.now) c.feed-fed.new.self.line c.line.result.now c.feed-fed.result.ready c.feed-fed.ensures.stream c.line.ensures.line m (g.K.Sink.output c.args.out.now) (g.K.Sink.output c.loop-rest.out) _ _ so_far.3 (WroteSome (g.K.Sink.output c.loop-rest.out) (g.K.Sink.output c.answer_ready.new.out)) _ (some_on _ _ _) on.there on.left output.0,
      on.means,
    )

pub returns-in-OutOfMemory-clause-output : goal.returns-in-OutOfMemory-clause-output
returns-in-OutOfMemory-clause-output g c = λ m begins means.
    let so_far = c.loop-rest.invariant.output m begins means in
    let output = c.in-OutOfMemory.ensures.output so_far.0 so_far.1 in (
      record {
        there = so_far.0;
        held_now = c.loop-rest.lines.so_far;
        behind = c.loop-rest.rest.now;
        output = rw output.0 so_far.3;
      },
      output.1,
    )

pub returns-clause-output : goal.returns-clause-output
returns-clause-output g c = λ m begins means.
    let so_far = c.loop-rest.invariant.output m begins means in
    let none : length c.loop-rest.rest.now ≡ 0 = search the_rules in (
      (
        so_far.0,
        so_far.1,
        so_far.2,
        subst (λ (l : List ℕ). LinesOutput m (WroteLines (g.K.Sink.output c.args.out.now) (g.K.Sink.output c.loop-rest.out)) c.args.lines.now.so_far c.args.bytes.now so_far.0 c.loop-rest.lines.so_far l) (no_bytes c.loop-rest.rest.now none) so_far.3,
      ),
      c.loop-rest.invariant.unended,
    )

pub returns-in-Over-clause-steps : goal.returns-in-Over-clause-steps
returns-in-Over-clause-steps g c = λ m begins means.
    let so_far = c.loop-rest.invariant.output m begins means in
    steps_within so_far.0 c.loop-rest.lines.so_far c.loop-rest.rest.now c.feed-fed.new.self.so_far (drop c.feed-fed.result.taken c.loop-rest.rest.now) c.feed-fed.new.self.line c.line.result.now c.feed-fed.result.ready c.feed-fed.ensures.stream c.line.ensures.line g.T.LineHandler.most _ _ _ so_far.4 (c.answer_ready.ensures.steps so_far.0 so_far.1) so_far.2

pub returns-in-Unwritten-clause-steps : goal.returns-in-Unwritten-clause-steps
returns-in-Unwritten-clause-steps g c = λ m begins means.
    let so_far = c.loop-rest.invariant.output m begins means in
    steps_within so_far.0 c.loop-rest.lines.so_far c.loop-rest.rest.now c.feed-fed.new.self.so_far (drop c.feed-fed.result.taken c.loop-rest.rest.now) c.feed-fed.new.self.line c.line.result.now c.feed-fed.result.ready c.feed-fed.ensures.stream c.line.ensures.line g.T.LineHandler.most _ _ _ so_far.4 (c.answer_ready.ensures.steps so_far.0 so_far.1) so_far.2

pub returns-in-OutOfMemory-clause-steps : goal.returns-in-OutOfMemory-clause-steps
returns-in-OutOfMemory-clause-steps g c = λ m begins means.
    let so_far = c.loop-rest.invariant.output m begins means in
    steps_within so_far.0 c.loop-rest.lines.so_far c.loop-rest.rest.now c.feed-fed.new.self.so_far (drop c.feed-fed.result.taken c.loop-rest.rest.now) c.feed-fed.new.self.line c.line.result.now c.feed-fed.result.ready c.feed-fed.ensures.stream c.line.ensures.line g.T.LineHandler.most _ _ _ so_far.4 (c.answer_ready.ensures.steps so_far.0 so_far.1) so_far.2

pub returns-clause-steps : goal.returns-clause-steps
returns-clause-steps g c = λ m begins means.
    let so_far = c.loop-rest.invariant.output m begins means in
    omega (arith, so_far.4)

pub returns-in-Over-clause-quiet : goal.returns-in-Over-clause-quiet
returns-in-Over-clause-quiet g c = λ q. c.answer_ready.ensures.quiet q ∙ c.loop-rest.invariant.quiet q

pub returns-in-Unwritten-clause-quiet : goal.returns-in-Unwritten-clause-quiet
returns-in-Unwritten-clause-quiet g c = λ q. c.answer_ready.ensures.quiet q ∙ c.loop-rest.invariant.quiet q

pub returns-in-OutOfMemory-clause-quiet : goal.returns-in-OutOfMemory-clause-quiet
returns-in-OutOfMemory-clause-quiet g c = λ q. c.answer_ready.ensures.quiet q ∙ c.loop-rest.invariant.quiet q

pub returns-in-Over-clause-unfailing : goal.returns-in-Over-clause-unfailing
returns-in-Over-clause-unfailing g c = λ q m begins means e. cc

pub returns-in-Unwritten-clause-unfailing : goal.returns-in-Unwritten-clause-unfailing
returns-in-Unwritten-clause-unfailing g c = λ q m begins means e.
    let so_far = c.loop-rest.invariant.output m begins means in
    c.in-Unwritten.ensures.unfailing q so_far.0 so_far.1 refl

pub returns-in-OutOfMemory-clause-unfailing : goal.returns-in-OutOfMemory-clause-unfailing
returns-in-OutOfMemory-clause-unfailing g c = λ q m begins means e. cc

pub returns-clause-unfailing : goal.returns-clause-unfailing
returns-clause-unfailing g c = λ q m begins means e. cc
