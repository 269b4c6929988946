use Rattle.std.proofs.Common.{◌≡◌, ℕ, ◌<◌, ◌++◌, length, take, refl, ap, ◌∙◌, arith}
use Rattle.std.proofs.lemmas.List.{append-nil, take-append-le, length-take}
use Rattle.script_runs.specs.ScriptEnds.{script_did}
use Rattle.script_runs.proofs.ScriptLaws.{none_so_far, more_so_far}
use Rattle.script_runs.proofs.SoFarLaws.{exchange_ends, exchange_fails, exchange_goes_on, exchange_unbegun}
use Rattle.script_runs.proofs.StepLaws.{steps_more, within_all, within_kept, within_piece, within_so_far}
use Rattle.script_runs.proofs.EndLaws.{ends_at, ends_over, ends_unwritten, ends_out_of_memory, ends_unread, ends_too_long, leaves_at, leaves_over, left_at_end, left_over, quiet_at_end, told_at_end, told_first, told_over, told_part, told_too_long, told_unread}
use Rattle.script_runs.proofs.script.run.Goals as goal

pub loop-taken-init : goal.loop-taken-init
unfolding none_so_far
loop-taken-init g c = (
  λ m begins means.
      let none = begins.steps g.T.LineHandler.most in
      (m, means, begins, (rw c.new-lines.ensures (none_so_far m begins _ _), omega (arith, none), exchange_unbegun g.S.Source.pulled g.K.Sink.output m c.args.out.now c.args.script.now)),
  omega arith,
  omega arith,
  omega arith,
  refl,
  omega (arith, c.requires.unchanged),
  rw c.new-lines.ensures (λ k d h. absurd (omega (arith, h))),
  λ q. refl,
)

pub loop-taken-preserved : goal.loop-taken-preserved
loop-taken-preserved g c =
    let same = take-append-le c.in-Ok.count c.pull.new.buf _ c.in-Ok.ensures.bound.0 in
    let begun = c.requires.meant in
    let before = c.loop-taken.invariant.0 begun.0 begun.1 begun.2 in (
      λ m begins means.
          let so_far = c.loop-taken.invariant.0 m begins means in
          let output = c.in-More.ensures.output so_far.0 so_far.2 so_far.1 in
          let more = more_so_far m so_far.0 output.0.0 _ _ _ _ _ _ _ _ _ _ _ _ so_far.3.0 c.in-Ok.ensures.bytes.0 c.in-Ok.ensures.bound.1 same output.0.3 output.0.2.over output.1 in
          let steps = steps_more g.T.LineHandler.most m begins _ _ _ _ _ so_far.0 _ so_far.3.0 _ _ so_far.3.1 _ _ _ same (c.answer_piece.ensures.steps so_far.0 so_far.2 so_far.1) in
          let exchanged = exchange_goes_on g.S.Source.pulled g.K.Sink.output m c.args.out.now c.args.script.now _ _ c.loop-taken.out _ so_far.0 _ so_far.3.0 c.loop-taken.script so_far.3.2 (omega (arith, c.in-Ok.ensures.bound.0, length-take {A = ℕ})) _ c.pull.new.self _ c.in-Ok.ensures.call (omega (arith, length-take {A = ℕ})) (omega (arith, c.in-Ok.ensures.bound.1)) more.0.bytes more.1 in
          (output.0.0, output.0.1, output.0.2, (more.0, rw more.1 steps, exchanged)),
      omega (arith, c.in-Ok.ensures.bound.0, length-take {A = ℕ}),
      omega (arith, c.loop-taken.invariant.2, c.answer_piece.ensures.later),
      omega (arith, c.loop-taken.invariant.3, c.in-Ok.ensures.cause),
      c.answer_piece.ensures.same_rules ∙ c.loop-taken.invariant.4,
      omega (arith, c.loop-taken.invariant.5, c.answer_piece.ensures.few, length-take {A = ℕ}),
      (c.in-More.ensures.output before.0 before.2 before.1).1,
      λ q. c.answer_piece.ensures.quiet q ∙ c.loop-taken.invariant.7 q,
    )

pub returns-in-Ok-eq0 : goal.returns-in-Ok-eq0
returns-in-Ok-eq0 g c =
    let zero : c.in-Ok-eq0.field-0 ≡ 0 = omega arith in
    let room : 0 < length c.pull.new.buf = omega (arith, length-take {A = ℕ}) in
    let read = rw zero at c.in-Ok-eq0.ensures.bytes.0 in
    let end = c.in-Ok-eq0.ensures.bytes.1 zero room in
    record {
      ends = λ m begins means.
          let so_far = c.loop-taken.invariant.0 m begins means in
          ends_at m (script_did (g.S.Source.input c.args.script.now) (g.S.Source.input c.pull.new.self) (g.K.Sink.output c.args.out.now) (g.K.Sink.output c.finish.new.out)) (g.S.Source.input c.loop-taken.script) (g.K.Sink.output c.loop-taken.out) _ so_far.0 _ so_far.3.0 _ _ (omega arith) read end c.finish.result _ c.status_at_end.ensures (c.finish.ensures.output so_far.0 so_far.1);
      leaves = λ m begins means.
          let so_far = c.loop-taken.invariant.0 m begins means in
          leaves_at m (script_did (g.S.Source.input c.args.script.now) (g.S.Source.input c.pull.new.self) (g.K.Sink.output c.args.out.now) (g.K.Sink.output c.finish.new.out)) (g.S.Source.input c.loop-taken.script) (g.K.Sink.output c.loop-taken.out) _ so_far.0 _ so_far.3.0 _ _ (omega arith) read end c.finish.result _ c.status_at_end.ensures (c.finish.ensures.output so_far.0 so_far.1);
      calls = λ m begins means.
          let so_far = c.loop-taken.invariant.0 m begins means in
          exchange_ends g.S.Source.pulled g.K.Sink.output m c.args.out.now c.args.script.now _ _ c.loop-taken.out _ so_far.0 _ so_far.3.0 c.loop-taken.script so_far.3.2 (omega arith) _ c.pull.new.self _ c.in-Ok-eq0.ensures.call (omega (arith, length-take {A = ℕ})) _ c.finish.new.out _
          (told_at_end m (script_did (g.S.Source.input c.args.script.now) (g.S.Source.input c.pull.new.self) (g.K.Sink.output c.args.out.now) (g.K.Sink.output c.finish.new.out)) (g.S.Source.input c.loop-taken.script) (g.K.Sink.output c.loop-taken.out) _ so_far.0 _ so_far.3.0 _ _ (omega arith) c.finish.result _ c.status_at_end.ensures (c.finish.ensures.output so_far.0 so_far.1) _
          (ap (λ (n : ℕ). so_far.3.0.bytes ++ take n c.pull.new.buf) zero ∙ append-nil so_far.3.0.bytes))
          (left_at_end m (script_did (g.S.Source.input c.args.script.now) (g.S.Source.input c.pull.new.self) (g.K.Sink.output c.args.out.now) (g.K.Sink.output c.finish.new.out)) (g.S.Source.input c.loop-taken.script) (g.K.Sink.output c.loop-taken.out) _ so_far.0 _ so_far.3.0 _ _ (omega arith) c.finish.result _ c.status_at_end.ensures (c.finish.ensures.output so_far.0 so_far.1) _
          (ap (λ (n : ℕ). so_far.3.0.bytes ++ take n c.pull.new.buf) zero ∙ append-nil so_far.3.0.bytes));
      quiet = λ q. c.finish.ensures.quiet q ∙ c.loop-taken.invariant.7 q;
      unfailing = λ q.
          let begun = c.requires.meant in
          let before = c.loop-taken.invariant.0 begun.0 begun.1 begun.2 in
          quiet_at_end _ _ c.status_at_end.ensures (c.finish.ensures.unfailing q before.0 before.1);
      same_rules = c.finish.ensures.same_rules ∙ c.loop-taken.invariant.4;
      steps = λ m begins means.
          let so_far = c.loop-taken.invariant.0 m begins means in
          within_all g.T.LineHandler.most m begins _ _ _ _ _ so_far.0 _ so_far.3.0 _ _ so_far.3.1 _ _ read (c.finish.ensures.steps so_far.0 so_far.1);
    }

pub returns-in-Over : goal.returns-in-Over
returns-in-Over g c =
    let same = take-append-le c.in-Ok.count c.pull.new.buf _ c.in-Ok.ensures.bound.0 in
    record {
      ends = λ m begins means.
          let so_far = c.loop-taken.invariant.0 m begins means in
          let output = c.in-Over.ensures.output so_far.0 so_far.2 so_far.1 in
          ends_over m (script_did (g.S.Source.input c.args.script.now) (g.S.Source.input c.pull.new.self) (g.K.Sink.output c.args.out.now) (g.K.Sink.output c.answer_piece.new.out)) (g.S.Source.input c.loop-taken.script) (g.K.Sink.output c.loop-taken.out) _ so_far.0 _ so_far.3.0 _ _ c.in-Ok.count c.in-Ok.ensures.bytes.0 c.in-Ok.ensures.bound.1 same (omega (arith, c.in-Ok.ensures.bound.0, length-take {A = ℕ})) output.0 output.1 (omega (arith, c.in-Ok.ensures.bound.0, length-take {A = ℕ}));
      leaves = λ m begins means.
          let so_far = c.loop-taken.invariant.0 m begins means in
          let output = c.in-Over.ensures.output so_far.0 so_far.2 so_far.1 in
          leaves_over m (script_did (g.S.Source.input c.args.script.now) (g.S.Source.input c.pull.new.self) (g.K.Sink.output c.args.out.now) (g.K.Sink.output c.answer_piece.new.out)) (g.S.Source.input c.loop-taken.script) (g.K.Sink.output c.loop-taken.out) _ so_far.0 _ so_far.3.0 _ _ c.in-Ok.count c.in-Ok.ensures.bytes.0 c.in-Ok.ensures.bound.1 same (omega (arith, c.in-Ok.ensures.bound.0, length-take {A = ℕ})) output.0 output.1 _ output.2;
      calls = λ m begins means.
          let so_far = c.loop-taken.invariant.0 m begins means in
          let output = c.in-Over.ensures.output so_far.0 so_far.2 so_far.1 in
          exchange_ends g.S.Source.pulled g.K.Sink.output m c.args.out.now c.args.script.now _ _ c.loop-taken.out _ so_far.0 _ so_far.3.0 c.loop-taken.script so_far.3.2 (omega (arith, c.in-Ok.ensures.bound.0, length-take {A = ℕ})) _ c.pull.new.self _ c.in-Ok.ensures.call (omega (arith, length-take {A = ℕ})) _ c.answer_piece.new.out _
          (told_over m (script_did (g.S.Source.input c.args.script.now) (g.S.Source.input c.pull.new.self) (g.K.Sink.output c.args.out.now) (g.K.Sink.output c.answer_piece.new.out)) (g.S.Source.input c.loop-taken.script) (g.K.Sink.output c.loop-taken.out) _ so_far.0 _ so_far.3.0 _ _ c.in-Ok.count c.in-Ok.ensures.bytes.0 c.in-Ok.ensures.bound.1 same (omega (arith, c.in-Ok.ensures.bound.0, length-take {A = ℕ})) output.0 output.1)
          (left_over m (script_did (g.S.Source.input c.args.script.now) (g.S.Source.input c.pull.new.self) (g.K.Sink.output c.args.out.now) (g.K.Sink.output c.answer_piece.new.out)) (g.S.Source.input c.loop-taken.script) (g.K.Sink.output c.loop-taken.out) _ so_far.0 _ so_far.3.0 _ _ c.in-Ok.count c.in-Ok.ensures.bytes.0 c.in-Ok.ensures.bound.1 same (omega (arith, c.in-Ok.ensures.bound.0, length-take {A = ℕ})) output.0 output.1 _ output.2);
      quiet = λ q. c.answer_piece.ensures.quiet q ∙ c.loop-taken.invariant.7 q;
      unfailing = λ q e. cc;
      same_rules = c.answer_piece.ensures.same_rules ∙ c.loop-taken.invariant.4;
      steps = λ m begins means.
          let so_far = c.loop-taken.invariant.0 m begins means in
          within_piece g.T.LineHandler.most m begins _ _ _ _ _ so_far.0 _ so_far.3.0 _ _ so_far.3.1 _ _ _ _ c.in-Ok.ensures.bytes.0 same (c.answer_piece.ensures.steps so_far.0 so_far.2 so_far.1);
    }

pub returns-in-Unwritten : goal.returns-in-Unwritten
returns-in-Unwritten g c =
    let same = take-append-le c.in-Ok.count c.pull.new.buf _ c.in-Ok.ensures.bound.0 in
    record {
      ends = λ m begins means.
          let so_far = c.loop-taken.invariant.0 m begins means in
          let output = c.in-Unwritten.ensures.output so_far.0 so_far.2 so_far.1 in
          ends_unwritten m (script_did (g.S.Source.input c.args.script.now) (g.S.Source.input c.pull.new.self) (g.K.Sink.output c.args.out.now) (g.K.Sink.output c.answer_piece.new.out)) (g.S.Source.input c.loop-taken.script) (g.K.Sink.output c.loop-taken.out) _ so_far.0 _ so_far.3.0 _ _ c.in-Ok.count c.in-Ok.ensures.bytes.0 c.in-Ok.ensures.bound.1 same (omega (arith, c.in-Ok.ensures.bound.0, length-take {A = ℕ})) output.0;
      leaves = λ m begins means. tt;
      calls = λ m begins means.
          let so_far = c.loop-taken.invariant.0 m begins means in
          let output = c.in-Unwritten.ensures.output so_far.0 so_far.2 so_far.1 in
          exchange_ends g.S.Source.pulled g.K.Sink.output m c.args.out.now c.args.script.now _ _ c.loop-taken.out _ so_far.0 _ so_far.3.0 c.loop-taken.script so_far.3.2 (omega (arith, c.in-Ok.ensures.bound.0, length-take {A = ℕ})) _ c.pull.new.self _ c.in-Ok.ensures.call (omega (arith, length-take {A = ℕ})) _ c.answer_piece.new.out (g.T.LineHandler.stands c.answer_piece.new.handler)
          (told_part m (script_did (g.S.Source.input c.args.script.now) (g.S.Source.input c.pull.new.self) (g.K.Sink.output c.args.out.now) (g.K.Sink.output c.answer_piece.new.out)) (g.S.Source.input c.loop-taken.script) (g.K.Sink.output c.loop-taken.out) _ so_far.0 _ so_far.3.0 _ _ c.in-Ok.count c.in-Ok.ensures.bytes.0 c.in-Ok.ensures.bound.1 same (omega (arith, c.in-Ok.ensures.bound.0, length-take {A = ℕ})) output.0)
          tt;
      quiet = λ q. c.answer_piece.ensures.quiet q ∙ c.loop-taken.invariant.7 q;
      unfailing = λ q e.
          let begun = c.requires.meant in
          let before = c.loop-taken.invariant.0 begun.0 begun.1 begun.2 in
          c.in-Unwritten.ensures.unfailing q before.0 before.2 before.1 refl;
      same_rules = c.answer_piece.ensures.same_rules ∙ c.loop-taken.invariant.4;
      steps = λ m begins means.
          let so_far = c.loop-taken.invariant.0 m begins means in
          within_piece g.T.LineHandler.most m begins _ _ _ _ _ so_far.0 _ so_far.3.0 _ _ so_far.3.1 _ _ _ _ c.in-Ok.ensures.bytes.0 same (c.answer_piece.ensures.steps so_far.0 so_far.2 so_far.1);
    }

pub returns-in-OutOfMemory : goal.returns-in-OutOfMemory
returns-in-OutOfMemory g c =
    let same = take-append-le c.in-Ok.count c.pull.new.buf _ c.in-Ok.ensures.bound.0 in
    record {
      ends = λ m begins means.
          let so_far = c.loop-taken.invariant.0 m begins means in
          let output = c.in-OutOfMemory.ensures.output so_far.0 so_far.2 so_far.1 in
          ends_out_of_memory m (script_did (g.S.Source.input c.args.script.now) (g.S.Source.input c.pull.new.self) (g.K.Sink.output c.args.out.now) (g.K.Sink.output c.answer_piece.new.out)) (g.S.Source.input c.loop-taken.script) (g.K.Sink.output c.loop-taken.out) _ so_far.0 _ so_far.3.0 _ _ c.in-Ok.count c.in-Ok.ensures.bytes.0 c.in-Ok.ensures.bound.1 same (omega (arith, c.in-Ok.ensures.bound.0, length-take {A = ℕ})) output.0;
      leaves = λ m begins means. tt;
      calls = λ m begins means.
          let so_far = c.loop-taken.invariant.0 m begins means in
          let output = c.in-OutOfMemory.ensures.output so_far.0 so_far.2 so_far.1 in
          exchange_ends g.S.Source.pulled g.K.Sink.output m c.args.out.now c.args.script.now _ _ c.loop-taken.out _ so_far.0 _ so_far.3.0 c.loop-taken.script so_far.3.2 (omega (arith, c.in-Ok.ensures.bound.0, length-take {A = ℕ})) _ c.pull.new.self _ c.in-Ok.ensures.call (omega (arith, length-take {A = ℕ})) _ c.answer_piece.new.out (g.T.LineHandler.stands c.answer_piece.new.handler)
          (told_first m (script_did (g.S.Source.input c.args.script.now) (g.S.Source.input c.pull.new.self) (g.K.Sink.output c.args.out.now) (g.K.Sink.output c.answer_piece.new.out)) (g.S.Source.input c.loop-taken.script) (g.K.Sink.output c.loop-taken.out) _ so_far.0 _ so_far.3.0 _ _ c.in-Ok.count c.in-Ok.ensures.bytes.0 c.in-Ok.ensures.bound.1 same (omega (arith, c.in-Ok.ensures.bound.0, length-take {A = ℕ})) output.0)
          tt;
      quiet = λ q. c.answer_piece.ensures.quiet q ∙ c.loop-taken.invariant.7 q;
      unfailing = λ q e. cc;
      same_rules = c.answer_piece.ensures.same_rules ∙ c.loop-taken.invariant.4;
      steps = λ m begins means.
          let so_far = c.loop-taken.invariant.0 m begins means in
          within_piece g.T.LineHandler.most m begins _ _ _ _ _ so_far.0 _ so_far.3.0 _ _ so_far.3.1 _ _ _ _ c.in-Ok.ensures.bytes.0 same (c.answer_piece.ensures.steps so_far.0 so_far.2 so_far.1);
    }

pub returns-in-Err : goal.returns-in-Err
returns-in-Err g c =
    record {
      ends = λ m begins means.
          let so_far = c.loop-taken.invariant.0 m begins means in
          ends_unread m (script_did (g.S.Source.input c.args.script.now) (g.S.Source.input c.pull.new.self) (g.K.Sink.output c.args.out.now) (g.K.Sink.output c.loop-taken.out)) (g.S.Source.input c.loop-taken.script) (g.K.Sink.output c.loop-taken.out) _ so_far.0 _ so_far.3.0 c.loop-taken.invariant.1 refl c.in-Err.ensures.bytes (omega (arith, c.loop-taken.invariant.3, c.in-Err.ensures.cause.0));
      leaves = λ m begins means. tt;
      calls = λ m begins means.
          let so_far = c.loop-taken.invariant.0 m begins means in
          exchange_fails g.S.Source.pulled g.K.Sink.output m c.args.out.now c.args.script.now _ _ c.loop-taken.out _ so_far.0 _ so_far.3.0 c.loop-taken.script so_far.3.2 c.loop-taken.invariant.1 _ c.pull.new.self c.in-Err.ensures.call (omega (arith, length-take {A = ℕ}))
          (told_unread m (script_did (g.S.Source.input c.args.script.now) (g.S.Source.input c.pull.new.self) (g.K.Sink.output c.args.out.now) (g.K.Sink.output c.loop-taken.out)) (g.S.Source.input c.loop-taken.script) (g.K.Sink.output c.loop-taken.out) _ so_far.0 _ so_far.3.0) (g.T.LineHandler.stands c.loop-taken.handler);
      quiet = λ q. c.loop-taken.invariant.7 q;
      unfailing = λ q e. cc;
      same_rules = c.loop-taken.invariant.4;
      steps = λ m begins means.
          let so_far = c.loop-taken.invariant.0 m begins means in
          within_kept g.T.LineHandler.most m begins _ _ _ _ _ so_far.0 _ so_far.3.0 _ _ so_far.3.1 _ c.in-Err.ensures.bytes;
    }

pub returns-in-Ok-eq0-pull : goal.returns-in-Ok-eq0-pull
returns-in-Ok-eq0-pull g c =
    let zero : c.in-Ok-eq0-pull.field-0 ≡ 0 = omega arith in
    let room : 0 < length c.pull-2.new.buf = omega (arith, length-take {A = ℕ}) in
    let read = rw zero at c.in-Ok-eq0-pull.ensures.bytes.0 in
    let end = c.in-Ok-eq0-pull.ensures.bytes.1 zero room in
    record {
      ends = λ m begins means.
          let so_far = c.loop-taken.invariant.0 m begins means in
          ends_at m (script_did (g.S.Source.input c.args.script.now) (g.S.Source.input c.pull-2.new.self) (g.K.Sink.output c.args.out.now) (g.K.Sink.output c.finish-in-Ok-eq0-pull.new.out)) (g.S.Source.input c.loop-taken.script) (g.K.Sink.output c.loop-taken.out) _ so_far.0 _ so_far.3.0 _ _ c.loop-taken.invariant.1 read end c.finish-in-Ok-eq0-pull.result _ c.status_at_end-in-Ok-eq0-pull.ensures (c.finish-in-Ok-eq0-pull.ensures.output so_far.0 so_far.1);
      leaves = λ m begins means.
          let so_far = c.loop-taken.invariant.0 m begins means in
          leaves_at m (script_did (g.S.Source.input c.args.script.now) (g.S.Source.input c.pull-2.new.self) (g.K.Sink.output c.args.out.now) (g.K.Sink.output c.finish-in-Ok-eq0-pull.new.out)) (g.S.Source.input c.loop-taken.script) (g.K.Sink.output c.loop-taken.out) _ so_far.0 _ so_far.3.0 _ _ c.loop-taken.invariant.1 read end c.finish-in-Ok-eq0-pull.result _ c.status_at_end-in-Ok-eq0-pull.ensures (c.finish-in-Ok-eq0-pull.ensures.output so_far.0 so_far.1);
      calls = λ m begins means.
          let so_far = c.loop-taken.invariant.0 m begins means in
          exchange_ends g.S.Source.pulled g.K.Sink.output m c.args.out.now c.args.script.now _ _ c.loop-taken.out _ so_far.0 _ so_far.3.0 c.loop-taken.script so_far.3.2 c.loop-taken.invariant.1 _ c.pull-2.new.self _ c.in-Ok-eq0-pull.ensures.call (omega (arith, length-take {A = ℕ})) _ c.finish-in-Ok-eq0-pull.new.out _
          (told_at_end m (script_did (g.S.Source.input c.args.script.now) (g.S.Source.input c.pull-2.new.self) (g.K.Sink.output c.args.out.now) (g.K.Sink.output c.finish-in-Ok-eq0-pull.new.out)) (g.S.Source.input c.loop-taken.script) (g.K.Sink.output c.loop-taken.out) _ so_far.0 _ so_far.3.0 _ _ c.loop-taken.invariant.1 c.finish-in-Ok-eq0-pull.result _ c.status_at_end-in-Ok-eq0-pull.ensures (c.finish-in-Ok-eq0-pull.ensures.output so_far.0 so_far.1) _
          (ap (λ (n : ℕ). so_far.3.0.bytes ++ take n c.pull-2.new.buf) zero ∙ append-nil so_far.3.0.bytes))
          (left_at_end m (script_did (g.S.Source.input c.args.script.now) (g.S.Source.input c.pull-2.new.self) (g.K.Sink.output c.args.out.now) (g.K.Sink.output c.finish-in-Ok-eq0-pull.new.out)) (g.S.Source.input c.loop-taken.script) (g.K.Sink.output c.loop-taken.out) _ so_far.0 _ so_far.3.0 _ _ c.loop-taken.invariant.1 c.finish-in-Ok-eq0-pull.result _ c.status_at_end-in-Ok-eq0-pull.ensures (c.finish-in-Ok-eq0-pull.ensures.output so_far.0 so_far.1) _
          (ap (λ (n : ℕ). so_far.3.0.bytes ++ take n c.pull-2.new.buf) zero ∙ append-nil so_far.3.0.bytes));
      quiet = λ q. c.finish-in-Ok-eq0-pull.ensures.quiet q ∙ c.loop-taken.invariant.7 q;
      unfailing = λ q.
          let begun = c.requires.meant in
          let before = c.loop-taken.invariant.0 begun.0 begun.1 begun.2 in
          quiet_at_end _ _ c.status_at_end-in-Ok-eq0-pull.ensures (c.finish-in-Ok-eq0-pull.ensures.unfailing q before.0 before.1);
      same_rules = c.finish-in-Ok-eq0-pull.ensures.same_rules ∙ c.loop-taken.invariant.4;
      steps = λ m begins means.
          let so_far = c.loop-taken.invariant.0 m begins means in
          within_all g.T.LineHandler.most m begins _ _ _ _ _ so_far.0 _ so_far.3.0 _ _ so_far.3.1 _ _ read (c.finish-in-Ok-eq0-pull.ensures.steps so_far.0 so_far.1);
    }

pub returns-in-Ok-pull : goal.returns-in-Ok-pull
returns-in-Ok-pull g c =
    record {
      ends = λ m begins means.
          let so_far = c.loop-taken.invariant.0 m begins means in
          ends_too_long m (script_did (g.S.Source.input c.args.script.now) (g.S.Source.input c.pull-2.new.self) (g.K.Sink.output c.args.out.now) (g.K.Sink.output c.loop-taken.out)) (g.S.Source.input c.loop-taken.script) (g.K.Sink.output c.loop-taken.out) _ so_far.0 _ so_far.3.0 _ refl c.in-Ok-pull.ensures.bytes.0 (omega arith) (omega (arith, c.in-Ok-pull.ensures.bound.1));
      leaves = λ m begins means. tt;
      calls = λ m begins means.
          let so_far = c.loop-taken.invariant.0 m begins means in
          exchange_ends g.S.Source.pulled g.K.Sink.output m c.args.out.now c.args.script.now _ _ c.loop-taken.out _ so_far.0 _ so_far.3.0 c.loop-taken.script so_far.3.2 c.loop-taken.invariant.1 _ c.pull-2.new.self _ c.in-Ok-pull.ensures.call (omega (arith, length-take {A = ℕ})) _ c.loop-taken.out (g.T.LineHandler.stands c.loop-taken.handler)
          (told_too_long m (script_did (g.S.Source.input c.args.script.now) (g.S.Source.input c.pull-2.new.self) (g.K.Sink.output c.args.out.now) (g.K.Sink.output c.loop-taken.out)) (g.S.Source.input c.loop-taken.script) (g.K.Sink.output c.loop-taken.out) _ so_far.0 _ so_far.3.0 _ (omega arith) (omega (arith, c.in-Ok-pull.ensures.bound.1)))
          tt;
      quiet = λ q. c.loop-taken.invariant.7 q;
      unfailing = λ q e. cc;
      same_rules = c.loop-taken.invariant.4;
      steps = λ m begins means.
          let so_far = c.loop-taken.invariant.0 m begins means in
          within_so_far g.T.LineHandler.most m begins _ _ _ _ _ so_far.0 _ so_far.3.0 _ _ so_far.3.1 _ _ c.in-Ok-pull.ensures.bytes.0;
    }

pub returns-in-Err-pull : goal.returns-in-Err-pull
returns-in-Err-pull g c =
    record {
      ends = λ m begins means.
          let so_far = c.loop-taken.invariant.0 m begins means in
          ends_unread m (script_did (g.S.Source.input c.args.script.now) (g.S.Source.input c.pull-2.new.self) (g.K.Sink.output c.args.out.now) (g.K.Sink.output c.loop-taken.out)) (g.S.Source.input c.loop-taken.script) (g.K.Sink.output c.loop-taken.out) _ so_far.0 _ so_far.3.0 c.loop-taken.invariant.1 refl c.in-Err-pull.ensures.bytes (omega (arith, c.loop-taken.invariant.3, c.in-Err-pull.ensures.cause.0));
      leaves = λ m begins means. tt;
      calls = λ m begins means.
          let so_far = c.loop-taken.invariant.0 m begins means in
          exchange_fails g.S.Source.pulled g.K.Sink.output m c.args.out.now c.args.script.now _ _ c.loop-taken.out _ so_far.0 _ so_far.3.0 c.loop-taken.script so_far.3.2 c.loop-taken.invariant.1 _ c.pull-2.new.self c.in-Err-pull.ensures.call (omega (arith, length-take {A = ℕ}))
          (told_unread m (script_did (g.S.Source.input c.args.script.now) (g.S.Source.input c.pull-2.new.self) (g.K.Sink.output c.args.out.now) (g.K.Sink.output c.loop-taken.out)) (g.S.Source.input c.loop-taken.script) (g.K.Sink.output c.loop-taken.out) _ so_far.0 _ so_far.3.0) (g.T.LineHandler.stands c.loop-taken.handler);
      quiet = λ q. c.loop-taken.invariant.7 q;
      unfailing = λ q e. cc;
      same_rules = c.loop-taken.invariant.4;
      steps = λ m begins means.
          let so_far = c.loop-taken.invariant.0 m begins means in
          within_kept g.T.LineHandler.most m begins _ _ _ _ _ so_far.0 _ so_far.3.0 _ _ so_far.3.1 _ c.in-Err-pull.ensures.bytes;
    }
