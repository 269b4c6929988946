use Rattle.std.proofs.Common.{slice_get, sym, ◌∙◌, arith}
use Rattle.std.proofs.lemmas.Bool.{false_from_ne_true, ltb-true}
use Rattle.session_lines.proofs.FiringLaws.{says_by_names, unplaced}
use Rattle.session_lines.proofs.firing.fires.Goals as goal

pub returns-then-watch-len : goal.returns-then-watch-len
returns-then-watch-len g c = λ before noted. c.fires.ensures.since before noted ∙ sym (says_by_names c.args.table.now.relations.items (λ r. r.name) (λ r. r.code) (slice_get c.args.watches.now.watched c.args.n) before _)

pub returns-else-watch-len : goal.returns-else-watch-len
returns-else-watch-len g c = λ before noted.
    false_from_ne_true _ (λ e. let below = ltb-true c.in-Some.watch.0 c.len.result e in absurd (omega (arith, below, c.if-watch-len.false)))
    ∙ sym (unplaced c.args.table.now.relations.items (λ r. r.name) (λ r. r.code) (slice_get c.args.watches.now.watched c.args.n) c.in-Some.watch (sym c.in-Some.ensures) (omega (arith, c.if-watch-len.false, c.len.ensures)) before _)
