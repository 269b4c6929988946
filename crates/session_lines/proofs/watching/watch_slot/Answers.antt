use Rattle.std.proofs.Common.{[], ◌∷◌, ◌++◌, sym, ap, subst, ◌∙◌, codes, refl}
use Rattle.fact_watch.specs.Refusals.{Refused, watch_of, watch_refusal}
use Rattle.fact_watch.specs.Tables.{named_relations}
use Rattle.fact_watch.specs.Watching.{Watching}
use Rattle.session_lines.specs.Answering.{line_state_of}
use Rattle.session_lines.specs.Stepping.{place_in}
use Rattle.session_lines.proofs.WatchLaws.{allowed_keeps, allowed_steps, place_by_names, refused_keeps, refused_steps}
use Rattle.session_lines.proofs.watching.watch_slot.Goals as goal

pub returns-in-Ok-clause-stepped : goal.returns-in-Ok-clause-stepped
returns-in-Ok-clause-stepped g c =
    let slot = c.args.slot in
    let watched = c.args.watches.now.watched in
    let place = place_in (named_relations c.args.table.now) c.args.name.now in
    let same = place_by_names c.args.table.now.relations.items (λ r. r.name) (λ r. r.code) c.args.name.now in
    allowed_steps _ _ (line_state_of c.args.session.now _ c.args.watches.now) (watched ++ watch_of place slot ∷ []) c.watch.new.watches.watched c.write_ended.result
    (watch_refusal place watched slot) (ap (λ p. watch_refusal p watched slot) same ∙ c.in-Ok.ensures.allowed)
    (ap (λ (w : Watching). w.watched) c.in-Ok.ensures.put ∙ ap (λ p. watched ++ watch_of p slot ∷ []) (sym same))
    (c.write_ended.ensures.written (codes "ok") refl)

pub returns-in-Err-clause-stepped : goal.returns-in-Err-clause-stepped
returns-in-Err-clause-stepped g c =
    let slot = c.args.slot in
    let watched = c.args.watches.now.watched in
    let place = place_in (named_relations c.args.table.now) c.args.name.now in
    let same = place_by_names c.args.table.now.relations.items (λ r. r.name) (λ r. r.code) c.args.name.now in
    refused_steps _ _ (line_state_of c.args.session.now _ c.args.watches.now) (watched ++ watch_of place slot ∷ []) c.watch.new.watches.watched c.write_watch_refusal.result
    (watch_refusal place watched slot) c.in-Err.refusal (subst (λ p. Refused c.in-Err.refusal (watch_refusal p watched slot)) (sym same) c.in-Err.ensures.refused)
    (ap (λ (w : Watching). w.watched) c.in-Err.ensures.unchanged)
    c.write_watch_refusal.ensures.written

pub returns-in-Ok-clause-kept : goal.returns-in-Ok-clause-kept
returns-in-Ok-clause-kept g c =
    let slot = c.args.slot in
    let watched = c.args.watches.now.watched in
    let place = place_in (named_relations c.args.table.now) c.args.name.now in
    let same = place_by_names c.args.table.now.relations.items (λ r. r.name) (λ r. r.code) c.args.name.now in
    allowed_keeps _ _ (line_state_of c.args.session.now _ c.args.watches.now) (watched ++ watch_of place slot ∷ []) c.watch.new.watches.watched c.write_ended.result
    (watch_refusal place watched slot) (ap (λ p. watch_refusal p watched slot) same ∙ c.in-Ok.ensures.allowed)
    (ap (λ (w : Watching). w.watched) c.in-Ok.ensures.put ∙ ap (λ p. watched ++ watch_of p slot ∷ []) (sym same))
    (c.write_ended.ensures.written (codes "ok") refl)

pub returns-in-Err-clause-kept : goal.returns-in-Err-clause-kept
returns-in-Err-clause-kept g c =
    let slot = c.args.slot in
    let watched = c.args.watches.now.watched in
    let place = place_in (named_relations c.args.table.now) c.args.name.now in
    let same = place_by_names c.args.table.now.relations.items (λ r. r.name) (λ r. r.code) c.args.name.now in
    refused_keeps _ _ (line_state_of c.args.session.now _ c.args.watches.now) (watched ++ watch_of place slot ∷ []) c.watch.new.watches.watched c.write_watch_refusal.result
    (watch_refusal place watched slot) c.in-Err.refusal (subst (λ p. Refused c.in-Err.refusal (watch_refusal p watched slot)) (sym same) c.in-Err.ensures.refused)
    (ap (λ (w : Watching). w.watched) c.in-Err.ensures.unchanged)
    c.write_watch_refusal.ensures.written
