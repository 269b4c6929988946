-- A desk stays in order, and what is kept goes on to stand for it.
use Rattle.std.proofs.Common.{◌≡◌, ℕ, ◌+◌, Bool, true, false, ◌&&◌, nat_eq, option_map, refl, sym, ap, subst, arith}
use Rattle.fact_values.specs.declared.slot.Slot.{Slot}
use Rattle.script_lines.specs.declared.command.Command.{Command}
use Rattle.session_undo.specs.Timeline.{Timeline}
use Rattle.answers.specs.Answered.{Answered}
use Rattle.graph_session.specs.Counts.{next_counts, stamp_of}
use Rattle.graph_session.specs.Rules.{Rules, tree_of}
use Rattle.graph_session.specs.SessionView.{moved}
use Rattle.graph_session.specs.Step.{is_change}
use Rattle.shared_desk.specs.Desk.{Desk, desk_after, desk_begun, is_shown, is_touched, shown}
use Rattle.shared_desk.specs.DeskView.{IsOrderly}
use Rattle.shared_desk.proofs.AfterLaws.{after_by, after_change, after_question}
use Rattle.shared_desk.proofs.Changers.{one_more}
use Rattle.shared_desk.proofs.LastSeenLaws.{looked_high, looked_low, own_changed, stamp_low}
use Rattle.shared_desk.proofs.StampLaws.{StampAfter, stamp_after, stamp_begun}

-- ---- a desk stays in order

module _ (r : Rules) (d : Desk) (p : ℕ) (c : Command) (o : IsOrderly d) where
  pub touch_at : (to : Timeline) (s : Slot) → StampAfter (d.session_state.changes + 1) (stamp_of d.session_state.counts s) (is_touched r.accepted d.session_state.timeline.now to.now s) (stamp_of (moved r.accepted d.session_state to).counts s)
  touch_at to s = stamp_after r d.session_state to o.counted.0 o.counted.1 s

  order_changed : (to : Timeline) → IsOrderly (after_by r d p c true (moved r.accepted d.session_state to))
  order_changed to = record {
    counted = (_, ap (option_map (next_counts r.accepted d.session_state.timeline.now to.now (d.session_state.changes + 1))) o.counted.1);
    numbered = one_more d.changers p d.session_state.changes o.numbered;
    stamps = λ s. stamp_low d.session_state.changes (stamp_of d.session_state.counts s) _ (is_touched r.accepted d.session_state.timeline.now to.now s) (o.stamps s) (touch_at to s);
    last_seen = λ q s. looked_low (nat_eq q p && is_touched r.accepted d.session_state.timeline.now to.now s) (d.session_state.changes + 1) (d.last_seen q s) (d.session_state.changes + 1) (omega arith) (let low = o.last_seen q s in omega (arith, low));
    own = λ q s. own_changed d.session_state.changes p d.changers o.numbered q (stamp_of d.session_state.counts s) _ (d.last_seen q s) (is_touched r.accepted d.session_state.timeline.now to.now s) (o.stamps s) (o.own q s) (touch_at to s);
  }

  order_asked : IsOrderly (after_by r d p c false d.session_state)
  order_asked = record {
    counted = o.counted;
    numbered = o.numbered;
    stamps = o.stamps;
    last_seen = λ q s. looked_low (nat_eq q p && is_shown (tree_of r) (shown c) s) d.session_state.changes (d.last_seen q s) d.session_state.changes (omega arith) (o.last_seen q s);
    own = λ q s h. looked_high (nat_eq q p && is_shown (tree_of r) (shown c) s) d.session_state.changes (d.last_seen q s) (stamp_of d.session_state.counts s) (o.stamps s) (o.own q s h);
  }

  pub order_stays : IsOrderly (desk_after r d p c)
  order_stays = at (is_change c) refl
    where
      at : (b : Bool) → is_change c ≡ b → IsOrderly (desk_after r d p c)
      at true e = let to = after_change r d p c e in subst IsOrderly (sym to.1) (order_changed to.0)
      at false e = subst IsOrderly (sym (after_question r d p c e)) order_asked

-- ---- at the start

pub order_begun : (r : Rules) (a : Answered) → IsOrderly (desk_begun r a)
order_begun r a = record {
  counted = (_, refl);
  numbered = refl;
  stamps = λ s. let none = stamp_begun r.accepted a s in omega (arith, none);
  last_seen = λ p s. omega arith;
  own = λ p s h. let none = stamp_begun r.accepted a s in omega (arith, none);
}
