-- What is kept of a desk goes on to stand for it.
use Rattle.std.proofs.Common.{◌≡◌, ℕ, suc, ◌+◌, ◌≤◌, Bool, true, false, ◌&&◌, ◌||◌, nat_eq, nat_le, if◌then◌else◌, [], ◌∷◌, ◌++◌, Option, Some, None, refl, sym, ap, ◌∙◌, subst, arith}
use Rattle.std.specs.Prelude.{Ok, IfErr, IfOk, OnOk, Result, Err, option_map}
use Rattle.fact_paths.specs.declared.slot_path.SlotPath.{SlotPath}
use Rattle.fact_values.specs.declared.slot.Slot.{Slot}
use Rattle.script_lines.specs.declared.command.Command.{Command}
use Rattle.script_lines.specs.declared.command.Command.TheVariants as commands
use Rattle.session_undo.specs.Timeline.{Timeline}
use Rattle.graph_session.specs.Counts.{stamp_of}
use Rattle.graph_session.specs.Naming.{slot_of}
use Rattle.graph_session.specs.Rules.{tree_of}
use Rattle.graph_session.specs.SessionView.{SessionState, session_state, moved}
use Rattle.graph_session.specs.Step.{is_change, refusal, step}
use Rattle.graph_session.specs.declared.reply.Reply.{Reply}
use Rattle.graph_session.proofs.StepLaws.{accepted_step}
use Rattle.shared_desk.specs.Desk.{Desk, absent_refusals, changer, session_state_after, desk_after, desk_refusal, desk_step, early, edited, entrant, entries_after, first_early, is_party, is_shown, is_touched, other, owner, place_of, shown, stale, stale_named, stale_since}
use Rattle.shared_desk.specs.DeskView.{DeskView, IsOrderly, Keeps, StandsFor, kept_desk, rules_of}
use Rattle.shared_desk.specs.LastSeen.{look_in}
use Rattle.shared_desk.specs.Refusals.{Refused}
use Rattle.shared_desk.specs.declared.refusal.DeskRefusal.{DeskRefusal}
use Rattle.shared_desk.specs.declared.refusal.DeskRefusal.TheVariants.{Session}
use Rattle.shared_desk.proofs.AfterLaws.{after_by, after_change, after_question}
use Rattle.shared_desk.proofs.LastSeenLaws.{and_false, kept_asked, kept_changed, looked_low}
use Rattle.shared_desk.proofs.OrderLaws.{order_stays, touch_at}
use Rattle.shared_desk.proofs.StepLaws.{early_refusal, late_refusal, late_step, refused_self}

-- ---- the same refusals

or_again : (a b : Bool) → ((a || b) || b) ≡ (a || b)
or_again true b = refl
or_again false true = refl
or_again false false = refl

module _ (v : DeskView) (d : Desk) (p : ℕ) (f : StandsFor v d) where
  stale_same : (s : Slot) → stale (kept_desk v) p s ≡ stale d p s
  stale_same s =
      (λ i. stale_since p (look_in v.asked p s) (stamp_of (f.session_state i).counts s) (changer (f.changers i) (stamp_of (f.session_state i).counts s)))
      ∙ ap (λ (b : Bool). if b then None else Some (stamp_of d.session_state.counts s)) (sym (ap (λ (b : Bool). b || own) (f.last_seen p s) ∙ or_again (nat_le (stamp_of d.session_state.counts s) (look_in v.asked p s)) own))
    where
      own : Bool
      own = is_party p (changer d.changers (stamp_of d.session_state.counts s))

  stale_named_same : (o : Option SlotPath) → stale_named (tree_of (rules_of v)) (kept_desk v) p o ≡ stale_named (tree_of (rules_of v)) d p o
  stale_named_same None = refl
  stale_named_same (Some path) = stale_same (slot_of (tree_of (rules_of v)) path)

  owner_same : (c : Command) → owner (kept_desk v) p c ≡ owner d p c
  owner_same commands.Undo = λ i. other p (entrant (f.entries i) (place_of (f.session_state i)))
  owner_same commands.Redo = λ i. other p (entrant (f.entries i) (suc (place_of (f.session_state i))))
  owner_same c = refl

  pub early_same : (c : Command) → early (rules_of v) (kept_desk v) p c ≡ early (rules_of v) d p c
  early_same c = λ i. first_early (absent_refusals (rules_of v) (f.session_state i).timeline.now c) (stale_named_same (edited c) i) (owner_same c i)

  -- what is refused early is refused
  pub early_refuses : (c : Command) (q : DeskRefusal) → Some q ≡ early (rules_of v) (kept_desk v) p c → Refused q (desk_refusal (rules_of v) d p c)
  early_refuses c q is = refused_self q _ (early_refusal (rules_of v) d p c q (sym (is ∙ early_same c)))

-- ---- after an accepted line

-- a change shows no slot
shows_none : (c : Command) → is_change c ≡ true → shown c ≡ None
shows_none (commands.Get path) e = absurd cc
shows_none (commands.Final path) e = absurd cc
shows_none (commands.Stamp path) e = absurd cc
shows_none c e = refl

module _ (v w : DeskView) (d : Desk) (p : ℕ) (c : Command) (said : Reply) (f : StandsFor v d) (ok : step (rules_of v) (session_state v.session) c ≡ Ok (said, session_state w.session)) (k : Keeps v p c w) where
  leads : session_state w.session ≡ session_state_after (rules_of v) d.session_state c
  leads = (accepted_step (rules_of v) (session_state v.session) (session_state w.session) c said ok).1.1 ∙ ap (λ (s : SessionState). session_state_after (rules_of v) s c) f.session_state

  changes_same : v.session.changes ≡ d.session_state.changes
  changes_same = ap (λ (s : SessionState). s.changes) f.session_state

  entries_same : w.entries ≡ entries_after d.entries (place_of d.session_state) p c
  entries_same = k.entries ∙ (λ i. entries_after (f.entries i) (place_of (f.session_state i)) p c)

  -- what was seen last is kept
  kept_after : (b : Bool) (q : ℕ) (s : Slot) → (nat_eq q p && is_shown (tree_of (rules_of v)) (shown c) s) ≡ b → look_in w.asked q s ≡ if b then d.session_state.changes else look_in v.asked q s
  kept_after b q s e = k.last_seen q s ∙ (λ i. if e i then changes_same i else look_in v.asked q s)

  kept_low : (q : ℕ) (s : Slot) → look_in w.asked q s ≤ d.session_state.changes
  kept_low q s =
      let b = nat_eq q p && is_shown (tree_of (rules_of v)) (shown c) s in
      subst (λ (n : ℕ). n ≤ d.session_state.changes) (sym (kept_after b q s refl)) (looked_low b d.session_state.changes (look_in v.asked q s) d.session_state.changes (omega arith) (f.kept q s))

  stand_changed : (to : Timeline) → is_change c ≡ true → session_state w.session ≡ moved (rules_of v).accepted d.session_state to → IsOrderly (after_by (rules_of v) d p c true (moved (rules_of v).accepted d.session_state to))
      → StandsFor w (after_by (rules_of v) d p c true (moved (rules_of v).accepted d.session_state to))
  stand_changed to is there orderly = record {
    orderly = orderly;
    session_state = there;
    changers = k.changers ∙ (λ i. if is i then f.changers i ++ p ∷ [] else f.changers i);
    entries = entries_same;
    kept = λ q s. let low = kept_low q s in omega (arith, low);
    last_seen = last_seen_same;
  }
    where
      kept_is : (q : ℕ) (s : Slot) → look_in w.asked q s ≡ look_in v.asked q s
      kept_is q s = kept_after false q s (ap (λ (o : Option SlotPath). nat_eq q p && is_shown (tree_of (rules_of v)) o s) (shows_none c is) ∙ and_false (nat_eq q p))

      last_seen_same : (q : ℕ) (s : Slot) → nat_le (stamp_of (moved (rules_of v).accepted d.session_state to).counts s) (if nat_eq q p && is_touched (rules_of v).accepted d.session_state.timeline.now to.now s then d.session_state.changes + 1 else d.last_seen q s)
          ≡ (nat_le (stamp_of (moved (rules_of v).accepted d.session_state to).counts s) (look_in w.asked q s) || is_party q (changer (d.changers ++ p ∷ []) (stamp_of (moved (rules_of v).accepted d.session_state to).counts s)))
      last_seen_same q s =
          kept_changed d.session_state.changes p d.changers f.orderly.numbered q (stamp_of d.session_state.counts s) (stamp_of (moved (rules_of v).accepted d.session_state to).counts s) (d.last_seen q s) (look_in v.asked q s)
          (is_touched (rules_of v).accepted d.session_state.timeline.now to.now s) (f.orderly.stamps s) (f.orderly.last_seen q s) (f.kept q s) (f.last_seen q s) (touch_at (rules_of v) d p c f.orderly to s)
          ∙ ap (λ (n : ℕ). nat_le (stamp_of (moved (rules_of v).accepted d.session_state to).counts s) n || is_party q (changer (d.changers ++ p ∷ []) (stamp_of (moved (rules_of v).accepted d.session_state to).counts s))) (sym (kept_is q s))

  stand_asked : is_change c ≡ false → session_state w.session ≡ d.session_state → IsOrderly (after_by (rules_of v) d p c false d.session_state) → StandsFor w (after_by (rules_of v) d p c false d.session_state)
  stand_asked is there orderly = record {
    orderly = orderly;
    session_state = there;
    changers = k.changers ∙ (λ i. if is i then f.changers i ++ p ∷ [] else f.changers i);
    entries = entries_same;
    kept = kept_low;
    last_seen = λ q s.
        let b = nat_eq q p && is_shown (tree_of (rules_of v)) (shown c) s in
        kept_asked (stamp_of d.session_state.counts s) d.session_state.changes (d.last_seen q s) (look_in v.asked q s) b (is_party q (changer d.changers (stamp_of d.session_state.counts s))) (f.orderly.stamps s) (f.last_seen q s)
        ∙ ap (λ (n : ℕ). nat_le (stamp_of d.session_state.counts s) n || is_party q (changer d.changers (stamp_of d.session_state.counts s))) (sym (kept_after b q s refl));
  }

  pub stands_after : StandsFor w (desk_after (rules_of v) d p c)
  stands_after = at (is_change c) refl
    where
      orderly : IsOrderly (desk_after (rules_of v) d p c)
      orderly = order_stays (rules_of v) d p c f.orderly

      at : (b : Bool) → is_change c ≡ b → StandsFor w (desk_after (rules_of v) d p c)
      at true e =
          let to = after_change (rules_of v) d p c e in
          subst (StandsFor w) (sym to.1) (stand_changed to.0 e (leads ∙ ap (λ (x : Desk). x.session_state) to.1) (subst IsOrderly to.1 orderly))
      at false e =
          let same = after_question (rules_of v) d p c e in
          subst (StandsFor w) (sym same) (stand_asked e (leads ∙ ap (λ (x : Desk). x.session_state) same) (subst IsOrderly same orderly))

-- ---- a line

-- what a line answers and keeps is the step's
module _ (v w : DeskView) (d : Desk) (p : ℕ) (c : Command) (f : StandsFor v d) (answer : Result Reply DeskRefusal) (allowed : early (rules_of v) (kept_desk v) p c ≡ None) where
  none_early : early (rules_of v) d p c ≡ None
  none_early = sym (early_same v d p f c) ∙ allowed

  pub line_replies : IfOk answer (λ said. step (rules_of v) (session_state v.session) c ≡ Ok (said, session_state w.session)) → IfOk answer (λ said. desk_step (rules_of v) d p c ≡ Ok (said, desk_after (rules_of v) d p c))
  line_replies ok = by answer ok
    where
      by : (x : Result Reply DeskRefusal) → IfOk x (λ said. step (rules_of v) (session_state v.session) c ≡ Ok (said, session_state w.session)) → IfOk x (λ said. desk_step (rules_of v) d p c ≡ Ok (said, desk_after (rules_of v) d p c))
      by (Ok said) ok = late_step (rules_of v) d p c said (session_state w.session) none_early (subst (λ (s : SessionState). step (rules_of v) s c ≡ Ok (said, session_state w.session)) f.session_state ok)
      by (Err q) ok = tt

  pub line_leaves : IfOk answer (λ said. step (rules_of v) (session_state v.session) c ≡ Ok (said, session_state w.session)) → OnOk answer (Keeps v p c w) → OnOk answer (StandsFor w (desk_after (rules_of v) d p c))
  line_leaves ok k = by answer ok k
    where
      by : (x : Result Reply DeskRefusal) → IfOk x (λ said. step (rules_of v) (session_state v.session) c ≡ Ok (said, session_state w.session)) → OnOk x (Keeps v p c w) → OnOk x (StandsFor w (desk_after (rules_of v) d p c))
      by (Ok said) ok k = stands_after v w d p c said f ok k
      by (Err q) ok k = tt

  pub line_refuses : IfErr answer (λ q. Refused q (option_map Session (refusal (rules_of v) (session_state v.session) c))) → IfErr answer (λ q. Refused q (desk_refusal (rules_of v) d p c))
  line_refuses err = by answer err
    where
      same : option_map Session (refusal (rules_of v) (session_state v.session) c) ≡ desk_refusal (rules_of v) d p c
      same = ap (λ (s : SessionState). option_map Session (refusal (rules_of v) s c)) f.session_state ∙ sym (late_refusal (rules_of v) d p c none_early)

      by : (x : Result Reply DeskRefusal) → IfErr x (λ q. Refused q (option_map Session (refusal (rules_of v) (session_state v.session) c))) → IfErr x (λ q. Refused q (desk_refusal (rules_of v) d p c))
      by (Ok said) err = tt
      by (Err q) err = subst (λ (o : Option DeskRefusal). Refused q o) same err
