-- What an accepted edit finds is what its party saw.
use Rattle.std.proofs.Common.{◌≡◌, ◌⊎◌, inl, inr, ℕ, ◌+◌, ◌≤◌, Bool, true, false, not, ◌&&◌, ◌||◌, nat_le, if◌then◌else◌, IsTrue, List, [], ◌∷◌, ◌++◌, append_assoc, length, slice_get, Option, Some, None, refl, sym, ap, ◌∙◌, subst, arith}
use Rattle.std.specs.Prelude.{IfOk, Result, Ok, Err, option_map}
use Rattle.std.specs.FinMap as map
use Rattle.std.specs.Str.{bytes_eq}
use Rattle.std.proofs.lemmas.Bool.{leb-false, leb-true, not-false}
use Rattle.std.proofs.lemmas.List.{append-nil}
use Rattle.std.proofs.lemmas.Slice.Eq.{bytes_eq-Decides}
use Rattle.fact_paths.specs.declared.slot_path.SlotPath.{SlotPath}
use Rattle.fact_values.specs.declared.slot.Slot.{Slot}
use Rattle.script_lines.specs.declared.command.Command.{Command}
use Rattle.script_lines.specs.declared.command.Command.TheVariants as commands
use Rattle.three_state.specs.Equality.{value_same}
use Rattle.three_state.proofs.EqualityLaws.{value_same-Decides}
use Rattle.common_lemmas.proofs.Bools.{both_left, both_right, or_neither}
use Rattle.answers.specs.Answered.{Answered, value_of}
use Rattle.answers.specs.declared.edit.Side.TheVariants.{Answer, Override}
use Rattle.session_undo.specs.Timeline.{Timeline}
use Rattle.dict_meaning.specs.Accepted.{Accepted, IsAccepted}
use Rattle.dictionary.specs.AcceptedParts.{names_of}
use Rattle.dict_meaning.specs.Extension.{both_same, extends}
use Rattle.dict_meaning.specs.Final.{is_final}
use Rattle.dict_meaning.specs.Fits.{AnswersFit}
use Rattle.dict_meaning.specs.Slots.{stands}
use Rattle.dict_meaning.specs.Touched.{is_fed, same_entry, touches}
use Rattle.dict_meaning.proofs.ExtensionLaws.{same_option}
use Rattle.dict_meaning.proofs.UntouchedLaws.{untouched_keeps}
use Rattle.graph_session.specs.Counts.{stamp_in, stamp_of}
use Rattle.graph_session.specs.Keeping.{AllFit}
use Rattle.graph_session.specs.Naming.{slot_of}
use Rattle.graph_session.specs.Refusals.{decided as session_decided, first_of as first_session, slot_found, slot_refusals}
use Rattle.graph_session.specs.Rules.{Rules, tree_of}
use Rattle.graph_session.specs.SessionView.{moved}
use Rattle.graph_session.specs.Step.{is_change, step}
use Rattle.graph_session.specs.declared.reply.Refusal.{Refusal}
use Rattle.graph_session.specs.declared.reply.Reply.{Reply}
use Rattle.graph_session.proofs.AllowedLaws.{found_stands}
use Rattle.graph_session.proofs.SoundLaws.{fit_start}
use Rattle.graph_session.proofs.StepLaws.{accepted_step}
use Rattle.shared_desk.specs.Desk.{Desk, absent_refusals, changer, desk_after, desk_begun, desk_step, early, edited, is_party, owner, stale, stale_named}
use Rattle.shared_desk.specs.DeskView.{IsOrderly}
use Rattle.shared_desk.specs.Parties.{EditsFindWhatWasSeen, Line, SameAt, desk_ended, desk_next, led_to, passed}
use Rattle.shared_desk.specs.Refusals.{first_of}
use Rattle.shared_desk.specs.declared.refusal.DeskRefusal.{DeskRefusal}
use Rattle.shared_desk.specs.declared.refusal.DeskRefusal.TheVariants.{NotYours, Session, Stale}
use Rattle.shared_desk.proofs.AfterLaws.{after_by, after_change, after_question}
use Rattle.common_lemmas.proofs.Lists.{get_last, get_left}
use Rattle.shared_desk.proofs.Changers.{one_more}
use Rattle.shared_desk.proofs.FitLaws.{session_state_fits}
use Rattle.shared_desk.proofs.OrderLaws.{order_begun, order_stays}
use Rattle.shared_desk.proofs.PartyLaws.{accepted_line}
use Rattle.shared_desk.proofs.StampLaws.{listed_after}

-- ---- a slot that isn't touched

same_itself : (d : Accepted) (a : Answered) (s : Slot) → SameAt d a a s
same_itself d a s = record { answer = refl; overriding = refl; list = refl; result = refl }

same_on : (d : Accepted) (a b c : Answered) (s : Slot) → SameAt d a b s → SameAt d b c s → SameAt d a c s
same_on d a b c s x y = record { answer = x.answer ∙ y.answer; overriding = x.overriding ∙ y.overriding; list = x.list ∙ y.list; result = x.result ∙ y.result }

pub untouched_stood : (d : Accepted) (a b : Answered) (s : Slot) → touches d a b s ≡ false → IsTrue (stands d.tree a s) × IsTrue (same_entry a b s)
untouched_stood d a b s h =
    let new = not (stands d.tree a s) in
    let entry = not (same_entry a b s) in
    let first = or_neither new entry (or_neither (new || entry) (is_fed d a b s && not (extends d.tree a b && is_final d a s)) h).0 in
    (not-false (stands d.tree a s) first.0, not-false (same_entry a b s) first.1)

-- has the same before and after
untouched_same : (names : List (List ℕ)) (d : Accepted) → IsAccepted names d → (a b : Answered) → AnswersFit d.tree a → AnswersFit d.tree b → (s : Slot) → IsTrue (stands d.tree b s) → touches d a b s ≡ false → SameAt d a b s
untouched_same names d is a b before after s here h =
    let answer = both_same value_same (value_of Answer a s) (value_of Answer b s) in
    let override = both_same value_same (value_of Override a s) (value_of Override b s) in
    let list = both_same bytes_eq (map.get a.lists s.fact) (map.get b.lists s.fact) in
    let entry : IsTrue (same_entry a b s) = (untouched_stood d a b s h).1 in
    let first : IsTrue (answer && override) = both_left (answer && override) list entry in
    record {
      answer = same_option value_same (λ v w. (value_same-Decides v w).0) (value_of Answer a s) (value_of Answer b s) (both_left answer override first);
      overriding = same_option value_same (λ v w. (value_same-Decides v w).0) (value_of Override a s) (value_of Override b s) (both_right answer override first);
      list = same_option bytes_eq (λ v w. (bytes_eq-Decides v w).0) (map.get a.lists s.fact) (map.get b.lists s.fact) (both_right (answer && override) list entry);
      result = untouched_keeps names d is a b before after s here h;
    }

-- ---- what is recorded of the answers that were passed

module _ (r : Rules) (is : IsAccepted (names_of r.checks) r.accepted) where
  -- after so many changes the slot had what it has now
  abbrev FoundAt : Desk → List Answered → Slot → ℕ → Type 0
  FoundAt d all s k = (x : Answered) × ((slice_get all k ≡ Some x) × SameAt r.accepted x d.session_state.timeline.now s)

  -- the answers at the start and after each change: since it was last touched, a slot has what it has now
  record IsRecorded (d : Desk) (all : List Answered) : Type 0 where
    orderly : IsOrderly d
    fit : AllFit (tree_of r) d.session_state.timeline
    numbered : length all ≡ d.session_state.changes + 1
    now : slice_get all d.session_state.changes ≡ Some d.session_state.timeline.now
    same : (s : Slot) → IsTrue (stands (tree_of r) d.session_state.timeline.now s) → (k : ℕ) → stamp_of d.session_state.counts s ≤ k → k ≤ d.session_state.changes → FoundAt d all s k

  recorded_begun : (a : Answered) → AnswersFit (tree_of r) a → IsRecorded (desk_begun r a) (a ∷ [])
  recorded_begun a fit = record {
    orderly = order_begun r a;
    fit = fit_start (tree_of r) a fit;
    numbered = refl;
    now = refl;
    same = λ s here k high low.
        let first : k ≡ 0 = omega (arith, low) in
        (a, (ap (slice_get (a ∷ [])) first, same_itself r.accepted a s));
  }

  module _ (d : Desk) (all : List Answered) (p : ℕ) (c : Command) (recorded : IsRecorded d all) where
    recorded_asked : IsOrderly (after_by r d p c false d.session_state) → IsRecorded (after_by r d p c false d.session_state) (all ++ [])
    recorded_asked orderly = record {
      orderly = orderly;
      fit = recorded.fit;
      numbered = ap length (append-nil all) ∙ recorded.numbered;
      now = ap (λ xs. slice_get xs d.session_state.changes) (append-nil all) ∙ recorded.now;
      same = λ s here k high low. let found = recorded.same s here k high low in (found.0, (ap (λ xs. slice_get xs k) (append-nil all) ∙ found.1.0, found.1.1));
    }

    module _ (to : Timeline) (fit : AllFit (tree_of r) to) where
      -- a slot that stands and isn't touched
      found_before : (s : Slot) → IsTrue (stands (tree_of r) to.now s) → touches r.accepted d.session_state.timeline.now to.now s ≡ false
          → (k : ℕ) → stamp_of d.session_state.counts s ≤ k → k ≤ d.session_state.changes → (x : Answered) × ((slice_get (all ++ to.now ∷ []) k ≡ Some x) × SameAt r.accepted x to.now s)
      found_before s here h k high low =
          let count = recorded.numbered in
          let found = recorded.same s (untouched_stood r.accepted d.session_state.timeline.now to.now s h).0 k high low in (
            found.0,
            (
              get_left all (to.now ∷ []) k (omega (arith, low, count)) ∙ found.1.0,
              same_on r.accepted found.0 d.session_state.timeline.now to.now s found.1.1 (untouched_same (names_of r.checks) r.accepted is d.session_state.timeline.now to.now recorded.fit.now fit.now s here h),
            ),
          )

      found_last : (s : Slot) (k : ℕ) → k ≡ d.session_state.changes + 1 → (x : Answered) × ((slice_get (all ++ to.now ∷ []) k ≡ Some x) × SameAt r.accepted x to.now s)
      found_last s k e = (to.now, (ap (slice_get (all ++ to.now ∷ [])) (e ∙ sym recorded.numbered) ∙ get_last all to.now, same_itself r.accepted to.now s))

      found_there : (s : Slot) → IsTrue (stands (tree_of r) to.now s) → (k : ℕ) → stamp_of (moved r.accepted d.session_state to).counts s ≤ k → k ≤ d.session_state.changes + 1
          → (x : Answered) × ((slice_get (all ++ to.now ∷ []) k ≡ Some x) × SameAt r.accepted x to.now s)
      found_there s here k high low = earlier (nat_le k d.session_state.changes) refl
        where
          stamp_is : (t : Bool) → touches r.accepted d.session_state.timeline.now to.now s ≡ t → stamp_of (moved r.accepted d.session_state to).counts s ≡ if t then d.session_state.changes + 1 else stamp_in recorded.orderly.counted.0.stamps s
          stamp_is t e = listed_after r d.session_state to recorded.orderly.counted.0 recorded.orderly.counted.1 s here t e

          touched_or : (t : Bool) → touches r.accepted d.session_state.timeline.now to.now s ≡ t → k ≤ d.session_state.changes → (x : Answered) × ((slice_get (all ++ to.now ∷ []) k ≡ Some x) × SameAt r.accepted x to.now s)
          touched_or true e f = let n = stamp_is true e in absurd (omega (arith, n, f, high))
          touched_or false e f =
              let n = stamp_is false e in
              let before : stamp_of d.session_state.counts s ≡ stamp_in recorded.orderly.counted.0.stamps s = ap (λ o. stamp_of o s) recorded.orderly.counted.1 in
              found_before s here e k (omega (arith, n, before, high)) f

          earlier : (b : Bool) → nat_le k d.session_state.changes ≡ b → (x : Answered) × ((slice_get (all ++ to.now ∷ []) k ≡ Some x) × SameAt r.accepted x to.now s)
          earlier true e = touched_or (touches r.accepted d.session_state.timeline.now to.now s) refl (leb-true k d.session_state.changes e)
          earlier false e = let more = leb-false k d.session_state.changes e in found_last s k (omega (arith, more, low))

      recorded_changed : IsOrderly (after_by r d p c true (moved r.accepted d.session_state to)) → IsRecorded (after_by r d p c true (moved r.accepted d.session_state to)) (all ++ to.now ∷ [])
      recorded_changed orderly = record {
        orderly = orderly;
        fit = fit;
        numbered = one_more all to.now (d.session_state.changes + 1) recorded.numbered;
        now = ap (slice_get (all ++ to.now ∷ [])) (sym recorded.numbered) ∙ get_last all to.now;
        same = found_there;
      }

    -- after one that is a change, or isn't
    abbrev Passes : Bool → Desk → Type 0
    Passes b y = IsRecorded y (all ++ (if b then y.session_state.timeline.now ∷ [] else []))

    -- an accepted line
    recorded_on : (x : Reply × Desk) → desk_step r d p c ≡ Ok x → IsRecorded x.1 (all ++ led_to c (Ok x))
    recorded_on x e = subst (Passes (is_change c)) (sym line.1.0) (at (is_change c) refl)
      where
        line : (early r d p c ≡ None) × ((x.1 ≡ desk_after r d p c) × (step r d.session_state c ≡ Ok (x.0, x.1.session_state)))
        line = accepted_line r d p c x e

        orderly : IsOrderly (desk_after r d p c)
        orderly = order_stays r d p c recorded.orderly

        fit : AllFit (tree_of r) (desk_after r d p c).session_state.timeline
        fit = session_state_fits r is d.session_state c recorded.fit (accepted_step r d.session_state x.1.session_state c x.0 line.1.1).0

        at : (b : Bool) → is_change c ≡ b → Passes (is_change c) (desk_after r d p c)
        at true f =
            let to = after_change r d p c f in
            subst (λ (b : Bool). Passes b (desk_after r d p c)) (sym f) (subst (Passes true) (sym to.1) (recorded_changed to.0 (subst (λ (y : Desk). AllFit (tree_of r) y.session_state.timeline) to.1 fit) (subst IsOrderly to.1 orderly)))
        at false f =
            let same = after_question r d p c f in
            subst (λ (b : Bool). Passes b (desk_after r d p c)) (sym f) (subst (Passes false) (sym same) (recorded_asked (subst IsOrderly same orderly)))

  -- and all lines
  recorded_all : (d : Desk) (all : List Answered) (ls : List Line) → IsRecorded d all → IsRecorded (desk_ended r d ls) (all ++ passed r d ls)
  recorded_all d all [] recorded = subst (IsRecorded d) (sym (append-nil all)) recorded
  recorded_all d all (l ∷ ls) recorded = at (desk_step r d l.0 l.1) refl (λ t more h. recorded_all t more ls h)
    where
      at : (x : Result (Reply × Desk) DeskRefusal) → desk_step r d l.0 l.1 ≡ x → ((t : Desk) (more : List Answered) → IsRecorded t more → IsRecorded (desk_ended r t ls) (more ++ passed r t ls))
          → IsRecorded (desk_ended r (desk_next d x) ls) (all ++ (led_to l.1 x ++ passed r (desk_next d x) ls))
      at (Ok x) e rest = subst (IsRecorded (desk_ended r x.1 ls)) (append_assoc all (led_to l.1 (Ok x)) (passed r x.1 ls)) (rest x.1 (all ++ led_to l.1 (Ok x)) (recorded_on d all l.0 l.1 recorded x e))
      at (Err q) e rest = rest d all recorded

-- the answers at the desk fit
pub desk_fits : (r : Rules) → IsAccepted (names_of r.checks) r.accepted → (a : Answered) → AnswersFit (tree_of r) a → (ls : List Line) → AnswersFit (tree_of r) (desk_ended r (desk_begun r a) ls).session_state.timeline.now
desk_fits r is a fit ls = (recorded_all r is (desk_begun r a) (a ∷ []) ls (recorded_begun r is a fit)).fit.now

-- ---- an accepted edit

abbrev first_early_of : Option Refusal → Option ℕ → Option ℕ → Option DeskRefusal
first_early_of o n q = first_of (option_map Session o ∷ option_map Stale n ∷ option_map NotYours q ∷ [])

early_none : (o : Option Refusal) (n q : Option ℕ) → first_early_of o n q ≡ None → (o ≡ None) × (n ≡ None)
early_none None None q e = (refl, refl)
early_none None (Some n) q e = absurd cc
early_none (Some x) n q e = absurd cc

none_left : (xs ys : List (Option Refusal)) → first_session (xs ++ ys) ≡ None → first_session xs ≡ None
none_left [] ys e = refl
none_left (None ∷ xs) ys e = none_left xs ys e
none_left (Some x ∷ xs) ys e = absurd cc

not_stale : (b : Bool) (n : ℕ) → (if b then None else Some n) ≡ None → b ≡ true
not_stale true n e = refl
not_stale false n e = absurd cc

either : (a b : Bool) → (a || b) ≡ true → (a ≡ true) ⊎ (b ≡ true)
either true b e = inl refl
either false b e = inr e

module _ (r : Rules) (a : Answered) (path : SlotPath) (fit : AnswersFit (tree_of r) a) where
  slot_stands : first_session (slot_refusals r a path) ≡ None → IsTrue (stands (tree_of r) a (slot_of (tree_of r) path))
  slot_stands e =
      subst (λ (o : Option Refusal). IfOk (session_decided o (slot_of (tree_of r) path)) (λ s. IsTrue (stands (tree_of r) a s))) e
      (found_stands r a path (slot_found r a path) fit refl)

  named_stands : (x : SlotPath) → x ≡ path → first_session (slot_refusals r a x) ≡ None → IsTrue (stands (tree_of r) a (slot_of (tree_of r) path))
  named_stands x same e = slot_stands (ap (λ (y : SlotPath). first_session (slot_refusals r a y)) (sym same) ∙ e)

  pub edited_stands : (c : Command) → edited c ≡ Some path → first_session (absent_refusals r a c) ≡ None → IsTrue (stands (tree_of r) a (slot_of (tree_of r) path))
  edited_stands (commands.Set x text) is e = named_stands x (cc) e
  edited_stands (commands.Clear x) is e = named_stands x (cc) e
  edited_stands (commands.OpenList x) is e = named_stands x (cc) e
  edited_stands (commands.Remove x member) is e = named_stands x (cc) (none_left (slot_refusals r a x) _ e)
  edited_stands (commands.Override x text) is e = named_stands x (cc) e
  edited_stands (commands.Release x) is e = named_stands x (cc) e
  edited_stands c is e = absurd cc

pub edits_find_what_was_seen : EditsFindWhatWasSeen
edits_find_what_was_seen r is a fit ls p c path named said next e =
    let d = desk_ended r (desk_begun r a) ls in
    let s = slot_of (tree_of r) path in
    let last = stamp_of d.session_state.counts s in
    let recorded = recorded_all r is (desk_begun r a) (a ∷ []) ls (recorded_begun r is a fit) in
    let line = accepted_line r d p c (said, next) e in
    let none = early_none (first_session (absent_refusals r d.session_state.timeline.now c)) (stale_named (tree_of r) d p (edited c)) (owner d p c) line.0 in
    let here = edited_stands r d.session_state.timeline.now path recorded.fit.now c named none.0 in
    let fresh : stale d p s ≡ None = sym (ap (stale_named (tree_of r) d p) named) ∙ none.1 in
    recorded.same s here (d.last_seen p s) (seen_since p d s recorded.orderly (not_stale (nat_le last (d.last_seen p s) || is_party p (changer d.changers last)) last fresh)) (recorded.orderly.last_seen p s)
  where
    seen_since : (p : ℕ) (d : Desk) (s : Slot) → IsOrderly d → (nat_le (stamp_of d.session_state.counts s) (d.last_seen p s) || is_party p (changer d.changers (stamp_of d.session_state.counts s))) ≡ true
        → stamp_of d.session_state.counts s ≤ d.last_seen p s
    seen_since p d s orderly h = by (either _ _ h)
      where
        by : (nat_le (stamp_of d.session_state.counts s) (d.last_seen p s) ≡ true) ⊎ (is_party p (changer d.changers (stamp_of d.session_state.counts s)) ≡ true) → stamp_of d.session_state.counts s ≤ d.last_seen p s
        by (inl f) = leb-true (stamp_of d.session_state.counts s) (d.last_seen p s) f
        by (inr f) = orderly.own p s f
