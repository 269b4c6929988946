-- Which edits are stale, by the changes that lines made.
use Rattle.std.proofs.Common.{◌≡◌, ◌⊎◌, inl, inr, ℕ, zero, suc, ◌+◌, ◌-◌, ◌<◌, ◌≤◌, Bool, true, false, ◌&&◌, ◌||◌, nat_eq, nat_le, if◌then◌else◌, IsTrue, List, [], ◌∷◌, ◌++◌, append_assoc, length, slice_get, Option, Some, None, refl, sym, ap, ◌∙◌, subst, arith}
use Rattle.std.specs.Prelude.{Result, Ok, Err, option_map}
use Rattle.std.proofs.lemmas.Bool.{eqb-false, leb-false, lt-leb}
use Rattle.std.proofs.lemmas.List.{append-nil}
use Rattle.fact_paths.specs.declared.slot_path.SlotPath.{SlotPath}
use Rattle.fact_values.specs.declared.slot.Slot.{Slot}
use Rattle.script_lines.specs.declared.command.Command.{Command}
use Rattle.common_lemmas.proofs.Bools.{neither_or, or_neither}
use Rattle.answers.specs.Answered.{Answered}
use Rattle.session_undo.specs.Timeline.{Timeline}
use Rattle.dict_meaning.specs.Slots.{stands}
use Rattle.dict_meaning.specs.Touched.{touches}
use Rattle.graph_session.specs.Counts.{stamp_of}
use Rattle.graph_session.specs.Naming.{slot_of}
use Rattle.graph_session.specs.Refusals.{first_of as first_session}
use Rattle.graph_session.specs.Rules.{Rules, tree_of}
use Rattle.graph_session.specs.SessionView.{moved}
use Rattle.graph_session.specs.Step.{is_change, refusal}
use Rattle.graph_session.specs.declared.reply.Refusal.{Refusal}
use Rattle.graph_session.specs.declared.reply.Reply.{Reply}
use Rattle.shared_desk.specs.Desk.{Desk, absent_refusals, changer, desk_after, desk_begun, desk_refusal, desk_step, edited, is_party, is_touched, owner, stale, stale_named}
use Rattle.shared_desk.specs.DeskView.{IsOrderly}
use Rattle.shared_desk.specs.Parties.{Line, desk_ended, desk_next}
use Rattle.shared_desk.specs.Refusals.{first_of}
use Rattle.shared_desk.specs.StaleRule.{AnothersChangeIsStale, IsEditOfStanding, IsAnothers, IsLastAnothers, MadeChange, StaleIsAnothersChange, made, made_by}
use Rattle.shared_desk.specs.declared.refusal.DeskRefusal.{DeskRefusal}
use Rattle.shared_desk.specs.declared.refusal.DeskRefusal.TheVariants.{NotYours, Session, Stale}
use Rattle.shared_desk.proofs.AfterLaws.{after_by, after_change, after_question}
use Rattle.common_lemmas.proofs.Lists.{get_last, get_left}
use Rattle.shared_desk.proofs.Changers.{one_more}
use Rattle.shared_desk.proofs.LastSeenLaws.{and_false}
use Rattle.shared_desk.proofs.OrderLaws.{order_begun, order_stays}
use Rattle.shared_desk.proofs.PartyLaws.{accepted_line}
use Rattle.shared_desk.proofs.SeenLaws.{desk_fits, edited_stands, untouched_stood}
use Rattle.shared_desk.proofs.StampLaws.{listed_after, stamp_begun}

-- ---- lists of changes

place_within : {A : Type 0} (xs : List A) (x : A) (k : ℕ) → slice_get xs k ≡ Some x → k < length xs
place_within [] x k e = absurd cc
place_within (y ∷ ys) x zero e = omega arith
place_within (y ∷ ys) x (suc k) e = let less = place_within ys x k e in omega (arith, less)

place_or : {A : Type 0} (xs : List A) (x y : A) (k : ℕ) → slice_get (xs ++ x ∷ []) k ≡ Some y → (slice_get xs k ≡ Some y) ⊎ (x ≡ y)
place_or [] x y zero e = inr cc
place_or [] x y (suc k) e = absurd cc
place_or (z ∷ zs) x y zero e = inl e
place_or (z ∷ zs) x y (suc k) e = place_or zs x y k e

parties_of : List MadeChange → List ℕ
parties_of [] = []
parties_of (m ∷ ms) = m.party ∷ parties_of ms

parties_more : (all : List MadeChange) (m : MadeChange) → parties_of (all ++ m ∷ []) ≡ parties_of all ++ m.party ∷ []
unfolding parties_of
parties_more [] m = refl
parties_more (x ∷ xs) m = ap (λ ps. x.party ∷ ps) (parties_more xs m)

party_at : (all : List MadeChange) (m : MadeChange) (k : ℕ) → slice_get all k ≡ Some m → slice_get (parties_of all) k ≡ Some m.party
unfolding parties_of
party_at [] m k e = absurd cc
party_at (x ∷ xs) m zero e = ap (option_map (λ (y : MadeChange). y.party)) e
party_at (x ∷ xs) m (suc k) e = party_at xs m k e

-- ---- the last change that touched a slot

-- no change after so many touched it, and the last of those did
record IsLastTouch (all : List MadeChange) (s : Slot) (n : ℕ) : Type 0 where
  within : (k : ℕ) (m : MadeChange) → slice_get all k ≡ Some m → IsTrue (m.touched s) → k < n
  by : 0 < n → (m : MadeChange) × ((slice_get all (n - 1) ≡ Some m) × IsTrue (m.touched s))

touch_none : (s : Slot) (n : ℕ) → n ≡ 0 → IsLastTouch [] s n
touch_none s n e = record { within = λ k m f t. absurd cc; by = λ some. absurd (omega (arith, e, some)) }

touch_made : (all : List MadeChange) (m : MadeChange) (s : Slot) → IsTrue (m.touched s) → IsLastTouch (all ++ m ∷ []) s (length all + 1)
touch_made all m s h = record {
  within = λ k x e t.
      let less = place_within (all ++ m ∷ []) x k e in
      let count = one_more all m (length all) refl in
      omega (arith, less, count);
  by = λ some.
      let at : (length all + 1) - 1 ≡ length all = omega arith in
      (m, (ap (slice_get (all ++ m ∷ [])) at ∙ get_last all m, h));
}

touch_kept : (all : List MadeChange) (m : MadeChange) (s : Slot) (n : ℕ) → m.touched s ≡ false → n ≤ length all → IsLastTouch all s n → IsLastTouch (all ++ m ∷ []) s n
touch_kept all m s n h low last = record {
  within = λ k x e t. earlier k x t (place_or all m x k e);
  by = λ some. let found = last.by some in (found.0, (get_left all (m ∷ []) (n - 1) (omega (arith, some, low)) ∙ found.1.0, found.1.1));
}
  where
    earlier : (k : ℕ) (x : MadeChange) → IsTrue (x.touched s) → (slice_get all k ≡ Some x) ⊎ (m ≡ x) → k < n
    earlier k x t (inl e) = last.within k x e t
    earlier k x t (inr e) = let not_touched : x.touched s ≡ false = sym (ap (λ (y : MadeChange). y.touched s) e) ∙ h in absurd cc

-- ---- what is recorded of the changes that were made

module _ (r : Rules) where
  -- their parties are the desk's, and each slot that stands has the number of the last that touched it
  record IsHistory (d : Desk) (all : List MadeChange) : Type 0 where
    orderly : IsOrderly d
    numbered : length all ≡ d.session_state.changes
    parties : parties_of all ≡ d.changers
    last : (s : Slot) → IsTrue (stands (tree_of r) d.session_state.timeline.now s) → IsLastTouch all s (stamp_of d.session_state.counts s)

  history_begun : (a : Answered) → IsHistory (desk_begun r a) []
  unfolding parties_of
  history_begun a = record {
    orderly = order_begun r a;
    numbered = refl;
    parties = refl;
    last = λ s here. touch_none s _ (stamp_begun r.accepted a s);
  }

  module _ (d : Desk) (all : List MadeChange) (p : ℕ) (c : Command) (recorded : IsHistory d all) where
    history_asked : IsOrderly (after_by r d p c false d.session_state) → IsHistory (after_by r d p c false d.session_state) (all ++ [])
    history_asked orderly = subst (IsHistory (after_by r d p c false d.session_state)) (sym (append-nil all)) (record {
      orderly = orderly;
      numbered = recorded.numbered;
      parties = recorded.parties;
      last = recorded.last;
    })

    abbrev made_to : Answered → MadeChange
    made_to b = record { party = p; touched = is_touched r.accepted d.session_state.timeline.now b }

    module _ (to : Timeline) where
      last_after : (s : Slot) → IsTrue (stands (tree_of r) to.now s) → (t : Bool) → touches r.accepted d.session_state.timeline.now to.now s ≡ t
          → IsLastTouch (all ++ made_to to.now ∷ []) s (stamp_of (moved r.accepted d.session_state to).counts s)
      last_after s here true e =
          let is : is_touched r.accepted d.session_state.timeline.now to.now s ≡ true = ap (λ (b : Bool). b && touches r.accepted d.session_state.timeline.now to.now s) here ∙ e in
          let stamp : stamp_of (moved r.accepted d.session_state to).counts s ≡ length all + 1 = listed_after r d.session_state to recorded.orderly.counted.0 recorded.orderly.counted.1 s here true e ∙ ap (λ (n : ℕ). n + 1) (sym recorded.numbered) in
          subst (IsLastTouch (all ++ made_to to.now ∷ []) s) (sym stamp) (touch_made all (made_to to.now) s is)
      last_after s here false e =
          let is : is_touched r.accepted d.session_state.timeline.now to.now s ≡ false = ap (λ (b : Bool). stands (tree_of r) to.now s && b) e ∙ and_false (stands (tree_of r) to.now s) in
          let stamp : stamp_of (moved r.accepted d.session_state to).counts s ≡ stamp_of d.session_state.counts s =
          listed_after r d.session_state to recorded.orderly.counted.0 recorded.orderly.counted.1 s here false e ∙ sym (ap (λ o. stamp_of o s) recorded.orderly.counted.1) in
          let low = recorded.orderly.stamps s in
          let count = recorded.numbered in
          let before = recorded.last s (untouched_stood r.accepted d.session_state.timeline.now to.now s e).0 in
          subst (IsLastTouch (all ++ made_to to.now ∷ []) s) (sym stamp) (touch_kept all (made_to to.now) s (stamp_of d.session_state.counts s) is (omega (arith, low, count)) before)

      history_changed : IsOrderly (after_by r d p c true (moved r.accepted d.session_state to)) → IsHistory (after_by r d p c true (moved r.accepted d.session_state to)) (all ++ made_to to.now ∷ [])
      history_changed orderly = record {
        orderly = orderly;
        numbered = one_more all (made_to to.now) d.session_state.changes recorded.numbered;
        parties = parties_more all (made_to to.now) ∙ ap (λ ps. ps ++ p ∷ []) recorded.parties;
        last = λ s here. last_after s here (touches r.accepted d.session_state.timeline.now to.now s) refl;
      }

    -- after one that is a change, or isn't
    abbrev Follows : Bool → Desk → Type 0
    Follows b y = IsHistory y (all ++ (if b then made_to y.session_state.timeline.now ∷ [] else []))

    -- an accepted line
    history_on : (x : Reply × Desk) → desk_step r d p c ≡ Ok x → IsHistory x.1 (all ++ made_by r d (p, c) (Ok x))
    history_on x e = subst (Follows (is_change c)) (sym (accepted_line r d p c x e).1.0) (at (is_change c) refl)
      where
        orderly : IsOrderly (desk_after r d p c)
        orderly = order_stays r d p c recorded.orderly

        at : (b : Bool) → is_change c ≡ b → Follows (is_change c) (desk_after r d p c)
        at true f =
            let to = after_change r d p c f in
            subst (λ (b : Bool). Follows b (desk_after r d p c)) (sym f) (subst (Follows true) (sym to.1) (history_changed to.0 (subst IsOrderly to.1 orderly)))
        at false f =
            let same = after_question r d p c f in
            subst (λ (b : Bool). Follows b (desk_after r d p c)) (sym f) (subst (Follows false) (sym same) (history_asked (subst IsOrderly same orderly)))

  -- and all lines
  history_all : (d : Desk) (all : List MadeChange) (ls : List Line) → IsHistory d all → IsHistory (desk_ended r d ls) (all ++ made r d ls)
  history_all d all [] recorded = subst (IsHistory d) (sym (append-nil all)) recorded
  history_all d all (l ∷ ls) recorded = at (desk_step r d l.0 l.1) refl (λ t more h. history_all t more ls h)
    where
      at : (x : Result (Reply × Desk) DeskRefusal) → desk_step r d l.0 l.1 ≡ x → ((t : Desk) (more : List MadeChange) → IsHistory t more → IsHistory (desk_ended r t ls) (more ++ made r t ls))
          → IsHistory (desk_ended r (desk_next d x) ls) (all ++ (made_by r d l x ++ made r (desk_next d x) ls))
      at (Ok x) e rest = subst (IsHistory (desk_ended r x.1 ls)) (append_assoc all (made_by r d l (Ok x)) (made r x.1 ls)) (rest x.1 (all ++ made_by r d l (Ok x)) (history_on d all l.0 l.1 recorded x e))
      at (Err q) e rest = rest d all recorded

  -- ---- a slot that stands

  module _ (d : Desk) (all : List MadeChange) (recorded : IsHistory d all) (p : ℕ) (s : Slot) (here : IsTrue (stands (tree_of r) d.session_state.timeline.now s)) where
    -- such a change is none after the stamp
    none_later : (k : ℕ) → IsAnothers all p (d.last_seen p s) s k → k ≤ stamp_of d.session_state.counts s
    none_later k another =
        let less = (recorded.last s here).within (k - 1) another.change another.number another.touched in
        let later = another.later in
        omega (arith, less, later)

    stale_by : (b : Bool) → is_party p (changer d.changers (stamp_of d.session_state.counts s)) ≡ b → d.last_seen p s < stamp_of d.session_state.counts s → stale d p s ≡ Some (stamp_of d.session_state.counts s)
    stale_by true e later = let seen = recorded.orderly.own p s e in absurd (omega (arith, seen, later))
    stale_by false e later =
        ap (λ (b : Bool). if b then None else Some (stamp_of d.session_state.counts s))
        (neither_or (nat_le (stamp_of d.session_state.counts s) (d.last_seen p s)) (is_party p (changer d.changers (stamp_of d.session_state.counts s))) (lt-leb (stamp_of d.session_state.counts s) (d.last_seen p s) later) e)

    -- where there is one, the slot is stale since its stamp
    another_stale : (k : ℕ) → IsAnothers all p (d.last_seen p s) s k → stale d p s ≡ Some (stamp_of d.session_state.counts s)
    another_stale k another =
        let low = none_later k another in
        let later = another.later in
        stale_by (is_party p (changer d.changers (stamp_of d.session_state.counts s))) refl (omega (arith, low, later))

    -- where the slot is stale, the stamp is the last one
    stale_parts : (b : Bool) (n : ℕ) → (if b then None else Some (stamp_of d.session_state.counts s)) ≡ Some n → (b ≡ false) × (stamp_of d.session_state.counts s ≡ n)
    stale_parts true n e = absurd cc
    stale_parts false n e = (refl, cc)

    last_another : nat_le (stamp_of d.session_state.counts s) (d.last_seen p s) ≡ false → is_party p (changer d.changers (stamp_of d.session_state.counts s)) ≡ false
        → IsLastAnothers all p (d.last_seen p s) s (stamp_of d.session_state.counts s)
    last_another e f =
        let later = leb-false (stamp_of d.session_state.counts s) (d.last_seen p s) e in
        let found = (recorded.last s here).by (omega (arith, later)) in
        let party : changer d.changers (stamp_of d.session_state.counts s) ≡ Some found.0.party =
        ap (λ ps. slice_get ps (stamp_of d.session_state.counts s - 1)) (sym recorded.parties) ∙ party_at all found.0 (stamp_of d.session_state.counts s - 1) found.1.0 in
        let other : nat_eq found.0.party p ≡ false = sym (ap (is_party p) party) ∙ f in
        record {
          anothers = record { change = found.0; number = found.1.0; other = eqb-false found.0.party p other; touched = found.1.1; later = later };
          last = none_later;
        }

    stale_another : (n : ℕ) → stale d p s ≡ Some n → IsLastAnothers all p (d.last_seen p s) s n
    stale_another n e =
        let own = is_party p (changer d.changers (stamp_of d.session_state.counts s)) in
        let seen = nat_le (stamp_of d.session_state.counts s) (d.last_seen p s) in
        let parts = stale_parts (seen || own) n e in
        let neither = or_neither seen own parts.0 in
        subst (IsLastAnothers all p (d.last_seen p s) s) parts.1 (last_another neither.0 neither.1)

    -- and the last one is the stamp
    another_named : (n : ℕ) → IsLastAnothers all p (d.last_seen p s) s n → stale d p s ≡ Some n
    another_named n last =
        let is = another_stale n last.anothers in
        let high = none_later n last.anothers in
        let low = last.last (stamp_of d.session_state.counts s) (stale_another (stamp_of d.session_state.counts s) is).anothers in
        let same : stamp_of d.session_state.counts s ≡ n = omega (arith, high, low) in
        is ∙ ap Some same

-- ---- the refusal

abbrev refused_of : Option Refusal → Option ℕ → Option ℕ → Option Refusal → Option DeskRefusal
refused_of o n q x = first_of (first_of (option_map Session o ∷ option_map Stale n ∷ option_map NotYours q ∷ []) ∷ option_map Session x ∷ [])

refused_stale : (o : Option Refusal) (l q : Option ℕ) (x : Option Refusal) (n : ℕ) → refused_of o l q x ≡ Some (Stale n) → (o ≡ None) × (l ≡ Some n)
refused_stale None (Some m) q x n e = (refl, cc)
refused_stale None None (Some y) x n e = absurd cc
refused_stale None None None None n e = absurd cc
refused_stale None None None (Some y) n e = absurd cc
refused_stale (Some y) l q x n e = absurd cc

stale_refused : (o : Option Refusal) (l q : Option ℕ) (x : Option Refusal) (n : ℕ) → o ≡ None → l ≡ Some n → refused_of o l q x ≡ Some (Stale n)
stale_refused o l q x n e f = λ i. refused_of (e i) (f i) q x

module _ (r : Rules) (d : Desk) (p : ℕ) (c : Command) (path : SlotPath) (there : IsEditOfStanding r d c path) (n : ℕ) where
  edit_refused : stale d p (slot_of (tree_of r) path) ≡ Some n → desk_refusal r d p c ≡ Some (Stale n)
  edit_refused e =
      stale_refused (first_session (absent_refusals r d.session_state.timeline.now c)) (stale_named (tree_of r) d p (edited c)) (owner d p c) (refusal r d.session_state c) n
      there.there (ap (stale_named (tree_of r) d p) there.edits ∙ e)

-- what a refusal as stale says
refused_edit : (r : Rules) (d : Desk) (p : ℕ) (c : Command) (n : ℕ) → desk_refusal r d p c ≡ Some (Stale n) → (path : SlotPath) × (IsEditOfStanding r d c path × (stale d p (slot_of (tree_of r) path) ≡ Some n))
refused_edit r d p c n e =
    let parts = refused_stale (first_session (absent_refusals r d.session_state.timeline.now c)) (stale_named (tree_of r) d p (edited c)) (owner d p c) (refusal r d.session_state c) n e in
    named parts.0 (edited c) refl parts.1
  where
    named : first_session (absent_refusals r d.session_state.timeline.now c) ≡ None → (o : Option SlotPath) → edited c ≡ o → stale_named (tree_of r) d p o ≡ Some n
        → (path : SlotPath) × (IsEditOfStanding r d c path × (stale d p (slot_of (tree_of r) path) ≡ Some n))
    named none None f g = absurd cc
    named none (Some path) f g = (path, (record { edits = f; there = none }, g))

-- ---- the laws

pub stale_is_anothers_change : StaleIsAnothersChange
stale_is_anothers_change r is a fit ls p c n =
    let d = desk_ended r (desk_begun r a) ls in
    let all = made r (desk_begun r a) ls in
    let recorded = history_all r (desk_begun r a) [] ls (history_begun r a) in
    let fits = desk_fits r is a fit ls in (
      λ e.
          let edit = refused_edit r d p c n e in
          let here = edited_stands r d.session_state.timeline.now edit.0 fits c edit.1.0.edits edit.1.0.there in
          (edit.0, (edit.1.0, stale_another r d all recorded p (slot_of (tree_of r) edit.0) here n edit.1.1)),
      λ x.
          let here = edited_stands r d.session_state.timeline.now x.0 fits c x.1.0.edits x.1.0.there in
          edit_refused r d p c x.0 x.1.0 n (another_named r d all recorded p (slot_of (tree_of r) x.0) here n x.1.1),
    )

pub anothers_change_is_stale : AnothersChangeIsStale
anothers_change_is_stale r is a fit ls p c path n there another =
    let d = desk_ended r (desk_begun r a) ls in
    let all = made r (desk_begun r a) ls in
    let recorded = history_all r (desk_begun r a) [] ls (history_begun r a) in
    let here = edited_stands r d.session_state.timeline.now path (desk_fits r is a fit ls) c there.edits there.there in
    let s = slot_of (tree_of r) path in
    (stamp_of d.session_state.counts s, edit_refused r d p c path there (stamp_of d.session_state.counts s) (another_stale r d all recorded p s here n another))
