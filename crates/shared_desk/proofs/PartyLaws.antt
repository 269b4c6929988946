-- What a list of lines does to the session.
use Rattle.std.proofs.Common.{◌≡◌, ℕ, zero, suc, ◌≤◌, ◌||◌, Bool, true, false, nat_le, if◌then◌else◌, List, [], ◌∷◌, ◌++◌, map, slice_get, take, Option, Some, None, refl, sym, ap, ◌∙◌, arith}
use Rattle.std.specs.Prelude.{Result, Ok, Err, option_map}
use Rattle.std.proofs.lemmas.Bool.{eq-eqb, le-leb}
use Rattle.fact_paths.specs.declared.slot_path.SlotPath.{SlotPath}
use Rattle.fact_values.specs.declared.slot.Slot.{Slot}
use Rattle.script_lines.specs.declared.command.Command.{Command}
use Rattle.script_lines.specs.declared.command.Command.TheVariants as commands
use Rattle.common_lemmas.proofs.Lists.{one_at}
use Rattle.graph_session.specs.Counts.{stamp_of}
use Rattle.graph_session.specs.Naming.{slot_of}
use Rattle.graph_session.specs.Refusals.{decided as session_decided, first_of as first_session}
use Rattle.graph_session.specs.Rules.{Rules, tree_of}
use Rattle.graph_session.specs.Run.{ended, next, replies, said}
use Rattle.graph_session.specs.SessionView.{SessionState}
use Rattle.graph_session.specs.Step.{is_change, refusal, reply, step}
use Rattle.graph_session.specs.declared.reply.Refusal.{Refusal}
use Rattle.graph_session.specs.declared.reply.Reply.{Reply}
use Rattle.graph_session.proofs.StepLaws.{accepted_step}
use Rattle.shared_desk.specs.Desk.{Desk, absent_refusals, appends, changer, session_state_after, desk_after, desk_begun, desk_refusal, desk_step, early, edited, entrant, entries_after, first_early, is_party, other, owner, place_of, stale, stale_named}
use Rattle.shared_desk.specs.DeskView.{IsOrderly}
use Rattle.shared_desk.specs.Parties.{AcceptedAreAnswered, OnePartyIsAlone, SessionIsOverAccepted, accepted_first, accepted_of, agreed_first, agreed_of, desk_ended, desk_next, desk_replies, desk_said, of_session}
use Rattle.shared_desk.specs.Refusals.{decided, first_of}
use Rattle.shared_desk.specs.declared.refusal.DeskRefusal.{DeskRefusal}
use Rattle.shared_desk.specs.declared.refusal.DeskRefusal.TheVariants.{Session}
use Rattle.shared_desk.proofs.Changers.{changer_at}
use Rattle.shared_desk.proofs.LastSeenLaws.{or_true}
use Rattle.shared_desk.proofs.OrderLaws.{order_begun, order_stays}
use Rattle.shared_desk.proofs.StepLaws.{absent_first, first_one}

-- ---- an accepted line

decided_as : {A : Type 0} (o : Option DeskRefusal) (x y : A) → decided o x ≡ Ok y → (o ≡ None) × (x ≡ y)
decided_as None x y e = (refl, cc)
decided_as (Some q) x y e = absurd cc

first_none : (a b : Option DeskRefusal) → first_of (a ∷ b ∷ []) ≡ None → (a ≡ None) × (b ≡ None)
first_none None None e = (refl, refl)
first_none None (Some q) e = absurd cc
first_none (Some q) b e = absurd cc

unmapped : (o : Option Refusal) → option_map Session o ≡ None → o ≡ None
unmapped None e = refl
unmapped (Some q) e = absurd cc

-- isn't refused early, and steps as the session does
pub accepted_line : (r : Rules) (d : Desk) (p : ℕ) (c : Command) (x : Reply × Desk) → desk_step r d p c ≡ Ok x
    → (early r d p c ≡ None) × ((x.1 ≡ desk_after r d p c) × (step r d.session_state c ≡ Ok (x.0, x.1.session_state)))
accepted_line r d p c x e =
    let parts = decided_as (desk_refusal r d p c) (reply r d.session_state c, desk_after r d p c) x e in
    let none = first_none (early r d p c) (option_map Session (refusal r d.session_state c)) parts.0 in (
      none.0,
      (
        sym (ap (λ (y : Reply × Desk). y.1) parts.1),
        ap (λ (o : Option Refusal). session_decided o (reply r d.session_state c, session_state_after r d.session_state c)) (unmapped (refusal r d.session_state c) none.1) ∙ ap recorded parts.1,
      ),
    )
  where
    recorded : Reply × Desk → Result (Reply × SessionState) Refusal
    recorded y = Ok (y.0, y.1.session_state)

-- ---- lines of several parties

pub session_is_over_accepted : SessionIsOverAccepted
session_is_over_accepted r d [] = refl
session_is_over_accepted r d (l ∷ ls) = at (desk_step r d l.0 l.1) refl (λ t. session_is_over_accepted r t ls)
  where
    at : (x : Result (Reply × Desk) DeskRefusal) → desk_step r d l.0 l.1 ≡ x → ((t : Desk) → (desk_ended r t ls).session_state ≡ ended r t.session_state (accepted_of r t ls))
        → (desk_ended r (desk_next d x) ls).session_state ≡ ended r d.session_state (accepted_first x l.1 (accepted_of r (desk_next d x) ls))
    at (Ok x) e rest = rest x.1 ∙ ap (λ (s : Result (Reply × SessionState) Refusal). ended r (next d.session_state s) (accepted_of r x.1 ls)) (sym (accepted_line r d l.0 l.1 x e).1.1)
    at (Err q) e rest = rest d

pub accepted_are_answered : AcceptedAreAnswered
accepted_are_answered r d [] = refl
accepted_are_answered r d (l ∷ ls) = at (desk_step r d l.0 l.1) refl (λ t. accepted_are_answered r t ls)
  where
    at : (x : Result (Reply × Desk) DeskRefusal) → desk_step r d l.0 l.1 ≡ x → ((t : Desk) → replies r t.session_state (accepted_of r t ls) ≡ agreed_of r t ls)
        → replies r d.session_state (accepted_first x l.1 (accepted_of r (desk_next d x) ls)) ≡ agreed_first x (agreed_of r (desk_next d x) ls)
    at (Ok x) e rest =
        ap (λ (s : Result (Reply × SessionState) Refusal). said s ∷ replies r (next d.session_state s) (accepted_of r x.1 ls)) (accepted_line r d l.0 l.1 x e).1.1
        ∙ ap (λ (rs : List (Result Reply Refusal)). Ok x.0 ∷ rs) (rest x.1)
    at (Err q) e rest = rest d

-- ---- lines of one party

-- all are the party's
abbrev AreAll : ℕ → List ℕ → Type 0
AreAll p xs = (n q : ℕ) → slice_get xs n ≡ Some q → q ≡ p

all_more : (p : ℕ) (xs : List ℕ) → AreAll p xs → AreAll p (xs ++ p ∷ [])
all_more p [] all zero q e = cc
all_more p [] all (suc n) q e = absurd cc
all_more p (x ∷ xs) all zero q e = all 0 q e
all_more p (x ∷ xs) all (suc n) q e = all_more p xs (λ m y f. all (suc m) y f) n q e

all_taken : (p m : ℕ) (xs : List ℕ) → AreAll p xs → AreAll p (take m xs)
all_taken p zero xs all n q e = absurd cc
all_taken p (suc m) [] all n q e = absurd cc
all_taken p (suc m) (x ∷ xs) all zero q e = all 0 q e
all_taken p (suc m) (x ∷ xs) all (suc n) q e = all_taken p m xs (λ k y f. all (suc k) y f) n q e

record IsAlone (p : ℕ) (d : Desk) : Type 0 where
  orderly : IsOrderly d
  changers : AreAll p d.changers
  entries : AreAll p d.entries

other_none : (p : ℕ) (o : Option ℕ) → ((q : ℕ) → o ≡ Some q → q ≡ p) → other p o ≡ None
other_none p None h = refl
other_none p (Some q) h = ap (λ (b : Bool). if b then None else Some q) (eq-eqb q p (h q refl))

entrant_own : (p : ℕ) (xs : List ℕ) (place : ℕ) → AreAll p xs → (q : ℕ) → entrant xs place ≡ Some q → q ≡ p
entrant_own p xs zero all q e = absurd cc
entrant_own p xs (suc n) all q e = all n q e

module _ (r : Rules) (p : ℕ) (d : Desk) (alone : IsAlone p d) where
  alone_stale : (s : Slot) → stale d p s ≡ None
  alone_stale s = ap (λ (b : Bool). if b then None else Some (stamp_of d.session_state.counts s)) (at (stamp_of d.session_state.counts s) (alone.orderly.stamps s))
    where
      at : (n : ℕ) → n ≤ d.session_state.changes → (nat_le n (d.last_seen p s) || is_party p (changer d.changers n)) ≡ true
      at zero low = ap (λ (b : Bool). b || is_party p (changer d.changers 0)) (le-leb 0 (d.last_seen p s) (omega arith))
      at (suc n) low =
          let count = alone.orderly.numbered in
          let there = one_at d.changers n (omega (arith, low, count)) in
          ap (λ (o : Option ℕ). nat_le (suc n) (d.last_seen p s) || is_party p o) (changer_at d.changers n ∙ there.1)
          ∙ ap (λ (b : Bool). nat_le (suc n) (d.last_seen p s) || b) (eq-eqb there.0 p (alone.changers n there.0 there.1))
          ∙ or_true (nat_le (suc n) (d.last_seen p s))

  alone_named : (o : Option SlotPath) → stale_named (tree_of r) d p o ≡ None
  alone_named None = refl
  alone_named (Some path) = alone_stale (slot_of (tree_of r) path)

  alone_owner : (c : Command) → owner d p c ≡ None
  alone_owner commands.Undo = other_none p (entrant d.entries (place_of d.session_state)) (entrant_own p d.entries (place_of d.session_state) alone.entries)
  alone_owner commands.Redo = other_none p (entrant d.entries (suc (place_of d.session_state))) (entrant_own p d.entries (suc (place_of d.session_state)) alone.entries)
  alone_owner c = refl

  alone_refusal : (c : Command) → desk_refusal r d p c ≡ option_map Session (refusal r d.session_state c)
  alone_refusal c =
      (λ i. first_of (first_early (absent_refusals r d.session_state.timeline.now c) (alone_named (edited c) i) (alone_owner c i) ∷ option_map Session (refusal r d.session_state c) ∷ []))
      ∙ at (first_session (absent_refusals r d.session_state.timeline.now c)) refl
    where
      at : (o : Option Refusal) → first_session (absent_refusals r d.session_state.timeline.now c) ≡ o
          → first_of (first_of (option_map Session o ∷ None ∷ None ∷ []) ∷ option_map Session (refusal r d.session_state c) ∷ []) ≡ option_map Session (refusal r d.session_state c)
      at None e = first_one (option_map Session (refusal r d.session_state c))
      at (Some q) e = sym (ap (option_map Session) (absent_first r d.session_state c q e))

  -- a session's answer, with the desk after it
  abbrev lifted : Command → Result (Reply × SessionState) Refusal → Result (Reply × Desk) DeskRefusal
  lifted c (Ok x) = Ok (x.0, desk_after r d p c)
  lifted c (Err q) = Err (Session q)

  alone_step : (c : Command) → desk_step r d p c ≡ lifted c (step r d.session_state c)
  alone_step c = ap (λ (o : Option DeskRefusal). decided o (reply r d.session_state c, desk_after r d p c)) (alone_refusal c) ∙ at (refusal r d.session_state c)
    where
      at : (o : Option Refusal) → decided (option_map Session o) (reply r d.session_state c, desk_after r d p c) ≡ lifted c (session_decided o (reply r d.session_state c, session_state_after r d.session_state c))
      at None = refl
      at (Some q) = refl

  alone_after : (c : Command) → IsAlone p (desk_after r d p c)
  alone_after c = record {
    orderly = order_stays r d p c alone.orderly;
    changers = chosen (is_change c);
    entries = appended c;
  }
    where
      chosen : (b : Bool) → AreAll p (if b then d.changers ++ p ∷ [] else d.changers)
      chosen true = all_more p d.changers alone.changers
      chosen false = alone.changers

      either : (b : Bool) → AreAll p (if b then take (place_of d.session_state) d.entries ++ p ∷ [] else d.entries)
      either true = all_more p (take (place_of d.session_state) d.entries) (all_taken p (place_of d.session_state) d.entries alone.entries)
      either false = alone.entries

      appended : (c : Command) → AreAll p (entries_after d.entries (place_of d.session_state) p c)
      appended c = either (appends c)

alone_replies : (r : Rules) (p : ℕ) (d : Desk) → IsAlone p d → (cs : List Command) → desk_replies r d (map (λ c. (p, c)) cs) ≡ map of_session (replies r d.session_state cs)
alone_replies r p d alone [] = refl
alone_replies r p d alone (c ∷ cs) =
    ap (λ (x : Result (Reply × Desk) DeskRefusal). desk_said x ∷ desk_replies r (desk_next d x) (map (λ c. (p, c)) cs)) (alone_step r p d alone c)
    ∙ at (step r d.session_state c) refl (λ t is. alone_replies r p t is cs)
  where
    at : (x : Result (Reply × SessionState) Refusal) → step r d.session_state c ≡ x → ((t : Desk) → IsAlone p t → desk_replies r t (map (λ c. (p, c)) cs) ≡ map of_session (replies r t.session_state cs))
        → desk_said (lifted r p d alone c x) ∷ desk_replies r (desk_next d (lifted r p d alone c x)) (map (λ c. (p, c)) cs) ≡ of_session (said x) ∷ map of_session (replies r (next d.session_state x) cs)
    at (Ok x) e rest =
        ap (λ (rs : List (Result Reply DeskRefusal)). Ok x.0 ∷ rs) (
        rest (desk_after r d p c) (alone_after r p d alone c)
        ∙ ap (λ (s : SessionState). map of_session (replies r s cs)) (sym (accepted_step r d.session_state x.1 c x.0 e).1.1))
    at (Err q) e rest = ap (λ (rs : List (Result Reply DeskRefusal)). Err (Session q) ∷ rs) (rest d alone)

pub one_party_is_alone : OnePartyIsAlone
one_party_is_alone r a p cs = alone_replies r p (desk_begun r a) (record { orderly = order_begun r a; changers = λ n q e. absurd cc; entries = λ n q e. absurd cc }) cs
