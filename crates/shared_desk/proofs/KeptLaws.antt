-- What is kept of a desk, at the start and behind a look.
use Rattle.std.proofs.Common.{◌≡◌, ℕ, ◌&&◌, Bool, true, false, nat_eq, if◌then◌else◌, List, [], ◌∷◌, ◌++◌, take, Option, Some, sym, ap, subst, ◌∙◌, arith}
use Rattle.std.specs.Prelude.{Result, Ok}
use Rattle.fact_paths.specs.declared.slot_path.SlotPath.{SlotPath}
use Rattle.fact_values.specs.declared.slot.Slot.{Slot}
use Rattle.script_lines.specs.declared.command.Command.{Command}
use Rattle.common_lemmas.proofs.Numbers.{nat_eq-comm}
use Rattle.answers.specs.Answered.{Answered}
use Rattle.dictionary.specs.AcceptedParts.{AcceptedParts, accepted}
use Rattle.dict_meaning.specs.Slots.{slot_same}
use Rattle.graph_session.specs.Naming.{slot_of}
use Rattle.graph_session.specs.Refusals.{first_of as first_session, slot_found, slot_refusals}
use Rattle.graph_session.specs.Rules.{rules, tree_of}
use Rattle.graph_session.specs.SessionView.{SessionView, begun, session_state, start_at}
use Rattle.graph_session.specs.declared.reply.Refusal.{Refusal}
use Rattle.graph_session.specs.declared.reply.Reply.{Reply}
use Rattle.graph_session.specs.Step.{is_change}
use Rattle.graph_session.proofs.StepLaws.{decided_ok}
use Rattle.shared_desk.specs.Desk.{desk_begun, is_shown, place_of, shown}
use Rattle.shared_desk.specs.DeskSteps.{HasStepped}
use Rattle.shared_desk.specs.DeskView.{DeskView, Keeps, StandsFor, rules_of}
use Rattle.shared_desk.specs.LastSeen.{Key, key_of, look_in, same_key}
use Rattle.shared_desk.specs.declared.refusal.DeskRefusal.{DeskRefusal}
use Rattle.shared_desk.proofs.LastSeenLaws.{zero_first}
use Rattle.shared_desk.proofs.OrderLaws.{order_begun}
use Rattle.shared_desk.proofs.StampLaws.{stamp_begun}
use Rattle.shared_desk.proofs.StepLaws.{shows_appends_none, shows_no_change}

-- a step from a desk is one from the same desk
pub stepped_from : (u v : DeskView) (p : ℕ) (c : Command) (answer : Result Reply DeskRefusal) (w : DeskView) → u ≡ v → HasStepped u p c answer w → HasStepped v p c answer w
stepped_from u v p c answer w e h = subst (λ (x : DeskView). HasStepped x p c answer w) e h

pub stands_begun : (k : AcceptedParts) (a : Answered) (v : DeskView) (stamps : Bool) → v.session ≡ start_at k a stamps → stamps ≡ true → v.changers ≡ [] → v.entries ≡ [] → v.asked ≡ [] → StandsFor v (desk_begun (rules k) a)
stands_begun k a v stamps e kept_stamps no_changers no_entries nothing_seen = record {
  orderly = order_begun (rules k) a;
  session_state = ap session_state e ∙ ap (begun (accepted k) a) kept_stamps;
  changers = no_changers;
  entries = no_entries;
  kept = λ p s. let none = no_results p s in omega (arith, none);
  last_seen = λ p s. zero_first _ 0 (look_in v.asked p s) _ (stamp_begun (accepted k) a s);
}
  where
    no_results : (p : ℕ) (s : Slot) → look_in v.asked p s ≡ 0
    no_results p s = ap (λ l. look_in l p s) nothing_seen

-- ---- a look

-- what shows a slot is no change, and its look is put
pub show_keeps : (v : DeskView) (w : SessionView) (p : ℕ) (c : Command) (path : SlotPath) (s : Slot) (asked : List (Key × ℕ)) (number : ℕ) → shown c ≡ Some path
    → ◌≡◌ {A = Result Slot Refusal} (Ok s) (slot_found (rules_of v) v.session.timeline.now path) → number ≡ v.session.changes
    → ((q : ℕ) (t : Slot) → look_in asked q t ≡ if same_key (key_of p s) (key_of q t) then number else look_in v.asked q t)
    → Keeps v p c (record { session = w; changers = v.changers; entries = v.entries; asked = asked })
show_keeps v w p c path s asked number is found now put = record {
  changers = sym (ap (λ (b : Bool). if b then v.changers ++ p ∷ [] else v.changers) none);
  entries = sym (ap (λ (b : Bool). if b then take (place_of (session_state v.session)) v.entries ++ p ∷ [] else v.entries) (shows_appends_none c path is));
  last_seen = λ q t. put q t ∙ (λ i. if at q t i then now i else look_in v.asked q t);
}
  where
    none : is_change c ≡ false
    none = shows_no_change c path is

    named : s ≡ slot_of (tree_of (rules_of v)) path
    named = (decided_ok (first_session (slot_refusals (rules_of v) v.session.timeline.now path)) (slot_of (tree_of (rules_of v)) path) s found).1

    at : (q : ℕ) (t : Slot) → same_key (key_of p s) (key_of q t) ≡ (nat_eq q p && is_shown (tree_of (rules_of v)) (shown c) t)
    at q t =
        ap (λ (b : Bool). b && slot_same s t) (nat_eq-comm p q)
        ∙ ap (λ (x : Slot). nat_eq q p && slot_same x t) named
        ∙ sym (ap (λ (o : Option SlotPath). nat_eq q p && is_shown (tree_of (rules_of v)) o t) is)
