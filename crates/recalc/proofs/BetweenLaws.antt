-- The change from answers to answers spreads as a loop has to know, and the loop leaves what is defined.
use Rattle.std.proofs.Common.{◌≡◌, ℕ, Bool, true, false, not, ◌&&◌, ◌||◌, if◌then◌else◌, IsTrue, List, [], ◌∷◌, length, sum_by, None, is_some, refl, sym, ap, subst, ◌∙◌}
use Rattle.std.specs.List.{list_any}
use Rattle.common_lemmas.proofs.Bools.{and_true, both_left, both_right}
use Rattle.common_lemmas.proofs.Lists.{same_filter}
use Rattle.fact_values.specs.declared.slot.Slot.{Slot}
use Rattle.three_state.specs.Equality.{res_same}
use Rattle.three_state.proofs.EqualityLaws.{res_same-Decides}
use Rattle.evaluation.proofs.ResolvingLaws.{everywhere}
use Rattle.answers.specs.Answered.{Answered, value_of}
use Rattle.answers.specs.Change.{Change, applied}
use Rattle.answers.specs.declared.edit.Side.TheVariants.{Override}
use Rattle.dict_meaning.specs.Accepted.{Accepted, IsAccepted}
use Rattle.dict_meaning.specs.Extension.{both_same, extends, Extends}
use Rattle.dict_meaning.specs.Feeds.{feeds}
use Rattle.dict_meaning.specs.Final.{is_complete_in, is_final}
use Rattle.dict_meaning.specs.Plain.{plain}
use Rattle.dict_meaning.specs.Slots.{stands, standing}
use Rattle.dict_meaning.specs.Steady.{steady}
use Rattle.dict_meaning.specs.Touched.{has_moved, same_entry, touched, touches}
use Rattle.dict_meaning.specs.Undone.{is_extended, is_touched_first, IsUndone}
use Rattle.dict_meaning.proofs.ExtensionLaws.{equal_same, test_tells_extends}
use Rattle.dict_meaning.proofs.FeedLaws.{feeds_fall}
use Rattle.dict_meaning.proofs.PlainLaws.{standing_have_results}
use Rattle.dict_meaning.proofs.SlotLaws.{listed_stand}
use Rattle.dict_meaning.proofs.UndoneLaws.{extended_tells, first_tells}
use Rattle.dict_meaning.proofs.UntouchedLaws.{untouched_keeps}
use Rattle.recalc.specs.Spread.{is_in, is_touched}
use Rattle.recalc.specs.BetweenAnswers.{AllIsDone, AreBetween, between, ChangesSpread, EditMarks, results_before, SpreadTouches, TouchedWeigh, UndonePasses}
use Rattle.recalc.specs.Laws.{touched_of}
use Rattle.recalc.specs.Transitions.{IsTransition, is_shielded, moves}
use Rattle.recalc.proofs.MarkingLaws.{done_are_touched, start_marks}
use Rattle.recalc.proofs.StandingOnce.{standing_once}
use Rattle.recalc.proofs.WeighingLaws.{done_weigh_all, length_is}

-- ---- the exemption of a slot, taken out of what feeds it

fed_unless : (f m : Slot → Bool) (e : Bool) (ts : List Slot) → list_any (λ t. (f t && e) && m t) ts ≡ (list_any (λ t. f t && m t) ts && e)
fed_unless f m e [] = refl
fed_unless f m e (t ∷ ts) = ap (λ b. ((f t && e) && m t) || b) (fed_unless f m e ts) ∙ spread (f t) (m t) (list_any (λ t. f t && m t) ts) e
  where
    spread : (x y r e : Bool) → (((x && e) && y) || (r && e)) ≡ (((x && y) || r) && e)
    spread true true true true = refl
    spread true true true false = refl
    spread true true false true = refl
    spread true true false false = refl
    spread true false true true = refl
    spread true false true false = refl
    spread true false false true = refl
    spread true false false false = refl
    spread false y true true = refl
    spread false y true false = refl
    spread false y false true = refl
    spread false y false false = refl

pub spread_touches : SpreadTouches
spread_touches d a b s =
    ap (λ x. (not (stands d.tree a s) || not (same_entry a b s)) || x)
    (fed_unless (λ t. feeds d.tree t s) (has_moved d a b) (not (extends d.tree a b && is_final d a s)) (standing d.tree b))

-- ---- what a loop has to know

unmoved : (d : Accepted) (a b : Answered) (s : Slot) → plain d a s ≡ plain d b s → has_moved d a b s ≡ false
unmoved d a b s e = off (stands d.tree a s && stands d.tree b s) (both_same res_same (plain d a s) (plain d b s))
    (ap (both_same res_same (plain d a s)) (sym e) ∙ equal_same res_same res_same-Decides (plain d a s))
  where
    off : (x y : Bool) → y ≡ true → (x && not y) ≡ false
    off true y h = ap not h
    off false y h = refl

pub changes_spread : ChangesSpread
changes_spread names d a b is = record {
  listed = listed_stand d.tree b;
  rising = λ t s i. feeds_fall names d is.accepted t s (both_left (feeds d.tree t s) (not (extends d.tree a b && is_final d a s)) i);
  keeps = λ s there h.
      unmoved d a b s (untouched_keeps names d is.accepted a b is.before is.after s there (sym (spread_touches d a b s) ∙ h));
}

-- ---- the start

same_under : (t x y : Bool) → (t ≡ true → x ≡ y) → (t && x) ≡ (t && y)
same_under true x y h = h refl
same_under false x y h = refl

pub edit_marks : EditMarks
edit_marks names d accepted undo now is dirty h =
    start_marks (between d (applied undo now) now) dirty (λ s. h s
    ∙ sym (same_under (stands d.tree now s) (not (stands d.tree (applied undo now) s) || not (same_entry (applied undo now) now s)) (is_touched_first undo now s)
    (λ there. first_tells names d accepted undo now is s there)))

-- ---- the results before

before_some : (d : Accepted) (a b : Answered) (s : Slot) (x : Bool) → is_some (if x then plain d a s else None) ≡ (stands d.tree a s && x)
before_some d a b s true = standing_have_results d a s ∙ sym (and_true (stands d.tree a s))
before_some d a b s false = nowhere (stands d.tree a s)
  where
    nowhere : (y : Bool) → false ≡ (y && false)
    nowhere true = refl
    nowhere false = refl

before_moved : (d : Accepted) (a b : Answered) (s : Slot) → has_moved d a b s ≡ moves (results_before d a b s) (plain d b s)
before_moved d a b s =
    same_under (stands d.tree a s && stands d.tree b s) (not (both_same res_same (plain d a s) (plain d b s))) (not (both_same res_same (results_before d a b s) (plain d b s)))
    (λ both. ap (λ x. not (both_same res_same (if x then plain d a s else None) (plain d b s))) (sym (both_right (stands d.tree a s) (stands d.tree b s) both)))
    ∙ ap (λ x. x && not (both_same res_same (results_before d a b s) (plain d b s))) (sym (before_some d a b s (stands d.tree b s)))

-- an override is what it was where the answers extend those before
final_before : (names : List (List ℕ)) (d : Accepted) → IsAccepted names d → (undo : Change) (now : Answered) → IsUndone d undo now → (s : Slot) → IsTrue (stands d.tree now s)
    → (extends d.tree (applied undo now) now && is_final d (applied undo now) s) ≡ is_shielded (is_extended undo now) d now (results_before d (applied undo now) now) s
final_before names d accepted undo now u s there =
    ap (λ x. x && is_final d (applied undo now) s) shown
    ∙ same_under (is_extended undo now) (is_final d (applied undo now) s) (is_complete_in (results_before d (applied undo now) now s) && (is_some (value_of Override now s) || steady d s.fact))
    (λ kept_on. ap (λ o. is_complete_in (plain d (applied undo now) s) && (is_some o || steady d s.fact)) (sym ((kept kept_on).overrides s))
    ∙ ap (λ x. is_complete_in (if x then plain d (applied undo now) s else None) && (is_some (value_of Override now s) || steady d s.fact)) (sym there))
  where
    shown : extends d.tree (applied undo now) now ≡ is_extended undo now
    shown = extended_tells names d accepted undo now u

    kept : is_extended undo now ≡ true → Extends (applied undo now) now
    kept h = (test_tells_extends names d accepted (applied undo now) now u.before u.after).0 (shown ∙ h)

pub are_between : (names : List (List ℕ)) (d : Accepted) → IsAccepted names d → (undo : Change) (now : Answered) → IsUndone d undo now → AreBetween names d (applied undo now) now
are_between names d accepted undo now u = record { accepted = accepted; before = u.before; after = u.after }

undone_passes_from : (names : List (List ℕ)) (d : Accepted) → IsAccepted names d → (undo : Change) (now : Answered) → IsUndone d undo now
    → IsTransition d now (is_extended undo now) (results_before d (applied undo now) now) (between d (applied undo now) now)
undone_passes_from names d accepted undo now u = record {
  spreads = changes_spread names d (applied undo now) now (are_between names d accepted undo now u);
  once = standing_once d now u.after;
  there = λ s. refl;
  ranks = λ s. refl;
  fed = λ t s there. ap (λ x. feeds d.tree t s && not x) (final_before names d accepted undo now u s there);
  moved = before_moved d (applied undo now) now;
  keeps = λ s there h.
      ap (λ x. if x then plain d (applied undo now) s else None) there
      ∙ untouched_keeps names d accepted (applied undo now) now u.before u.after s there (sym (spread_touches d (applied undo now) now s) ∙ h);
  others = λ s off. ap (λ x. if x then plain d (applied undo now) s else None) off;
}

pub undone_passes : UndonePasses
undone_passes names d accepted undo now u old h =
    subst (λ results. IsTransition d now (is_extended undo now) results (between d (applied undo now) now)) (sym (everywhere h)) (undone_passes_from names d accepted undo now u)

-- ---- the end

same_touched : (d : Accepted) (a b : Answered) → touched_of (between d a b) ≡ touched d a b
same_touched d a b = same_filter (is_touched (between d a b)) (touches d a b) (spread_touches d a b) (standing d.tree b)

pub all_is_done : AllIsDone
all_is_done names d a b is done dirty m none =
    let laws = changes_spread names d a b is in
    let once = standing_once d b is.after in
    let slots : (s : Slot) → is_in done s ≡ (stands d.tree b s && touches d a b s) =
    (λ s. done_are_touched (between d a b) laws done dirty m none s ∙ ap (λ t. stands d.tree b s && t) (spread_touches d a b s)) in
    record {
      slots = slots;
      count = length_is done
          ∙ done_weigh_all (between d a b) laws once done dirty m none (λ _. 1)
          ∙ sym (length_is (touched_of (between d a b)))
          ∙ ap length (same_touched d a b);
      stamps = λ k stamps s there. ap (λ z. if z then k else stamps s) (slots s ∙ ap (λ t. t && touches d a b s) there);
    }

pub touched_weigh : TouchedWeigh
touched_weigh d a b weight = ap (sum_by weight) (same_touched d a b)
