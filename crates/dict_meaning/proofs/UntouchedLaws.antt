-- A slot that a change doesn't touch keeps its result.
use Rattle.std.proofs.Common.{◌≡◌, ◌⊎◌, inl, inr, ℕ, Bool, true, false, not, ◌&&◌, ◌||◌, IsTrue, List, [], ◌∷◌, Option, Some, None, refl, sym, ap, ◌∙◌}
use Rattle.std.specs.FinMap as map
use Rattle.std.specs.List.{list_any}
use Rattle.std.specs.Str.{bytes_eq}
use Rattle.std.proofs.lemmas.Bool.{not-false}
use Rattle.std.proofs.lemmas.Slice.Eq.{bytes_eq-Decides}
use Rattle.fact_values.specs.declared.slot.Slot.{Slot}
use Rattle.dict_source.specs.declared.mentions.Mention.{Mention}
use Rattle.dict_source.specs.Facts.{Fact, Stated, writable_list}
use Rattle.dict_source.specs.Finding.{fact_at}
use Rattle.three_state.specs.declared.res.Res.{Res}
use Rattle.three_state.specs.Equality.{res_same, value_same}
use Rattle.three_state.proofs.EqualityLaws.{res_same-Decides, value_same-Decides}
use Rattle.evaluation.specs.Mentioned.{AllOf}
use Rattle.common_lemmas.proofs.Bools.{both_left, both_right, or_left, or_neither, or_right}
use Rattle.answers.specs.Answered.{Answered, value_of}
use Rattle.answers.specs.declared.edit.Side.TheVariants.{Answer, Override}
use Rattle.dict_meaning.specs.Accepted.{Accepted, IsAccepted}
use Rattle.dict_meaning.specs.Extension.{both_same, extends}
use Rattle.dict_meaning.specs.Feeds.{feeds, mentions_of, speaks_of}
use Rattle.dict_meaning.specs.Final.{is_final}
use Rattle.dict_meaning.specs.Fits.{AnswersFit}
use Rattle.dict_meaning.specs.Homes.{home}
use Rattle.dict_meaning.specs.Plain.{at_fact, body, given_value, open_list, plain, plain_step, slot_result}
use Rattle.dict_meaning.specs.Dependencies.{outermost}
use Rattle.dict_meaning.specs.Slots.{stands}
use Rattle.dict_meaning.specs.Touched.{has_moved, is_fed, same_entry, UntouchedKeeps}
use Rattle.dict_meaning.proofs.ExtensionLaws.{same_option, test_tells_extends}
use Rattle.dict_meaning.proofs.FactMentions.{EachUse, uses_of_fact}
use Rattle.dict_meaning.proofs.FinalLaws.{final_stays}
use Rattle.dict_meaning.proofs.PlainLaws.{plain_is_recursive}
use Rattle.dict_meaning.proofs.ReadAgreement.{slot_same}
use Rattle.dict_meaning.proofs.SlotLaws.{fact_of_standing, none_stands}
use Rattle.dict_meaning.proofs.TargetAgreement.{IsReached, StandsInBoth, Stays, StaysBy, agree_under}

-- ---- from a fact on each slot that feeds to one on each mention

all_from : (s : Slot) (P : Slot → Type 0) (ms : List Mention) → ((t : Slot) → IsTrue (list_any (speaks_of t s) ms) → P t) → AllOf (λ m. (t : Slot) → IsTrue (speaks_of t s m) → P t) ms
all_from s P [] h = tt
all_from s P (m ∷ ms) h = (
  λ t k. h t (or_left (speaks_of t s m) (list_any (speaks_of t s) ms) k),
  all_from s P ms (λ t k. h t (or_right (speaks_of t s m) (list_any (speaks_of t s) ms) k)),
)

-- ---- a slot of which nothing differs, nor of what feeds it

pub record IsQuiet (d : Accepted) (a b : Answered) (s : Slot) : Type 0 where
  pub before : IsTrue (stands d.tree a s)
  pub after : IsTrue (stands d.tree b s)
  pub answer : value_of Answer a s ≡ value_of Answer b s
  pub override : value_of Override a s ≡ value_of Override b s
  pub list : map.get a.lists s.fact ≡ map.get b.lists s.fact
  pub fed : (t : Slot) → IsTrue (feeds d.tree t s) → Stays d a b t

given_same : (d : Accepted) (a b : Answered) (s : Slot) → IsQuiet d a b s → (stated : Stated) → given_value stated a s ≡ given_value stated b s
given_same d a b s q writable_list = ap open_list q.list
given_same d a b s q _ = q.answer

pub step_is : (d : Accepted) (a : Answered) (s : Slot) (f : Fact) → fact_at d.tree.facts s.fact ≡ Some f → IsTrue (stands d.tree a s) → plain_step d a (plain d a) s ≡ Some (slot_result d.tree a (plain d a) s f)
step_is d a s f e i = rw i (ap (λ (o : Option Fact). at_fact o None (λ (f : Fact). Some (slot_result d.tree a (plain d a) s f))) e)

module _ (names : List (List ℕ)) (d : Accepted) (accepted : IsAccepted names d) (a b : Answered) (before : AnswersFit d.tree a) (after : AnswersFit d.tree b) (s : Slot) (q : IsQuiet d a b s) where
  pub own : StandsInBoth a b (home d.tree s.fact) s.member
  own = ((fact_of_standing d.tree a s q.before).2, (fact_of_standing d.tree b s q.after).2)

  pub outside : IsReached d a b s (outermost s.member)
  outside = record { own = refl; inner = λ c e. absurd (let none : None ≡ Some c = e in cc) }

  pub uses : (f : Fact) → fact_at d.tree.facts s.fact ≡ Some f → EachUse d.tree s.fact (StaysBy d a b s) (body f) × EachUse d.tree s.fact (StaysBy d a b s) f.placeholder
  uses f e = uses_of_fact d.tree s.fact (StaysBy d a b s) f e (all_from s (Stays d a b) (mentions_of d.tree s.fact) q.fed)

  pub quiet_keeps : plain d a s ≡ plain d b s
  quiet_keeps =
      let f = fact_of_standing d.tree a s q.before in
      plain_is_recursive names d accepted a s
      ∙ step_is d a s f.0 f.1 q.before
      ∙ ap (λ (r : Res). Some r)
      (slot_same d.tree a b (plain d a) (plain d b) s (StaysBy d a b s) (IsReached d a b s) (agree_under names d accepted a b before after s own) outside f.0
      (record { value = given_same d a b s q f.0.stated; override = q.override }) (uses f.0 f.1))
      ∙ sym (step_is d b s f.0 f.1 q.after)
      ∙ sym (plain_is_recursive names d accepted b s)

-- ---- from the test to the facts

unmoved : (d : Accepted) (a b : Answered) (s t : Slot) → (feeds d.tree t s && has_moved d a b t) ≡ false → IsTrue (feeds d.tree t s) → Stays d a b t
unmoved d a b s t h f x y =
    same_option res_same (λ r r'. (res_same-Decides r r').0) (plain d a t) (plain d b t) (not-false (both_same res_same (plain d a t) (plain d b t)) (rw (f, x, y) at h))

quiet : (d : Accepted) (a b : Answered) (s : Slot) → IsTrue (stands d.tree a s) → IsTrue (stands d.tree b s) → IsTrue (same_entry a b s) → is_fed d a b s ≡ false → IsQuiet d a b s
quiet d a b s x y entry fed =
    let answer = both_same value_same (value_of Answer a s) (value_of Answer b s) in
    let override = both_same value_same (value_of Override a s) (value_of Override b s) in
    let list = both_same bytes_eq (map.get a.lists s.fact) (map.get b.lists s.fact) in
    let first : IsTrue (answer && override) = both_left (answer && override) list entry in
    record {
      before = x;
      after = y;
      answer = same_option value_same (λ v w. (value_same-Decides v w).0) (value_of Answer a s) (value_of Answer b s) (both_left answer override first);
      override = same_option value_same (λ v w. (value_same-Decides v w).0) (value_of Override a s) (value_of Override b s) (both_right answer override first);
      list = same_option bytes_eq (λ v w. (bytes_eq-Decides v w).0) (map.get a.lists s.fact) (map.get b.lists s.fact) (both_right (answer && override) list entry);
      fed = λ t f i j. unmoved d a b s t (none_stands d.tree b (λ t. feeds d.tree t s && has_moved d a b t) fed t j) f i j;
    }

final_keeps : (names : List (List ℕ)) (d : Accepted) → IsAccepted names d → (a b : Answered) → AnswersFit d.tree a → AnswersFit d.tree b → (s : Slot) → IsTrue (extends d.tree a b && is_final d a s) → plain d a s ≡ plain d b s
final_keeps names d accepted a b before after s h =
    let extended = both_left (extends d.tree a b) (is_final d a s) h in
    let final = both_right (extends d.tree a b) (is_final d a s) h in
    let kept = final_stays names d accepted a b (record { before = before; after = after; extends = (test_tells_extends names d accepted a b before after).0 extended }) s final in
    kept.1 ∙ sym kept.2

-- an untouched slot isn't fed, or it is exempt
unfed_or_exempt : (fed exempt : Bool) → (fed && not exempt) ≡ false → (fed ≡ false) ⊎ IsTrue exempt
unfed_or_exempt false exempt h = inl refl
unfed_or_exempt true exempt h = inr (not-false exempt h)

pub untouched_keeps : UntouchedKeeps
untouched_keeps names d accepted a b before after s y h =
    let new = not (stands d.tree a s) in
    let entry = not (same_entry a b s) in
    let exempt = extends d.tree a b && is_final d a s in
    let parts = or_neither (new || entry) (is_fed d a b s && not exempt) h in
    let first = or_neither new entry parts.0 in
    elim (unfed_or_exempt (is_fed d a b s) exempt parts.1) [
      | inl unfed ↦ quiet_keeps names d accepted a b before after s (quiet d a b s (not-false (stands d.tree a s) first.0) y (not-false (same_entry a b s) first.1) unfed)
      | inr final ↦ final_keeps names d accepted a b before after s final
    ]
