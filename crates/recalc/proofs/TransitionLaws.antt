-- A loop over the slots that wait gives each its new result.
use Rattle.std.proofs.Common.{◌≡◌, ◌<◌, ◌≤◌, ℕ, Bool, true, false, not, ◌&&◌, ◌||◌, if◌then◌else◌, IsTrue, List, [], ◌∷◌, ◌++◌, Option, refl, sym, ap, ◌∙◌, arith}
use Rattle.fact_values.specs.declared.slot.Slot.{Slot}
use Rattle.dict_source.specs.Finding.{IsNumber}
use Rattle.three_state.specs.declared.res.Res.{Res}
use Rattle.answers.specs.Answered.{Answered}
use Rattle.dict_meaning.specs.Accepted.{Accepted, IsAccepted}
use Rattle.dict_meaning.specs.Feeds.{feeds}
use Rattle.dict_meaning.specs.Plain.{IsPlainBelow, plain, rank}
use Rattle.evaluation.specs.Results.{Results}
use Rattle.dict_meaning.specs.Slots.{slot_same, stands}
use Rattle.dict_meaning.proofs.FeedLaws.{feeds_fall}
use Rattle.dict_meaning.proofs.NumberLaws.{fact_within}
use Rattle.dict_meaning.proofs.PlainLaws.{no_result}
use Rattle.dict_meaning.proofs.SlotLaws.{fact_of_standing, slot_same-equal}
use Rattle.recalc.specs.Spread.{Spread, is_in}
use Rattle.recalc.specs.Marking.{IsLeast, IsMarked}
use Rattle.recalc.specs.Transitions.{AreResults, IsTransition, is_shielded}
use Rattle.recalc.proofs.SlotLists.{in_push}
use Rattle.recalc.proofs.MarkingLaws.{lower_settle, none_least, not_done_yet}

-- the fact of a slot that stands is one of the dictionary's
pub number_of_standing : (d : Accepted) (b : Answered) (s : Slot) → IsTrue (stands d.tree b s) → IsNumber d.tree.facts s.fact
number_of_standing d b s there =
    let here = fact_of_standing d.tree b s there in
    let within = fact_within d.tree.facts s.fact here.0 here.1 in
    (omega (arith, within.0), within.1)

-- ---- the results so far

module _ (d : Accepted) (b : Answered) (extended : Bool) (old : Results) (c : Spread) (p : IsTransition d b extended old c)
    (done : List Slot) (dirty : Slot → Bool) (m : IsMarked c done dirty) (results : Results) (are : AreResults d b old done results) where
  -- a slot that doesn't wait, and is of no higher rank than what waits, has its new result
  pub settled : (t : Slot) → dirty t ≡ false → IsLeast c dirty (c.rank t) → results t ≡ plain d b t
  settled t off least = at (stands d.tree b t) refl (is_in done t) refl
    where
      at : (x : Bool) → stands d.tree b t ≡ x → (y : Bool) → is_in done t ≡ y → results t ≡ plain d b t
      at x e true f = are t ∙ ap (λ z. if z then plain d b t else old t) f
      at false e false f = are t ∙ ap (λ z. if z then plain d b t else old t) f ∙ p.others t e ∙ sym (no_result d b t e)
      at true e false f =
          are t
          ∙ ap (λ z. if z then plain d b t else old t) f
          ∙ p.keeps t e (lower_settle c p.spreads done dirty m t (p.there t ∙ e) f off least)

  -- so a slot of the lowest rank that waits is evaluated over new results
  pub new_below : (s : Slot) → IsLeast c dirty (c.rank s) → IsPlainBelow d b (rank d s.fact) results
  new_below s least t known low =
      let lower : c.rank t < c.rank s = omega (arith, p.ranks t, p.ranks s, low) in
      settled t (none_least c dirty (c.rank s) t least lower) (λ w on. let h : c.rank s ≤ c.rank w = least w on in omega (arith, h, lower))

  -- once nothing waits, all results are new
  pub all_new : ((s : Slot) → dirty s ≡ false) → (s : Slot) → results s ≡ plain d b s
  all_new none s = settled s (none s) (λ w on. absurd (let off : dirty w ≡ false = none w in cc))

-- and they are still right once it is put there
pub turn_keeps_results :
    (d : Accepted) (b : Answered) (old : Results) (done : List Slot) (results next : Results) → AreResults d b old done results
    → (s : Slot) → ((q : Slot) → next q ≡ (if slot_same q s then plain d b s else results q)) → AreResults d b old (done ++ s ∷ []) next
turn_keeps_results d b old done results next are s put q =
    put q
    ∙ ap (λ r. if slot_same q s then plain d b s else r) (are q)
    ∙ choose (slot_same q s) (is_in done q) (plain d b s) (plain d b q) (old q) (λ e. ap (plain d b) (sym (slot_same-equal q s e)))
    ∙ ap (λ z. if z then plain d b q else old q) (sym (in_push done s q))
  where
    choose : (x y : Bool) (n r o : Option Res) → (x ≡ true → n ≡ r) → (if x then n else (if y then r else o)) ≡ (if y || x then r else o)
    choose true true n r o h = h refl
    choose true false n r o h = h refl
    choose false true n r o h = refl
    choose false false n r o h = refl

-- what a slot feeds that was just done has the result before, so it is shielded or not as it was
pub feeds_now :
    (names : List (List ℕ)) (d : Accepted) → IsAccepted names d → (b : Answered) (extended : Bool) (old : Results) (c : Spread) → IsTransition d b extended old c
    → (done : List Slot) (dirty : Slot → Bool) → IsMarked c done dirty → (s : Slot) → IsTrue (dirty s) → (next : Results) → AreResults d b old (done ++ s ∷ []) next
    → (q : Slot) → IsTrue (stands d.tree b q) → (feeds d.tree s q && not (is_shielded extended d b next q)) ≡ c.feeds s q
feeds_now names d accepted b extended old c p done dirty m s on next results q there = at (feeds d.tree s q) refl ∙ sym (p.fed s q there)
  where
    at : (x : Bool) → feeds d.tree s q ≡ x → (x && not (is_shielded extended d b next q)) ≡ (x && not (is_shielded extended d b old q))
    at false e = refl
    at true e =
        let fall : rank d s.fact < rank d q.fact = feeds_fall names d accepted s q e in
        let low : c.rank s < c.rank q = omega (arith, p.ranks s, p.ranks q, fall) in
        let same : next q ≡ old q = results q ∙ ap (λ z. if z then plain d b q else old q) (not_done_yet c done dirty m s on q low) in
        ap (λ r. not (is_shielded extended d b (λ t. r) q)) same
