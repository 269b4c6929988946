-- The answers at the start of a run: where they come from, and that they are given or refused in one way alone.
use Rattle.std.proofs.Common.{◌≡◌, ℕ, ◌≤◌, List, length, inl, inr, refl, sym, ap, subst, ◌∙◌, arith}
use Rattle.fg_io.specs.Outside.{MayHold, Contents, missing}
use Rattle.value_text.specs.Enums.{AreLists}
use Rattle.dict_meaning.specs.Accepted.{IsAccepted}
use Rattle.dict_meaning.specs.Fits.{AnswersFit}
use Rattle.dict_meaning.proofs.FitStart.{start_fits}
use Rattle.graph_session.specs.Rules.{Rules, tree_of}
use Rattle.saved_text.specs.CarriedText.{CarriedText, IsCarriedText}
use Rattle.save_file.specs.Carrying.{IsCarryOf, dropped_numbers}
use Rattle.save_file.specs.Dropped.{dropped_keys}
use Rattle.save_file.specs.Loading.{IsSavedText}
use Rattle.save_file.proofs.CarryLaws.{one_carry}
use Rattle.saved_text.proofs.CarriedTexts.{one_text}
use Rattle.saved_text.proofs.RefusedLaws.{refused_at_one}
use Rattle.save_file.proofs.SameTexts.{one_saved}
use Rattle.interview_ends.specs.Beginnings.{Basis, Brings, IsBadText, IsCarriedAs, IsRefusedStart, IsStart, MayBring, Start, no_text, saved_limit, to_carry, to_load}
use Rattle.interview_ends.specs.Origins.{Beginning, by_carry, by_load, unanswered}
use Rattle.interview.specs.Words.{IsFrom}

-- ---- what they come from

module _ (contents : List ℕ → Contents) where
  pub known_basis : (b : Beginning) (known may : Basis) → Brings contents b known → MayBring contents b may → may ≡ known
  known_basis unanswered no_text no_text is held = refl
  known_basis unanswered no_text may is held = absurd held
  known_basis unanswered known may is held = absurd is
  known_basis (by_load name) (to_load bytes) (to_load other) is held = ap to_load (sym (subst (λ t. MayHold t other) is held))
  known_basis (by_load name) (to_load bytes) may is held = absurd held
  known_basis (by_load name) known may is held = absurd is
  known_basis (by_carry name) (to_carry bytes) (to_carry other) is held = ap to_carry (sym (subst (λ t. MayHold t other) is held))
  known_basis (by_carry name) (to_carry bytes) may is held = absurd held
  known_basis (by_carry name) known may is held = absurd is

  -- nothing comes from a text that isn't there
  pub nothing_brought : (b : Beginning) (name : List ℕ) (may : Basis) → IsFrom b name → contents name ≡ missing → MayBring contents b may → ⊥
  nothing_brought (by_load saved) name (to_load bytes) from none held = subst (λ t. MayHold t bytes) (ap contents from ∙ none) held
  nothing_brought (by_carry saved) name (to_carry bytes) from none held = subst (λ t. MayHold t bytes) (ap contents from ∙ none) held
  nothing_brought unanswered name may from none held = from
  nothing_brought (by_load saved) name may from none held = held
  nothing_brought (by_carry saved) name may from none held = held

  -- where no saved text is named, none is refused
  pub none_refused : (b : Beginning) (may : Basis) (r : Rules) (n : ℕ) → b ≡ unanswered → MayBring contents b may → IsRefusedStart r may n → ⊥
  none_refused unanswered no_text r n is held refused = refused
  none_refused unanswered may r n is held refused = absurd held
  none_refused (by_load name) may r n is held refused = cc
  none_refused (by_carry name) may r n is held refused = cc

-- ---- a text is refused at one line, or is none

bad_at_one : (IsText : List ℕ → Type 0) (bytes : List ℕ) (n m : ℕ) → IsBadText IsText bytes n → IsBadText IsText bytes m → n ≡ m
bad_at_one IsText bytes n m (inl (long, is)) (inl (other, is_other)) = is ∙ sym is_other
bad_at_one IsText bytes n m (inl (long, is)) (inr (short, refused)) = absurd (omega (arith, long, short))
bad_at_one IsText bytes n m (inr (short, refused)) (inl (long, is)) = absurd (omega (arith, long, short))
bad_at_one IsText bytes n m (inr (short, refused)) (inr (short_too, other)) = refused_at_one IsText bytes n m refused other

pub one_refusal : (r : Rules) (basis : Basis) (n m : ℕ) → IsRefusedStart r basis n → IsRefusedStart r basis m → n ≡ m
one_refusal r no_text n m h k = absurd h
one_refusal r (to_load bytes) n m h k = bad_at_one (IsSavedText (tree_of r)) bytes n m h k
one_refusal r (to_carry bytes) n m h k = bad_at_one IsCarriedText bytes n m h k

not_bad : (IsText : List ℕ → Type 0) (bytes : List ℕ) (n : ℕ) → length bytes ≤ saved_limit → IsText bytes → IsBadText IsText bytes n → ⊥
not_bad IsText bytes n short is (inl (long, zero)) = omega (arith, long, short)
not_bad IsText bytes n short is (inr (short_too, refused)) = refused.text is

pub start_is_not_refused : (r : Rules) (basis : Basis) (s : Start) (n : ℕ) → IsStart r basis s → IsRefusedStart r basis n → ⊥
start_is_not_refused r no_text s n is refused = refused
start_is_not_refused r (to_load bytes) s n is refused = not_bad (IsSavedText (tree_of r)) bytes n is.0 (s.answers, is.1.fit, is.1.spelled) refused
start_is_not_refused r (to_carry bytes) s n is refused = not_bad IsCarriedText bytes n is.0 (is.1.text, is.1.is_carried, is.1.spelled) refused

-- ---- a script begins in one way

same_start : (s t : Start) → s.answers ≡ t.answers → s.front ≡ t.front → s ≡ t
same_start s t a b = λ i. record { answers = a i; front = b i }

carry_of : (r : Rules) (bytes : List ℕ) (s : Start) (h : IsCarriedAs r bytes s) → IsCarryOf r h.text s.answers (dropped_numbers r h.text.lines)
carry_of r bytes s h = record { kept = h.kept; fit = h.fit; others = refl }

carried_one : (r : Rules) (bytes : List ℕ) (s t : Start) → IsCarriedAs r bytes s → IsCarriedAs r bytes t → s ≡ t
carried_one r bytes s t h k =
    let text = one_text h.text k.text h.is_carried k.is_carried (sym h.spelled ∙ k.spelled) in
    let both = one_carry r bytes s.answers t.answers (dropped_numbers r h.text.lines) (dropped_numbers r k.text.lines) (h.text, h.is_carried, h.spelled, carry_of r bytes s h) (k.text, k.is_carried, k.spelled, carry_of r bytes t k) in
    same_start s t both.0 (h.front ∙ ap (λ (c : CarriedText). dropped_keys r c.lines) text ∙ sym k.front)

pub one_start : (names : List (List ℕ)) (r : Rules) → IsAccepted names r.accepted → AreLists (tree_of r).enums → (basis : Basis) (s t : Start) → IsStart r basis s → IsStart r basis t → s ≡ t
one_start names r is enums no_text s t h k = h ∙ sym k
one_start names r is enums (to_load bytes) s t h k = same_start s t (one_saved names r.accepted is enums s.answers t.answers h.1.fit k.1.fit (sym h.1.spelled ∙ k.1.spelled)) (h.1.front ∙ sym k.1.front)
one_start names r is enums (to_carry bytes) s t h k = carried_one r bytes s t h.1 k.1

-- ---- the answers fit

pub fits_at_start : (r : Rules) (basis : Basis) (s : Start) → IsStart r basis s → AnswersFit (tree_of r) s.answers
fits_at_start r no_text s is = subst (λ (t : Start). AnswersFit (tree_of r) t.answers) (sym is) (start_fits (tree_of r))
fits_at_start r (to_load bytes) s is = is.1.fit
fits_at_start r (to_carry bytes) s is = is.1.fit
