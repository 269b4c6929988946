-- Texts of a kind, each of which is a carried text: at which line others are refused, and how they end.
use Rattle.save_file.proofs.Common.{AllByRecursion, BadSaved, Bool, CarriedRead, CarriedStage, CarriedText, EndsCarried, GivesLines, IsCarried, IsCarriedStage, IsOf, IsRefusedAt, IsTrue, AcceptedParts, Lines, List, LoadFault, Number, Opening, Option, Refuses, Result, Whole, [], ap, append-nil, arith, carried, carried_lines, end_line, false, inl, inr, joined, length, line_text, lines_of, map, next_line, opening_line, stage_lines, subst, suc, sym, text_of, texts_of, true, ℕ, ◌++◌, ◌+◌, ◌↔◌, ◌∙◌, ◌∷◌, ◌≡◌, ◌≢◌, ◌⊎◌}
use Rattle.saved_text.proofs.CarriedSteps.{left, more_left}
use Rattle.saved_text.proofs.LineTexts.{IsLine}
use Rattle.saved_text.proofs.TextLaws.{ended_joined, joined_ended}
use Rattle.saved_text.proofs.CarriedTexts.{are_lines}
use Rattle.saved_text.proofs.TextLaws as texts

-- ---- texts of a kind, each of which is a carried text

module _ (whose : Option AcceptedParts) {A : Type 0} (P : A → Type 0) (text : A → List (List ℕ)) (as_carried : (a : A) → P a → (c : CarriedText) × IsCarried c × IsOf whose c.lines × (text a ≡ carried_lines c))
    (stage : CarriedStage) (sound : IsCarriedStage stage) (found : A) (is_one : P found) (to_come : List (List ℕ)) (begun : text found ≡ texts_of stage ++ to_come)
    (bytes behind : List ℕ) (lines : lines_of bytes ≡ texts_of stage ++ lines_of behind) (number : ℕ) (counted : number ≡ length (texts_of stage) + 1) where
  abbrev pub IsText : List ℕ → Type 0
  IsText all = (a : A) × P a × (all ≡ joined (text a))

  each_line : (a : A) → P a → AllByRecursion IsLine (text a)
  each_line a is = let c = as_carried a is in subst (AllByRecursion IsLine) (sym c.3) (are_lines c.0 c.1)

  next : number ≡ suc (length (texts_of stage))
  next = omega (arith, counted)

  pub line_refused : (line : List ℕ) (more : List (List ℕ)) → lines_of behind ≡ line ∷ more → ((c : CarriedText) (rest : List (List ℕ)) → IsCarried c → IsOf whose c.lines → carried_lines c ≢ texts_of stage ++ line ∷ rest) → IsRefusedAt IsText bytes number
  line_refused line more at_line none =
      subst (IsRefusedAt IsText bytes) (sym next)
      (texts.refused_line P text each_line (texts_of stage) found is_one to_come begun bytes behind lines line more at_line
      (λ rest a is e. (let c = as_carried a is in none c.0 rest c.1 c.2 (sym c.3 ∙ e))))

  module _ (ended : behind ≡ []) (last : Bool) (tells : IsTrue last ↔ ((front : List ℕ) × (bytes ≡ front ++ 10 ∷ []))) where
    wanting : ((a : A) → P a → bytes ≡ joined (text a) → ⊥) → IsRefusedAt IsText bytes number
    wanting none = subst (IsRefusedAt IsText bytes) (sym next) (texts.wanting P text each_line (texts_of stage) found is_one to_come begun bytes behind lines ended none)

    -- a whole text ends in a newline
    pub not_whole : (((r : CarriedRead) → stage ≡ Whole r → ⊥) ⊎ (last ≡ false)) → IsRefusedAt IsText bytes number
    not_whole (inl other) = wanting (λ a is e.
        (let c = as_carried a is in
        let all = texts.whole_is P text each_line (texts_of stage) found is_one to_come begun bytes behind lines ended a is e in
        let whole = more_left stage c.0 (left stage sound c.0 c.1 [] (sym c.3 ∙ all ∙ sym (append-nil (texts_of stage)))) in
        other whole.0 whole.1))
    not_whole (inr no_end) = wanting (λ a is e.
        (let c = as_carried a is in
        let end = joined_ended opening_line (next_line c.0.next ∷ (map line_text c.0.lines ++ end_line ∷ [])) in
        let there : last ≡ true = tells.1 (end.0, e ∙ ap joined c.3 ∙ end.1) in
        absurd cc))

    pub whole_text : (r : CarriedRead) → stage ≡ Whole r → last ≡ true → bytes ≡ carried (text_of r)
    whole_text r is_whole is_last =
        let front = tells.0 is_last in
        let bytes_are : joined (lines_of bytes) ≡ bytes = ap (λ (t : List ℕ). joined (lines_of t)) front.1 ∙ ended_joined front.0 ∙ sym front.1 in
        let all = texts.all_read P text each_line (texts_of stage) found is_one to_come begun bytes behind lines ended in
        sym bytes_are ∙ ap joined all ∙ ap (λ (x : CarriedStage). joined (texts_of x)) is_whole

    pub finished : ((n : ℕ) → IsRefusedAt IsText bytes n → Refuses whose bytes (BadSaved n)) → IsOf whose (stage_lines stage) → (result : Result CarriedRead LoadFault) (s : CarriedStage) (b : Bool) → stage ≡ s → last ≡ b → EndsCarried s b number result → GivesLines whose bytes result
    finished refuses own result Opening b is_stage is_last e = subst (GivesLines whose bytes) (sym e) (refuses number (not_whole (inl (λ r f. (let g : Opening ≡ Whole r = sym is_stage ∙ f in absurd cc)))))
    finished refuses own result Number b is_stage is_last e = subst (GivesLines whose bytes) (sym e) (refuses number (not_whole (inl (λ r f. (let g : Number ≡ Whole r = sym is_stage ∙ f in absurd cc)))))
    finished refuses own result (Lines x) b is_stage is_last e = subst (GivesLines whose bytes) (sym e) (refuses number (not_whole (inl (λ r f. (let g : Lines x ≡ Whole r = sym is_stage ∙ f in absurd cc)))))
    finished refuses own result (Whole r) true is_stage is_last e =
        subst (GivesLines whose bytes) (sym e) (subst IsCarriedStage is_stage sound, whole_text r is_stage is_last, subst (λ (x : CarriedStage). IsOf whose (stage_lines x)) is_stage own)
    finished refuses own result (Whole r) false is_stage is_last e = subst (GivesLines whose bytes) (sym e) (refuses number (not_whole (inr is_last)))
