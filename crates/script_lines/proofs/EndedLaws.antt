-- Laws of the lines that have ended, whatever follows them.
use Rattle.std.proofs.Common.{◌≡◌, ◌≢◌, ℕ, List, [], ◌∷◌, ◌++◌, refl, sym, ◌∙◌, ap, subst, inl, inr, append_assoc}
use Rattle.std.specs.Prelude.{map}
use Rattle.std.proofs.lemmas.Bool.{cases_eq}
use Rattle.std.proofs.lemmas.List.{append-nil, map-append, same_from_push}
use Rattle.std.proofs.lemmas.List.Elements.{All-nil, All-cons, All-head, All-tail}
use Rattle.script_lines.specs.Lines.{ScriptLine, lines_of, ended_of, line_of, script_lines, ended_lines, onto_first, onto_ended, HasNoNewline}
use Rattle.script_lines.proofs.Bytes.{at_byte, at_other, lines_of-newline, ended_of-newline}

-- bytes whose ended lines are these, and what they hold behind the last newline
record Cut (bytes : List ℕ) (ended : List (List ℕ)) : Type 0 where
  pub held : List ℕ
  pub no_newline : HasNoNewline held
  pub lines_go_on : (more : List ℕ) → lines_of (bytes ++ more) ≡ ended ++ lines_of (held ++ more)
  pub ended_goes_on : (more : List ℕ) → ended_of (bytes ++ more) ≡ ended ++ ended_of (held ++ more)

cut_newline : (b : ℕ) (bytes : List ℕ) (ended : List (List ℕ)) → b ≡ 10 → Cut bytes ended → Cut (b ∷ bytes) ([] ∷ ended)
cut_newline b bytes ended is cut = record {
  held = cut.held;
  no_newline = cut.no_newline;
  lines_go_on = λ more. at_byte 10 b _ _ is ∙ ap (λ lines. [] ∷ lines) (cut.lines_go_on more);
  ended_goes_on = λ more. at_byte 10 b _ _ is ∙ ap (λ lines. [] ∷ lines) (cut.ended_goes_on more);
}

-- another byte goes before the first ended line, or before what is held
cut_other : (b : ℕ) (bytes : List ℕ) (ended : List (List ℕ)) → b ≢ 10 → Cut bytes ended → Cut (b ∷ bytes) (onto_ended b ended)
cut_other b bytes [] apart cut = record {
  held = b ∷ cut.held;
  no_newline = All-cons (λ b. b ≢ 10) b cut.held apart cut.no_newline;
  lines_go_on = λ more. at_other 10 b _ _ apart ∙ ap (onto_first b) (cut.lines_go_on more) ∙ sym (at_other 10 b _ _ apart);
  ended_goes_on = λ more. at_other 10 b _ _ apart ∙ ap (onto_ended b) (cut.ended_goes_on more) ∙ sym (at_other 10 b _ _ apart);
}
cut_other b bytes (line ∷ lines) apart cut = record {
  held = cut.held;
  no_newline = cut.no_newline;
  lines_go_on = λ more. at_other 10 b _ _ apart ∙ ap (onto_first b) (cut.lines_go_on more);
  ended_goes_on = λ more. at_other 10 b _ _ apart ∙ ap (onto_ended b) (cut.ended_goes_on more);
}

cut : (bytes : List ℕ) → Cut bytes (ended_of bytes)
cut [] = record { held = []; no_newline = All-nil (λ b. b ≢ 10); lines_go_on = λ more. refl; ended_goes_on = λ more. refl }
cut (b ∷ bytes) = elim (cases_eq b 10) [
  | inl is ↦ subst (Cut (b ∷ bytes)) (sym (at_byte 10 b _ _ is)) (cut_newline b bytes (ended_of bytes) is (cut bytes))
  | inr apart ↦ subst (Cut (b ∷ bytes)) (sym (at_other 10 b _ _ apart)) (cut_other b bytes (ended_of bytes) apart (cut bytes))
]

-- bytes that follow leave the ended lines as they are
pub ended_goes_on : (bytes more : List ℕ) → (rest : List ScriptLine) × (ended_lines (bytes ++ more) ≡ ended_lines bytes ++ rest)
ended_goes_on bytes more = (_, ap (map line_of) ((cut bytes).ended_goes_on more) ∙ map-append line_of (ended_of bytes) _)

-- they are the first lines of the script
pub lines_go_on : (bytes more : List ℕ) → (rest : List ScriptLine) × (script_lines (bytes ++ more) ≡ ended_lines bytes ++ rest)
lines_go_on bytes more = (_, ap (map line_of) ((cut bytes).lines_go_on more) ∙ map-append line_of (ended_of bytes) _)

-- a newline ends what is held
lines_of-push : (bytes : List ℕ) → lines_of (bytes ++ 10 ∷ []) ≡ ended_of bytes ++ (cut bytes).held ∷ []
lines_of-push bytes =
    let split = cut bytes in
    split.lines_go_on (10 ∷ []) ∙ ap (λ lines. ended_of bytes ++ lines) (lines_of-newline split.held [] split.no_newline)

ended_of-push : (bytes : List ℕ) → ended_of (bytes ++ 10 ∷ []) ≡ ended_of bytes ++ (cut bytes).held ∷ []
ended_of-push bytes =
    let split = cut bytes in
    split.ended_goes_on (10 ∷ []) ∙ ap (λ lines. ended_of bytes ++ lines) (ended_of-newline split.held [] split.no_newline)

-- after a newline each line has ended
pub ended_after_newline : (bytes : List ℕ) → script_lines (bytes ++ 10 ∷ []) ≡ ended_lines (bytes ++ 10 ∷ [])
ended_after_newline bytes = ap (map line_of) (lines_of-push bytes ∙ sym (ended_of-push bytes))

script_lines-push : (bytes : List ℕ) → script_lines (bytes ++ 10 ∷ []) ≡ ended_lines bytes ++ line_of (cut bytes).held ∷ []
script_lines-push bytes = ap (map line_of) (lines_of-push bytes) ∙ map-append line_of (ended_of bytes) ((cut bytes).held ∷ [])

-- bytes that go on as these lines and other bytes do have ended as many lines
pub ended_follows : (bytes behind : List ℕ) (lines : List ScriptLine)
    → ((more : List ℕ) → script_lines (bytes ++ more) ≡ lines ++ script_lines (behind ++ more)) → ended_lines bytes ≡ lines ++ ended_lines behind
ended_follows bytes behind lines stream =
    let by_newline : ended_lines bytes ++ line_of (cut bytes).held ∷ [] ≡ (lines ++ ended_lines behind) ++ line_of (cut behind).held ∷ [] =
    sym (script_lines-push bytes)
    ∙ stream (10 ∷ [])
    ∙ ap (λ found. lines ++ found) (script_lines-push behind)
    ∙ sym (append_assoc lines (ended_lines behind) (line_of (cut behind).held ∷ [])) in
    (same_from_push (ended_lines bytes) (lines ++ ended_lines behind) (line_of (cut bytes).held) (line_of (cut behind).held) by_newline).0

-- nothing has ended where there is no newline
pub none_ended : (bytes : List ℕ) → HasNoNewline bytes → ended_lines bytes ≡ []
none_ended [] none = refl
none_ended (b ∷ bytes) none =
    ap (map line_of) (at_other 10 b _ _ (All-head (λ b. b ≢ 10) b bytes none)) ∙ onto_none bytes (none_ended bytes (All-tail (λ b. b ≢ 10) b bytes none))
  where
    onto_none : (bytes : List ℕ) → ended_lines bytes ≡ [] → map line_of (onto_ended b (ended_of bytes)) ≡ []
    onto_none bytes is = elim (ended_of bytes) as (λ lines. map line_of lines ≡ [] → map line_of (onto_ended b lines) ≡ []) [ [] ↦ λ e. refl | line ∷ lines ↦ λ e. cc ] is

-- the lines that are ready of bytes, however they go on, are their ended lines
pub ready_lines_are_ended : (bytes so_far : List ℕ) (lines : List ScriptLine) → HasNoNewline so_far
    → ((more : List ℕ) → script_lines (bytes ++ more) ≡ lines ++ script_lines (so_far ++ more)) → lines ≡ ended_lines bytes
ready_lines_are_ended bytes so_far lines none stream =
    sym (ended_follows bytes so_far lines stream ∙ ap (λ found. lines ++ found) (none_ended so_far none) ∙ append-nil lines)
