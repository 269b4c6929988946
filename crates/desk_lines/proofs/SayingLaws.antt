-- What a line says is what it spells.
use Rattle.std.proofs.Common.{◌≡◌, ℕ, Bool, true, false, List, [], ◌∷◌, ◌++◌, Option, Some, None, refl, ap, ◌∙◌, eq-eqb}
use Rattle.std.specs.Prelude.{◌==◌, if◌then◌else◌}
use Rattle.std.proofs.lemmas.Bool.{eqb-true}
use Rattle.script_lines.specs.Commands.{IsSilentText, without_return}
use Rattle.script_lines.specs.Parsing.{heard}
use Rattle.session_lines.specs.Marks.{party_mark}
use Rattle.desk_lines.specs.PartyLines.{IsParty, SaysByMark, is_silent, party_of, party_said, said_behind, said_by}
use Rattle.desk_lines.specs.declared.party_line.PartyLine.{PartyLine}
use Rattle.desk_lines.specs.declared.party_line.PartyLine.TheVariants.{Silent, NoParty}
use Rattle.desk_lines.proofs.MarkLaws.{party_of-mark, party_of-no_return, party_of-returned, party_of_some}

-- ---- silent texts

silent_text : (text : List ℕ) → IsSilentText text → is_silent text ≡ true
silent_text [] silent = refl
silent_text (b ∷ bytes) silent = eq-eqb b 35 silent

spoken_text : (text : List ℕ) → ¬ (IsSilentText text) → is_silent text ≡ false
spoken_text [] spoken = absurd (spoken tt)
spoken_text (b ∷ bytes) spoken = by_cases (b == 35) refl
  where
    by_cases : (t : Bool) → (b == 35) ≡ t → (b == 35) ≡ false
    by_cases true is = absurd (spoken (eqb-true b 35 is))
    by_cases false is = is

said_silent : (text : List ℕ) → is_silent text ≡ true → party_said text ≡ Silent
said_silent text is = ap {A = Bool} {B = PartyLine} (λ t. if t then Silent else said_behind (party_of text)) is

pub said_spoken : (text : List ℕ) → is_silent text ≡ false → party_said text ≡ said_behind (party_of text)
said_spoken text is = ap {A = Bool} {B = PartyLine} (λ t. if t then Silent else said_behind (party_of text)) is

-- ---- marks

unmarked_text : (text : List ℕ) → ((p : ℕ) (rest : List ℕ) → IsParty p → ¬ (text ≡ party_mark p ++ rest)) → party_of text ≡ None
unmarked_text text none = by_cases (party_of text) refl
  where
    by_cases : (read : Option (ℕ × List ℕ)) → party_of text ≡ read → party_of text ≡ None
    by_cases None is = is
    by_cases (Some part) is =
        let marked = party_of_some text part is in
        absurd (none part.0 part.1 marked.0 marked.1)

pub says_by_mark : SaysByMark
says_by_mark = record {
  silent = λ line silent. said_silent (without_return line) (silent_text (without_return line) silent);
  unmarked = λ line spoken none.
      said_spoken (without_return line) (spoken_text (without_return line) spoken)
      ∙ ap said_behind (unmarked_text (without_return line) none);
  marked = λ line p rest party is.
      ap party_said is
      ∙ said_spoken (party_mark p ++ rest) refl
      ∙ ap said_behind (party_of-mark p rest party);
}

-- ---- what is read

-- the final byte 13 is dropped of what stands behind the mark
pub said_of_part : (line : List ℕ) (part : ℕ × List ℕ) → is_silent (without_return line) ≡ false → party_of line ≡ Some part → party_said (without_return line) ≡ said_by part.0 (heard (without_return part.1))
said_of_part line part spoken is = said_spoken (without_return line) spoken ∙ ap said_behind (party_of-returned line part is)

pub said_of_none : (line : List ℕ) → is_silent (without_return line) ≡ false → party_of line ≡ None → party_said (without_return line) ≡ NoParty
said_of_none line spoken is = said_spoken (without_return line) spoken ∙ ap said_behind (party_of-no_return line is)
