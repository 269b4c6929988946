-- A carried text: its lines are UTF-8 without newlines, and it tells them.
use Rattle.saved_text.proofs.Common.{AllByRecursion, Answer, BadLine, BadSaved, CarriedLine, CarriedStage, CarriedText, CarriedTextsTellLines, EndsNone, Err, HasItsForm, IsCarried, JudgesCarried, List, Ok, Override, ReadsCarried, Side, [], ap, append-nil, arith, carried, carried_lines, codes, collection, decimal, end_line, entry, line_text, lines_of, map, opening_line, printed_rest, refl, same, side_word, slot_path_text, subst, sym, texts_of, ℕ, ◌++◌, ◌∙◌, ◌∷◌, ◌≡◌}
use Rattle.saved_text.proofs.LineTexts.{IsLine, decimal_line, line-append, name_line, plain_line, rest_line, slot_line}
use Rattle.saved_text.proofs.SlotTexts.{members_numbered, numbers_of}
use Rattle.saved_text.proofs.CarriedLines.{none_behind_end}
use Rattle.saved_text.proofs.CarriedSteps.{behind_next}
use Rattle.saved_text.proofs.TextLaws.{whole_lines}
use Rattle.saved_text.proofs.TextLaws as texts
use Rattle.std.specs.FinMap as map

-- ---- the lines of a carried text are UTF-8 without newlines

word_line : (side : Side) → IsLine (side_word side)
word_line Answer = plain_line (codes "value ") refl
word_line Override = plain_line (codes "override ") refl

a_line : (line : CarriedLine) → HasItsForm line → IsLine (line_text line)
a_line (collection name members) form =
    line-append (codes "list /" ++ name) (printed_rest members) (line-append (codes "list /") name (plain_line (codes "list /") refl) (name_line name form.0))
    (rest_line members (numbers_of members (members_numbered members form.1)))
a_line (entry side path text) form =
    line-append (side_word side ++ slot_path_text path) (32 ∷ text) (line-append (side_word side) (slot_path_text path) (word_line side) (slot_line path form.0))
    (line-append (codes " ") text (plain_line (codes " ") refl) (record { utf8 = form.1; no_newline = form.2 }))

all_texts : (lines : List CarriedLine) → AllByRecursion HasItsForm lines → AllByRecursion IsLine (map line_text lines)
all_texts [] all = tt
all_texts (l ∷ lines) all = (a_line l all.0, all_texts lines all.1)

pub are_lines : (c : CarriedText) → IsCarried c → AllByRecursion IsLine (carried_lines c)
are_lines c is = (
  plain_line opening_line refl,
  (
    line-append (codes "next ") (decimal c.next) (plain_line (codes "next ") refl) (decimal_line c.next (let low = is.number.1 in omega (arith, low))),
    texts.all-append IsLine (map line_text c.lines) (end_line ∷ []) (all_texts c.lines is.forms) (plain_line end_line refl, tt),
  ),
)

-- ---- a line by its bytes

pub no_bytes : (stage : CarriedStage) (line : List ℕ) → (IsLine line → ⊥) → EndsNone stage line
no_bytes stage line none c more is e = none (texts.next_one IsLine (texts_of stage) line more (subst (AllByRecursion IsLine) e (are_lines c is)))

pub text_taken : (old new : CarriedStage) (line text : List ℕ) (number : ℕ) → text ≡ line → JudgesCarried old text (Ok new) → ReadsCarried old line number (Ok new)
text_taken old new line text number same judged = subst (λ (l : List ℕ). JudgesCarried old l (Ok new)) same judged

pub text_refused : (old : CarriedStage) (line text : List ℕ) (number : ℕ) → text ≡ line → JudgesCarried old text (Err BadLine) → ReadsCarried old line number (Err (BadSaved number))
text_refused old line text number same judged = (refl, subst (λ (l : List ℕ). JudgesCarried old l (Err BadLine)) same judged)

-- ---- a text tells its lines

-- ---- lines

pub one_text : CarriedTextsTellLines
one_text c e is other same =
    ap (λ (n : ℕ). record { next = n; lines = c.lines }) parts.0
    ∙ ap (λ (ls : List CarriedLine). record { next = e.next; lines = ls }) (parts.1.1 ∙ ap (λ (ls : List CarriedLine). e.lines ++ ls) (none_behind_end parts.1.0 [] parts.1.2).0 ∙ append-nil e.lines)
  where
    parts : (c.next ≡ e.next) × ((rest : List CarriedLine) × (c.lines ≡ e.lines ++ rest) × (map line_text rest ++ end_line ∷ [] ≡ end_line ∷ []))
    parts =
        behind_next c e.next e.lines (end_line ∷ []) is other.number.1 other.forms
        (whole_lines IsCarried carried_lines are_lines c is (carried c) refl ∙ ap lines_of same ∙ sym (whole_lines IsCarried carried_lines are_lines e other (carried e) refl))
