-- The lines of bytes, by the byte or the text in front, and bytes that are all ASCII.
use Rattle.std.proofs.Common.{◌≡◌, ◌≢◌, ℕ, zero, suc, true, ◌+◌, ◌-◌, ◌<◌, List, [], ◌∷◌, ◌++◌, length, take, drop, refl, sym, ◌∙◌, ap, arith, length-append, length-drop}
use Rattle.std.specs.Char.{is_ascii}
use Rattle.std.specs.List.{list_all, slice_index}
use Rattle.std.specs.Str.{IsUtf8}
use Rattle.std.specs.Prelude.{map, if◌then◌else◌, ◌==◌}
use Rattle.std.proofs.lemmas.Bool.{and_parts}
use Rattle.std.proofs.lemmas.Bool.Decides.{nat_tests}
use Rattle.std.proofs.lemmas.Str.{IsUtf8-from_ascii}
use Rattle.std.proofs.lemmas.List.{append-nil, drop_more, take-append-drop, take_all}
use Rattle.std.proofs.lemmas.List.Elements.{All-append, All-head, All-tail}
use Rattle.script_lines.specs.Joined.{last_line}
use Rattle.script_lines.specs.Lines.{long, lines_of, ended_of, line_of, script_lines, onto_first, onto_ended, HasNoNewline, IsNewlineAt}

-- a choice at the byte that is looked for, and at another one
pub at_byte : {X : Type 0} (n b : ℕ) (x y : X) → b ≡ n → (if b == n then x else y) ≡ x
at_byte n b x y is = grind (arith, nat_tests)

pub at_other : {X : Type 0} (n b : ℕ) (x y : X) → b ≢ n → (if b == n then x else y) ≡ y
at_other n b x y apart = grind (arith, nat_tests)

-- the first byte, and the others
no_newline_first : (b : ℕ) (bytes : List ℕ) → HasNoNewline (b ∷ bytes) → b ≢ 10
no_newline_first = All-head (λ b. b ≢ 10)

no_newline_others : (b : ℕ) (bytes : List ℕ) → HasNoNewline (b ∷ bytes) → HasNoNewline bytes
no_newline_others = All-tail (λ b. b ≢ 10)

pub HasNoNewline-append : (front back : List ℕ) → HasNoNewline front → HasNoNewline back → HasNoNewline (front ++ back)
HasNoNewline-append = All-append (λ b. b ≢ 10)

-- a text up to a newline is the first line
pub lines_of-newline : (line more : List ℕ) → HasNoNewline line → lines_of (line ++ 10 ∷ more) ≡ line ∷ lines_of more
lines_of-newline [] more none = refl
lines_of-newline (b ∷ line) more none =
    at_other 10 b _ _ (no_newline_first b line none)
    ∙ ap (onto_first b) (lines_of-newline line more (no_newline_others b line none))

pub ended_of-newline : (line more : List ℕ) → HasNoNewline line → ended_of (line ++ 10 ∷ more) ≡ line ∷ ended_of more
ended_of-newline [] more none = refl
ended_of-newline (b ∷ line) more none =
    at_other 10 b _ _ (no_newline_first b line none)
    ∙ ap (onto_ended b) (ended_of-newline line more (no_newline_others b line none))

-- the first line, and the others
abbrev first_line : List (List ℕ) → List ℕ
first_line [] = []
first_line (line ∷ lines) = line

abbrev other_lines : List (List ℕ) → List (List ℕ)
other_lines [] = []
other_lines (line ∷ lines) = lines

onto_first-parts : (b : ℕ) (lines : List (List ℕ)) → onto_first b lines ≡ (b ∷ first_line lines) ∷ other_lines lines
onto_first-parts b [] = refl
onto_first-parts b (line ∷ lines) = refl

-- a text without a newline begins the first line
lines_of-front : (b : ℕ) (front more : List ℕ) → HasNoNewline (b ∷ front)
    → lines_of ((b ∷ front) ++ more) ≡ ((b ∷ front) ++ first_line (lines_of more)) ∷ other_lines (lines_of more)
lines_of-front b [] more none = at_other 10 b _ _ (no_newline_first b [] none) ∙ onto_first-parts b (lines_of more)
lines_of-front b (c ∷ front) more none =
    at_other 10 b _ _ (no_newline_first b (c ∷ front) none)
    ∙ ap (onto_first b) (lines_of-front c front more (no_newline_others b (c ∷ front) none))

-- a text without a newline, alone
pub lines_of-last : (line : List ℕ) → HasNoNewline line → lines_of line ≡ last_line line
lines_of-last [] none = refl
lines_of-last (b ∷ line) none =
    ap lines_of (sym (append-nil (b ∷ line))) ∙ lines_of-front b line [] none ∙ ap (λ l. l ∷ []) (append-nil (b ∷ line))

pub ended_of-last : (line : List ℕ) → HasNoNewline line → ended_of line ≡ []
ended_of-last [] none = refl
ended_of-last (b ∷ line) none =
    at_other 10 b _ _ (no_newline_first b line none)
    ∙ ap (onto_ended b) (ended_of-last line (no_newline_others b line none))

line_of-long : (line : List ℕ) → 4096 < length line → line_of line ≡ long
line_of-long line over = grind (arith, nat_tests)

-- a text that is long already begins a long line
script_lines-long : (front more : List ℕ) → HasNoNewline front → 4096 < length front
    → script_lines (front ++ more) ≡ long ∷ map line_of (other_lines (lines_of more))
script_lines-long [] more none over = absurd (omega arith)
script_lines-long (b ∷ front) more none over =
    let line = (b ∷ front) ++ first_line (lines_of more) in
    let line_over : 4096 < length line = omega (arith, length-append (b ∷ front) (first_line (lines_of more))) in
    ap (map line_of) (lines_of-front b front more none)
    ∙ ap (λ l. l ∷ map line_of (other_lines (lines_of more))) (line_of-long line line_over)

-- so two of them read the same, whatever follows
pub long_same : (front other more : List ℕ) → HasNoNewline front → HasNoNewline other → 4096 < length front → 4096 < length other
    → script_lines (front ++ more) ≡ script_lines (other ++ more)
long_same front other more none other_none over other_over =
    script_lines-long front more none over ∙ sym (script_lines-long other more other_none other_over)

-- ---- the first line, cut off

-- up to the first newline, and behind it
pub cut_at : (bytes : List ℕ) (at : ℕ) → IsNewlineAt bytes at → lines_of bytes ≡ take at bytes ∷ lines_of (take (length bytes - (at + 1)) (drop (at + 1) bytes))
cut_at bytes at newline =
    let rest = drop (at + 1) bytes in
    let parts : bytes ≡ take at bytes ++ 10 ∷ rest =
    sym (take-append-drop at bytes) ∙ ap (λ l. take at bytes ++ l) (drop_more bytes at 0 newline.within ∙ ap (λ b. b ∷ rest) newline.here) in
    ap lines_of parts
    ∙ lines_of-newline (take at bytes) rest newline.first
    ∙ ap (λ (r : List ℕ). take at bytes ∷ lines_of r) (sym (take_all (length bytes - (at + 1)) rest (omega (arith, length-drop (at + 1) bytes))))

-- a last line without a newline
pub uncut : (bytes : List ℕ) → 0 < length bytes → HasNoNewline bytes → lines_of bytes ≡ bytes ∷ lines_of []
uncut [] some none = absurd (omega arith)
uncut (b ∷ bytes) some none = lines_of-last (b ∷ bytes) none

-- ---- bytes that are all ASCII

ascii_at : (bytes : List ℕ) → list_all is_ascii bytes ≡ true → (i : ℕ) → slice_index bytes i < 128
ascii_at [] all i = omega arith
ascii_at (b ∷ bytes) all zero = let first = (and_parts (is_ascii b) _ all).0 in grind (arith, nat_tests)
ascii_at (b ∷ bytes) all (suc i) = ascii_at bytes (and_parts (is_ascii b) _ all).1 i

pub ascii_is_utf8 : (bytes : List ℕ) → list_all is_ascii bytes ≡ true → IsUtf8 bytes
ascii_is_utf8 bytes all = IsUtf8-from_ascii bytes (ascii_at bytes all)
