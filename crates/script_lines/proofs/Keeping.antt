-- What is kept of a line reads the same as the line.
use Rattle.std.proofs.Common.{◌≡◌, ◌≢◌, ℕ, ◌+◌, ◌-◌, ◌<◌, ◌≤◌, min, Bool, true, false, List, [], ◌∷◌, ◌++◌, length, take, drop, refl, sym, ◌∙◌, ap, arith, append_assoc, length-append}
use Rattle.std.specs.Prelude.{map, nat_le, nat_lt, ◌||◌, if◌then◌else◌}
use Rattle.std.proofs.lemmas.Bool.{leb-true}
use Rattle.std.proofs.lemmas.Bool.Decides.{nat_tests}
use Rattle.std.proofs.lemmas.List.{take_all, length-take, take-append-drop, drop_more}
use Rattle.std.proofs.lemmas.List.Elements.{All-push, All-take}
use Rattle.script_lines.specs.Lines.{ScriptLine, whole, long, line_of, script_lines, ready_lines, HasNoNewline, IsNewlineAt, TakesLine, EndsLine}
use Rattle.script_lines.specs.declared.lines.Ready.{Ready}
use Rattle.script_lines.specs.declared.lines.Ready.TheVariants.{NotYet, Whole, Long}
use Rattle.script_lines.specs.LineSoFar.{read_as, GoesOnAs}
use Rattle.script_lines.proofs.Bytes.{HasNoNewline-append, lines_of-newline, lines_of-last, long_same}

pub HasNoNewline-read_as : (bytes : List ℕ) (is_long : Bool) → HasNoNewline bytes → HasNoNewline (read_as bytes is_long)
HasNoNewline-read_as bytes true none = All-push (λ b. b ≢ 10) bytes 0 none (omega arith)
HasNoNewline-read_as bytes false none = none

pub length-read_as : (bytes : List ℕ) (is_long : Bool) → length bytes ≤ length (read_as bytes is_long)
length-read_as bytes true = omega (arith, length-append bytes (0 ∷ []))
length-read_as bytes false = omega arith

-- a line and what is kept of it are both over the limit
adds_over : (line text kept : List ℕ) → HasNoNewline line → HasNoNewline text → HasNoNewline kept → 4096 < length line + length text → length kept ≡ 4096
    → GoesOnAs line text (read_as kept true)
adds_over line text kept none text_none kept_none over full = λ more.
    ap script_lines (sym (append_assoc line text more))
    ∙ long_same (line ++ text) (read_as kept true) more (HasNoNewline-append line text none text_none) (HasNoNewline-read_as kept true kept_none) (omega (arith, length-append line text))
    (omega (arith, length-append kept (0 ∷ [])))

-- a text is added, of which as much is kept as fits
pub adds : (bytes text : List ℕ) (is_long : Bool) (count : ℕ) → HasNoNewline bytes → length bytes ≤ 4096 → (is_long ≡ true → length bytes ≡ 4096) → HasNoNewline text
    → count ≡ min (length text) (4096 - length bytes) → GoesOnAs (read_as bytes is_long) text (read_as (bytes ++ take count text) (is_long || nat_lt count (length text)))
adds bytes text is_long count none fits full text_none is = by_long is_long full
  where
    kept_none : HasNoNewline (bytes ++ take count text)
    kept_none = HasNoNewline-append bytes (take count text) none (All-take (λ b. b ≢ 10) count text text_none)

    kept_long : length (bytes ++ take count text) ≡ length bytes + count
    kept_long = omega (arith, length-append bytes (take count text), length-take count text)

    by_rest : (has_rest : Bool) → has_rest ≡ nat_lt count (length text) → GoesOnAs bytes text (read_as (bytes ++ take count text) has_rest)
    by_rest true says =
        let less : count < length text = grind (arith, nat_tests) in
        adds_over bytes text (bytes ++ take count text) none text_none kept_none (omega arith) (omega (arith, kept_long))
    by_rest false says =
        let all : length text ≤ count = grind (arith, nat_tests) in
        λ more. ap script_lines (sym (append_assoc bytes text more)) ∙ ap (λ kept. script_lines ((bytes ++ kept) ++ more)) (sym (take_all count text all))

    by_long : (is_long : Bool) → (is_long ≡ true → length bytes ≡ 4096)
        → GoesOnAs (read_as bytes is_long) text (read_as (bytes ++ take count text) (is_long || nat_lt count (length text)))
    by_long true full =
        let all : length bytes ≡ 4096 = full refl in
        adds_over (read_as bytes true) text (bytes ++ take count text) (HasNoNewline-read_as bytes true none) text_none kept_none (omega (arith, length-append bytes (0 ∷ []))) (omega (arith, kept_long))
    by_long false full = by_rest (nat_lt count (length text)) refl

-- the line that a newline ends, and what follows it
pub ends : (before piece line more : List ℕ) (at : ℕ) → IsNewlineAt piece at → HasNoNewline line → GoesOnAs before (take at piece) line
    → script_lines (before ++ (piece ++ more)) ≡ line_of line ∷ script_lines (drop (at + 1) piece ++ more)
ends before piece line more at newline none goes =
    let rest = drop (at + 1) piece in
    let parts : piece ≡ take at piece ++ 10 ∷ rest =
    sym (take-append-drop at piece) ∙ ap (λ l. take at piece ++ l) (drop_more piece at 0 newline.within ∙ ap (λ b. b ∷ rest) newline.here) in
    ap (λ l. script_lines (before ++ (l ++ more))) parts
    ∙ ap (λ l. script_lines (before ++ l)) (append_assoc (take at piece) (10 ∷ rest) more)
    ∙ goes (10 ∷ rest ++ more)
    ∙ ap (map line_of) (lines_of-newline line (rest ++ more) none)

-- the last line, where it has a byte
pub ends_script : (line : List ℕ) → HasNoNewline line → 0 < length line → script_lines line ≡ line_of line ∷ []
ends_script [] none some = absurd (omega arith)
ends_script (b ∷ line) none some = ap (map line_of) (lines_of-last (b ∷ line) none)

-- ---- whether a line is long

-- a line that is ready says how long it is
says_length : (line kept : List ℕ) (ready : Ready) → ready_lines ready kept ≡ line_of line ∷ [] → (ready ≢ NotYet) × (ready ≡ Whole → length line ≤ 4096) × (ready ≡ Long → 4096 < length line)
says_length line kept ready is = by_test (nat_le (length line) 4096) refl ready is
  where
    by_test : (short : Bool) → nat_le (length line) 4096 ≡ short → (ready : Ready) → ready_lines ready kept ≡ (if short then whole line else long) ∷ []
        → (ready ≢ NotYet) × (ready ≡ Whole → length line ≤ 4096) × (ready ≡ Long → 4096 < length line)
    by_test true says NotYet is = absurd cc
    by_test true says Whole is = (λ e. cc, λ e. leb-true (length line) 4096 says, λ e. absurd cc)
    by_test true says Long is = absurd cc
    by_test false says NotYet is = absurd cc
    by_test false says Whole is = absurd cc
    by_test false says Long is = (λ e. cc, λ e. absurd cc, λ e. grind (arith, nat_tests))

-- a line that goes on as another is as long, or both are long
goes_on_alike : (line text other : List ℕ) → HasNoNewline line → HasNoNewline text → HasNoNewline other → GoesOnAs line text other → line_of (line ++ text) ≡ line_of other
goes_on_alike line text other none text_none other_none goes =
    let ended : line_of (line ++ text) ∷ [] ≡ line_of other ∷ [] =
    sym (ap (map line_of) (lines_of-newline (line ++ text) [] (HasNoNewline-append line text none text_none)))
    ∙ ap script_lines (append_assoc line text (10 ∷ []))
    ∙ goes (10 ∷ [])
    ∙ ap (map line_of) (lines_of-newline other [] other_none) in
    cc

-- what was taken of a piece
pub takes : (before piece line kept : List ℕ) (at : ℕ) (ready : Ready) → IsNewlineAt piece at → HasNoNewline before → HasNoNewline line → GoesOnAs before (take at piece) line
    → ready_lines ready kept ≡ line_of line ∷ [] → TakesLine before ready piece (at + 1)
takes before piece line kept at ready newline none line_none goes is = by_ready ready (says_length (before ++ take at piece) kept ready told_is)
  where
    told_is : ready_lines ready kept ≡ line_of (before ++ take at piece) ∷ []
    told_is = is ∙ ap (λ (l : ScriptLine). l ∷ []) (sym (goes_on_alike before (take at piece) line none newline.first line_none goes))

    ended : length (before ++ take at piece) ≡ length before + at
    ended = omega (arith, length-append before (take at piece), length-take at piece, newline.within)

    by_ready : (ready : Ready) → (ready ≢ NotYet) × (ready ≡ Whole → length (before ++ take at piece) ≤ 4096) × (ready ≡ Long → 4096 < length (before ++ take at piece)) → TakesLine before ready piece (at + 1)
    by_ready NotYet says = absurd (says.0 refl)
    by_ready Whole says = (at, refl, newline, omega (arith, ended, says.1 refl))
    by_ready Long says = (at, refl, newline, omega (arith, ended, says.2 refl))

-- what the last line is
pub ends_last : (line kept : List ℕ) (ready : Ready) → 0 < length line → ready_lines ready kept ≡ line_of line ∷ [] → EndsLine line ready
ends_last line kept ready some is = by_ready ready (says_length line kept ready is)
  where
    by_ready : (ready : Ready) → (ready ≢ NotYet) × (ready ≡ Whole → length line ≤ 4096) × (ready ≡ Long → 4096 < length line) → EndsLine line ready
    by_ready NotYet says = absurd (says.0 refl)
    by_ready Whole says = (some, says.1 refl)
    by_ready Long says = says.2 refl
