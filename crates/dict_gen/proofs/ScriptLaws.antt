-- The lines of the script, and their text.
use Rattle.std.proofs.Common.{◌≡◌, ◌≢◌, ◌%◌, true, ℕ, zero, suc, ◌+◌, ◌*◌, ◌≤◌, ◌<◌, List, [], ◌∷◌, ◌++◌, length, map, replicate, refl, sym, ap, ◌∙◌, append_assoc, subst, add-one, Result, Ok, Err, arith}
use Rattle.std.specs.Prelude.{⊤, OnOk, codes, decimal, nat_lt}
use Rattle.fact_values.specs.declared.memory.NoMemory.{NoMemory}
use Rattle.std.specs.List.{AllByRecursion, list_all}
use Rattle.std.proofs.Math.Nat.{min-le_right, mod-le}
use Rattle.std.proofs.lemmas.Bool.{le-leb}
use Rattle.std.proofs.lemmas.List.{append-nil, length-append, length-replicate, replicate_more}
use Rattle.std.proofs.lemmas.List.Elements.{All-cons, All-nil}
use Rattle.value_text.proofs.Decimals.{decimal_of_member}
use Rattle.fact_paths.specs.Cuts.{Lacks}
use Rattle.fact_paths.proofs.CutLaws.{Lacks-append}
use Rattle.fact_paths.proofs.MemberNumbers.{decimal_lacks}
use Rattle.fact_paths.proofs.NameLaws.{passed_lack}
use Rattle.script_lines.specs.Joined.{joined}
use Rattle.script_lines.specs.Lines.{HasNoNewline, line_of, lines_of, script_lines, whole}
use Rattle.script_lines.proofs.JoinedLaws.{joined-append, lines_of-joined}
use Rattle.dict_gen.specs.Script.{get_line, lines, member_count, moves, round, rounds, script, set_line}

-- ---- how many lines

lines_of_rounds : (m n i : ℕ) → length (rounds m n i) ≡ 2 * i
lines_of_rounds m n zero = refl
lines_of_rounds m n (suc i) = let before = lines_of_rounds m n i in length-append (rounds m n i) (round m n i) ∙ omega (arith, before)

lines_of_moves : (line : List ℕ) (n : ℕ) → length (moves line n) ≡ n + 1
lines_of_moves line n = length-append (replicate n line) (get_line n ∷ []) ∙ ap (λ k. k + 1) (length-replicate n line)

pub line_count : (n : ℕ) → length (lines n) ≡ member_count n + 4 * n + 2
line_count n =
    let m = member_count n in
    let adds = length-replicate m (codes "add /c") in
    let answers = lines_of_rounds m n n in
    let undone = lines_of_moves (codes "undo") n in
    let redone = lines_of_moves (codes "redo") n in
    length-append (replicate m (codes "add /c")) (rounds m n n ++ (moves (codes "undo") n ++ moves (codes "redo") n))
    ∙ ap (λ k. length (replicate m (codes "add /c")) + k) (length-append (rounds m n n) (moves (codes "undo") n ++ moves (codes "redo") n))
    ∙ ap (λ k. length (replicate m (codes "add /c")) + (length (rounds m n n) + k)) (length-append (moves (codes "undo") n) (moves (codes "redo") n))
    ∙ omega (arith, adds, answers, undone, redone)

-- ---- texts of lines

-- ---- each line is short, and has no newline

-- so many bytes at most, none of them a newline
record IsPart (most : ℕ) (text : List ℕ) : Type 0 where
  plain : Lacks 10 text
  short : length text ≤ most

parts : (most more : ℕ) (front back : List ℕ) → IsPart most front → IsPart more back → IsPart (most + more) (front ++ back)
parts most more front back h k = record {
  plain = Lacks-append 10 front back h.plain k.plain;
  short = let l = h.short in let m = k.short in subst (λ n. n ≤ most + more) (sym (length-append front back)) (omega (arith, l, m));
}

word : (most : ℕ) (text : List ℕ) → list_all (nat_lt 10) text ≡ true → length text ≤ most → IsPart most text
word most text h l = record { plain = passed_lack (nat_lt 10) 10 refl text h; short = l }

number : (k : ℕ) → 1 ≤ k → k ≤ 1000 → IsPart 7 (decimal k)
number k some few = record {
  plain = decimal_lacks 10 refl k (some, omega (arith, few));
  short = decimal_of_member k (omega (arith, few));
}

wider : (most more : ℕ) (text : List ℕ) → most ≤ more → IsPart most text → IsPart more text
wider most more text l h = record { plain = h.plain; short = let m = h.short in omega (arith, l, m) }

set_part : (k r : ℕ) → 1 ≤ k → k ≤ 1000 → 1 ≤ r → r ≤ 1000 → IsPart 25 (set_line k r)
set_part k r a b c d =
    parts 8 17 (codes "set /c/#") (decimal k ++ (codes "/v " ++ decimal r)) (word 8 (codes "set /c/#") refl (omega arith))
    (parts 7 10 (decimal k) (codes "/v " ++ decimal r) (number k a b)
    (parts 3 7 (codes "/v ") (decimal r) (word 3 (codes "/v ") refl (omega arith)) (number r c d)))

get_part : (n : ℕ) → 1 ≤ n → n ≤ 1000 → IsPart 25 (get_line n)
get_part n some few =
    wider 13 25 (get_line n) (omega arith)
    (parts 6 7 (codes "get /s") (decimal n) (word 6 (codes "get /s") refl (omega arith)) (number n some few))

-- ---- of all lines

abbrev AreParts : List (List ℕ) → Type 0
AreParts ls = AllByRecursion (IsPart 25) ls

all_parts : (xs ys : List (List ℕ)) → AreParts xs → AreParts ys → AreParts (xs ++ ys)
all_parts [] ys h k = k
all_parts (x ∷ xs) ys h k = (h.0, all_parts xs ys h.1 k)

same_parts : (n : ℕ) (line : List ℕ) → IsPart 25 line → AreParts (replicate n line)
same_parts zero line h = tt
same_parts (suc n) line h = (h, same_parts n line h)

round_parts : (m n i : ℕ) → 1 ≤ n → n ≤ 1000 → i < 1000 → AreParts (round m n i)
round_parts m n i some few lt =
    let low = mod-le i m in
    (set_part (1 + i % m) (1 + i) (omega arith) (omega (arith, low, lt)) (omega arith) (omega (arith, lt)), (get_part n some few, tt))

rounds_parts : (m n i : ℕ) → 1 ≤ n → n ≤ 1000 → i ≤ 1000 → AreParts (rounds m n i)
rounds_parts m n zero some few le = tt
rounds_parts m n (suc i) some few le = all_parts (rounds m n i) (round m n i) (rounds_parts m n i some few (omega (arith, le))) (round_parts m n i some few (omega (arith, le)))

moves_parts : (line : List ℕ) (n : ℕ) → 1 ≤ n → n ≤ 1000 → IsPart 25 line → AreParts (moves line n)
moves_parts line n some few h = all_parts (replicate n line) (get_line n ∷ []) (same_parts n line h) (get_part n some few, tt)

lines_parts : (n : ℕ) → 1 ≤ n → n ≤ 1000 → AreParts (lines n)
lines_parts n some few =
    let m = member_count n in
    let undone = moves_parts (codes "undo") n some few (word 25 (codes "undo") refl (omega arith)) in
    let redone = moves_parts (codes "redo") n some few (word 25 (codes "redo") refl (omega arith)) in
    all_parts (replicate m (codes "add /c")) (rounds m n n ++ (moves (codes "undo") n ++ moves (codes "redo") n)) (same_parts m (codes "add /c") (word 25 (codes "add /c") refl (omega arith)))
    (all_parts (rounds m n n) (moves (codes "undo") n ++ moves (codes "redo") n) (rounds_parts m n n some few few)
    (all_parts (moves (codes "undo") n) (moves (codes "redo") n) undone redone))

-- ---- the script

plain_text : (text : List ℕ) → Lacks 10 text → HasNoNewline text
plain_text [] h = All-nil (λ b. b ≢ 10)
plain_text (b ∷ bs) h = All-cons (λ b. b ≢ 10) b bs h.0 (plain_text bs h.1)

plain_lines : (ls : List (List ℕ)) → AreParts ls → AllByRecursion HasNoNewline ls
plain_lines [] h = tt
plain_lines (line ∷ ls) h = (plain_text line h.0.plain, plain_lines ls h.1)

whole_line : (line : List ℕ) → IsPart 25 line → line_of line ≡ whole line
whole_line line h = let l = h.short in rw (le-leb (length line) 4096 (omega (arith, l))) refl

whole_lines : (ls : List (List ℕ)) → AreParts ls → map line_of ls ≡ map whole ls
whole_lines [] h = refl
whole_lines (line ∷ ls) h = ap (λ l. l ∷ map line_of ls) (whole_line line h.0) ∙ ap (λ rest. whole line ∷ rest) (whole_lines ls h.1)

pub script_is_read : (n : ℕ) → 1 ≤ n → n ≤ 1000 → script_lines (script n) ≡ map whole (lines n)
script_is_read n some few =
    let all = lines_parts n some few in
    ap (λ text. map line_of (lines_of text)) (sym (append-nil (script n)))
    ∙ ap (map line_of) (lines_of-joined (lines n) [] (plain_lines (lines n) all) (All-nil (λ b. b ≢ 10)))
    ∙ ap (map line_of) (append-nil (lines n))
    ∙ whole_lines (lines n) all

short_text : (ls : List (List ℕ)) → AreParts ls → length (joined ls) ≤ 26 * length ls
short_text [] h = omega arith
short_text (line ∷ ls) h =
    let here = h.0.short in
    let rest = short_text ls h.1 in
    subst (λ n. n ≤ 26 * suc (length ls)) (sym (length-append line (10 ∷ joined ls))) (omega (arith, here, rest))

pub script_is_short : (n : ℕ) → 1 ≤ n → n ≤ 1000 → length (script n) ≤ 200000
script_is_short n some few =
    let bytes = short_text (lines n) (lines_parts n some few) in
    let count = line_count n in
    let members = min-le_right n 100 in
    omega (arith, bytes, count, members, few)

-- ---- what the loops append

pub line_again : (before now old : List ℕ) (n : ℕ) (line : List ℕ) → old ≡ before ++ joined (replicate n line) → now ≡ old ++ joined (line ∷ []) → now ≡ before ++ joined (replicate (n + 1) line)
line_again before now old n line h is =
    is ∙ ap (λ t. t ++ joined (line ∷ [])) h ∙ append_assoc before (joined (replicate n line)) (joined (line ∷ []))
    ∙ ap (λ t. before ++ t) (sym (joined-append (replicate n line) (line ∷ [])) ∙ ap joined (replicate_more n line))

pub round_again : (before now old : List ℕ) (m n i : ℕ) → old ≡ before ++ joined (rounds m n i) → now ≡ old ++ joined (round m n i) → now ≡ before ++ joined (rounds m n (i + 1))
round_again before now old m n i h is =
    is ∙ ap (λ t. t ++ joined (round m n i)) h ∙ append_assoc before (joined (rounds m n i)) (joined (round m n i))
    ∙ ap (λ t. before ++ t) (sym (joined-append (rounds m n i) (round m n i)) ∙ ap (λ k. joined (rounds m n k)) (sym (add-one i)))

-- the line n times, and the line that asks
pub moved : (r : Result ⊤ NoMemory) (before mid now line get : List ℕ) (n : ℕ) → mid ≡ before ++ joined (replicate n line) → get ≡ get_line n → OnOk r (now ≡ mid ++ joined (get ∷ [])) → OnOk r (now ≡ before ++ joined (moves line n))
moved (Ok done) before mid now line get n h asks is =
    is ∙ ap (λ t. t ++ joined (get ∷ [])) h ∙ append_assoc before (joined (replicate n line)) (joined (get ∷ []))
    ∙ ap (λ t. before ++ t) (sym (joined-append (replicate n line) (get ∷ [])) ∙ ap (λ g. joined (replicate n line ++ g ∷ [])) asks)
moved (Err fault) before mid now line get n h asks is = tt

-- one part behind the other
pub all_there : (n members : ℕ) (start added answered undone redone : List ℕ) → start ≡ [] → members ≡ member_count n → added ≡ start ++ joined (replicate members (codes "add /c")) → answered ≡ added ++ joined (rounds members n n)
    → undone ≡ answered ++ joined (moves (codes "undo") n) → redone ≡ undone ++ joined (moves (codes "redo") n) → redone ≡ script n
all_there n members start added answered undone redone e count a b c d =
    let adds : List (List ℕ) = replicate (member_count n) (codes "add /c") in
    let answers : List (List ℕ) = rounds (member_count n) n n in
    let undo : List (List ℕ) = moves (codes "undo") n in
    let redo : List (List ℕ) = moves (codes "redo") n in
    let first : added ≡ joined adds = a ∙ ap (λ t. t ++ joined (replicate members (codes "add /c"))) e ∙ ap (λ m. joined (replicate m (codes "add /c"))) count in
    let second : answered ≡ joined adds ++ joined answers = b ∙ ap (λ t. t ++ joined (rounds members n n)) first ∙ ap (λ m. joined adds ++ joined (rounds m n n)) count in
    let third : undone ≡ (joined adds ++ joined answers) ++ joined undo = c ∙ ap (λ t. t ++ joined undo) second in
    d ∙ ap (λ t. t ++ joined redo) third ∙ append_assoc (joined adds ++ joined answers) (joined undo) (joined redo) ∙ append_assoc (joined adds) (joined answers) (joined undo ++ joined redo)
    ∙ sym (joined-append adds (answers ++ (undo ++ redo)) ∙ ap (λ t. joined adds ++ t) (joined-append answers (undo ++ redo) ∙ ap (λ t. joined answers ++ t) (joined-append undo redo)))
