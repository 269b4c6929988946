-- What is said of the lines that carrying drops, and how it is written.
use Rattle.save_file.proofs.Common.{All, AllByRecursion, Answer, Answered, Bool, CarriedLine, CarriedText, Err, Global, HasItsForm, IsCarried, IsCarry, IsFirstAt, IsSlotPath, Lacks, List, Member, None, Ok, Option, Override, Result, Rules, SlotPath, Some, Wrote, [], ap, append-nil, append_assoc, arith, carried_lines, codes, collection, cut, cut-append, cut-lacks, drop, dropped_numbers, end_line, entry, equal_number, false, filter, if◌then◌else◌, inl, inr, is_next, joined, keeps, length, length-append, length-drop, line_text, lines_of, map, name_lacks_blank, name_short, nat_tests, next_line, not, numbers_failing, opening_line, past, printed_rest, refl, said, said_at, said_if, slot_lacks_blank, slot_path_text, subst, suc, sym, take, take_all, true, unwrap_or, ℕ, ◌++◌, ◌+◌, ◌-◌, ◌<◌, ◌∙◌, ◌∷◌, ◌≡◌, ◌≢◌, ◌≤◌}
use Rattle.std.proofs.Common.{min}
use Rattle.std.proofs.lemmas.Bool.{cases_lt}
use Rattle.std.specs.Prelude.{decimal}
use Rattle.fact_paths.proofs.CutLaws.{cut-first, cut-none}
use Rattle.fg_io.specs.Outside.{HasCause, Output}
use Rattle.saved_text.proofs.CarriedTexts.{are_lines}
use Rattle.saved_text.proofs.LinesLeft.{LinesLeft}
use Rattle.saved_text.proofs.SlotTexts.{Tail, tail_of}
use Rattle.saved_text.proofs.TextLaws.{empty_is, whole_lines}
use Rattle.value_text.proofs.Decimals.{decimal_of_member}
use Rattle.save_file.specs.Dropped.{AreDropped, IsDroppedText, behind_word, dropped_key, dropped_keys, dropped_text, said_of, shortened, word_of, words_of}

-- ==== the first words of a line

-- where the text has a blank, and where it has none
words_at : (text front back : List ℕ) → cut 32 text ≡ Some (front, back) → words_of text ≡ (front, back)
words_at text front back e = ap (λ (o : Option (List ℕ × List ℕ)). unwrap_or o (text, [])) e

words_uncut : (text : List ℕ) → cut 32 text ≡ None → words_of text ≡ (text, [])
words_uncut text e = ap (λ (o : Option (List ℕ × List ℕ)). unwrap_or o (text, [])) e

-- a word with nothing or a blank behind it
word_before : (word tail : List ℕ) → Lacks 32 word → Tail tail → word_of (word ++ tail) ≡ word
word_before word tail none (inl nothing) =
    ap word_of (ap (λ (t : List ℕ). word ++ t) nothing ∙ append-nil word) ∙ ap (λ (p : List ℕ × List ℕ). p.0) (words_uncut word (cut-lacks 32 word none))
word_before word tail none (inr some) =
    ap word_of (ap (λ (t : List ℕ). word ++ t) some.1) ∙ ap (λ (p : List ℕ × List ℕ). p.0) (words_at (word ++ 32 ∷ some.0) word some.0 (cut-append 32 word some.0 none))

-- ---- how they are cut

module _ (text : List ℕ) where
  module _ (at : ℕ) (blank : IsFirstAt 32 text at) where
    parts : words_of text ≡ (take at text, drop (at + 1) text)
    parts =
        words_at text (take at text) (drop (at + 1) text)
        (cut-first 32 text (take at text) (drop (at + 1) text) at blank (let size : at ≡ at - 0 = omega arith in ap (λ (n : ℕ). take n text) size) refl)

    pub word_at : take at text ≡ word_of text
    word_at = sym (ap (λ (p : List ℕ × List ℕ). p.0) parts)

    pub behind_at : take (length text - (at + 1)) (drop (at + 1) text) ≡ behind_word text
    behind_at = take_all (length text - (at + 1)) (drop (at + 1) text) (omega (arith, length-drop (at + 1) text)) ∙ sym (ap (λ (p : List ℕ × List ℕ). p.1) parts)

  module _ (none : All (λ b. b ≢ 32) text) where
    pub word_uncut : text ≡ word_of text
    word_uncut = sym (ap (λ (p : List ℕ × List ℕ). p.0) (words_uncut text (cut-none 32 text none)))

    pub behind_uncut : [] ≡ behind_word text
    behind_uncut = sym (ap (λ (p : List ℕ × List ℕ). p.1) (words_uncut text (cut-none 32 text none)))

-- ---- how long they are

pub shortened_at : (word : List ℕ) (n : ℕ) → n ≡ min (length word) 500 → take n word ≡ shortened word
shortened_at word n is = elim (cases_lt (length word) 500) [
  | inl short ↦ take_all n word (omega (arith, is, short)) ∙ sym (take_all 500 word (omega (arith, short)))
  | inr long ↦ ap (λ (k : ℕ). take k word) (let most : n ≡ 500 = omega (arith, is, long) in most)
]

path_short : (path : SlotPath) → IsSlotPath path → length (slot_path_text path) ≤ 140
path_short (Global n) is = omega (arith, name_short n is)
path_short (Member n k m) is =
    let digits : length (decimal k) ≤ 7 = decimal_of_member k (omega (arith, is.1)) in
    omega (arith, name_short n is.0, name_short m is.2, length-append n (codes "/#" ++ (decimal k ++ (codes "/" ++ m))), length-append (decimal k) (codes "/" ++ m))

-- ---- what is said of a line

pub said_line : (line : CarriedLine) → HasItsForm line → said_of (line_text line) ≡ dropped_key line
said_line (collection name members) form =
    ap (λ (word : List ℕ). codes "dropped " ++ (codes "list" ++ (codes " " ++ shortened word)))
    (word_before (47 ∷ name) (printed_rest members) (let other : 47 ≢ 32 = omega arith in other, name_lacks_blank name form.0) (tail_of members))
    ∙ ap (λ (word : List ℕ). codes "dropped " ++ (codes "list" ++ (codes " " ++ word))) (take_all 500 (47 ∷ name) (omega (arith, name_short name form.0)))
said_line (entry Answer path text) form =
    ap (λ (word : List ℕ). codes "dropped " ++ (codes "value" ++ (codes " " ++ shortened word)))
    (word_before (slot_path_text path) (32 ∷ text) (slot_lacks_blank path form.0) (inr (text, refl)))
    ∙ ap (λ (word : List ℕ). codes "dropped " ++ (codes "value" ++ (codes " " ++ word))) (take_all 500 (slot_path_text path) (omega (arith, path_short path form.0)))
said_line (entry Override path text) form =
    ap (λ (word : List ℕ). codes "dropped " ++ (codes "override" ++ (codes " " ++ shortened word)))
    (word_before (slot_path_text path) (32 ∷ text) (slot_lacks_blank path form.0) (inr (text, refl)))
    ∙ ap (λ (word : List ℕ). codes "dropped " ++ (codes "override" ++ (codes " " ++ word))) (take_all 500 (slot_path_text path) (omega (arith, path_short path form.0)))

-- with its newline
pub said_whole : (kind name : List ℕ) → (((([] ++ codes "dropped ") ++ kind) ++ codes " ") ++ name) ++ 10 ∷ [] ≡ said kind name ++ 10 ∷ []
said_whole kind name = pieces (codes "dropped ") kind (codes " ") name
  where
    pieces : (front word gap next : List ℕ) → (((front ++ word) ++ gap) ++ next) ++ 10 ∷ [] ≡ (front ++ (word ++ (gap ++ next))) ++ 10 ∷ []
    pieces front word gap next = simp append_assoc

-- ==== what is said of the lines that carrying drops

-- ---- line after line

pub next_left : (a b : Output) (all : List (List ℕ)) (n : ℕ) (ns later line : List ℕ) (lines rest : List (List ℕ)) → lines ≡ line ∷ rest → later ≡ past n ns
    → LinesLeft a b all (said_at n ns lines) → LinesLeft a b all (said_if (is_next n ns) line ++ said_at (n + 1) later rest)
next_left a b all n ns later line lines rest e same left =
    subst (LinesLeft a b all)
    (ap (said_at n ns) e
    ∙ ap (λ (ks : List ℕ). said_if (is_next n ns) line ++ said_at (suc n) ks rest) (sym same)
    ∙ ap (λ (k : ℕ). said_if (is_next n ns) line ++ said_at k later rest) (let one : suc n ≡ n + 1 = omega arith in one))
    left

pub none_said : (n : ℕ) (ns bytes : List ℕ) → length bytes ≤ 0 → said_at n ns (lines_of bytes) ≡ []
none_said n ns bytes none = ap (λ (bs : List ℕ). said_at n ns (lines_of bs)) (empty_is bytes none)

-- ---- the numbers of lines that fail a test

module _ {X : Type 0} (test : X → Bool) where
  -- none is before the first line
  earlier : (k n : ℕ) (xs : List X) → k < n → is_next k (numbers_failing test n xs) ≡ false
  earlier k n [] low = refl
  earlier k n (x ∷ xs) low = at (test x) (earlier k (suc n) xs (omega arith))
    where
      at : (b : Bool) → is_next k (numbers_failing test (suc n) xs) ≡ false → is_next k (if b then numbers_failing test (suc n) xs else n ∷ numbers_failing test (suc n) xs) ≡ false
      at true later = later
      at false later = grind (arith, nat_tests)

  past_none : (k : ℕ) (ns : List ℕ) → is_next k ns ≡ false → past k ns ≡ ns
  past_none k [] e = refl
  past_none k (n ∷ ns) e = ap (λ (b : Bool). if b then ns else n ∷ ns) e

  -- a line before the first says nothing
  pub said_earlier : (k n : ℕ) (xs : List X) (line : List ℕ) (lines : List (List ℕ)) → k < n → said_at k (numbers_failing test n xs) (line ∷ lines) ≡ said_at (suc k) (numbers_failing test n xs) lines
  said_earlier k n xs line lines low =
      let none = earlier k n xs low in
      ap (λ (b : Bool). said_if b line ++ said_at (suc k) (past k (numbers_failing test n xs)) lines) none
      ∙ ap (λ (ns : List ℕ). said_at (suc k) ns lines) (past_none k (numbers_failing test n xs) none)

  -- a line that has the first number
  said_here : (n : ℕ) (ns : List ℕ) (line : List ℕ) (lines : List (List ℕ)) → said_at n (n ∷ ns) (line ∷ lines) ≡ said_of line ∷ said_at (suc n) ns lines
  said_here n ns line lines = ap (λ (b : Bool). said_if b line ++ said_at (suc n) (if b then ns else n ∷ ns) lines) (equal_number n)

  -- of those that fail
  pub said_failing : (text : X → List ℕ) (n : ℕ) (xs : List X) (last : List ℕ) → said_at n (numbers_failing test n xs) (map text xs ++ last ∷ []) ≡ map (λ x. said_of (text x)) (filter (λ x. not (test x)) xs)
  said_failing text n [] last = refl
  said_failing text n (x ∷ xs) last = at (test x) refl (said_failing text (suc n) xs last)
    where
      at : (b : Bool) → test x ≡ b → said_at (suc n) (numbers_failing test (suc n) xs) (map text xs ++ last ∷ []) ≡ map (λ y. said_of (text y)) (filter (λ y. not (test y)) xs)
          → said_at n (if b then numbers_failing test (suc n) xs else n ∷ numbers_failing test (suc n) xs) (text x ∷ (map text xs ++ last ∷ []))
          ≡ map (λ y. said_of (text y)) (if not b then x ∷ filter (λ y. not (test y)) xs else filter (λ y. not (test y)) xs)
      at true e rest = said_earlier n (suc n) xs (text x) (map text xs ++ last ∷ []) (omega arith) ∙ rest
      at false e rest = said_here n (numbers_failing test (suc n) xs) (text x) (map text xs ++ last ∷ []) ∙ ap (λ (ls : List (List ℕ)). said_of (text x) ∷ ls) rest

-- ---- lines of a carried text

said_lines : (test : CarriedLine → Bool) (lines : List CarriedLine) → AllByRecursion HasItsForm lines → map (λ (l : CarriedLine). said_of (line_text l)) (filter test lines) ≡ map dropped_key (filter test lines)
said_lines test [] forms = refl
said_lines test (l ∷ lines) forms = at (test l) (said_lines test lines forms.1)
  where
    at : (b : Bool) → map (λ (x : CarriedLine). said_of (line_text x)) (filter test lines) ≡ map dropped_key (filter test lines)
        → map (λ (x : CarriedLine). said_of (line_text x)) (if b then l ∷ filter test lines else filter test lines) ≡ map dropped_key (if b then l ∷ filter test lines else filter test lines)
    at true rest = ap (λ (ls : List (List ℕ)). said_of (line_text l) ∷ ls) rest ∙ ap (λ (x : List ℕ). x ∷ map dropped_key (filter test lines)) (said_line l forms.0)
    at false rest = rest

pub said_dropped : (r : Rules) (c : CarriedText) → IsCarried c → said_at 1 (dropped_numbers r c.lines) (carried_lines c) ≡ dropped_keys r c.lines
said_dropped r c is =
    said_earlier (keeps r) 1 3 c.lines opening_line (next_line c.next ∷ (map line_text c.lines ++ end_line ∷ [])) (omega arith)
    ∙ said_earlier (keeps r) 2 3 c.lines (next_line c.next) (map line_text c.lines ++ end_line ∷ []) (omega arith)
    ∙ said_failing (keeps r) line_text 3 c.lines end_line
    ∙ said_lines (λ line. not (keeps r line)) c.lines is.forms

-- what is written of the bytes is what is said of the lines
pub said_of_bytes : (bytes dropped : List ℕ) (lines : List (List ℕ)) → AreDropped bytes dropped lines → said_at 1 dropped (lines_of bytes) ≡ lines
said_of_bytes bytes dropped lines (r, c, is, of_bytes, numbers, says) =
    ap (λ (ns : List ℕ). said_at 1 ns (lines_of bytes)) numbers
    ∙ ap (said_at 1 (dropped_numbers r c.lines)) (sym (whole_lines IsCarried carried_lines are_lines c is bytes of_bytes))
    ∙ said_dropped r c is
    ∙ sym says

pub said_text : (bytes dropped text : List ℕ) → IsDroppedText bytes dropped text → joined (said_at 1 dropped (lines_of bytes)) ≡ text
said_text bytes dropped text (lines, are, says) = ap joined (said_of_bytes bytes dropped lines are) ∙ sym says

-- ---- of what carrying gave

pub lines_of_carry : (r : Rules) (bytes : List ℕ) (a : Answered) (dropped : List ℕ) (carry : IsCarry r bytes a dropped) → AreDropped bytes dropped (dropped_keys r carry.0.lines)
lines_of_carry r bytes a dropped carry = (r, carry.0, carry.1, carry.2, carry.3.others, refl)

pub dropped_of_carry : (r : Rules) (bytes : List ℕ) (a : Answered) (dropped : List ℕ) (carry : IsCarry r bytes a dropped) → IsDroppedText bytes dropped (dropped_text r carry.0.lines)
dropped_of_carry r bytes a dropped carry = (dropped_keys r carry.0.lines, lines_of_carry r bytes a dropped carry, refl)

-- ---- the cause of a failure

pub cause_of : {T E : Type 0} (a b : Output) (text : List ℕ) (result : Result T E) → Wrote a b text result → HasCause a.faults b.faults result
cause_of a b text (Ok done) wrote = record { later = wrote.later; failed = tt }
cause_of a b text (Err failed) wrote = record { later = wrote.later; failed = wrote.rose }
