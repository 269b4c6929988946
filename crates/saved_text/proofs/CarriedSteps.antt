-- What one line does to what was read of a carried text.
use Rattle.saved_text.proofs.Common.{AllByRecursion, Answer, BadLine, Bool, CarriedLine, CarriedRead, CarriedStage, CarriedText, EndsNone, Err, Global, HasItsForm, IfErr, IsCarried, IsCarriedStage, IsNextNumber, IsShort, IsWith, JudgesCarried, LineFault, Lines, List, MayFollow, Member, NamesOther, NoMemory, None, Number, Ok, OnOk, Opening, Override, ReadsLine, Result, SharesNone, Side, SlotPath, Some, Takes, TakesText, TextLine, Whole, [], after, after-append, after_some, and_intro, ap, append-nil, append_assoc, are_below, are_others, arith, both, bytes_eq, carried_lines, codes, collection, cond, decimal, end_line, entry, equal_bytes, false, filter, filter-append, find, has, inl, inr, is_collection, is_not, key_text, leb-true, length, length-append, length-map, line_of, line_text, list_all, list_any, list_any-append, lists_member, lists_member_of, map, map-append, may_stand, members_in, nat_eq, nat_le, nat_lt, nat_tests, neither_or, new_or_fault, next_line, none-some, not, not_true, opening_line, option_map, or_false, or_neither, rank, read_lines as lines_of, refl, same_Some, same_bytes, same_number, side_rank, stage_lines, subst, sym, text_of, texts_of, true, ℕ, ◌&&◌, ◌++◌, ◌+◌, ◌<◌, ◌||◌, ◌∙◌, ◌∷◌, ◌≡◌, ◌≢◌, ◌≤◌}
use Rattle.saved_text.proofs.CarriedLines.{begins_with, entry_up, none_behind_end as none_behind_last, same_line, stands_there, with_line}
use Rattle.saved_text.proofs.Lines.{all_where, cons_not_nil, cons_parts, everywhere, never_empty}
use Rattle.saved_text.proofs.MemberParsing.{below_from, decimals_one, from_below, none_there, there_none}
use Rattle.saved_text.proofs.SlotTexts.{same_behind}
use Rattle.saved_text.proofs.TextLaws.{all-append, next_one}
use Rattle.saved_text.specs.CarriedParsing.{IsRead}
use Rattle.saved_text.specs.declared.entry_keys.EntryKeys.{EntryKeys}

-- ==== a test tells whether a line may stand behind the lines of a carried text that were read

-- ---- what others are

all_lists : (xs : List CarriedLine) → AllByRecursion (λ x. rank x ≤ 0) xs → filter is_collection xs ≡ xs
all_lists [] low = refl
all_lists (collection n ms ∷ xs) low = ap (λ (ys : List CarriedLine). collection n ms ∷ ys) (all_lists xs low.1)
all_lists (entry side path text ∷ xs) low = absurd (omega (arith, low.0, entry_up side path text))

lists_pushed : (xs : List CarriedLine) (y : CarriedLine) → length (filter is_collection (xs ++ y ∷ [])) ≡ length (filter is_collection xs) + length (filter is_collection (y ∷ []))
lists_pushed xs y = ap length (filter-append is_collection xs (y ∷ [])) ∙ length-append (filter is_collection xs) (filter is_collection (y ∷ []))

side_is : (side : Side) (path : SlotPath) (text : List ℕ) → rank (entry side path text) ≡ side_rank side
side_is Answer path text = refl
side_is Override path text = refl

-- an entry lists no member
listed_there : (xs : List CarriedLine) (side : Side) (path : SlotPath) (text : List ℕ) → lists_member_of (xs ++ entry side path text ∷ []) path ≡ lists_member_of xs path
listed_there xs side (Global n) text = refl
listed_there xs side (Member name k n) text = list_any-append (lists_member name k) xs (entry side (Member name k n) text ∷ []) ∙ or_false (list_any (lists_member name k) xs)

key_new : (key : List ℕ) (xs : List CarriedLine) → list_any (bytes_eq key) (map key_text xs) ≡ false → AllByRecursion (λ x. key_text x ≢ key) xs
key_new key [] out = tt
key_new key (x ∷ xs) out =
    let tests_passed = or_neither (bytes_eq key (key_text x)) (list_any (bytes_eq key) (map key_text xs)) out in
    (λ same. absurd (let equal : bytes_eq key (key_text x) ≡ true = ap (bytes_eq key) same ∙ equal_bytes key in let other : bytes_eq key (key_text x) ≡ false = tests_passed.0 in cc), key_new key xs tests_passed.1)

new_key : (key : List ℕ) (xs : List CarriedLine) → AllByRecursion (λ x. key_text x ≢ key) xs → list_any (bytes_eq key) (map key_text xs) ≡ false
new_key key [] all = refl
new_key key (x ∷ xs) all = neither_or (bytes_eq key (key_text x)) (list_any (bytes_eq key) (map key_text xs)) (at (bytes_eq key (key_text x)) refl) (new_key key xs all.1)
  where
    at : (b : Bool) → bytes_eq key (key_text x) ≡ b → b ≡ false
    at false h = refl
    at true h = absurd (all.0 (sym (same_bytes key (key_text x) h)))

module _ (name ms : List ℕ) where
  abbrev is_apart : CarriedLine → Bool
  is_apart x = are_others ms (members_in x)

  apart_from : (xs : List CarriedLine) → AllByRecursion (λ x. SharesNone x (collection name ms)) xs → list_all is_apart xs ≡ true
  apart_from [] apart = refl
  apart_from (x ∷ xs) apart = and_intro (is_apart x) (list_all is_apart xs) (is_not (list_any (λ m. list_any (nat_eq m) ms) (members_in x)) (there_none ms (members_in x) apart.0)) (apart_from xs apart.1)

  from_apart : (xs : List CarriedLine) → list_all is_apart xs ≡ true → AllByRecursion (λ x. SharesNone x (collection name ms)) xs
  from_apart [] all = tt
  from_apart (x ∷ xs) all =
      let parts = both (is_apart x) (list_all is_apart xs) all in
      (none_there ms (members_in x) (not_true (list_any (λ m. list_any (nat_eq m) ms) (members_in x)) parts.0), from_apart xs parts.1)

-- ---- the test

passes : (r : CarriedRead) → IsRead r → (line : CarriedLine) → MayFollow r.next (lines_of r) line → may_stand r line ≡ true
passes r read (collection name ms) may =
    let zero_most : r.rank ≤ 0 = read.least 0 may.order in
    let lists : length (filter is_collection (lines_of r)) ≡ length (lines_of r) = ap length (all_lists (lines_of r) may.order) in
    let low : length r.lines.items < 32 = omega (arith, may.few, lists_pushed (lines_of r) (collection name ms), lists, length-map r.lines.items line_of) in
    and_intro (nat_eq r.rank 0) (nat_lt (length r.lines.items) 32 && (are_below r.next ms && list_all (λ x. are_others ms (members_in x)) (lines_of r))) (let test : nat_eq r.rank 0 ≡ true = grind (arith, nat_tests) in test)
    (and_intro (nat_lt (length r.lines.items) 32) (are_below r.next ms && list_all (λ x. are_others ms (members_in x)) (lines_of r)) (let test : nat_lt (length r.lines.items) 32 ≡ true = grind (arith, nat_tests) in test)
    (and_intro (are_below r.next ms) (list_all (λ x. are_others ms (members_in x)) (lines_of r)) (below_from r.next ms may.below) (apart_from name ms (lines_of r) may.apart)))
passes r read (entry side path text) may =
    let low : r.rank ≤ rank (entry side path text) = read.least (rank (entry side path text)) may.order in
    let is = side_is side path text in
    let up : r.rank ≤ side_rank side = omega (arith, low, is) in
    and_intro (nat_le r.rank (side_rank side)) (lists_member_of (lines_of r) path) (let test : nat_le r.rank (side_rank side) ≡ true = grind (arith, nat_tests) in test)
    (sym (listed_there (lines_of r) side path text) ∙ may.member)

stands : (r : CarriedRead) → IsRead r → (line : CarriedLine) → HasItsForm line → IsShort line → may_stand r line ≡ true → AllByRecursion (λ x. NamesOther x line) (lines_of r) → MayFollow r.next (lines_of r) line
stands r read (collection name ms) form short test others =
    let one = both (nat_eq r.rank 0) (nat_lt (length r.lines.items) 32 && (are_below r.next ms && list_all (λ x. are_others ms (members_in x)) (lines_of r))) test in
    let two = both (nat_lt (length r.lines.items) 32) (are_below r.next ms && list_all (λ x. are_others ms (members_in x)) (lines_of r)) one.1 in
    let three = both (are_below r.next ms) (list_all (λ x. are_others ms (members_in x)) (lines_of r)) two.1 in
    let lists_alone : AllByRecursion (λ x. rank x ≤ 0) (lines_of r) = subst (λ (n : ℕ). AllByRecursion (λ x. rank x ≤ n) (lines_of r)) (same_number r.rank 0 one.0) read.high in
    let lists : length (filter is_collection (lines_of r)) ≡ length (lines_of r) = ap length (all_lists (lines_of r) lists_alone) in
    let low : nat_lt (length r.lines.items) 32 ≡ true = two.0 in
    let few : length r.lines.items < 32 = grind (arith, nat_tests) in
    record {
      form = form;
      short = short;
      below = from_below r.next ms three.0;
      order = lists_alone;
      once = others;
      apart = from_apart name ms (lines_of r) three.1;
      few = omega (arith, few, lists_pushed (lines_of r) (collection name ms), lists, length-map r.lines.items line_of);
      member = refl;
    }
stands r read (entry side path text) form short test others =
    let tests = both (nat_le r.rank (side_rank side)) (lists_member_of (lines_of r) path) test in
    let is = side_is side path text in
    let up : r.rank ≤ side_rank side = leb-true r.rank (side_rank side) tests.0 in
    record {
      form = form;
      short = short;
      below = tt;
      order = all_where (λ x. rank x ≤ r.rank) (λ x. rank x ≤ r.rank) (λ x. rank x ≤ rank (entry side path text)) (λ x low also. omega (arith, low, up, is)) (lines_of r) read.high read.high;
      once = others;
      apart = everywhere (λ x. SharesNone x (entry side path text)) (λ x m i. refl) (lines_of r);
      few = omega (arith, read.text.few, lists_pushed (lines_of r) (entry side path text));
      member = listed_there (lines_of r) side path text ∙ tests.1;
    }

-- ---- what comes of a line

module _ (r : CarriedRead) (line : TextLine) (read : IsRead r) where
  pub not_standing : may_stand r (line_of line) ≡ false → ¬ MayFollow r.next (lines_of r) (line_of line)
  not_standing bad may = let good : may_stand r (line_of line) ≡ true = passes r read (line_of line) may in cc

  pub not_new : not (has r.keys (key_text (line_of line))) ≡ false → ¬ MayFollow r.next (lines_of r) (line_of line)
  not_new old may = let new : has r.keys (key_text (line_of line)) ≡ false = read.keys (key_text (line_of line)) ∙ new_key (key_text (line_of line)) (lines_of r) may.once in cc

  module _ (form : HasItsForm (line_of line)) (short : IsShort (line_of line)) (test : may_stand r (line_of line) ≡ true) (fresh : not (has r.keys (key_text (line_of line))) ≡ true)
      (keys : EntryKeys) (added : (text : List ℕ) → has keys text ≡ (bytes_eq text (key_text (line_of line)) || has r.keys text)) where
    may : MayFollow r.next (lines_of r) (line_of line)
    may = stands r read (line_of line) form short test (key_new (key_text (line_of line)) (lines_of r) (sym (read.keys (key_text (line_of line))) ∙ not_true (has r.keys (key_text (line_of line))) fresh))

    took : (new : CarriedRead) → IsWith (record { next = r.next; lines = r.lines; keys = keys; rank = r.rank }) line new → Takes r (line_of line) (Ok new)
    took new with = (
      record {
        text = subst (λ (n : ℕ). IsCarried (record { next = n; lines = lines_of new })) (sym with.next) (subst (λ (xs : List CarriedLine). IsCarried (record { next = r.next; lines = xs })) (sym more) (with_line r.next (lines_of r) (line_of line) read.text may));
        keys = λ key.
            ap (λ (h : EntryKeys). has h key) with.keys ∙ added key ∙ ap (λ (b : Bool). bytes_eq key (key_text (line_of line)) || b) (read.keys key)
            ∙ turned (bytes_eq key (key_text (line_of line))) (list_any (bytes_eq key) (map key_text (lines_of r)))
            ∙ sym (list_any-append (bytes_eq key) (map key_text (lines_of r)) (key_text (line_of line) ∷ []))
            ∙ ap (list_any (bytes_eq key)) (sym (map-append key_text (lines_of r) (line_of line ∷ []))) ∙ ap (λ (xs : List CarriedLine). list_any (bytes_eq key) (map key_text xs)) (sym more);
        high = subst (λ (xs : List CarriedLine). AllByRecursion (λ x. rank x ≤ new.rank) xs) (sym more) (subst (λ (n : ℕ). AllByRecursion (λ x. rank x ≤ n) (lines_of r ++ line_of line ∷ [])) (sym with.rank) (all-append (λ x. rank x ≤ rank (line_of line)) (lines_of r) (line_of line ∷ []) may.order (omega arith, tt)));
        least = λ n all. (let last : rank (line_of line) ≤ n = next_one (λ x. rank x ≤ n) (lines_of r) (line_of line) [] (subst (AllByRecursion (λ x. rank x ≤ n)) more all) in let is = with.rank in omega (arith, last, is));
      },
      with.next,
      more,
    )
      where
        more : lines_of new ≡ lines_of r ++ line_of line ∷ []
        more = ap (map line_of) with.lines ∙ map-append line_of r.lines.items (line ∷ [])

        turned : (a b : Bool) → (a || b) ≡ (b || (a || false))
        turned true true = refl
        turned true false = refl
        turned false true = refl
        turned false false = refl

    pub line_result : (new : CarriedRead) (result : Result (Unit {0}) LineFault) → OnOk result (IsWith (record { next = r.next; lines = r.lines; keys = keys; rank = r.rank }) line new) → IfErr result (λ fault. fault ≡ NoMemory) → Takes r (line_of line) (new_or_fault new result)
    line_result new (Ok done) with memory = took new with
    line_result new (Err fault) with memory = subst (λ (f : LineFault). Takes r (line_of line) (Err f)) (sym memory) tt

-- whether one of the lines passes a test, and all do
pub any_of : (test : CarriedLine → Bool) (ls : List TextLine) → list_any (λ l. test (line_of l)) ls ≡ list_any test (map line_of ls)
any_of test [] = refl
any_of test (l ∷ ls) = ap (λ (b : Bool). test (line_of l) || b) (any_of test ls)

pub all_of : (test : CarriedLine → Bool) (ls : List TextLine) → list_all (λ l. test (line_of l)) ls ≡ list_all test (map line_of ls)
all_of test [] = refl
all_of test (l ∷ ls) = ap (λ (b : Bool). test (line_of l) && b) (all_of test ls)

pub found_of : (test : CarriedLine → Bool) (ls : List TextLine) → option_map line_of (find (λ l. test (line_of l)) ls) ≡ find test (map line_of ls)
found_of test [] = refl
found_of test (l ∷ ls) = at (test (line_of l)) (found_of test ls)
  where
    at : (b : Bool) → option_map line_of (find (λ k. test (line_of k)) ls) ≡ find test (map line_of ls) → option_map line_of (cond b (Some l) (find (λ k. test (line_of k)) ls)) ≡ cond b (Some (line_of l)) (find test (map line_of ls))
    at true rest = refl
    at false rest = rest

pub no_lines : (k : ℕ) → IsNextNumber k → IsCarried (record { next = k; lines = [] })
no_lines k is = record {
  number = is;
  forms = tt;
  short = tt;
  below = tt;
  order = tt;
  once = tt;
  apart = tt;
  few = omega arith;
  members = tt;
}

-- ==== what a text of lines that begins with those that were read goes on with

-- ---- what is left of it

abbrev pub IsLeft : CarriedStage → CarriedText → List (List ℕ) → Type 0
IsLeft Opening c more = carried_lines c ≡ more
IsLeft Number c more = next_line c.next ∷ (map line_text c.lines ++ end_line ∷ []) ≡ more
IsLeft (Lines r) c more = (c.next ≡ r.next) × ((rest : List CarriedLine) × (c.lines ≡ lines_of r ++ rest) × (map line_text rest ++ end_line ∷ [] ≡ more))
IsLeft (Whole r) c more = (c.lines ≡ lines_of r) × (more ≡ [])

-- the lines behind the first two
pub behind_next : (c : CarriedText) (k : ℕ) (lines : List CarriedLine) (more : List (List ℕ)) → IsCarried c → k ≤ 1000001 → AllByRecursion HasItsForm lines → carried_lines c ≡ opening_line ∷ next_line k ∷ (map line_text lines ++ more)
    → (c.next ≡ k) × ((rest : List CarriedLine) × (c.lines ≡ lines ++ rest) × (map line_text rest ++ end_line ∷ [] ≡ more))
behind_next c k lines more is low forms e =
    let first = cons_parts opening_line opening_line (next_line c.next ∷ (map line_text c.lines ++ end_line ∷ [])) (next_line k ∷ (map line_text lines ++ more)) e in
    let second = cons_parts (next_line c.next) (next_line k) (map line_text c.lines ++ end_line ∷ []) (map line_text lines ++ more) first.1 in
    (decimals_one c.next k is.number.1 low (same_behind (codes "next ") (decimal c.next) (decimal k) second.0), begins_with lines c.lines more forms is.forms second.1)

pub left : (stage : CarriedStage) → IsCarriedStage stage → (c : CarriedText) → IsCarried c → (more : List (List ℕ)) → carried_lines c ≡ texts_of stage ++ more → IsLeft stage c more
left Opening sound c is more e = e
left Number sound c is more e = (cons_parts opening_line opening_line (next_line c.next ∷ (map line_text c.lines ++ end_line ∷ [])) more e).1
left (Lines r) sound c is more e = behind_next c r.next (lines_of r) more is sound.text.number.1 sound.text.forms e
left (Whole r) sound c is more e =
    let parts = behind_next c r.next (lines_of r) (end_line ∷ more) is sound.number.1 sound.forms (e ∙ ap (λ (ls : List (List ℕ)). opening_line ∷ next_line r.next ∷ ls) (append_assoc (map line_text (lines_of r)) (end_line ∷ []) more)) in
    let last = none_behind_last parts.1.0 more parts.1.2 in
    (parts.1.1 ∙ ap (λ (xs : List CarriedLine). lines_of r ++ xs) last.0 ∙ append-nil (lines_of r), last.1)

-- its lines are those that were read, and others
pub lines_left : (stage : CarriedStage) (c : CarriedText) (more : List (List ℕ)) → IsLeft stage c more → (rest : List CarriedLine) × (c.lines ≡ stage_lines stage ++ rest)
lines_left Opening c more h = (c.lines, refl)
lines_left Number c more h = (c.lines, refl)
lines_left (Lines r) c more h = (h.1.0, h.1.1)
lines_left (Whole r) c more h = ([], h.0 ∙ sym (append-nil (lines_of r)))

-- more is left, but where it is whole
pub more_left : (stage : CarriedStage) (c : CarriedText) → IsLeft stage c [] → (r : CarriedRead) × (stage ≡ Whole r)
more_left Opening c e = absurd (cons_not_nil opening_line (next_line c.next ∷ (map line_text c.lines ++ end_line ∷ [])) e)
more_left Number c e = absurd (cons_not_nil (next_line c.next) (map line_text c.lines ++ end_line ∷ []) e)
more_left (Lines r) c h = absurd (never_empty (map line_text h.1.0) end_line h.1.2)
more_left (Whole r) c h = (r, refl)

-- and what was read is such a text, with what is left
pub goes_on : (stage : CarriedStage) → IsCarriedStage stage → (c : CarriedText) × (more : List (List ℕ)) × IsCarried c × (carried_lines c ≡ texts_of stage ++ more)
goes_on Opening sound = (record { next = 1; lines = [] }, carried_lines (record { next = 1; lines = [] }), no_lines 1 (omega arith, omega arith), refl)
goes_on Number sound = (record { next = 1; lines = [] }, next_line 1 ∷ end_line ∷ [], no_lines 1 (omega arith, omega arith), refl)
goes_on (Lines r) sound = (text_of r, end_line ∷ [], sound.text, refl)
goes_on (Whole r) sound = (text_of r, [], sound, sym (append-nil (carried_lines (text_of r))))

-- ==== what one line does to what was read of a carried text

-- ---- the first two

pub no_opening : (line : List ℕ) → line ≢ opening_line → EndsNone Opening line
no_opening line other c more is e = other (sym (cons_parts opening_line line (next_line c.next ∷ (map line_text c.lines ++ end_line ∷ [])) more e).0)

no_number : (line : List ℕ) → ((k : ℕ) → IsNextNumber k → next_line k ≢ line) → EndsNone Number line
no_number line none c more is e = none c.next is.number (cons_parts (next_line c.next) line (map line_text c.lines ++ end_line ∷ []) more (left Number tt c is (line ∷ more) e)).0

pub no_next_word : (line : List ℕ) → after (codes "next ") line ≡ None → EndsNone Number line
no_next_word line none = no_number line (λ k is e. none-some (decimal k) (sym none ∙ ap (after (codes "next ")) (sym e) ∙ after-append (codes "next ") (decimal k)))

pub no_next_number : (line digits : List ℕ) → after (codes "next ") line ≡ Some digits → ((k : ℕ) → IsNextNumber k → digits ≢ decimal k) → EndsNone Number line
no_next_number line digits found none = no_number line (λ k is e. none k is (same_Some digits (decimal k) (sym found ∙ ap (after (codes "next ")) (sym e) ∙ after-append (codes "next ") (decimal k))))

pub number_taken : (line digits : List ℕ) (k : ℕ) → after (codes "next ") line ≡ Some digits → IsNextNumber k → digits ≡ decimal k
    → (new : CarriedRead) → new.next ≡ k → new.lines.items ≡ [] → ((key : List ℕ) → has new.keys key ≡ false) → new.rank ≡ 0
    → JudgesCarried Number line (Ok (Lines new))
number_taken line digits k found number is new next lines keys zero_is = (
  record {
    text = subst (λ (n : ℕ). IsCarried (record { next = n; lines = lines_of new })) (sym next) (subst (λ (xs : List CarriedLine). IsCarried (record { next = k; lines = xs })) (sym empty) (no_lines k number));
    keys = λ key. keys key ∙ ap (λ (xs : List CarriedLine). list_any (bytes_eq key) (map key_text xs)) (sym empty);
    high = subst (AllByRecursion (λ x. rank x ≤ new.rank)) (sym empty) tt;
    least = λ n all. omega (arith, zero_is);
  },
  ap (λ (xs : List CarriedLine). opening_line ∷ next_line new.next ∷ map line_text xs) empty
      ∙ ap (λ (l : List ℕ). opening_line ∷ l ∷ []) (ap next_line next ∙ ap (λ (t : List ℕ). codes "next " ++ t) (sym is) ∙ sym (after_some (codes "next ") line digits found)),
  inl (empty, refl),
)
  where
    empty : lines_of new ≡ []
    empty = ap (map line_of) lines

-- ---- the lines behind them

module _ (r : CarriedRead) (read : IsRead r) (line : List ℕ) where
  pub later_taken : (new : CarriedRead) → TakesText r line (Ok new) → JudgesCarried (Lines r) line (Ok (Lines new))
  later_taken new (l, text, taken) = (
    taken.0,
    ap (λ (k : ℕ). opening_line ∷ next_line k ∷ map line_text (lines_of new)) taken.1
        ∙ ap (λ (xs : List CarriedLine). opening_line ∷ next_line r.next ∷ map line_text xs) taken.2
        ∙ ap (λ (xs : List (List ℕ)). opening_line ∷ next_line r.next ∷ xs) (map-append line_text (lines_of r) (l ∷ []))
        ∙ ap (λ (t : List ℕ). (opening_line ∷ next_line r.next ∷ map line_text (lines_of r)) ++ t ∷ []) text,
    inr (l, taken.2),
  )

  pub end_taken : line ≡ end_line → JudgesCarried (Lines r) line (Ok (Whole r))
  end_taken e = (read.text, ap (λ (l : List ℕ). (opening_line ∷ next_line r.next ∷ map line_text (lines_of r)) ++ l ∷ []) (sym e), refl)

  later_refused : line ≢ end_line → TakesText r line (Err BadLine) → EndsNone (Lines r) line
  later_refused other no_line c more is e = at h.1.0 h.1.1 h.1.2
    where
      h : IsLeft (Lines r) c (line ∷ more)
      h = left (Lines r) read c is (line ∷ more) e

      at : (rest : List CarriedLine) → c.lines ≡ lines_of r ++ rest → map line_text rest ++ end_line ∷ [] ≡ line ∷ more → ⊥
      at [] same text = other (sym (cons_parts end_line line [] more text).0)
      at (l ∷ rest) same text =
          no_line l (cons_parts (line_text l) line (map line_text rest ++ end_line ∷ []) more text).0
          (stands_there r.next (lines_of r) l rest
          (subst (λ (n : ℕ). IsCarried (record { next = n; lines = lines_of r ++ l ∷ rest })) h.0 (subst (λ (xs : List CarriedLine). IsCarried (record { next = c.next; lines = xs })) same is)))

  pub later_fault : line ≢ end_line → (fault : LineFault) → TakesText r line (Err fault) → JudgesCarried (Lines r) line (Err fault)
  later_fault other BadLine no_line = later_refused other no_line
  later_fault other NoMemory no_line = tt

pub none_behind_end : (r : CarriedRead) → IsCarried (text_of r) → (line : List ℕ) → EndsNone (Whole r) line
none_behind_end r text line c more is e = cons_not_nil line more (left (Whole r) text c is (line ∷ more) e).1

-- ---- a line by its text

module _ (r : CarriedRead) (text : List ℕ) where
  pub line_fault : (fault : LineFault) → ReadsLine text (Err fault) → TakesText r text (Err fault)
  line_fault BadLine bad = λ line same may. bad line may.form same
  line_fault NoMemory bad = tt

  -- what is said of a line that was read is said of its text
  pub of_text : (line : CarriedLine) → HasItsForm line → line_text line ≡ text → (result : Result CarriedRead LineFault) → Takes r line result → TakesText r text result
  of_text line form same (Ok new) taken = (line, same, taken)
  of_text line form same (Err BadLine) bad = λ other other_same may. bad (subst (MayFollow r.next (lines_of r)) (same_line other line may.form form (other_same ∙ sym same)) may)
  of_text line form same (Err NoMemory) bad = tt

  pub is_short : (line : CarriedLine) → line_text line ≡ text → length text ≤ 4096 → IsShort line
  is_short line same low = omega (arith, ap length same)

  -- a long line is none
  pub too_long : 4096 < length text → TakesText r text (Err BadLine)
  too_long long line same may = omega (arith, may.short, long, ap length same)
