-- Lines of a carried text that a saved text over a dictionary has: where they stand, one more behind them, and those that come
-- first.
use Rattle.save_file.proofs.Common.{AllByRecursion, AreOwn, Bool, CarriedLine, CarriedRead, CarriedStage, CarriedText, Contains, Err, Global, Grows, IfOk, IsCarried, IsCarriedStage, IsHighest, IsNext, IsOf, IsOfUpTo, IsPositionOfLast, IsPrinted, IsTrue, JudgesLast, AcceptedParts, Lines, List, LoadFault, Member, NamesOther, None, Number, Ok, Opening, Option, Pairs, Result, Side, Some, TextLine, Tree, Value, Whole, [], accepted, ap, append_assoc, arith, carried_lines, codes, collection, cond, counted_from, entry, equal_bytes, fact_of, false, find, guarded, has_its_member, if◌then◌else◌, inl, inr, is_list_named, is_own, key_text, length, length-append, length-map, line_of, list_any, lists_member, map, member_place, members_by, members_in, members_named, nat_lt, nat_tests, none-some, option_map, place_in, position, position_behind, position_of_last, read_lines as lines_of, refl, same_Some, same_bytes, slice_get, stage_lines, start, subst, suc, sym, taken_value, texts_of, true, value_printed, ℕ, ◌*◌, ◌++◌, ◌+◌, ◌-◌, ◌<◌, ◌∙◌, ◌∷◌, ◌≡◌, ◌≢◌, ◌≤◌, ◌⊎◌}
use Rattle.save_file.proofs.CarriedAnswers.{any_listed, spelled_fits, taken_takes}
use Rattle.saved_text.proofs.CarriedLines.{pairs-push, pairs_before, pairs_front}
use Rattle.saved_text.proofs.CarriedSteps.{found_of, left, lines_left}
use Rattle.saved_text.proofs.Lines.{all_where, either_first, find_some, find_there, pairs_where}
use Rattle.saved_text.proofs.TextLaws.{all-append, in_front, next_one}
use Rattle.common_lemmas.proofs.Lists.{get_last}
use Rattle.std.proofs.lemmas.Option.{slice_get-map}

-- ---- the members of a list

named_is : (name : List ℕ) (line : CarriedLine) → is_list_named name line ≡ true → key_text line ≡ codes "list /" ++ name
named_is name (collection other ms) e = ap (λ (n : List ℕ). codes "list /" ++ n) (same_bytes other name e)
named_is name (entry side path text) e = absurd cc

-- of a list that is there, where no other is of its name
pub named_there : (lines : List CarriedLine) (c ms : List ℕ) → Pairs NamesOther lines → Contains lines (collection c ms) → members_named c lines ≡ ms
named_there lines c ms once h = ap members_by l.1 ∙ one (either_first NamesOther lines l.0 (collection c ms) once found.0 h)
  where
    l : (l : CarriedLine) × (find (is_list_named c) lines ≡ Some l)
    l = find_there (is_list_named c) lines (collection c ms) h (equal_bytes c)

    found : Contains lines l.0 × (is_list_named c l.0 ≡ true)
    found = find_some (is_list_named c) lines l.0 l.1

    one : (l.0 ≡ collection c ms) ⊎ (NamesOther l.0 (collection c ms) ⊎ NamesOther (collection c ms) l.0) → members_in l.0 ≡ ms
    one (inl same) = ap members_in same
    one (inr (inl other)) = absurd (other (named_is c l.0 found.1))
    one (inr (inr other)) = absurd (other (sym (named_is c l.0 found.1)))

find_front : {X : Type 0} (test : X → Bool) (xs ys : List X) (x : X) → find test xs ≡ Some x → find test (xs ++ ys) ≡ Some x
find_front test [] ys x e = absurd cc
find_front {X = X} test (k ∷ xs) ys x e = at (test k) e (find_front test xs ys x)
  where
    at : (b : Bool) → cond b (Some k) (find test xs) ≡ Some x → (find test xs ≡ Some x → find test (xs ++ ys) ≡ Some x) → cond b (Some k) (find test (xs ++ ys)) ≡ Some x
    at true e rest = e
    at false e rest = rest e

-- a list in which the member is comes first with more lines too
named_before : (name : List ℕ) (k : ℕ) (xs ys : List CarriedLine) → list_any (lists_member name k) xs ≡ true → members_named name (xs ++ ys) ≡ members_named name xs
named_before name k xs ys there =
    let list = any_listed name k xs there in
    let first = find_there (is_list_named name) xs (collection name list.0) list.1 (equal_bytes name) in
    ap members_by (find_front (is_list_named name) xs ys first.0 first.1 ∙ sym first.1)

-- of the lines that were read
pub named_of : (name : List ℕ) (r : CarriedRead) (items : List TextLine) → items ≡ r.lines.items → (o : Option TextLine) → o ≡ find (λ l. is_list_named name (line_of l)) items → members_by (option_map line_of o) ≡ members_named name (lines_of r)
named_of name r items same o e = ap (λ (p : Option TextLine). members_by (option_map line_of p)) e ∙ ap members_by (found_of (is_list_named name) items) ∙ ap (λ (ls : List TextLine). members_named name (map line_of ls)) same

-- ---- a value that is taken

pub taken_printed : (d : Tree) (side : Side) (fact : ℕ) (text : List ℕ) (v : Value) → taken_value d side fact text ≡ Some v → IsPrinted d.enums v
taken_printed d side fact text v e = let typed = spelled_fits d start fact text v (taken_takes d side fact text v e).1 in value_printed d start v typed.0 typed.2

-- ---- positions

-- more lines leave it as it is
position_before : (d : Tree) (xs ys : List CarriedLine) (line : CarriedLine) → IsTrue (has_its_member xs line) → position d (xs ++ ys) line ≡ position d xs line
position_before d xs ys (collection name ms) has = refl
position_before d xs ys (entry side (Global n) text) has = refl
position_before d xs ys (entry side (Member c k n) text) has = ap (λ (ms : List ℕ). suc (101 * (counted_from d side + fact_of d (Member c k n)) + place_in k ms)) (named_before c k xs ys has)

-- it is from 1
one_more : (d : Tree) (lines : List CarriedLine) (line : CarriedLine) → (n : ℕ) × (position d lines line ≡ suc n)
one_more d lines (collection name ms) = (101 * fact_of d (Global name), refl)
one_more d lines (entry side path text) = (101 * (counted_from d side + fact_of d path) + member_place lines path, refl)

-- ---- lines that come first

module _ (d : Tree) (xs : List CarriedLine) (members : AllByRecursion (λ line. IsTrue (has_its_member xs line)) xs) where
  same_positions : (ys : List CarriedLine) → AllByRecursion (λ line. position d (xs ++ ys) line ≡ position d xs line) xs
  same_positions ys = all_where (λ line. IsTrue (has_its_member xs line)) (λ line. IsTrue (has_its_member xs line)) (λ line. position d (xs ++ ys) line ≡ position d xs line) (λ line has also. position_before d xs ys line has) xs members members

  own_front : (ys : List CarriedLine) → AreOwn d (xs ++ ys) → AreOwn d xs
  own_front ys is = record {
    own = in_front (λ line. IsTrue (is_own d line)) xs ys is.own;
    rise = pairs_where (λ line. position d (xs ++ ys) line ≡ position d xs line) (λ x y. position d (xs ++ ys) x < position d (xs ++ ys) y) (λ x y. position d xs x < position d xs y)
        (λ x y e f low. omega (arith, e, f, low)) xs (same_positions ys) (pairs_front (λ x y. position d (xs ++ ys) x < position d (xs ++ ys) y) xs ys is.rise);
  }

  -- ---- one more line

  module _ (is : AreOwn d xs) (last : ℕ) (highest : IsHighest d xs last) (line : CarriedLine) where
    abbrev its : ℕ
    its = position d (xs ++ line ∷ []) line

    with_it : IsTrue (is_own d line) → last < its → AreOwn d (xs ++ line ∷ []) × IsHighest d (xs ++ line ∷ []) its
    with_it own up = (
      record {
        own = all-append (λ x. IsTrue (is_own d x)) xs (line ∷ []) is.own (own, tt);
        rise = pairs-push (λ x y. position d (xs ++ line ∷ []) x < position d (xs ++ line ∷ []) y) xs line
            (pairs_where (λ x. position d (xs ++ line ∷ []) x ≡ position d xs x) (λ x y. position d xs x < position d xs y) (λ x y. position d (xs ++ line ∷ []) x < position d (xs ++ line ∷ []) y)
            (λ x y e f low. omega (arith, e, f, low)) xs (same_positions (line ∷ [])) is.rise)
            (all_where (λ x. position d (xs ++ line ∷ []) x ≡ position d xs x) (λ x. position d xs x ≤ last) (λ x. position d (xs ++ line ∷ []) x < its) (λ x e low. omega (arith, e, low, up)) xs (same_positions (line ∷ [])) highest.high);
      },
      record {
        high = all-append (λ x. position d (xs ++ line ∷ []) x ≤ its) xs (line ∷ [])
            (all_where (λ x. position d (xs ++ line ∷ []) x ≡ position d xs x) (λ x. position d xs x ≤ last) (λ x. position d (xs ++ line ∷ []) x ≤ its) (λ x e low. omega (arith, e, low, up)) xs (same_positions (line ∷ [])) highest.high) (omega arith, tt);
        least = λ n all. (let low = next_one (λ x. position d (xs ++ line ∷ []) x < suc n) xs line [] all in omega (arith, low));
      },
    )

    -- it is behind the others where all are own
    behind_others : AreOwn d (xs ++ line ∷ []) → last < its
    behind_others all =
        let more = one_more d (xs ++ line ∷ []) line in
        let low : last ≤ more.0 =
        highest.least more.0 (all_where (λ x. position d (xs ++ line ∷ []) x ≡ position d xs x) (λ x. position d (xs ++ line ∷ []) x < its) (λ x. position d xs x < suc more.0) (λ x e less. omega (arith, e, less, more.1)) xs
        (same_positions (line ∷ [])) (pairs_before (λ x y. position d (xs ++ line ∷ []) x < position d (xs ++ line ∷ []) y) xs line [] all.rise)) in
        omega (arith, low, more.1)

    judged : (o : Option ℕ) → o ≡ position_behind d (xs ++ line ∷ []) last line → (p : ℕ) → o ≡ Some p → AreOwn d (xs ++ line ∷ []) × IsHighest d (xs ++ line ∷ []) p
    judged o e p some =
        let first = guarded (is_own d line) (if nat_lt last its then Some its else None) p (sym e ∙ some) in
        let second = guarded (nat_lt last its) (Some its) p first.1 in
        let test : nat_lt last its ≡ true = second.0 in
        let up : last < its = grind (arith, nat_tests) in
        subst (λ (n : ℕ). AreOwn d (xs ++ line ∷ []) × IsHighest d (xs ++ line ∷ []) n) (same_Some its p second.1) (with_it first.0 up)

    none_judged : position_behind d (xs ++ line ∷ []) last line ≡ None → AreOwn d (xs ++ line ∷ []) → ⊥
    none_judged none all =
        let own : is_own d line ≡ true = next_one (λ x. IsTrue (is_own d x)) xs line [] all.own in
        let up = behind_others all in
        let test : nat_lt last its ≡ true = grind (arith, nat_tests) in
        none-some its (sym none ∙ ap (λ (b : Bool). if b then if nat_lt last its then Some its else None else None) own ∙ ap (λ (b : Bool). if b then Some its else None) test)

-- ---- the last line

module _ (d : Tree) (r : CarriedRead) (last : ℕ) (items : List TextLine) (same : items ≡ r.lines.items) where
  of_last : (o : Option TextLine) → o ≡ slice_get items (length items - 1) → position_of_last d (lines_of r) last (option_map line_of o) ≡ position_of_last d (lines_of r) last (slice_get (lines_of r) (length (lines_of r) - 1))
  of_last o at =
      ap (position_of_last d (lines_of r) last)
      (ap (option_map line_of) at
      ∙ sym (slice_get-map line_of items (length items - 1))
      ∙ ap (λ (n : ℕ). slice_get (map line_of items) (n - 1)) (sym (length-map items line_of))
      ∙ ap (λ (xs : List TextLine). slice_get (map line_of xs) (length (map line_of xs) - 1)) same)

  pub line_last : (line : TextLine) → Some line ≡ slice_get items (length items - 1) → (result : Result (Option ℕ) LoadFault) → IfOk result (λ o. o ≡ position_behind d (lines_of r) last (line_of line)) → IfOk result (IsPositionOfLast d (lines_of r) last)
  line_last line at (Err fault) is = tt
  line_last line at (Ok o) is = is ∙ of_last (Some line) at

  pub none_last : None ≡ slice_get items (length items - 1) → IsPositionOfLast d (lines_of r) last (Some last)
  none_last at = of_last None at

-- of one more line
of_pushed : (d : Tree) (last : ℕ) (xs before : List CarriedLine) (line : CarriedLine) → xs ≡ before ++ line ∷ [] → position_of_last d xs last (slice_get xs (length xs - 1)) ≡ position_behind d (before ++ line ∷ []) last line
of_pushed d last xs before line e =
    let size : length (before ++ line ∷ []) - 1 ≡ length before = omega (arith, length-append before (line ∷ [])) in
    ap (λ (ys : List CarriedLine). position_of_last d ys last (slice_get ys (length ys - 1))) e
    ∙ ap (λ (n : ℕ). position_of_last d (before ++ line ∷ []) last (slice_get (before ++ line ∷ []) n)) size
    ∙ ap (position_of_last d (before ++ line ∷ []) last) (get_last before line)

of_empty : (d : Tree) (last : ℕ) (xs : List CarriedLine) → xs ≡ [] → position_of_last d xs last (slice_get xs (length xs - 1)) ≡ Some last
of_empty d last xs e = ap (λ (ys : List CarriedLine). position_of_last d ys last (slice_get ys (length ys - 1))) e

-- ---- the stage after a line

members_there : (stage : CarriedStage) → IsCarriedStage stage → AllByRecursion (λ line. IsTrue (has_its_member (stage_lines stage) line)) (stage_lines stage)
members_there Opening sound = tt
members_there Number sound = tt
members_there (Lines r) sound = sound.text.members
members_there (Whole r) sound = sound.members

module _ (d : Tree) (old : CarriedStage) (sound : IsCarriedStage old) (last : ℕ) (is : AreOwn d (stage_lines old)) (highest : IsHighest d (stage_lines old) last) (r : CarriedRead) where
  last_own : Grows old (Lines r) → (o : Option ℕ) → IsPositionOfLast d (lines_of r) last o → (p : ℕ) → o ≡ Some p → AreOwn d (lines_of r) × IsHighest d (lines_of r) p
  last_own (inl none) o of p some =
      subst (λ (xs : List CarriedLine). AreOwn d xs × IsHighest d xs p) (none.1 ∙ sym none.0)
      (subst (λ (n : ℕ). AreOwn d (stage_lines old) × IsHighest d (stage_lines old) n) (same_Some last p (sym (of ∙ of_empty d last (lines_of r) none.0) ∙ some)) (is, highest))
  last_own (inr more) o of p some =
      subst (λ (xs : List CarriedLine). AreOwn d xs × IsHighest d xs p) (sym more.1)
      (judged d (stage_lines old) (members_there old sound) is last highest more.0 o (of ∙ of_pushed d last (lines_of r) (stage_lines old) more.0 more.1) p some)

  last_not : Grows old (Lines r) → IsPositionOfLast d (lines_of r) last None → AreOwn d (lines_of r) → ⊥
  last_not (inl none) of all = none-some last (of ∙ of_empty d last (lines_of r) none.0)
  last_not (inr more) of all =
      none_judged d (stage_lines old) (members_there old sound) is last highest more.0
      (sym (of ∙ of_pushed d last (lines_of r) (stage_lines old) more.0 more.1)) (subst (AreOwn d) more.1 all)

kept_up : (d : Tree) (xs ys : List CarriedLine) (last p : ℕ) → ys ≡ xs → Some p ≡ Some last → AreOwn d xs × IsHighest d xs last → AreOwn d ys × IsHighest d ys p
kept_up d xs ys last p same e is =
    subst (λ (zs : List CarriedLine). AreOwn d zs × IsHighest d zs p) (sym same) (subst (λ (n : ℕ). AreOwn d xs × IsHighest d xs n) (sym (same_Some p last e)) is)

pub next_of : (whose : Option AcceptedParts) (old new : CarriedStage) → IsCarriedStage old → (last : ℕ) → IsOfUpTo whose (stage_lines old) last → Grows old new → (p : ℕ) → JudgesLast whose new last (Some p) → IsOfUpTo whose (stage_lines new) p
next_of None old new sound last is grows p of = tt
next_of (Some k) old Opening sound last is grows p of = kept_up (accepted k).tree (stage_lines old) [] last p grows of is
next_of (Some k) old Number sound last is grows p of = kept_up (accepted k).tree (stage_lines old) [] last p grows of is
next_of (Some k) old (Lines r) sound last is grows p of = last_own (accepted k).tree old sound last is.0 is.1 r grows (Some p) of p refl
next_of (Some k) old (Whole r) sound last is grows p of = kept_up (accepted k).tree (stage_lines old) (lines_of r) last p grows of is

not_of : (whose : Option AcceptedParts) (old new : CarriedStage) → IsCarriedStage old → (last : ℕ) → IsOfUpTo whose (stage_lines old) last → Grows old new → JudgesLast whose new last None → IsOf whose (stage_lines new) → ⊥
not_of None old new sound last is grows of all = none-some last of
not_of (Some k) old Opening sound last is grows of all = none-some last of
not_of (Some k) old Number sound last is grows of all = none-some last of
not_of (Some k) old (Lines r) sound last is grows of all = last_not (accepted k).tree old sound last is.0 is.1 r grows of all
not_of (Some k) old (Whole r) sound last is grows of all = none-some last of

front_of : (whose : Option AcceptedParts) (stage : CarriedStage) → IsCarriedStage stage → (rest : List CarriedLine) → IsOf whose (stage_lines stage ++ rest) → IsOf whose (stage_lines stage)
front_of None stage sound rest all = tt
front_of (Some k) stage sound rest all = own_front (accepted k).tree (stage_lines stage) (members_there stage sound) rest all

-- where the line that was read isn't of the kind, no text of the kind goes on with it
pub none_goes_on : (whose : Option AcceptedParts) (old new : CarriedStage) (line : List ℕ) (last : ℕ) → IsCarriedStage old → IsOfUpTo whose (stage_lines old) last → IsNext old line new → JudgesLast whose new last None
    → (c : CarriedText) (more : List (List ℕ)) → IsCarried c → IsOf whose c.lines → carried_lines c ≢ texts_of old ++ line ∷ more
none_goes_on whose old new line last sound is next of c more text own e =
    let whole : carried_lines c ≡ texts_of new ++ more = e ∙ sym (append_assoc (texts_of old) (line ∷ []) more) ∙ ap (λ (ls : List (List ℕ)). ls ++ more) (sym next.1) in
    let rest = lines_left new c more (left new next.0 c text more whole) in
    not_of whose old new sound last is next.2 of (front_of whose new next.0 rest.0 (subst (IsOf whose) rest.1 own))
