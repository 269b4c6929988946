-- The lines of a carried text, each by itself and behind others.
use Rattle.saved_text.proofs.Common.{All-tail, AllByRecursion, Answer, BadLine, Bool, CarriedLine, EntryLine, Err, Global, HasItsForm, HasNoNewline, IsBelowNext, IsCarried, IsInOrder, IsMemberList, IsMemberNumber, IsName, IsShort, IsSlotPath, IsTrue, IsUtf8, Lacks, LineFault, List, MayFollow, Member, NamesOther, NoMemory, None, Ok, Override, Pairs, ReadsLine, ReadsMembers, ReadsName, ReadsPath, SharesNone, Side, SlotPath, Some, SpellsSlotPath, [], ap, append_assoc, arith, codes, collection, cut, cut-append, cut_some, end_line, entry, false, filter, filter-append, front_lacks, has_its_member, inr, is_collection, key_text, length, length-append, line_text, list_any, list_any-append, lists_member, map, name_lacks_blank, none-some, one_path_from, or_left, printed_rest, rank, refl, side_word, slot_lacks_blank, slot_path_reading, slot_path_text, string_bytes, subst, sym, ℕ, ◌++◌, ◌+◌, ◌<◌, ◌||◌, ◌∙◌, ◌∷◌, ◌≡◌, ◌≢◌, ◌≤◌}
use Rattle.fact_paths.specs.Parsing.{slot_path_of}
use Rattle.saved_text.proofs.Lines.{cons_parts, first}
use Rattle.saved_text.proofs.SlotTexts.{Tail, members_numbered, numbers_of, same_behind, same_members, same_parts, tail_of}
use Rattle.saved_text.proofs.TextLaws.{all-append, in_front as in_front_of, next_one}
use Rattle.saved_text.specs.declared.carried_line.TextLine.TheVariants.{Entry as entry_line}

-- ==== lines of different kinds of a carried text

pub in_order : (i j : ℕ) → i ≤ j → (x y : CarriedLine) → rank x ≡ i → rank y ≡ j → IsInOrder x y
in_order i j low x y e f = omega (arith, low, e, f)

keys_differ : (x y : CarriedLine) → rank x < rank y → key_text x ≡ key_text y → ⊥
keys_differ (collection n ms) (collection m ns) low e = omega (arith, low)
keys_differ (collection n ms) (entry Answer p t) low e = let byte : 108 ≡ 118 = ap first e in omega (arith, byte)
keys_differ (collection n ms) (entry Override p t) low e = let byte : 108 ≡ 111 = ap first e in omega (arith, byte)
keys_differ (entry Answer q u) (collection m ns) low e = omega (arith, low)
keys_differ (entry Override q u) (collection m ns) low e = omega (arith, low)
keys_differ (entry Answer q u) (entry Answer p t) low e = omega (arith, low)
keys_differ (entry Answer q u) (entry Override p t) low e = let byte : 118 ≡ 111 = ap first e in omega (arith, byte)
keys_differ (entry Override q u) (entry Answer p t) low e = omega (arith, low)
keys_differ (entry Override q u) (entry Override p t) low e = omega (arith, low)

pub names_other : (i j : ℕ) → i < j → (x y : CarriedLine) → rank x ≡ i → rank y ≡ j → NamesOther x y
names_other i j low x y e f same = keys_differ x y (omega (arith, low, e, f)) same

-- only lists have members
pub shares_none : (j : ℕ) → 0 < j → (x y : CarriedLine) → rank y ≡ j → SharesNone x y
shares_none j low x (collection n ms) e m i = absurd (omega (arith, low, e))
shares_none j low x (entry side path text) e m i = refl

pub higher : (i j : ℕ) → i ≤ j → (xs : List CarriedLine) → AllByRecursion (λ x. rank x ≡ j) xs → AllByRecursion (λ x. i ≤ rank x) xs
higher i j low [] all = tt
higher i j low (x ∷ xs) all = (omega (arith, low, all.0), higher i j low xs all.1)

no_lists : (xs : List CarriedLine) → AllByRecursion (λ x. 1 ≤ rank x) xs → filter is_collection xs ≡ []
no_lists [] all = refl
no_lists (collection n ms ∷ xs) all = absurd (omega (arith, all.0))
no_lists (entry side path text ∷ xs) all = no_lists xs all.1

-- no line behind the lists is one
pub few_lists : (xs ys : List CarriedLine) → AllByRecursion (λ y. 1 ≤ rank y) ys → length (filter is_collection (xs ++ ys)) ≤ length xs
few_lists [] ys all = let none = ap length (no_lists ys all) in omega (arith, none)
few_lists (collection n ms ∷ xs) ys all = omega (arith, few_lists xs ys all)
few_lists (entry side path text ∷ xs) ys all = omega (arith, few_lists xs ys all)

-- ==== the text of a line of a carried text is that of no other line

-- ---- first words

pub no_entry : (side : Side) (path : SlotPath) (text rest : List ℕ) → line_text (entry side path text) ≡ codes "list /" ++ rest → ⊥
no_entry Answer path text rest e = let byte : 118 ≡ 108 = ap first e in omega (arith, byte)
no_entry Override path text rest e = let byte : 111 ≡ 108 = ap first e in omega (arith, byte)

pub no_list : (side : Side) (name members rest : List ℕ) → line_text (collection name members) ≡ side_word side ++ rest → ⊥
no_list Answer name members rest e = let byte : 108 ≡ 118 = ap first e in omega (arith, byte)
no_list Override name members rest e = let byte : 108 ≡ 111 = ap first e in omega (arith, byte)

pub entry_pieces : (side : Side) (path : SlotPath) (text : List ℕ) → line_text (entry side path text) ≡ side_word side ++ (slot_path_text path ++ 32 ∷ text)
entry_pieces side path text = append_assoc (side_word side) (slot_path_text path) (32 ∷ text)

pub one_side : (side k : Side) (x y : List ℕ) → side_word side ++ x ≡ side_word k ++ y → side ≡ k
one_side Answer Answer x y e = refl
one_side Answer Override x y e = let byte : 118 ≡ 111 = ap first e in absurd (omega (arith, byte))
one_side Override Answer x y e = let byte : 111 ≡ 118 = ap first e in absurd (omega (arith, byte))
one_side Override Override x y e = refl

-- no line is the last one
pub no_end : (line : CarriedLine) → line_text line ≡ end_line → ⊥
no_end (collection name members) e = let byte : 108 ≡ 101 = ap first e in omega (arith, byte)
no_end (entry Answer path text) e = let byte : 118 ≡ 101 = ap first e in omega (arith, byte)
no_end (entry Override path text) e = let byte : 111 ≡ 101 = ap first e in omega (arith, byte)

-- ---- parts

pub list_parts : (n members name tail : List ℕ) → IsName n → Lacks 32 name → Tail tail → line_text (collection n members) ≡ codes "list /" ++ (name ++ tail) → (n ≡ name) × (printed_rest members ≡ tail)
list_parts n members name tail is lacks is_tail e =
    same_parts n name (printed_rest members) tail (name_lacks_blank n is) lacks (tail_of members) is_tail (same_behind (codes "list /") (n ++ printed_rest members) (name ++ tail) e)

pub entry_parts : (side k : Side) (path : SlotPath) (text p value : List ℕ) → IsSlotPath path → Lacks 32 p → line_text (entry side path text) ≡ side_word k ++ (p ++ 32 ∷ value)
    → (side ≡ k) × (slot_path_text path ≡ p) × (text ≡ value)
entry_parts side k path text p value is lacks e =
    let whole : side_word side ++ (slot_path_text path ++ 32 ∷ text) ≡ side_word k ++ (p ++ 32 ∷ value) = sym (entry_pieces side path text) ∙ e in
    let kind = one_side side k (slot_path_text path ++ 32 ∷ text) (p ++ 32 ∷ value) whole in
    let behind = same_behind (side_word k) (slot_path_text path ++ 32 ∷ text) (p ++ 32 ∷ value) (ap (λ (s : Side). side_word s ++ (slot_path_text path ++ 32 ∷ text)) (sym kind) ∙ whole) in
    let parts = same_parts (slot_path_text path) p (32 ∷ text) (32 ∷ value) (slot_lacks_blank path is) lacks (inr (text, refl)) (inr (value, refl)) behind in
    (kind, parts.0, (cons_parts 32 32 text value parts.1).1)

pub one_path : (p q : SlotPath) → IsSlotPath p → IsSlotPath q → slot_path_text p ≡ slot_path_text q → p ≡ q
one_path p q is other e = one_path_from SpellsSlotPath slot_path_of slot_path_reading (slot_path_text q) p q (is, sym e) (other, refl)

pub one_members : (ms ns : List ℕ) → IsMemberList ms → IsMemberList ns → printed_rest ms ≡ printed_rest ns → ms ≡ ns
one_members ms ns is other e = same_members ms ns (numbers_of ms (members_numbered ms is)) (numbers_of ns (members_numbered ns other)) e

pub same_line : (x y : CarriedLine) → HasItsForm x → HasItsForm y → line_text x ≡ line_text y → x ≡ y
same_line (collection n ms) (collection m ns) is other e =
    let parts = list_parts n ms m (printed_rest ns) is.0 (name_lacks_blank m other.0) (tail_of ns) e in
    ap (λ (k : List ℕ). collection k ms) parts.0 ∙ ap (collection m) (one_members ms ns is.1 other.1 parts.1)
same_line (collection n ms) (entry k q u) is other e = absurd (no_list k n ms (slot_path_text q ++ 32 ∷ u) (e ∙ entry_pieces k q u))
same_line (entry side p t) (collection m ns) is other e = absurd (no_entry side p t (m ++ printed_rest ns) e)
same_line (entry side p t) (entry k q u) is other e =
    let parts = entry_parts side k p t (slot_path_text q) u is.0 (slot_lacks_blank q other.0) (e ∙ entry_pieces k q u) in
    ap (λ (s : Side). entry s p t) parts.0 ∙ ap (λ (path : SlotPath). entry k path t) (one_path p q is.0 other.0 parts.1) ∙ ap (entry k q) parts.2

-- ---- lines behind others

-- a text that begins with the texts of lines begins with these lines
pub begins_with : (before xs : List CarriedLine) (more : List (List ℕ)) → AllByRecursion HasItsForm before → AllByRecursion HasItsForm xs → map line_text xs ++ end_line ∷ [] ≡ map line_text before ++ more
    → (rest : List CarriedLine) × (xs ≡ before ++ rest) × (map line_text rest ++ end_line ∷ [] ≡ more)
begins_with [] xs more forms all e = (xs, refl, e)
begins_with (b ∷ before) [] more forms all e = absurd (no_end b (sym (cons_parts end_line (line_text b) [] (map line_text before ++ more) e).0))
begins_with (b ∷ before) (x ∷ xs) more forms all e =
    let parts = cons_parts (line_text x) (line_text b) (map line_text xs ++ end_line ∷ []) (map line_text before ++ more) e in
    let rest = begins_with before xs more forms.1 all.1 parts.1 in
    (rest.0, ap (λ (y : CarriedLine). y ∷ xs) (same_line x b all.0 forms.0 parts.0) ∙ ap (λ (ys : List CarriedLine). b ∷ ys) rest.1, rest.2)

-- behind the last line comes none
pub none_behind_end : (xs : List CarriedLine) (more : List (List ℕ)) → map line_text xs ++ end_line ∷ [] ≡ end_line ∷ more → (xs ≡ []) × (more ≡ [])
none_behind_end [] more e = (refl, sym (cons_parts end_line end_line [] more e).1)
none_behind_end (x ∷ xs) more e = absurd (no_end x (cons_parts (line_text x) end_line (map line_text xs ++ end_line ∷ []) more e).0)

-- ==== how a line of a carried text is read

-- a text behind another has no newline either
pub none_there : (front back : List ℕ) → HasNoNewline (front ++ back) → HasNoNewline back
none_there [] back all = all
none_there (b ∷ front) back all = none_there front back (All-tail (λ c. c ≢ 10) b (front ++ back) all)

-- ---- lists

module _ (name : List ℕ) (lacks : Lacks 32 name) where
  pub bad_name : (tail : List ℕ) → Tail tail → (fault : LineFault) → ReadsName name (Err fault) → ReadsLine (codes "list /" ++ (name ++ tail)) (Err fault)
  bad_name tail is_tail NoMemory bad = tt
  bad_name tail is_tail BadLine bad = none
    where
      none : (line : CarriedLine) → HasItsForm line → line_text line ≢ codes "list /" ++ (name ++ tail)
      none (collection n ms) form e = bad (let same = (list_parts n ms name tail form.0 lacks is_tail e).0 in subst (λ (x : List ℕ). HasItsForm (collection x ms)) same form).0
      none (entry side path text) form e = no_entry side path text (name ++ tail) e

  pub bad_list : (found : List ℕ) → AllByRecursion IsMemberNumber found → ¬ IsMemberList found → ReadsLine (codes "list /" ++ (name ++ printed_rest found)) (Err BadLine)
  bad_list found numbers bad = none
    where
      none : (line : CarriedLine) → HasItsForm line → line_text line ≢ codes "list /" ++ (name ++ printed_rest found)
      none (collection n ms) form e =
          bad (subst IsMemberList (same_members ms found (numbers_of ms (members_numbered ms form.1)) numbers (list_parts n ms name (printed_rest found) form.0 lacks (tail_of found) e).1) form.1)
      none (entry side path text) form e = no_entry side path text (name ++ printed_rest found) e

pub bad_members : (text name behind : List ℕ) → cut 32 text ≡ Some (name, behind) → (fault : LineFault) → ReadsMembers (32 ∷ behind) (Err fault) → ReadsLine (codes "list /" ++ text) (Err fault)
bad_members text name behind parts NoMemory bad = tt
bad_members text name behind parts BadLine bad = none
  where
    none : (line : CarriedLine) → HasItsForm line → line_text line ≢ codes "list /" ++ text
    none (collection n ms) form e =
        bad ms (numbers_of ms (members_numbered ms form.1))
        (list_parts n ms name (32 ∷ behind) form.0 (front_lacks 32 text name behind parts) (inr (behind, refl)) (e ∙ ap (λ (t : List ℕ). codes "list /" ++ t) (cut_some 32 text name behind parts))).1
    none (entry side path value) form e = no_entry side path value text e

-- ---- entries

module _ (side : Side) (text : List ℕ) where
  pub no_value : cut 32 text ≡ None → ReadsLine (side_word side ++ text) (Err BadLine)
  no_value uncut = none
    where
      none : (line : CarriedLine) → HasItsForm line → line_text line ≢ side_word side ++ text
      none (collection n ms) form e = no_list side n ms text e
      none (entry k path value) form e =
          let whole : side_word k ++ (slot_path_text path ++ 32 ∷ value) ≡ side_word side ++ text = sym (entry_pieces k path value) ∙ e in
          let kind = one_side k side (slot_path_text path ++ 32 ∷ value) text whole in
          let same = same_behind (side_word side) (slot_path_text path ++ 32 ∷ value) text (ap (λ (s : Side). side_word s ++ (slot_path_text path ++ 32 ∷ value)) (sym kind) ∙ whole) in
          none-some (slot_path_text path, value) (sym uncut ∙ ap (cut 32) (sym same) ∙ cut-append 32 (slot_path_text path) value (slot_lacks_blank path form.0))

  module _ (path value : List ℕ) (parts : cut 32 text ≡ Some (path, value)) where
    whole_text : side_word side ++ text ≡ side_word side ++ (path ++ 32 ∷ value)
    whole_text = ap (λ (t : List ℕ). side_word side ++ t) (cut_some 32 text path value parts)

    pub bad_path : (fault : LineFault) → ReadsPath path (Err fault) → ReadsLine (side_word side ++ text) (Err fault)
    bad_path NoMemory bad = tt
    bad_path BadLine bad = none
      where
        none : (line : CarriedLine) → HasItsForm line → line_text line ≢ side_word side ++ text
        none (collection n ms) form e = no_list side n ms text e
        none (entry k p v) form e =
            let same = entry_parts k side p v path value form.0 (front_lacks 32 text path value parts) (e ∙ whole_text) in
            bad p (form.0, sym same.1)

    pub entry_read : HasNoNewline text → (p : SlotPath) → SpellsSlotPath path p → IsUtf8 value → (line : EntryLine) → line.side ≡ side → line.path ≡ p → string_bytes line.text ≡ value → ReadsLine (side_word side ++ text) (Ok (entry_line line))
    entry_read none p spelled utf8 line sides paths texts = (
      subst (λ (q : SlotPath). HasItsForm (entry line.side q (string_bytes line.text))) (sym paths)
          (subst (λ (v : List ℕ). HasItsForm (entry line.side p v)) (sym texts) (spelled.0, utf8, All-tail (λ c. c ≢ 10) 32 value (none_there path (32 ∷ value) (subst HasNoNewline (cut_some 32 text path value parts) none)))),
      entry_pieces line.side line.path (string_bytes line.text)
          ∙ ap (λ (s : Side). side_word s ++ (slot_path_text line.path ++ 32 ∷ string_bytes line.text)) sides
          ∙ ap (λ (q : SlotPath). side_word side ++ (slot_path_text q ++ 32 ∷ string_bytes line.text)) paths
          ∙ ap (λ (v : List ℕ). side_word side ++ (slot_path_text p ++ 32 ∷ v)) texts
          ∙ ap (λ (x : List ℕ). side_word side ++ (x ++ 32 ∷ value)) (sym spelled.1)
          ∙ sym whole_text,
    )

-- ==== what lines of a carried text keep, with one more behind them

-- ---- pairs

pub pairs-push : {X : Type 0} (R : X → X → Type 0) (xs : List X) (y : X) → Pairs R xs → AllByRecursion (λ x. R x y) xs → Pairs R (xs ++ y ∷ [])
pairs-push R [] y pairs all = (tt, tt)
pairs-push R (x ∷ xs) y pairs all = (all-append (R x) xs (y ∷ []) pairs.0 (all.0, tt), pairs-push R xs y pairs.1 all.1)

pub pairs_before : {X : Type 0} (R : X → X → Type 0) (xs : List X) (y : X) (ys : List X) → Pairs R (xs ++ y ∷ ys) → AllByRecursion (λ x. R x y) xs
pairs_before R [] y ys pairs = tt
pairs_before R (x ∷ xs) y ys pairs = (next_one (R x) xs y ys pairs.0, pairs_before R xs y ys pairs.1)

pub pairs_front : {X : Type 0} (R : X → X → Type 0) (xs ys : List X) → Pairs R (xs ++ ys) → Pairs R xs
pairs_front R [] ys pairs = tt
pairs_front R (x ∷ xs) ys pairs = (in_front_of (R x) xs ys pairs.0, pairs_front R xs ys pairs.1)

pairs_behind : {X : Type 0} (R : X → X → Type 0) (xs : List X) (y : X) (ys : List X) → Pairs R (xs ++ y ∷ ys) → AllByRecursion (R y) ys
pairs_behind R [] y ys pairs = pairs.0
pairs_behind R (x ∷ xs) y ys pairs = pairs_behind R xs y ys pairs.1

-- ---- the member of a slot

-- no list comes behind an entry
none_listed : (name : List ℕ) (k : ℕ) (line : CarriedLine) → 1 ≤ rank line → lists_member name k line ≡ false
none_listed name k (collection other members) up = absurd (omega arith)
none_listed name k (entry side path text) up = refl

none_behind : (name : List ℕ) (k : ℕ) (line : CarriedLine) (rest : List CarriedLine) → 1 ≤ rank line → AllByRecursion (IsInOrder line) rest → list_any (lists_member name k) rest ≡ false
none_behind name k line [] up all = refl
none_behind name k line (x ∷ rest) up all =
    ap (λ (b : Bool). b || list_any (lists_member name k) rest) (none_listed name k x (omega (arith, all.0))) ∙ none_behind name k line rest up all.1

pub entry_up : (side : Side) (path : SlotPath) (text : List ℕ) → 1 ≤ rank (entry side path text)
entry_up Answer path text = omega arith
entry_up Override path text = omega arith

-- so the list of its collection stands before it
member_before : (before : List CarriedLine) (line : CarriedLine) (rest : List CarriedLine) → AllByRecursion (IsInOrder line) rest → IsTrue (has_its_member (before ++ line ∷ rest) line) → IsTrue (has_its_member (before ++ line ∷ []) line)
member_before before (collection name members) rest order has = refl
member_before before (entry side (Global n) text) rest order has = refl
member_before before (entry side (Member name k n) text) rest order has =
    list_any-append (lists_member name k) before (entry side (Member name k n) text ∷ [])
    ∙ ap (λ (b : Bool). list_any (lists_member name k) before || b) (sym (none_behind name k (entry side (Member name k n) text) rest (entry_up side (Member name k n) text) order))
    ∙ sym (list_any-append (lists_member name k) before (entry side (Member name k n) text ∷ rest))
    ∙ has

more_listed : (lines : List CarriedLine) (line x : CarriedLine) → IsTrue (has_its_member lines x) → IsTrue (has_its_member (lines ++ line ∷ []) x)
more_listed lines line (collection name members) has = refl
more_listed lines line (entry side (Global n) text) has = refl
more_listed lines line (entry side (Member name k n) text) has =
    list_any-append (lists_member name k) lines (line ∷ []) ∙ or_left (list_any (lists_member name k) lines) (list_any (lists_member name k) (line ∷ [])) has

all_more : (lines : List CarriedLine) (line : CarriedLine) (xs : List CarriedLine) → AllByRecursion (λ x. IsTrue (has_its_member lines x)) xs → AllByRecursion (λ x. IsTrue (has_its_member (lines ++ line ∷ []) x)) xs
all_more lines line [] all = tt
all_more lines line (x ∷ xs) all = (more_listed lines line x all.0, all_more lines line xs all.1)

-- ---- one more line

module _ (next : ℕ) (lines : List CarriedLine) (line : CarriedLine) where
  -- in a carried text, it may stand where it stands
  pub stands_there : (rest : List CarriedLine) → IsCarried (record { next = next; lines = lines ++ line ∷ rest }) → MayFollow next lines line
  stands_there rest is = record {
    form = next_one HasItsForm lines line rest is.forms;
    short = next_one IsShort lines line rest is.short;
    below = next_one (IsBelowNext next) lines line rest is.below;
    order = pairs_before IsInOrder lines line rest is.order;
    once = pairs_before NamesOther lines line rest is.once;
    apart = pairs_before SharesNone lines line rest is.apart;
    few = omega (arith, is.few, count);
    member = member_before lines line rest (pairs_behind IsInOrder lines line rest is.order) (next_one (λ x. IsTrue (has_its_member (lines ++ line ∷ rest) x)) lines line rest is.members);
  }
    where
      count : length (filter is_collection (lines ++ line ∷ rest)) ≡ length (filter is_collection (lines ++ line ∷ [])) + length (filter is_collection rest)
      count =
          ap (λ (ls : List CarriedLine). length (filter is_collection ls)) (sym (append_assoc lines (line ∷ []) rest))
          ∙ ap length (filter-append is_collection (lines ++ line ∷ []) rest)
          ∙ length-append (filter is_collection (lines ++ line ∷ [])) (filter is_collection rest)

  -- and with a line that may stand behind them, lines make a carried text
  pub with_line : IsCarried (record { next = next; lines = lines }) → MayFollow next lines line → IsCarried (record { next = next; lines = lines ++ line ∷ [] })
  with_line is may = record {
    number = is.number;
    forms = all-append HasItsForm lines (line ∷ []) is.forms (may.form, tt);
    short = all-append IsShort lines (line ∷ []) is.short (may.short, tt);
    below = all-append (IsBelowNext next) lines (line ∷ []) is.below (may.below, tt);
    order = pairs-push IsInOrder lines line is.order may.order;
    once = pairs-push NamesOther lines line is.once may.once;
    apart = pairs-push SharesNone lines line is.apart may.apart;
    few = may.few;
    members = all-append (λ x. IsTrue (has_its_member (lines ++ line ∷ []) x)) lines (line ∷ []) (all_more lines line lines is.members) (may.member, tt);
  }
