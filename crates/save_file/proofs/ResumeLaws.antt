-- What is taken of a text that came from outside, and which lines are dropped.
use Rattle.save_file.proofs.Common.{AllByRecursion, Answer, Answered, AreOfKept, BadValue, Bool, CarriedLine, CarriedRead, CarriedText, Contains, Global, HasItsForm, IsBelowNext, IsCarried, IsCarryOf, IsInOrder, IsPlaced, IsShort, IsTrue, List, Member, NamesOther, NoMember, None, Option, Override, Pairs, Refusal, Rules, SharesNone, SlotPath, Some, TextLine, Tree, UnknownFact, Value, WrongKind, [], ap, append_assoc, arith, both, carried, collection, drop, drop_more, dropped_from, entry, fact_of, false, filter, first_of, get_or, guarded, has_its_member, if◌then◌else◌, is_answered_by, is_collection, is_none, is_some, kept_collection, kept_value, lacks_member, length, limit_refusals, line_of, list_any, lists_member, map, named_fact, names_of, not, option_map, overrides, read_lines as lines_of, refl, set_refusals, subst, suc, sym, text_of, tree_of, true, unwrap_or, value_of, value_refusals, value_spelled, when, ℕ, ◌&&◌, ◌++◌, ◌+◌, ◌<◌, ◌||◌, ◌∙◌, ◌∷◌, ◌≡◌, ◌≤◌}
use Rattle.std.proofs.lemmas.List.Filters.{length-filter_both}
use Rattle.save_file.proofs.CarriedAnswers.{placed_where}
use Rattle.save_file.proofs.CarryLaws.{of_one}
use Rattle.saved_text.proofs.CarriedTexts.{one_text}
use Rattle.saved_text.proofs.Lines.{one_of_all}
use Rattle.save_file.specs.Resuming.{CarryingGivesTheSame, IsResumeOf, LimitsAllowWhatStands, NoOverrideStands, SetSaysTheReason, DroppedLine, DroppedWhereNotKept, fact_refusals, reason_of, dropped_where, without_overrides}
use Rattle.save_file.specs.declared.reason.Reason.TheVariants.{NoCollection, Refused as RefusedBy}
use Rattle.save_file.specs.declared.reason.Reason.{Reason}
use Rattle.std.specs.FinMap as map

-- ==== lines without overrides

-- ---- what they keep

abbrev left : List CarriedLine → List CarriedLine
left lines = filter (λ line. not (overrides line)) lines

all_left : (P : CarriedLine → Type 0) (lines : List CarriedLine) → AllByRecursion P lines → AllByRecursion P (left lines)
all_left P [] all = tt
all_left P (collection n ms ∷ lines) all = (all.0, all_left P lines all.1)
all_left P (entry Answer p t ∷ lines) all = (all.0, all_left P lines all.1)
all_left P (entry Override p t ∷ lines) all = all_left P lines all.1

pairs_left : (R : CarriedLine → CarriedLine → Type 0) (lines : List CarriedLine) → Pairs R lines → Pairs R (left lines)
pairs_left R [] pairs = tt
pairs_left R (collection n ms ∷ lines) pairs = (all_left (R (collection n ms)) lines pairs.0, pairs_left R lines pairs.1)
pairs_left R (entry Answer p t ∷ lines) pairs = (all_left (R (entry Answer p t)) lines pairs.0, pairs_left R lines pairs.1)
pairs_left R (entry Override p t ∷ lines) pairs = pairs_left R lines pairs.1

lists_left : (lines : List CarriedLine) → filter is_collection (left lines) ≡ filter is_collection lines
lists_left [] = refl
lists_left (collection n ms ∷ lines) = ap (λ (ls : List CarriedLine). collection n ms ∷ ls) (lists_left lines)
lists_left (entry Answer p t ∷ lines) = lists_left lines
lists_left (entry Override p t ∷ lines) = lists_left lines

member_left : (name : List ℕ) (k : ℕ) (lines : List CarriedLine) → list_any (lists_member name k) (left lines) ≡ list_any (lists_member name k) lines
member_left name k [] = refl
member_left name k (collection n ms ∷ lines) = ap (λ (b : Bool). lists_member name k (collection n ms) || b) (member_left name k lines)
member_left name k (entry Answer p t ∷ lines) = member_left name k lines
member_left name k (entry Override p t ∷ lines) = member_left name k lines

has_left : (lines : List CarriedLine) (line : CarriedLine) → has_its_member (left lines) line ≡ has_its_member lines line
has_left lines (collection n ms) = refl
has_left lines (entry side (Global n) t) = refl
has_left lines (entry side (Member c k n) t) = member_left c k lines

members_left : (lines xs : List CarriedLine) → AllByRecursion (λ line. IsTrue (has_its_member lines line)) xs → AllByRecursion (λ line. IsTrue (has_its_member (left lines) line)) xs
members_left lines [] all = tt
members_left lines (x ∷ xs) all = (subst IsTrue (sym (has_left lines x)) all.0, members_left lines xs all.1)

pub carried_left : (c : CarriedText) → IsCarried c → IsCarried (without_overrides c)
carried_left c is = record {
  number = is.number;
  forms = all_left HasItsForm c.lines is.forms;
  short = all_left IsShort c.lines is.short;
  below = all_left (IsBelowNext c.next) c.lines is.below;
  order = pairs_left IsInOrder c.lines is.order;
  once = pairs_left NamesOther c.lines is.once;
  apart = pairs_left SharesNone c.lines is.apart;
  few = subst (λ (ls : List CarriedLine). length ls ≤ 32) (sym (lists_left c.lines)) is.few;
  members = all_left (λ line. IsTrue (has_its_member (left c.lines) line)) c.lines (members_left c.lines c.lines is.members);
}

none_left : (lines : List CarriedLine) → AllByRecursion (λ line. overrides line ≡ false) (left lines)
none_left [] = tt
none_left (collection n ms ∷ lines) = (refl, none_left lines)
none_left (entry Answer p t ∷ lines) = (refl, none_left lines)
none_left (entry Override p t ∷ lines) = none_left lines

nothing_goes : (lines : List CarriedLine) → AllByRecursion (λ line. overrides line ≡ false) lines → left lines ≡ lines
nothing_goes [] none = refl
nothing_goes (collection n ms ∷ lines) none = ap (λ (ls : List CarriedLine). collection n ms ∷ ls) (nothing_goes lines none.1)
nothing_goes (entry Answer p t ∷ lines) none = ap (λ (ls : List CarriedLine). entry Answer p t ∷ ls) (nothing_goes lines none.1)
nothing_goes (entry Override p t ∷ lines) none = absurd (let other : true ≡ false = none.0 in cc)

-- ---- of what was read

lines_left : (ls : List TextLine) → left (map line_of ls) ≡ map line_of (filter (λ (l : TextLine). not (overrides (line_of l))) ls)
lines_left [] = refl
lines_left (l ∷ ls) = at (not (overrides (line_of l))) (lines_left ls)
  where
    at : (b : Bool) → left (map line_of ls) ≡ map line_of (filter (λ (x : TextLine). not (overrides (line_of x))) ls)
        → (if b then line_of l ∷ left (map line_of ls) else left (map line_of ls)) ≡ map line_of (if b then l ∷ filter (λ (x : TextLine). not (overrides (line_of x))) ls else filter (λ (x : TextLine). not (overrides (line_of x))) ls)
    at true h = ap (λ (xs : List CarriedLine). line_of l ∷ xs) h
    at false h = h

module _ (old new : CarriedRead) (next : new.next ≡ old.next) (lines : new.lines.items ≡ filter (λ (l : TextLine). not (overrides (line_of l))) old.lines.items) where
  pub text_left : text_of new ≡ without_overrides (text_of old)
  text_left =
      ap (λ (n : ℕ). record { next = n; lines = lines_of new }) next
      ∙ ap (λ (xs : List CarriedLine). record { next = old.next; lines = xs }) (ap (map line_of) lines ∙ sym (lines_left old.lines.items))

  pub few_left : (most : ℕ) → length old.lines.items + 3 < most → length new.lines.items + 3 < most
  few_left most few =
      let parts = length-filter_both (λ (l : TextLine). not (overrides (line_of l))) (λ (l : TextLine). not (not (overrides (line_of l)))) (λ l. refl) old.lines.items in
      omega (arith, parts, few, ap length lines)

-- ==== the lines that are dropped

pub dropped_on : {X : Type 0} (r : Rules) (line_of : X → CarriedLine) (items : List X) (i : ℕ) (item : X) → i < length items → item ≡ get_or items i item
    → (n m : ℕ) (old new : List DroppedLine) → new ≡ old ++ dropped_where n (line_of item) (reason_of r (line_of item)) → m ≡ suc n
    → new ++ dropped_from r m (map line_of (drop (i + 1) items)) ≡ old ++ dropped_from r n (map line_of (drop i items))
dropped_on {X = X} r line_of items i item low is n m old new e next =
    let this = dropped_where n (line_of item) (reason_of r (line_of item)) in
    let rest = map line_of (drop (i + 1) items) in
    let split : drop i items ≡ item ∷ drop (i + 1) items = drop_more items i item low ∙ ap (λ (x : X). x ∷ drop (i + 1) items) (sym is) in
    ap (λ (ts : List DroppedLine). ts ++ dropped_from r m rest) e
    ∙ ap (λ (k : ℕ). (old ++ this) ++ dropped_from r k rest) next
    ∙ append_assoc old this (dropped_from r (suc n) rest)
    ∙ sym (ap (λ (xs : List X). old ++ dropped_from r n (map line_of xs)) split)

-- ==== laws

-- ---- what stands

no_override_there : (lines : List CarriedLine) (path : SlotPath) (text : List ℕ) → Contains (left lines) (entry Override path text) → ⊥
no_override_there lines path text there =
    let other : true ≡ false = one_of_all (λ line. overrides line ≡ false) (left lines) (entry Override path text) (none_left lines) there in
    cc

pub no_override : NoOverrideStands
no_override r bytes a others resume s = at (value_of Override a s) refl
  where
    at : (o : Option Value) → value_of Override a s ≡ o → o ≡ None
    at None e = refl
    at (Some v) e = absurd (let given = (resume.3.kept.values Override s v).0 e in no_override_there resume.0.lines given.0 given.1 given.2)

nothing : (o : Option Refusal) → is_none o ≡ true → o ≡ None
nothing None e = refl
nothing (Some f) e = absurd cc

kept_allowed : (r : Rules) (fact : ℕ) (text : List ℕ) (v : Value) → kept_value r Answer fact text ≡ Some v → IsTrue (is_answered_by (tree_of r) fact) × (first_of (limit_refusals r fact (Some v)) ≡ None)
kept_allowed r fact text v e =
    let parts = guarded (is_answered_by (tree_of r) fact && is_none (first_of (value_refusals r fact text))) (value_spelled (tree_of r) fact text) v e in
    let tests = both (is_answered_by (tree_of r) fact) (is_none (first_of (value_refusals r fact text))) parts.0 in
    (tests.0, nothing (first_of (limit_refusals r fact (Some v))) (sym (ap (λ (o : Option Value). is_none (first_of (when (is_none o) BadValue ∷ limit_refusals r fact o))) parts.1) ∙ tests.1))

pub limits_allow : LimitsAllowWhatStands
limits_allow r bytes a others resume s v has =
    let given = (resume.3.kept.values Answer s v).0 has in
    kept_allowed r s.fact given.1 v given.4

-- ---- which lines those are

abbrev as_reason : Option Refusal → Option Reason
as_reason o = option_map (λ f. RefusedBy f) o

spelled_where : (r : Rules) (fact : ℕ) (w : Option Value) → first_of (when (is_none w) BadValue ∷ limit_refusals r fact w) ≡ None → is_some w ≡ true
spelled_where r fact None e = absurd cc
spelled_where r fact (Some v) e = refl

taken_where : (f : Option Refusal) (w : Option Value) → (f ≡ None → is_some w ≡ true) → is_none (as_reason f) ≡ is_some (if is_none f then w else None)
taken_where None w spelled = sym (spelled refl)
taken_where (Some f) w spelled = refl

answered_where : (b : Bool) (fs : List (Option Refusal)) (w : Option Value) → (first_of fs ≡ None → is_some w ≡ true)
    → is_none (as_reason (first_of (when (not b) WrongKind ∷ fs))) ≡ is_some (if b && is_none (first_of fs) then w else None)
answered_where true fs w spelled = taken_where (first_of fs) w spelled
answered_where false fs w spelled = refl

no_answer : (d : Tree) → is_answered_by d 0 ≡ false
no_answer d = refl

pub dropped_where_not : DroppedWhereNotKept
dropped_where_not r (collection name members) = at (kept_collection (tree_of r) name)
  where
    at : (o : Option ℕ) → is_none (if is_some o then None else Some NoCollection) ≡ is_some o
    at None = refl
    at (Some c) = refl
dropped_where_not r (entry Override path text) = refl
dropped_where_not r (entry Answer path text) = at (named_fact (tree_of r) path)
  where
    at : (o : Option ℕ) → is_none (as_reason (first_of (when (is_none o) UnknownFact ∷ fact_refusals r (unwrap_or o 0) text))) ≡ is_some (kept_value r Answer (unwrap_or o 0) text)
    at None = sym (ap (λ (b : Bool). is_some (if b && is_none (first_of (value_refusals r 0 text)) then value_spelled (tree_of r) 0 text else None)) (no_answer (tree_of r)))
    at (Some n) = answered_where (is_answered_by (tree_of r) n) (value_refusals r n text) (value_spelled (tree_of r) n text) (spelled_where r n (value_spelled (tree_of r) n text))

-- ---- what `set` says

set_says_same : (r : Rules) (a : Answered) (path : SlotPath) (text : List ℕ) → IsPlaced (tree_of r) a path → reason_of r (entry Answer path text) ≡ as_reason (first_of (set_refusals r a path text))
set_says_same r a path text placed = ap as_reason (at (named_fact (tree_of r) path) refl)
  where
    at : (o : Option ℕ) → named_fact (tree_of r) path ≡ o
        → first_of (when (is_none o) UnknownFact ∷ fact_refusals r (fact_of (tree_of r) path) text)
        ≡ first_of (when (is_none o) UnknownFact ∷ when (lacks_member (tree_of r) a path) NoMember ∷ fact_refusals r (fact_of (tree_of r) path) text)
    at None e = refl
    at (Some n) e = ap (λ (b : Bool). first_of (when b NoMember ∷ fact_refusals r (fact_of (tree_of r) path) text)) (sym (placed n e))

pub set_says : SetSaysTheReason
set_says r is c carried a others of path text there = set_says_same r a path text (at path (one_of_all (λ line. IsTrue (has_its_member c.lines line)) c.lines (entry Answer path text) carried.members there))
  where
    at : (p : SlotPath) → IsTrue (has_its_member c.lines (entry Answer p text)) → IsPlaced (tree_of r) a p
    at (Global n) has = λ f e. refl
    at (Member name k n) has =
        placed_where (names_of r.checks) r.accepted is a (left c.lines) name k n (λ q ms h kept. (of.kept.lists q ms).1 (name, h, kept)) (member_left name k c.lines ∙ has)

-- ---- beside carrying

pub carrying_same : CarryingGivesTheSame
carrying_same r c is none a b dropped others carry resume =
    let of_carry : IsCarryOf r c a dropped = subst (λ (x : CarriedText). IsCarryOf r x a dropped) (one_text carry.0 c carry.1 is (sym carry.2)) carry.3 in
    let of_resume : IsResumeOf r c b others = subst (λ (x : CarriedText). IsResumeOf r x b others) (one_text resume.0 c resume.1 is (sym resume.2)) resume.3 in
    let kept : AreOfKept r c b = subst (λ (ls : List CarriedLine). AreOfKept r (record { next = c.next; lines = ls }) b) (nothing_goes c.lines none) of_resume.kept in
    (of_one r c a b dropped dropped of_carry (record { kept = kept; fit = of_resume.fit; others = of_carry.others })).0
