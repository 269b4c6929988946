-- The texts of slots and of lists.
use Rattle.saved_text.proofs.Common.{Accepted, AllByRecursion, Answered, AnswersFit, Bool, Fact, FactPath, HasPath, IsAccepted, IsMemberList, IsMemberNumber, IsPrinted, IsSlot, Lacks, List, None, Option, Side, Slot, SlotPath, Some, SpellsSlotPath, Tree, Value, [], after, after-append, ap, append-nil, arith, both, both_left, both_right, both_some, cases_lt, cut, cut-append, cut-lacks, decimal, fact_at, fact_within, false, find_path, find_path-first, global_has_none, inl, inr, is_list, is_some, leb-true, length, length-append, list_all, mapped, nat_lt, nat_tests, none-some, one_path_from, open_members, opens_of, option_and_then, printed_item, printed_rest, refl, same_Some, slot, slot_path, slot_path_of, slot_path_reading, slot_text, some_pair_parts, standing_slot, subst, sym, text_spells, true, value_of, value_printed, ℕ, ◌&&◌, ◌++◌, ◌+◌, ◌∙◌, ◌∷◌, ◌≡◌, ◌≤◌, ◌⊎◌}
use Rattle.std.proofs.Common.{IsTrue, nat_le}
use Rattle.dict_source.proofs.FindingLaws.{find_path-none}
use Rattle.dict_rules.specs.DuplicatePath.{is_before, is_taken}
use Rattle.dict_meaning.proofs.ExtensionLaws.{is_placed, list_home}
use Rattle.fact_paths.proofs.MemberNumbers.{decimal_lacks, member_number-decimal}
use Rattle.fact_paths.specs.Parsing.{member_number_of, slot_path_of as read_slot_path}
use Rattle.std.specs.FinMap as map
use Rattle.fact_paths.specs.declared.fact_path.FactPath.TheVariants as facts
use Rattle.fact_values.specs.Members as numbers

-- ==== the text of a slot has no blank, and no other slot has it

-- ---- texts

-- what stands behind the same front is the same
pub same_behind : (front x y : List ℕ) → front ++ x ≡ front ++ y → x ≡ y
same_behind front x y e = same_Some x y (sym (after-append front x) ∙ ap (after front) e ∙ after-append front y)

-- ---- paths

-- the first fact with the path of a fact is that fact
first_here : (d : Tree) (fact : ℕ) (path : FactPath) → HasPath d.facts path fact → is_before fact (find_path d.facts path) ≡ false → find_path d.facts path ≡ Some fact
first_here d fact path has new = at (find_path d.facts path) refl new
  where
    at : (o : Option ℕ) → find_path d.facts path ≡ o → is_before fact o ≡ false → o ≡ Some fact
    at None e h = absurd ((find_path-none d.facts path).0 e fact has)
    at (Some k) e h =
        let first = (find_path-first d.facts path k).0 e in
        elim (cases_lt fact k) [
          | inl less ↦ absurd (first.before fact less has)
          | inr up ↦ ap Some (let low : nat_lt k fact ≡ false = h in let same : k ≡ fact = grind (arith, nat_tests) in same)
        ]

same_slot : (s t : Slot) → s.fact ≡ t.fact → s.member ≡ t.member → s ≡ t
same_slot s t f m = ap (λ n. slot n s.member) f ∙ ap (slot t.fact) m

module _ (names : List (List ℕ)) (d : Accepted) (is : IsAccepted names d) where
  -- a slot's path, its fact and the fact's path
  pub path_parts : (s : Slot) (path : SlotPath) → slot_path d.tree s ≡ Some path → (p : FactPath) × HasPath d.tree.facts p s.fact × (path ≡ slot_path_of s.member p)
  path_parts s path e =
      let whole = mapped (slot_path_of s.member) (option_and_then (λ (f : Fact). f.path) (fact_at d.tree.facts s.fact)) path e in
      let found = both_some (λ (f : Fact). f.path) (fact_at d.tree.facts s.fact) whole.0 whole.1 in
      (whole.0, record { fact = found.0; is_there = found.1; path_is = found.2 }, whole.2)

  -- one fact at most has a path
  pub found_at : (p : FactPath) (fact : ℕ) → HasPath d.tree.facts p fact → find_path d.tree.facts p ≡ Some fact
  found_at p fact has = first_here d.tree fact p has (sym (ap (is_taken d.tree fact) has.path_is) ∙ kept)
    where
      kept : is_taken d.tree fact has.fact.path ≡ false
      kept = at (is_taken d.tree fact has.fact.path) refl
        where
          at : (b : Bool) → is_taken d.tree fact has.fact.path ≡ b → b ≡ false
          at false e = refl
          at true e = absurd (is.typed.0.1.0 fact (record { fact = has.fact; is_there = has.is_there; passes = e }))

  same_fact : (p q : FactPath) (n m : ℕ) → HasPath d.tree.facts p n → HasPath d.tree.facts q m → p ≡ q → n ≡ m
  same_fact p q n m has other e = same_Some n m (sym (found_at p n has) ∙ ap (find_path d.tree.facts) e ∙ found_at q m other)

  same_path : (s t : Slot) (p q : FactPath) → HasPath d.tree.facts p s.fact → HasPath d.tree.facts q t.fact → slot_path_of s.member p ≡ slot_path_of t.member q → IsSlot d.tree s → IsSlot d.tree t → s ≡ t
  same_path s t (facts.Global n) (facts.Global m) has other e slot_s slot_t =
      let path : facts.Global n ≡ facts.Global m = cc in
      let left = slot_s.once.1 (global_has_none d.tree s.fact n has) in
      let right = slot_t.once.1 (global_has_none d.tree t.fact m other) in
      same_slot s t (same_fact (facts.Global n) (facts.Global m) s.fact t.fact has other path) (left ∙ sym right)
  same_path s t (facts.Global n) (facts.Member b m) has other e slot_s slot_t = absurd cc
  same_path s t (facts.Member c n) (facts.Global m) has other e slot_s slot_t = absurd cc
  same_path s t (facts.Member c n) (facts.Member b m) has other e slot_s slot_t =
      let path : facts.Member c n ≡ facts.Member b m = cc in
      let members : s.member ≡ t.member = cc in
      same_slot s t (same_fact (facts.Member c n) (facts.Member b m) s.fact t.fact has other path) members

  -- slots with the same text are one
  pub one_slot : (s t : Slot) → IsSlot d.tree s → IsSlot d.tree t → slot_text d.tree s ≡ slot_text d.tree t → s ≡ t
  one_slot s t slot_s slot_t e =
      let left = text_spells names d s is slot_s in
      let right = text_spells names d t is slot_t in
      let same : left.0 ≡ right.0 = one_path_from SpellsSlotPath read_slot_path slot_path_reading (slot_text d.tree t) left.0 right.0 (subst (λ (x : List ℕ). SpellsSlotPath x left.0) e left.2) right.2 in
      let of_s = path_parts s left.0 left.1 in
      let of_t = path_parts t right.0 right.1 in
      same_path s t of_s.0 of_t.0 of_s.1 of_t.1 (sym of_s.2 ∙ same ∙ of_t.2) slot_s slot_t

-- ==== the line of a collection has one path and one list of members

-- nothing, or a text that begins with a blank
abbrev pub Tail : List ℕ → Type 0
Tail text = (text ≡ []) ⊎ ((behind : List ℕ) × (text ≡ 32 ∷ behind))

pub tail_of : (ms : List ℕ) → Tail (printed_rest ms)
tail_of [] = inl refl
tail_of (m ∷ ms) = inr (printed_item m ++ printed_rest ms, refl)

no_cut : (x y t : List ℕ) → Lacks 32 x → Lacks 32 y → x ≡ y ++ 32 ∷ t → ⊥
no_cut x y t lacks other e = none-some (y, t) (sym (cut-lacks 32 x lacks) ∙ ap (cut 32) e ∙ cut-append 32 y t other)

bare : (x r : List ℕ) → r ≡ [] → x ≡ x ++ r
bare x r e = sym (append-nil x) ∙ ap (λ (t : List ℕ). x ++ t) (sym e)

-- texts without a blank, with such tails, are one where the whole is
pub same_parts : (x y r s : List ℕ) → Lacks 32 x → Lacks 32 y → Tail r → Tail s → x ++ r ≡ y ++ s → (x ≡ y) × (r ≡ s)
same_parts x y r s lacks other (inl f) (inl g) e = (bare x r f ∙ e ∙ sym (bare y s g), f ∙ sym g)
same_parts x y r s lacks other (inl f) (inr g) e = absurd (no_cut x y g.0 lacks other (bare x r f ∙ e ∙ ap (λ (t : List ℕ). y ++ t) g.1))
same_parts x y r s lacks other (inr f) (inl g) e = absurd (no_cut y x f.0 other lacks (bare y s g ∙ sym e ∙ ap (λ (t : List ℕ). x ++ t) f.1))
same_parts x y r s lacks other (inr f) (inr g) e =
    let whole : x ++ 32 ∷ f.0 ≡ y ++ 32 ∷ g.0 = ap (λ (t : List ℕ). x ++ t) (sym f.1) ∙ e ∙ ap (λ (t : List ℕ). y ++ t) g.1 in
    let parts = some_pair_parts x y f.0 g.0 (sym (cut-append 32 x f.0 lacks) ∙ ap (cut 32) whole ∙ cut-append 32 y g.0 other) in
    (parts.0, f.1 ∙ ap (λ (t : List ℕ). 32 ∷ t) parts.1 ∙ sym g.1)

pub item_lacks : (m : ℕ) → IsMemberNumber m → Lacks 32 (printed_item m)
item_lacks m is = (omega arith, decimal_lacks 32 refl m is)

pub same_member : (m n : ℕ) → IsMemberNumber m → IsMemberNumber n → printed_item m ≡ printed_item n → m ≡ n
same_member m n is other e =
    let digits : decimal m ≡ decimal n = cc in
    same_Some m n (sym (member_number-decimal m is) ∙ ap member_number_of digits ∙ member_number-decimal n other)

-- the text of members is that of no others
pub same_members : (ms ns : List ℕ) → AllByRecursion IsMemberNumber ms → AllByRecursion IsMemberNumber ns → printed_rest ms ≡ printed_rest ns → ms ≡ ns
same_members [] [] is other e = refl
same_members [] (n ∷ ns) is other e = absurd cc
same_members (m ∷ ms) [] is other e = absurd cc
same_members (m ∷ ms) (n ∷ ns) is other e =
    let behind : printed_item m ++ printed_rest ms ≡ printed_item n ++ printed_rest ns = cc in
    let parts = same_parts (printed_item m) (printed_item n) (printed_rest ms) (printed_rest ns) (item_lacks m is.0) (item_lacks n other.0) (tail_of ms) (tail_of ns) behind in
    let first = same_member m n is.0 other.0 parts.0 in
    let rest = same_members ms ns is.1 other.1 parts.1 in
    cc

-- a list has numbers of members
pub numbers_of : (ms : List ℕ) → list_all numbers.is_member ms ≡ true → AllByRecursion IsMemberNumber ms
numbers_of [] all = tt
numbers_of (m ∷ ms) all =
    let parts = both (numbers.is_member m) (list_all numbers.is_member ms) all in
    let number = both _ _ parts.0 in
    ((leb-true 1 m number.0, leb-true m 1000000 number.1), numbers_of ms parts.1)

-- ==== what is saved has a text

-- ---- slots

pub entry_slot : (d : Tree) (a : Answered) → AnswersFit d a → (side : Side) (s : Slot) (v : Value) → value_of side a s ≡ Some v → IsSlot d s
entry_slot d a fit side s v e = standing_slot d a fit.well fit.from_one s (is_placed d a fit side s v e)

-- and the one of a collection
pub list_there : (d : Tree) (c : ℕ) → IsTrue (is_list d c) → (f : Fact) × (fact_at d.facts c ≡ Some f)
list_there d c h = at (fact_at d.facts c) refl h
  where
    at : (o : Option Fact) → fact_at d.facts c ≡ o → IsTrue (opens_of o) → (f : Fact) × (fact_at d.facts c ≡ Some f)
    at None e h = absurd cc
    at (Some f) e h = (f, e)

pub list_slot : (names : List (List ℕ)) (d : Accepted) → IsAccepted names d → (c : ℕ) → IsTrue (is_list d.tree c) → IsSlot d.tree (slot c 0)
list_slot names d is c h =
    let f = list_there d.tree c h in
    let n = fact_within d.tree.facts c f.0 f.1 in
    record { there = (omega (arith, n.0), n.1); once = (λ _. list_home names d is c h, λ _. refl); member = omega arith }

pub open_list : (d : Tree) (a : Answered) → AnswersFit d a → (c : ℕ) (ms : List ℕ) → map.get a.lists c ≡ Some ms → IsTrue (is_list d c)
open_list d a fit c ms e = fit.lists c (ap is_some e)

pub open_list_members : (d : Tree) (a : Answered) → AnswersFit d a → (c : ℕ) (ms : List ℕ) → map.get a.lists c ≡ Some ms → IsMemberList ms
open_list_members d a fit c ms e = (open_members d a fit.well fit.from_one c ms e).0

pub members_numbered : (ms : List ℕ) → IsMemberList ms → IsTrue (list_all numbers.is_member ms)
members_numbered ms h = both_left (list_all numbers.is_member ms) (numbers.are_distinct ms) (both_right (nat_le (length ms) 100) (list_all numbers.is_member ms && numbers.are_distinct ms) h)

-- ---- values

pub entry_printed : (d : Tree) (a : Answered) → AnswersFit d a → (side : Side) (s : Slot) (v : Value) → value_of side a s ≡ Some v → IsPrinted d.enums v
entry_printed d a fit side s v e = let typed = fit.typed side s v e in value_printed d a v typed.0 typed.2

-- ---- lengths

pub length_behind : (out old text : List ℕ) (n m : ℕ) → out ≡ old ++ text → length old ≤ n → length text ≤ m → length out ≤ n + m
length_behind out old text n m e low high = omega (arith, ap length e, length-append old text)
