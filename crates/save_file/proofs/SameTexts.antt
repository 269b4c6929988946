-- The saved text of answers that fit an accepted dictionary is a carried text and tells its answers. Its own dictionary keeps its
-- lines, but for answers that are refused.
use Rattle.save_file.proofs.Common.{Accepted, AllByRecursion, Answer, Answered, AnswersFit, AreLists, BadValue, Bool, CarriedLine, CarriedText, Contains, Fact, FactPath, Global, HasItsForm, HasPath, IsAccepted, IsBelowNext, IsCarried, IsCarry, IsCarryOf, IsIn, IsInOrder, IsKeptOrListed, IsName, IsRefusedAnswer, IsShort, IsSlot, IsSlotPath, IsSome, IsTrue, List, NamesOther, None, Option, Override, OwnLinesAreKept, Pairs, Refusal, Rules, SavedTextsAreCarried, SavedTextsTellAnswers, SharesNone, Side, Slot, SlotPath, Some, Tree, Value, [], and_intro, ap, append_assoc, arith, both, bytes_eq, carried, carried_lines, codes, collection, cond, count_by, end_line, entries, entry, entry_line, entry_lines, entry_lines_of, equal_bytes, fact_at, fact_of, fact_of_standing, fact_size, facts, false, false_from_ne_true, first_of, has_its_member, home, home_is_collection, if◌then◌else◌, inl, inr, is_collection_type, is_list, is_member, is_none, is_some, joined, keeps, kept_collection, key_text, length, limit_refusals, line_text, list_any, list_any-append, list_line, list_lines, list_lines_of, list_of, lists, lists_member, lists_member_of, ltb-false, map, map-append, mapped, member_below, member_list-length, name_short, named_fact, names_of, nat_eq, nat_lt, next_line, none-some, opening_line, opens_of, option_map, or_left, path_of, printed, printed_rest, rank, refl, same, same_Some, same_number, saved, saved_lines, side_word, slice_get, slot, slot_path, slot_path_of, slot_path_text, slot_same, slot_short, slot_text, slots, stands, subst, suc, sum_by, sym, takes, text_spells, too_many, tree_of, true, value_of, value_refusals, value_spelled, when, zero, ℕ, ◌&&◌, ◌++◌, ◌+◌, ◌<◌, ◌∙◌, ◌∷◌, ◌≡◌, ◌≤◌, ◌⊎◌}
use Rattle.std.proofs.Common.{unwrap_or}
use Rattle.save_file.specs.SavedLines.{EachAnswerIsKeptOrListed, HasALineEach, IsOnlyAt, IsSaid, KeepsOrListsAll, SavedTextsHaveALineEach}
use Rattle.save_file.proofs.CarriedAnswers.{list_within, named_kept}
use Rattle.saved_text.proofs.CarriedLines.{entry_pieces, few_lists, higher, in_order, names_other, shares_none}
use Rattle.save_file.proofs.CarryLaws.{kept_or_listed, same_options, there_at}
use Rattle.saved_text.proofs.CarriedTexts.{one_text}
use Rattle.saved_text.proofs.LineTexts.{entry_short, list_short, rest_short, value_short}
use Rattle.saved_text.proofs.Lines.{across, all_of, all_shown, any_counted, at_counted, counted_rise, each_shown, everywhere, few_shown, first_or, map_shown, mapped_at, none_there, one_of_all, onto, pairs-append, pairs_shown, shown}
use Rattle.saved_text.proofs.SlotTexts.{entry_slot, found_at, list_slot, members_numbered, numbers_of, one_slot, open_list, open_list_members, path_parts, same_behind}
use Rattle.save_file.proofs.PrintedValues.{of_type, printed_line, printed_read}
use Rattle.save_file.proofs.SlotsRise.{at_one, none_outside, same_answers, slot_number, slots_rise}
use Rattle.saved_text.proofs.TextLaws.{all-append, all_behind, in_front}
use Rattle.value_text.proofs.PrintedTexts.{value_spelled as printed_spelled}
use Rattle.saved_text.proofs.MemberParsing.{each_in}
use Rattle.std.specs.FinMap as map
use Rattle.fact_paths.specs.declared.fact_path.FactPath.TheVariants as facts_by
use Rattle.fact_paths.specs.declared.slot_path.SlotPath.TheVariants as paths

-- ==== the saved text of answers that fit an accepted dictionary is a carried text

-- ---- names and paths

abbrev name_in : Option SlotPath → List ℕ
name_in None = []
name_in (Some (paths.Global n)) = n
name_in (Some (paths.Member c k n)) = []

-- a path without a member
global_path : (path : SlotPath) (p : FactPath) → path ≡ slot_path_of 0 p → IsSlotPath path → (n : List ℕ) × (path ≡ paths.Global n)
global_path (paths.Global n) p e is = (n, refl)
global_path (paths.Member c k n) (facts_by.Global m) e is = absurd cc
global_path (paths.Member c k n) (facts_by.Member b m) e is = let none : k ≡ 0 = cc in absurd (omega (arith, none, is.1.0))

path_back : (m : ℕ) (p : FactPath) → path_of (slot_path_of m p) ≡ p
path_back m (facts_by.Global n) = refl
path_back m (facts_by.Member c n) = refl

-- ---- collections are few

third_is_not : (a b c : Bool) (rest : Option ℕ) → cond a (Some 1) (cond b (Some 2) (cond c (Some 3) rest)) ≡ None → c ≡ false
third_is_not true b c rest h = absurd cc
third_is_not false true c rest h = absurd cc
third_is_not false false true rest h = absurd cc
third_is_not false false false rest h = refl

few_collections : (d : Tree) → too_many d ≡ None → count_by (λ (f : Fact). is_collection_type f.stated) d.facts ≤ 32
few_collections d h =
    ltb-false 32 (count_by (λ (f : Fact). is_collection_type f.stated) d.facts)
    (third_is_not (nat_lt 2000 (length d.facts)) (nat_lt 40000 (sum_by fact_size d.facts)) (nat_lt 32 (count_by (λ (f : Fact). is_collection_type f.stated) d.facts)) _ h)

opened : (o : Option Fact) → opens_of o ≡ true → (f : Fact) × (o ≡ Some f) × (is_collection_type f.stated ≡ true)
opened None h = absurd cc
opened (Some f) h = (f, refl, h)

-- ---- the lines

abbrev pub name_of : Tree → ℕ → List ℕ
name_of d c = name_in (slot_path d (slot c 0))

abbrev pub path_at : Tree → Slot → SlotPath
path_at d s = unwrap_or (slot_path d s) (paths.Global [])

abbrev pub list_at : Tree → Answered → ℕ → Option CarriedLine
list_at d a c = option_map (collection (name_of d c)) (map.get a.lists c)

abbrev pub entry_at : Tree → Answered → Side → Slot → Option CarriedLine
entry_at d a side s = option_map (λ (v : Value). entry side (path_at d s) (printed d.enums v)) (value_of side a s)

abbrev pub list_part : Tree → Answered → List CarriedLine
list_part d a = shown (list_at d a) (facts d)

abbrev pub side_part : Tree → Answered → Side → List CarriedLine
side_part d a side = shown (entry_at d a side) (slots d a)

abbrev pub behind : Tree → Answered → List CarriedLine
behind d a = side_part d a Answer ++ side_part d a Override

abbrev pub all_parts : Tree → Answered → List CarriedLine
all_parts d a = list_part d a ++ behind d a

abbrev pub own_text : Tree → Answered → CarriedText
own_text d a = record { next = a.next; lines = all_parts d a }

module _ (names : List (List ℕ)) (d : Accepted) (is : IsAccepted names d) where
  -- the path of a collection, and of another slot
  pub spelled_list : (c : ℕ) → IsTrue (is_list d.tree c) → IsName (name_of d.tree c) × ((slot_text d.tree (slot c 0) ≡ 47 ∷ name_of d.tree c) × (slot_path d.tree (slot c 0) ≡ Some (paths.Global (name_of d.tree c))))
  spelled_list c list =
      let spelled = text_spells names d (slot c 0) is (list_slot names d is c list) in
      let parts = path_parts names d is (slot c 0) spelled.0 spelled.1 in
      let global = global_path spelled.0 parts.0 parts.2 spelled.2.0 in
      let same : global.0 ≡ name_of d.tree c = sym (ap name_in (spelled.1 ∙ ap Some global.1)) in
      let path : spelled.0 ≡ paths.Global (name_of d.tree c) = global.1 ∙ ap (λ (n : List ℕ). paths.Global n) same in
      (subst IsSlotPath path spelled.2.0, (spelled.2.1 ∙ ap slot_path_text path, spelled.1 ∙ ap Some path))

  pub spelled_slot : (s : Slot) → IsSlot d.tree s → IsSlotPath (path_at d.tree s) × ((slot_text d.tree s ≡ slot_path_text (path_at d.tree s)) × (slot_path d.tree s ≡ Some (path_at d.tree s)))
  spelled_slot s there =
      let spelled = text_spells names d s is there in
      let same : spelled.0 ≡ path_at d.tree s = sym (ap (λ (o : Option SlotPath). unwrap_or o (paths.Global [])) spelled.1) in
      (subst IsSlotPath same spelled.2.0, (spelled.2.1 ∙ ap slot_path_text same, spelled.1 ∙ ap Some same))

  -- the fact of a slot's path
  pub fact_named : (s : Slot) (path : SlotPath) → slot_path d.tree s ≡ Some path → named_fact d.tree path ≡ Some s.fact
  fact_named s path e =
      let parts = path_parts names d is s path e in
      found_at names d is (path_of path) s.fact (subst (λ (p : FactPath). HasPath d.tree.facts p s.fact) (sym (ap path_of parts.2 ∙ path_back s.member parts.0)) parts.1)

  pub list_named : (c : ℕ) → IsTrue (is_list d.tree c) → kept_collection d.tree (name_of d.tree c) ≡ Some c
  list_named c list = named_kept d.tree (name_of d.tree c) c list (fact_named (slot c 0) (Global (name_of d.tree c)) (spelled_list c list).1.1)

  -- which tell them
  pub one_name : (c k : ℕ) → IsTrue (is_list d.tree c) → IsTrue (is_list d.tree k) → name_of d.tree c ≡ name_of d.tree k → c ≡ k
  one_name c k list other e =
      ap (λ (s : Slot). s.fact) (one_slot names d is (slot c 0) (slot k 0) (list_slot names d is c list) (list_slot names d is k other)
      ((spelled_list c list).1.0 ∙ ap (λ (n : List ℕ). 47 ∷ n) e ∙ sym (spelled_list k other).1.0))

  pub one_path : (s t : Slot) → IsSlot d.tree s → IsSlot d.tree t → slot_path_text (path_at d.tree s) ≡ slot_path_text (path_at d.tree t) → s ≡ t
  one_path s t there other e = one_slot names d is s t there other ((spelled_slot s there).1.0 ∙ e ∙ sym (spelled_slot t other).1.0)

module _ (names : List (List ℕ)) (d : Accepted) (is : IsAccepted names d) (enums : AreLists d.tree.enums) (a : Answered) (fit : AnswersFit d.tree a) where
  -- ---- the line of a list

  pub list_of_name : (c : ℕ) (ms : List ℕ) → map.get a.lists c ≡ Some ms → IsName (name_of d.tree c) × ((slot_text d.tree (slot c 0) ≡ 47 ∷ name_of d.tree c) × (slot_path d.tree (slot c 0) ≡ Some (paths.Global (name_of d.tree c))))
  list_of_name c ms has = spelled_list names d is c (open_list d.tree a fit c ms has)

  list_text : (c : ℕ) (ms : List ℕ) → map.get a.lists c ≡ Some ms → line_text (collection (name_of d.tree c) ms) ≡ list_line d.tree c ms
  list_text c ms has = ap (λ (t : List ℕ). codes "list " ++ (t ++ printed_rest ms)) (sym (list_of_name c ms has).1.0)

  -- what is true of the line of each list that is open
  pub of_lists : (P : CarriedLine → Type 0) → ((c : ℕ) (ms : List ℕ) → map.get a.lists c ≡ Some ms → P (collection (name_of d.tree c) ms)) → AllByRecursion P (list_part d.tree a)
  of_lists P each =
      all_shown (list_at d.tree a) (λ (c : ℕ). Unit {0}) P
      (λ c x all e. let parts = mapped (collection (name_of d.tree c)) (map.get a.lists c) x e in subst P (sym parts.2) (each c parts.0 parts.1))
      (facts d.tree) (everywhere (λ (c : ℕ). Unit {0}) (λ c. tt) (facts d.tree))

  list_members : (c : ℕ) (ms : List ℕ) → map.get a.lists c ≡ Some ms → (m : ℕ) → IsIn m ms → IsIn m (list_of a c)
  list_members c ms has m i = subst (IsIn m) (sym (ap (λ (o : Option (List ℕ)). unwrap_or o []) has)) i

  -- ---- the line of an entry

  pub spelled_entry : (side : Side) (s : Slot) (v : Value) → value_of side a s ≡ Some v → IsSlotPath (path_at d.tree s) × ((slot_text d.tree s ≡ slot_path_text (path_at d.tree s)) × (slot_path d.tree s ≡ Some (path_at d.tree s)))
  spelled_entry side s v has = spelled_slot names d is s (entry_slot d.tree a fit side s v has)

  entry_text : (side : Side) (s : Slot) (v : Value) → value_of side a s ≡ Some v → line_text (entry side (path_at d.tree s) (printed d.tree.enums v)) ≡ entry_line side d.tree s v
  entry_text side s v has =
      entry_pieces side (path_at d.tree s) (printed d.tree.enums v)
      ∙ ap (λ (t : List ℕ). side_word side ++ (t ++ 32 ∷ printed d.tree.enums v)) (sym (spelled_entry side s v has).1.0)

  pub of_side : (P : CarriedLine → Type 0) (side : Side) → ((s : Slot) (v : Value) → value_of side a s ≡ Some v → P (entry side (path_at d.tree s) (printed d.tree.enums v))) → AllByRecursion P (side_part d.tree a side)
  of_side P side each =
      all_shown (entry_at d.tree a side) (λ (s : Slot). Unit {0}) P
      (λ s x all e. let parts = mapped (λ (v : Value). entry side (path_at d.tree s) (printed d.tree.enums v)) (value_of side a s) x e in subst P (sym parts.2) (each s parts.0 parts.1))
      (slots d.tree a) (everywhere (λ (s : Slot). Unit {0}) (λ s. tt) (slots d.tree a))

  pub of_all : (P : CarriedLine → Type 0) → ((c : ℕ) (ms : List ℕ) → map.get a.lists c ≡ Some ms → P (collection (name_of d.tree c) ms))
      → ((side : Side) (s : Slot) (v : Value) → value_of side a s ≡ Some v → P (entry side (path_at d.tree s) (printed d.tree.enums v))) → AllByRecursion P (all_parts d.tree a)
  of_all P lists entries =
      all-append P (list_part d.tree a) (behind d.tree a) (of_lists P lists)
      (all-append P (side_part d.tree a Answer) (side_part d.tree a Override) (of_side P Answer (entries Answer)) (of_side P Override (entries Override)))

  -- and what is true of all lines is true of each list's and of each value's
  pub list_of_all : (P : CarriedLine → Type 0) → AllByRecursion P (all_parts d.tree a) → (c : ℕ) (ms : List ℕ) → map.get a.lists c ≡ Some ms → P (collection (name_of d.tree c) ms)
  list_of_all P all c ms has =
      let within = list_within d.tree c (open_list d.tree a fit c ms has) in
      at_counted (λ k. (x : CarriedLine) → list_at d.tree a k ≡ Some x → P x) 1 (length d.tree.facts) (each_shown (list_at d.tree a) P (facts d.tree) (in_front P (list_part d.tree a) (behind d.tree a) all)) c (omega (arith, within.0)) (omega (arith, within.1))
      (collection (name_of d.tree c) ms) (ap (option_map (collection (name_of d.tree c))) has)

  side_of_all : (P : CarriedLine → Type 0) → AllByRecursion P (all_parts d.tree a) → (side : Side) → AllByRecursion P (side_part d.tree a side)
  side_of_all P all Answer = in_front P (side_part d.tree a Answer) (side_part d.tree a Override) (all_behind P (list_part d.tree a) (behind d.tree a) all)
  side_of_all P all Override = all_behind P (side_part d.tree a Answer) (side_part d.tree a Override) (all_behind P (list_part d.tree a) (behind d.tree a) all)

  pub value_of_all : (P : CarriedLine → Type 0) → AllByRecursion P (all_parts d.tree a) → (side : Side) (s : Slot) (v : Value) → value_of side a s ≡ Some v → P (entry side (path_at d.tree s) (printed d.tree.enums v))
  value_of_all P all side s v has = at (list_any (slot_same s) (slots d.tree a)) refl
    where
      at : (t : Bool) → list_any (slot_same s) (slots d.tree a) ≡ t → P (entry side (path_at d.tree s) (printed d.tree.enums v))
      at false out = absurd (none-some v (sym (none_outside d.tree a fit side s out) ∙ has))
      at true there =
          at_one (λ u. (x : CarriedLine) → entry_at d.tree a side u ≡ Some x → P x) (slots d.tree a) s (each_shown (entry_at d.tree a side) P (slots d.tree a) (side_of_all P all side)) there
          (entry side (path_at d.tree s) (printed d.tree.enums v)) (ap (option_map (λ (w : Value). entry side (path_at d.tree s) (printed d.tree.enums w))) has)

  -- ---- what each line keeps

  forms : AllByRecursion HasItsForm (all_parts d.tree a)
  forms =
      of_all HasItsForm (λ c ms has. ((list_of_name c ms has).0, open_list_members d.tree a fit c ms has))
      (λ side s v has. (let line = printed_line names d is enums a fit side s v has in ((spelled_entry side s v has).0, line.utf8, line.no_newline)))

  short_list : (c : ℕ) (ms : List ℕ) → map.get a.lists c ≡ Some ms → IsShort (collection (name_of d.tree c) ms)
  short_list c ms has =
      let members = open_list_members d.tree a fit c ms has in
      list_short (name_of d.tree c) ms (name_short (name_of d.tree c) (list_of_name c ms has).0) (rest_short ms (numbers_of ms (members_numbered ms members))) (member_list-length ms members)

  short_entry : (side : Side) (s : Slot) (v : Value) → value_of side a s ≡ Some v → IsShort (entry side (path_at d.tree s) (printed d.tree.enums v))
  short_entry side s v has =
      let typed = of_type names d is enums a fit side s v has in
      entry_short side (path_at d.tree s) (printed d.tree.enums v)
      (subst (λ (t : List ℕ). length t ≤ 140) (spelled_entry side s v has).1.0 (slot_short names d is s (entry_slot d.tree a fit side s v has)))
      (value_short d.tree.enums enums typed.0 (printed d.tree.enums v) v (printed_spelled d.tree.enums typed.0 v typed.2))

  short : AllByRecursion IsShort (all_parts d.tree a)
  short = of_all IsShort short_list short_entry

  below : AllByRecursion (IsBelowNext a.next) (all_parts d.tree a)
  below =
      of_all (IsBelowNext a.next) (λ c ms has. each_in (λ m. m < a.next) ms (λ m i. member_below a fit.well c m (list_members c ms has m i)))
      (λ side s v has. tt)

  -- ---- what two lines keep

  list_rank : AllByRecursion (λ x. rank x ≡ 0) (list_part d.tree a)
  list_rank = of_lists (λ x. rank x ≡ 0) (λ c ms has. refl)

  answer_rank : AllByRecursion (λ x. rank x ≡ 1) (side_part d.tree a Answer)
  answer_rank = of_side (λ x. rank x ≡ 1) Answer (λ s v has. refl)

  override_rank : AllByRecursion (λ x. rank x ≡ 2) (side_part d.tree a Override)
  override_rank = of_side (λ x. rank x ≡ 2) Override (λ s v has. refl)

  behind_rank : AllByRecursion (λ x. 1 ≤ rank x) (behind d.tree a)
  behind_rank = all-append (λ x. 1 ≤ rank x) (side_part d.tree a Answer) (side_part d.tree a Override) (higher 1 1 (omega arith) (side_part d.tree a Answer) answer_rank) (higher 1 2 (omega arith) (side_part d.tree a Override) override_rank)

  -- within the lists, within each side, and across
  pairs_of : (R : CarriedLine → CarriedLine → Type 0) → Pairs R (list_part d.tree a) → ((side : Side) → Pairs R (side_part d.tree a side))
      → ((x y : CarriedLine) → rank x ≡ 0 → 1 ≤ rank y → R x y) → ((x y : CarriedLine) → rank x ≡ 1 → rank y ≡ 2 → R x y) → Pairs R (all_parts d.tree a)
  pairs_of R lists sides to_entries to_overrides =
      pairs-append R (list_part d.tree a) (behind d.tree a) lists
      (pairs-append R (side_part d.tree a Answer) (side_part d.tree a Override) (sides Answer) (sides Override) (across R (λ x. rank x ≡ 1) (λ y. rank y ≡ 2) to_overrides (side_part d.tree a Answer) (side_part d.tree a Override) answer_rank override_rank))
      (across R (λ x. rank x ≡ 0) (λ y. 1 ≤ rank y) to_entries (list_part d.tree a) (behind d.tree a) list_rank behind_rank)

  pub two_lists : (R : CarriedLine → CarriedLine → Type 0) → ((c k : ℕ) (ms ns : List ℕ) → c < k → map.get a.lists c ≡ Some ms → map.get a.lists k ≡ Some ns → R (collection (name_of d.tree c) ms) (collection (name_of d.tree k) ns)) → Pairs R (list_part d.tree a)
  two_lists R each =
      pairs_shown (list_at d.tree a) (λ c k. c < k) R
      (λ c k x y low e f.
      (let left = mapped (collection (name_of d.tree c)) (map.get a.lists c) x e in
      let right = mapped (collection (name_of d.tree k)) (map.get a.lists k) y f in
      subst (λ (z : CarriedLine). R z y) (sym left.2) (subst (R (collection (name_of d.tree c) left.0)) (sym right.2) (each c k left.0 right.0 low left.1 right.1))))
      (facts d.tree) (counted_rise 1 (length d.tree.facts))

  pub two_entries : (R : CarriedLine → CarriedLine → Type 0) (side : Side)
      → ((s t : Slot) (v w : Value) → slot_number d.tree a s < slot_number d.tree a t → value_of side a s ≡ Some v → value_of side a t ≡ Some w → R (entry side (path_at d.tree s) (printed d.tree.enums v)) (entry side (path_at d.tree t) (printed d.tree.enums w)))
      → Pairs R (side_part d.tree a side)
  two_entries R side each =
      pairs_shown (entry_at d.tree a side) (λ (s t : Slot). slot_number d.tree a s < slot_number d.tree a t) R
      (λ s t x y other e f.
      (let left = mapped (λ (v : Value). entry side (path_at d.tree s) (printed d.tree.enums v)) (value_of side a s) x e in
      let right = mapped (λ (v : Value). entry side (path_at d.tree t) (printed d.tree.enums v)) (value_of side a t) y f in
      subst (λ (z : CarriedLine). R z y) (sym left.2) (subst (R (entry side (path_at d.tree s) (printed d.tree.enums left.0))) (sym right.2) (each s t left.0 right.0 other left.1 right.1))))
      (slots d.tree a) (slots_rise d.tree a fit)

  order : Pairs IsInOrder (all_parts d.tree a)
  order =
      pairs_of IsInOrder (two_lists IsInOrder (λ c k ms ns low e f. let equal : 0 ≤ 0 = omega arith in equal))
      (λ side. two_entries IsInOrder side (λ s t v w other e f. same_side side (path_at d.tree s) (path_at d.tree t) (printed d.tree.enums v) (printed d.tree.enums w)))
      (λ x y e low. omega (arith, e)) (in_order 1 2 (omega arith))
    where
      same_side : (side : Side) (p q : SlotPath) (t u : List ℕ) → IsInOrder (entry side p t) (entry side q u)
      same_side Answer p q t u = omega arith
      same_side Override p q t u = omega arith

  other_list : (c k : ℕ) (ms ns : List ℕ) → c < k → map.get a.lists c ≡ Some ms → map.get a.lists k ≡ Some ns → NamesOther (collection (name_of d.tree c) ms) (collection (name_of d.tree k) ns)
  other_list c k ms ns low has also same =
      let fact = one_name names d is c k (open_list d.tree a fit c ms has) (open_list d.tree a fit k ns also) (same_behind (codes "list /") (name_of d.tree c) (name_of d.tree k) same) in
      omega (arith, low, fact)

  other_entry : (side : Side) (s t : Slot) (v w : Value) → slot_number d.tree a s < slot_number d.tree a t → value_of side a s ≡ Some v → value_of side a t ≡ Some w
      → NamesOther (entry side (path_at d.tree s) (printed d.tree.enums v)) (entry side (path_at d.tree t) (printed d.tree.enums w))
  other_entry side s t v w low has also same =
      let one = one_path names d is s t (entry_slot d.tree a fit side s v has) (entry_slot d.tree a fit side t w also) (same_behind (side_word side) (slot_path_text (path_at d.tree s)) (slot_path_text (path_at d.tree t)) same) in
      omega (arith, low, ap (slot_number d.tree a) one)

  once : Pairs NamesOther (all_parts d.tree a)
  once =
      pairs_of NamesOther (two_lists NamesOther other_list) (λ side. two_entries NamesOther side (other_entry side))
      (λ x y e low. names_other 0 (rank y) (omega (arith, low)) x y e refl) (names_other 1 2 (omega arith))

  separate : Pairs SharesNone (all_parts d.tree a)
  separate =
      pairs_of SharesNone
      (two_lists SharesNone (λ c k ms ns low has also m i. false_from_ne_true (list_any (nat_eq m) ns) (λ j. (let same = fit.well.apart c k m (list_members c ms has m i) (list_members k ns also m j) in omega (arith, low, same)))))
      (λ side. two_entries SharesNone side (λ s t v w other e f m i. refl))
      (λ x y e low. shares_none (rank y) (omega (arith, low)) x y refl) (λ x y e f. shares_none 2 (omega arith) x y f)

  -- ---- what all lines keep

  few : length (list_part d.tree a) ≤ 32
  few =
      let counted = few_shown (list_at d.tree a) (λ (f : Fact). is_collection_type f.stated) 1 d.tree.facts
      (λ i x e.
      (let one : suc i ≡ 1 + i = omega arith in
      let parts = mapped (collection (name_of d.tree (suc i))) (map.get a.lists (suc i)) x (ap (λ (c : ℕ). list_at d.tree a c) one ∙ e) in
      opened (slice_get d.tree.facts i) (open_list d.tree a fit (suc i) parts.0 parts.1))) in
      omega (arith, counted, few_collections d.tree is.valid.limits.many)

  -- the list of a slot's member
  listed : (c : List ℕ) (k h : ℕ) → HasPath d.tree.facts (facts_by.Global c) h → is_member a h k ≡ true → list_any (lists_member c k) (all_parts d.tree a) ≡ true
  listed c k h has i = at (map.get a.lists h) refl
    where
      named : name_of d.tree h ≡ c
      named = let path : slot_path d.tree (slot h 0) ≡ Some (paths.Global c) = rw (has.is_there, has.path_is) refl in ap name_in path

      at : (o : Option (List ℕ)) → map.get a.lists h ≡ o → list_any (lists_member c k) (all_parts d.tree a) ≡ true
      at None e = absurd (let none : is_member a h k ≡ false = ap (λ (o : Option (List ℕ)). list_any (nat_eq k) (unwrap_or o [])) e in cc)
      at (Some ms) e =
          let within = list_within d.tree h (open_list d.tree a fit h ms e) in
          let there : list_any (nat_eq k) ms ≡ true = sym (ap (λ (o : Option (List ℕ)). list_any (nat_eq k) (unwrap_or o [])) e) ∙ i in
          let passes : lists_member c k (collection (name_of d.tree h) ms) ≡ true = and_intro (bytes_eq (name_of d.tree h) c) (list_any (nat_eq k) ms) (ap (bytes_eq (name_of d.tree h)) (sym named) ∙ equal_bytes (name_of d.tree h)) there in
          list_any-append (lists_member c k) (list_part d.tree a) (behind d.tree a)
          ∙ or_left (list_any (lists_member c k) (list_part d.tree a)) (list_any (lists_member c k) (behind d.tree a))
          (any_counted (list_at d.tree a) (lists_member c k) 1 (length d.tree.facts) h (collection (name_of d.tree h) ms) (omega (arith, within.0)) (omega (arith, within.1)) (ap (option_map (collection (name_of d.tree h))) e) passes)

  -- a slot with a member stands where its home has the member
  pub in_home : (side : Side) (s : Slot) (v : Value) → value_of side a s ≡ Some v → (c n : List ℕ) → path_at d.tree s ≡ paths.Member c s.member n → is_member a (home d.tree s.fact) s.member ≡ true
  in_home side s v has c n e = at (nat_eq (home d.tree s.fact) 0) refl standing.2
    where
      standing : (f : Fact) × (fact_at d.tree.facts s.fact ≡ Some f) × IsTrue (if nat_eq (home d.tree s.fact) 0 then nat_eq s.member 0 else is_member a (home d.tree s.fact) s.member)
      standing = fact_of_standing d.tree a s (both (stands d.tree a s) (takes side d.tree s.fact) (fit.placed side s (ap is_some has))).0

      some : 1 ≤ s.member
      some = let path : IsSlotPath (paths.Member c s.member n) = subst IsSlotPath e (spelled_entry side s v has).0 in path.1.0

      at : (b : Bool) → nat_eq (home d.tree s.fact) 0 ≡ b → IsTrue (if b then nat_eq s.member 0 else is_member a (home d.tree s.fact) s.member) → is_member a (home d.tree s.fact) s.member ≡ true
      at true h i = absurd (let none : s.member ≡ 0 = same_number s.member 0 i in omega (arith, some, none))
      at false h i = i

  at_path : (side : Side) (s : Slot) (v : Value) → value_of side a s ≡ Some v → (p : FactPath) → HasPath d.tree.facts p s.fact → path_at d.tree s ≡ slot_path_of s.member p → lists_member_of (all_parts d.tree a) (path_at d.tree s) ≡ true
  at_path side s v has (facts_by.Global n) there e = ap (lists_member_of (all_parts d.tree a)) e
  at_path side s v has (facts_by.Member c n) there e =
      ap (lists_member_of (all_parts d.tree a)) e ∙ listed c s.member (home d.tree s.fact) (home_is_collection names d s.fact c n is there).0.here (in_home side s v has c n e)

  member_listed : (side : Side) (s : Slot) (v : Value) → value_of side a s ≡ Some v → lists_member_of (all_parts d.tree a) (path_at d.tree s) ≡ true
  member_listed side s v has =
      let parts = path_parts names d is s (path_at d.tree s) (spelled_entry side s v has).1.1 in
      at_path side s v has parts.0 parts.1 parts.2

  -- ---- the text

  pub is_carried : IsCarried (own_text d.tree a)
  is_carried = record {
    number = (fit.from_one.low, fit.well.high);
    forms = forms;
    short = short;
    below = below;
    order = order;
    once = once;
    apart = separate;
    few = let lists = few in omega (arith, lists, few_lists (list_part d.tree a) (behind d.tree a) behind_rank);
    members = of_all (λ line. IsTrue (has_its_member (all_parts d.tree a) line)) (λ c ms has. refl) member_listed;
  }

  same_list : (c : ℕ) → map line_text (onto (list_at d.tree a c) []) ≡ list_lines d.tree a c
  same_list c = at (map.get a.lists c) refl
    where
      at : (o : Option (List ℕ)) → map.get a.lists c ≡ o → map line_text (onto (option_map (collection (name_of d.tree c)) o) []) ≡ list_lines_of d.tree c o
      at None e = refl
      at (Some ms) e = ap (λ (l : List ℕ). l ∷ []) (list_text c ms e)

  same_entry : (side : Side) (s : Slot) → map line_text (onto (entry_at d.tree a side s) []) ≡ entry_lines side d.tree a s
  same_entry side s = at (value_of side a s) refl
    where
      at : (o : Option Value) → value_of side a s ≡ o → map line_text (onto (option_map (λ (v : Value). entry side (path_at d.tree s) (printed d.tree.enums v)) o) []) ≡ entry_lines_of side d.tree s o
      at None e = refl
      at (Some v) e = ap (λ (l : List ℕ). l ∷ []) (entry_text side s v e)

  same_lines : map line_text (all_parts d.tree a) ≡ lists d.tree a ++ (entries Answer d.tree a ++ entries Override d.tree a)
  same_lines =
      map-append line_text (list_part d.tree a) (behind d.tree a)
      ∙ ap (λ (ls : List (List ℕ)). ls ++ map line_text (behind d.tree a)) (map_shown (list_at d.tree a) line_text (list_lines d.tree a) same_list (facts d.tree))
      ∙ ap (λ (ls : List (List ℕ)). lists d.tree a ++ ls)
      (map-append line_text (side_part d.tree a Answer) (side_part d.tree a Override)
      ∙ ap (λ (ls : List (List ℕ)). ls ++ map line_text (side_part d.tree a Override)) (map_shown (entry_at d.tree a Answer) line_text (entry_lines Answer d.tree a) (same_entry Answer) (slots d.tree a))
      ∙ ap (λ (ls : List (List ℕ)). entries Answer d.tree a ++ ls) (map_shown (entry_at d.tree a Override) line_text (entry_lines Override d.tree a) (same_entry Override) (slots d.tree a)))

  pub same_text : saved_lines d.tree a ≡ carried_lines (own_text d.tree a)
  same_text =
      sym
      (ap (λ (ls : List (List ℕ)). opening_line ∷ next_line a.next ∷ (ls ++ end_line ∷ [])) same_lines
      ∙ ap (λ (ls : List (List ℕ)). opening_line ∷ next_line a.next ∷ ls)
      (append_assoc (lists d.tree a) (entries Answer d.tree a ++ entries Override d.tree a) (end_line ∷ [])
      ∙ ap (λ (ls : List (List ℕ)). lists d.tree a ++ ls) (append_assoc (entries Answer d.tree a) (entries Override d.tree a) (end_line ∷ []))))

  pub saved_is : saved d.tree a ≡ carried (own_text d.tree a)
  saved_is = ap joined same_text

pub saved_carried : SavedTextsAreCarried
saved_carried names d is enums a fit = (own_text d.tree a, is_carried names d is enums a fit, saved_is names d is enums a fit)

-- ==== a saved text tells its answers, and over its own dictionary its lines are kept, but for answers that are refused now

-- ---- a saved text tells its answers

-- the line says what the answers have
abbrev Tells : Accepted → Answered → CarriedLine → Type 0
Tells d a (collection name ms) = (c : ℕ) × (map.get a.lists c ≡ Some ms) × (name ≡ name_of d.tree c)
Tells d a (entry side path text) = (s : Slot) × (v : Value) × (value_of side a s ≡ Some v) × (path ≡ path_at d.tree s) × (text ≡ printed d.tree.enums v)

module _ (names : List (List ℕ)) (d : Accepted) (is : IsAccepted names d) (enums : AreLists d.tree.enums) (a b : Answered) (fit : AnswersFit d.tree a) (other_fit : AnswersFit d.tree b) (same_parts : all_parts d.tree a ≡ all_parts d.tree b) where
  shown_lines : AllByRecursion (Tells d b) (all_parts d.tree a)
  shown_lines = subst (AllByRecursion (Tells d b)) (sym same_parts) (of_all names d is enums b other_fit (Tells d b) (λ c ms has. (c, has, refl)) (λ side s v has. (s, v, has, refl, refl)))

  list_too : (c : ℕ) (ms : List ℕ) → map.get a.lists c ≡ Some ms → map.get b.lists c ≡ Some ms
  list_too c ms has =
      let found = list_of_all names d is enums a fit (Tells d b) shown_lines c ms has in
      ap (map.get b.lists) (one_name names d is c found.0 (open_list d.tree a fit c ms has) (open_list d.tree b other_fit found.0 ms found.1) found.2) ∙ found.1

  value_too : (side : Side) (s : Slot) (v : Value) → value_of side a s ≡ Some v → value_of side b s ≡ Some v
  value_too side s v has =
      let found = value_of_all names d is enums a fit (Tells d b) shown_lines side s v has in
      let same_slot = one_path names d is s found.0 (entry_slot d.tree a fit side s v has) (entry_slot d.tree b other_fit side found.0 found.1 found.2) (ap slot_path_text found.3) in
      ap (value_of side b) same_slot ∙ found.2 ∙ sym (printed_read names d is enums b other_fit side found.0 found.1 found.2)
      ∙ ap (λ (u : Slot). value_spelled d.tree u.fact (printed d.tree.enums found.1)) (sym same_slot)
      ∙ ap (value_spelled d.tree s.fact) (sym found.4) ∙ printed_read names d is enums a fit side s v has

pub one_saved : SavedTextsTellAnswers
one_saved names d is enums a b fit other_fit e =
    same_answers a b fit.well other_fit.well fit.from_one other_fit.from_one
    (same a.lists b.lists (λ c. same_options (map.get a.lists c) (map.get b.lists c) (list_too names d is enums a b fit other_fit parts c) (list_too names d is enums b a other_fit fit (sym parts) c)))
    (λ side s. same_options (value_of side a s) (value_of side b s) (value_too names d is enums a b fit other_fit parts side s) (value_too names d is enums b a other_fit fit (sym parts) side s))
    (ap (λ (c : CarriedText). c.next) one)
  where
    one : own_text d.tree a ≡ own_text d.tree b
    one =
        one_text (own_text d.tree a) (own_text d.tree b) (is_carried names d is enums a fit) (is_carried names d is enums b other_fit)
        (sym (saved_is names d is enums a fit) ∙ e ∙ saved_is names d is enums b other_fit)

    parts : all_parts d.tree a ≡ all_parts d.tree b
    parts = ap (λ (c : CarriedText). c.lines) one

-- ---- one line for each list, answer and override

only_at : (lines : List CarriedLine) (line : CarriedLine) → Pairs NamesOther lines → Contains lines line → (place : ℕ) × IsOnlyAt lines place line
only_at [] line pairs h = absurd (none_there line h)
only_at (x ∷ lines) line pairs h = at (first_or x lines line h) (only_at lines line pairs.1)
  where
    -- none behind the first one names what it names
    later : (k : ℕ) (l : CarriedLine) → slice_get lines k ≡ Some l → NamesOther x l
    later k l e = one_of_all (NamesOther x) lines l pairs.0 (there_at lines k l e)

    at : (x ≡ line) ⊎ Contains lines line → (Contains lines line → (place : ℕ) × IsOnlyAt lines place line) → (place : ℕ) × IsOnlyAt (x ∷ lines) place line
    at (inl one) rest = (0, (ap Some one, none))
      where
        none : (other : ℕ) (l : CarriedLine) → slice_get (x ∷ lines) other ≡ Some l → key_text l ≡ key_text line → other ≡ 0
        none zero l e key = refl
        none (suc k) l e key = absurd (later k l e (ap key_text one ∙ sym key))
    at (inr there) rest = (suc (rest there).0, ((rest there).1.0, one))
      where
        one : (other : ℕ) (l : CarriedLine) → slice_get (x ∷ lines) other ≡ Some l → key_text l ≡ key_text line → other ≡ suc (rest there).0
        one zero l e key = absurd (one_of_all (NamesOther x) lines line pairs.0 there (ap key_text (same_Some x l e) ∙ key))
        one (suc k) l e key = ap suc ((rest there).1.1 k l e key)

module _ (names : List (List ℕ)) (d : Accepted) (is : IsAccepted names d) (enums : AreLists d.tree.enums) (a : Answered) (fit : AnswersFit d.tree a) where
  pub each_there : AllByRecursion (Contains (all_parts d.tree a)) (all_parts d.tree a)
  each_there = all_of (Contains (all_parts d.tree a)) (all_parts d.tree a) (λ l h. h)

  line_at : (line : CarriedLine) → Contains (all_parts d.tree a) line → (place : ℕ) × IsOnlyAt (all_parts d.tree a) place line
  line_at line h = only_at (all_parts d.tree a) line (is_carried names d is enums a fit).once h

  list_at_place : (c : ℕ) (ms : List ℕ) → map.get a.lists c ≡ Some ms → (place : ℕ) × IsOnlyAt (all_parts d.tree a) place (collection (name_of d.tree c) ms)
  list_at_place c ms has = line_at (collection (name_of d.tree c) ms) (list_of_all names d is enums a fit (Contains (all_parts d.tree a)) each_there c ms has)

  value_at_place : (side : Side) (s : Slot) (v : Value) → value_of side a s ≡ Some v → (place : ℕ) × IsOnlyAt (all_parts d.tree a) place (entry side (path_at d.tree s) (printed d.tree.enums v))
  value_at_place side s v has = line_at (entry side (path_at d.tree s) (printed d.tree.enums v)) (value_of_all names d is enums a fit (Contains (all_parts d.tree a)) each_there side s v has)

  said : AllByRecursion (IsSaid d.tree a) (all_parts d.tree a)
  said =
      of_all names d is enums a fit (IsSaid d.tree a) (λ c ms has. (c, has, (list_of_name names d is enums a fit c ms has).1.1))
      (λ side s v has. (s, v, has, (spelled_entry names d is enums a fit side s v has).1.1, refl))

  own_has_each : HasALineEach d.tree a (own_text d.tree a)
  own_has_each = record {
    number = refl;
    lists = λ c ms has. (let found = list_at_place c ms has in (name_of d.tree c, found.0, (list_of_name names d is enums a fit c ms has).1.1, found.1));
    values = λ side s v has. (let found = value_at_place side s v has in (path_at d.tree s, found.0, (spelled_entry names d is enums a fit side s v has).1.1, found.1));
    only = λ line there. one_of_all (IsSaid d.tree a) (all_parts d.tree a) line said there;
  }

  own_is : (c : CarriedText) → IsCarried c → saved d.tree a ≡ carried c → own_text d.tree a ≡ c
  own_is c text e = one_text (own_text d.tree a) c (is_carried names d is enums a fit) text (sym (saved_is names d is enums a fit) ∙ e)

  pub has_each : (c : CarriedText) → IsCarried c → saved d.tree a ≡ carried c → HasALineEach d.tree a c
  has_each c text e = subst (HasALineEach d.tree a) (own_is c text e) own_has_each

  -- ---- so each is kept or listed

  line_there : (place : ℕ) (line : CarriedLine) (text : List ℕ) → slice_get (all_parts d.tree a) place ≡ Some line → line_text line ≡ text → slice_get (saved_lines d.tree a) (suc (suc place)) ≡ Some text
  line_there place line text e same =
      ap (λ (ls : List (List ℕ)). slice_get ls (suc (suc place))) (same_text names d is enums a fit) ∙ mapped_at line_text (all_parts d.tree a) (end_line ∷ []) place line e ∙ ap Some same

  module _ (r : Rules) (b : Answered) (dropped : List ℕ) (carry : IsCarry r (saved d.tree a) b dropped) where
    own_carry : IsCarryOf r (own_text d.tree a) b dropped
    own_carry = subst (λ (c : CarriedText). IsCarryOf r c b dropped) (sym (own_is carry.0 carry.1 carry.2)) carry.3

    listed_or_kept : (place : ℕ) (line : CarriedLine) → slice_get (all_parts d.tree a) place ≡ Some line → IsKeptOrListed r b dropped (suc (suc place) + 1) line
    listed_or_kept place line e =
        let number : place + 3 ≡ suc (suc place) + 1 = omega arith in
        subst (λ (n : ℕ). IsKeptOrListed r b dropped n line) number (kept_or_listed r (own_text d.tree a) b dropped own_carry place line e)

    pub keeps_all : KeepsOrListsAll d.tree a r b dropped
    keeps_all = record {
      lists = λ c ms has.
          (let found = list_at_place c ms has in
          let line = collection (name_of d.tree c) ms in (
            name_of d.tree c,
            suc (suc found.0),
            (list_of_name names d is enums a fit c ms has).1.1,
            line_there found.0 line (list_line d.tree c ms) found.1.0 (list_text names d is enums a fit c ms has),
            listed_or_kept found.0 line found.1.0,
          ));
      values = λ side s v has.
          (let found = value_at_place side s v has in
          let line = entry side (path_at d.tree s) (printed d.tree.enums v) in (
            path_at d.tree s,
            suc (suc found.0),
            (spelled_entry names d is enums a fit side s v has).1.1,
            line_there found.0 line (entry_line side d.tree s v) found.1.0 (entry_text names d is enums a fit side s v has),
            listed_or_kept found.0 line found.1.0,
          ));
    }

pub a_line_each : SavedTextsHaveALineEach
a_line_each names d is enums a fit = has_each names d is enums a fit

pub all_kept_or_listed : EachAnswerIsKeptOrListed
all_kept_or_listed names d is enums a fit = keeps_all names d is enums a fit

-- ---- its lines over its own dictionary

some_value : (b : Bool) (o : Option Value) (v : Value) → o ≡ Some v → b ≡ true → is_some (if b then o else None) ≡ true
some_value true o v e h = ap is_some e
some_value false o v e h = absurd cc

some_of : (o : Option Refusal) → is_none o ≡ false → IsSome o
some_of None e = absurd cc
some_of (Some x) e = refl

-- a value of the fact's type that is dropped
module _ (r : Rules) (path : SlotPath) (text : List ℕ) (v : Value) (spelled : value_spelled (tree_of r) (fact_of (tree_of r) path) text ≡ Some v) where
  abbrev fact : ℕ
  fact = fact_of (tree_of r) path

  refused : (side : Side) → takes side (tree_of r) fact ≡ true → keeps r (entry side path text) ≡ false → IsRefusedAnswer r (entry side path text)
  refused Override may dropped = absurd (let kept : keeps r (entry Override path text) ≡ true = some_value (takes Override (tree_of r) fact) (value_spelled (tree_of r) fact text) v spelled may in cc)
  refused Answer may dropped = at (is_none (first_of (value_refusals r fact text))) refl
    where
      at : (b : Bool) → is_none (first_of (value_refusals r fact text)) ≡ b → IsRefusedAnswer r (entry Answer path text)
      at true h =
          absurd (let test : (takes Answer (tree_of r) fact && is_none (first_of (value_refusals r fact text))) ≡ true = and_intro (takes Answer (tree_of r) fact) (is_none (first_of (value_refusals r fact text))) may h in
          let kept : keeps r (entry Answer path text) ≡ true = some_value (takes Answer (tree_of r) fact && is_none (first_of (value_refusals r fact text))) (value_spelled (tree_of r) fact text) v spelled test in
          cc)
      at false h = (v, spelled, some_of (first_of (limit_refusals r fact (Some v))) (sym (ap (λ (o : Option Value). is_none (first_of (when (is_none o) BadValue ∷ limit_refusals r fact o))) spelled) ∙ h))

module _ (r : Rules) (is : IsAccepted (names_of r.checks) r.accepted) (enums : AreLists (tree_of r).enums) (a : Answered) (fit : AnswersFit (tree_of r) a) where
  own_list : (c : ℕ) (ms : List ℕ) → map.get a.lists c ≡ Some ms → keeps r (collection (name_of (tree_of r) c) ms) ≡ false → ⊥
  own_list c ms has dropped =
      let list = open_list (tree_of r) a fit c ms has in
      let kept : keeps r (collection (name_of (tree_of r) c) ms) ≡ true =
      ap is_some (list_named (names_of r.checks) r.accepted is c list) in
      cc

  own_entry : (side : Side) (s : Slot) (v : Value) → value_of side a s ≡ Some v
      → keeps r (entry side (path_at (tree_of r) s) (printed (tree_of r).enums v)) ≡ false → IsRefusedAnswer r (entry side (path_at (tree_of r) s) (printed (tree_of r).enums v))
  own_entry side s v has =
      let path = path_at (tree_of r) s in
      let fact : fact_of (tree_of r) path ≡ s.fact = ap (λ (o : Option ℕ). unwrap_or o 0) (fact_named (names_of r.checks) r.accepted is s path (spelled_slot (names_of r.checks) r.accepted is s (entry_slot (tree_of r) a fit side s v has)).1.1) in
      refused r path (printed (tree_of r).enums v) v
      (ap (λ (n : ℕ). value_spelled (tree_of r) n (printed (tree_of r).enums v)) fact ∙ printed_read (names_of r.checks) r.accepted is enums a fit side s v has) side
      (ap (takes side (tree_of r)) fact ∙ (both (stands (tree_of r) a s) (takes side (tree_of r) s.fact) (fit.placed side s (ap is_some has))).1)

pub own_lines : OwnLinesAreKept
own_lines r is enums a fit = (
  own_text (tree_of r) a,
  is_carried (names_of r.checks) r.accepted is enums a fit,
  saved_is (names_of r.checks) r.accepted is enums a fit,
  λ line there. one_of_all (λ (l : CarriedLine). keeps r l ≡ false → IsRefusedAnswer r l) (all_parts (tree_of r) a) line
      (of_all (names_of r.checks) r.accepted is enums a fit (λ (l : CarriedLine). keeps r l ≡ false → IsRefusedAnswer r l) (own_list r is enums a fit) (own_entry r is enums a fit)) there,
)
