-- Lines of a carried text that are own and rise are those of a saved text, and of no other.
use Rattle.save_file.proofs.Common.{Accepted, AllByRecursion, Answer, Answered, AnswersFit, AreLists, AreOwn, BadSaved, Bool, CarriedLine, CarriedRead, CarriedStage, CarriedText, Contains, EndsCarried, Err, FactPath, FactsRise, FromOne, GivesLines, Global, HasPath, IfErr, IfOk, IsAccepted, IsCarried, IsCarriedStage, IsOf, IsOfLists, IsOfUpTo, IsSlot, IsSlotPath, IsTrue, IsWhose, AcceptedParts, Lines, List, LoadFault, Member, None, Number, Ok, Opening, Option, Override, Pairs, ReadsNext, Refuses, RefusesText, Result, Rise, Side, Slot, SlotPath, Some, Tree, Value, WellFormed, Whole, [], accepted, answered, ap, append-nil, arith, both, carried, carried_lines, collection, counted_from, end_line, entered, entries, entry, equal_bytes, fact_of, false, global_has_none, has_its_member, home, home_is_collection, if◌then◌else◌, is_member, is_own, is_printed_of, is_some, kept_collection, length, lines_of, list_any, list_of, lists_lines, map, member_of, member_place, members_named, members_of_home, named_fact, names_of, nat_eq, next_line, opened, place_in, position, printed, refl, same_Some, same_bytes, same_number, saved, saved_lines, slot, slot_of, slot_path_of, something, stage_lines, stands, start, start_at, start_fits, subst, suc, sym, taken_value, takes, text_of, texts_of, true, value_of, value_spelled, ℕ, ◌*◌, ◌++◌, ◌+◌, ◌<◌, ◌↔◌, ◌∙◌, ◌∷◌, ◌≡◌, ◌≤◌}
use Rattle.std.proofs.Common.{unwrap_or}
use Rattle.answers.proofs.OpenedListsLaws.{given_well, of_lists}
use Rattle.answers.specs.OpenedLists.{with_all}
use Rattle.answers.specs.declared.parts.Parts.{Parts}
use Rattle.save_file.proofs.CarriedAnswers.{AreSoFar, any_listed, given_named, kept_parts, list_within, one_path_of, opened_apart, opened_below, opened_by_lines, opened_members, opened_rise, same_name, taken_takes, whole}
use Rattle.save_file.proofs.CarriedEnds.{finished, line_refused}
use Rattle.saved_text.proofs.CarriedSteps.{goes_on}
use Rattle.saved_text.proofs.Lines.{across, all_of, all_where, one_of_all, one_rising, pairs-append, pairs_where}
use Rattle.save_file.proofs.OwnLaws.{named_there}
use Rattle.save_file.proofs.SameTexts.{all_parts, behind, each_there, fact_named, in_home, is_carried, list_named, list_of_all, list_part, name_of, of_all, of_lists as of_each_list, of_side, one_saved, own_text, path_at, same_text, saved_is, side_part, spelled_entry, spelled_slot, two_entries, two_lists, value_of_all}
use Rattle.saved_text.proofs.SlotTexts.{entry_slot, open_list, path_parts}
use Rattle.save_file.proofs.PrintedValues.{printed_read}
use Rattle.save_file.proofs.SlotsRise.{slot_number, slot_place_low}
use Rattle.saved_text.proofs.TextLaws.{all-append}
use Rattle.saved_text.specs.declared.fault.LoadFault.TheVariants.{NoMemory}
use Rattle.std.specs.FinMap as map
use Rattle.fact_paths.specs.declared.fact_path.FactPath.TheVariants as facts_by

list_there : (a : Answered) (h k : ℕ) → is_member a h k ≡ true → (ms : List ℕ) × (map.get a.lists h ≡ Some ms)
list_there a h k i = at (map.get a.lists h) refl
  where
    at : (o : Option (List ℕ)) → map.get a.lists h ≡ o → (ms : List ℕ) × (o ≡ Some ms)
    at None e = absurd (let none : is_member a h k ≡ false = ap (λ (o : Option (List ℕ)). list_any (nat_eq k) (unwrap_or o [])) e in cc)
    at (Some ms) e = (ms, refl)

-- ==== the lines of a saved text are own, and rise

module _ (names : List (List ℕ)) (d : Accepted) (is : IsAccepted names d) (enums : AreLists d.tree.enums) (a : Answered) (fit : AnswersFit d.tree a) where
  abbrev parts : List CarriedLine
  parts = all_parts d.tree a

  own_list : (c : ℕ) (ms : List ℕ) → map.get a.lists c ≡ Some ms → IsTrue (is_own d.tree (collection (name_of d.tree c) ms))
  own_list c ms has = ap is_some (list_named names d is c (open_list d.tree a fit c ms has))

  its_fact : (side : Side) (s : Slot) (v : Value) → value_of side a s ≡ Some v → fact_of d.tree (path_at d.tree s) ≡ s.fact
  its_fact side s v has = ap (λ (o : Option ℕ). unwrap_or o 0) (fact_named names d is s (path_at d.tree s) (spelled_entry names d is enums a fit side s v has).1.1)

  own_entry : (side : Side) (s : Slot) (v : Value) → value_of side a s ≡ Some v → IsTrue (is_own d.tree (entry side (path_at d.tree s) (printed d.tree.enums v)))
  own_entry side s v has =
      let text = printed d.tree.enums v in
      let may = both (stands d.tree a s) (takes side d.tree s.fact) (fit.placed side s (ap is_some has)) in
      ap (λ (n : ℕ). is_printed_of d.tree text (taken_value d.tree side n text)) (its_fact side s v has)
      ∙ ap (λ (b : Bool). is_printed_of d.tree text (if b then value_spelled d.tree s.fact text else None)) may.1
      ∙ ap (is_printed_of d.tree text) (printed_read names d is enums a fit side s v has) ∙ equal_bytes text

  -- ---- where they stand

  -- the members of a path's list, where it has the member
  its_members : (c : List ℕ) (k h : ℕ) → HasPath d.tree.facts (facts_by.Global c) h → is_member a h k ≡ true → members_named c parts ≡ list_of a h
  its_members c k h has i =
      let list = list_there a h k i in
      let named : name_of d.tree h ≡ c = rw (has.is_there, has.path_is) refl in
      named_there parts c list.0 (is_carried names d is enums a fit).once
      (subst (λ (n : List ℕ). Contains parts (collection n list.0)) named (list_of_all names d is enums a fit (Contains parts) (each_there names d is enums a fit) h list.0 list.1))
      ∙ sym (ap (λ (o : Option (List ℕ)). unwrap_or o []) list.1)

  place_by : (side : Side) (s : Slot) (v : Value) → value_of side a s ≡ Some v → (p : FactPath) → HasPath d.tree.facts p s.fact → path_at d.tree s ≡ slot_path_of s.member p → member_place parts (path_at d.tree s) ≡ place_in s.member (members_of_home a (home d.tree s.fact))
  place_by side s v has (facts_by.Global n) there e =
      let no_home = global_has_none d.tree s.fact n there in
      let no_member = (entry_slot d.tree a fit side s v has).once.1 no_home in
      ap (member_place parts) e ∙ sym (ap (λ (h : ℕ). place_in s.member (members_of_home a h)) no_home ∙ ap (λ (m : ℕ). place_in m (0 ∷ [])) no_member)
  place_by side s v has (facts_by.Member c n) there e =
      let i = in_home names d is enums a fit side s v has c n e in
      ap (member_place parts) e ∙ ap (place_in s.member) (its_members c s.member (home d.tree s.fact) (home_is_collection names d s.fact c n is there).0.here i)
      ∙ at (nat_eq (home d.tree s.fact) 0) refl
    where
      at : (b : Bool) → nat_eq (home d.tree s.fact) 0 ≡ b → place_in s.member (list_of a (home d.tree s.fact)) ≡ place_in s.member (if b then 0 ∷ [] else list_of a (home d.tree s.fact))
      at false h = refl
      at true h =
          absurd (let some : 1 ≤ s.member = (let path : IsSlotPath (Member c s.member n) = subst IsSlotPath e (spelled_entry names d is enums a fit side s v has).0 in path.1.0) in
          let none : s.member ≡ 0 = (entry_slot d.tree a fit side s v has).once.1 (same_number (home d.tree s.fact) 0 h) in
          omega (arith, some, none))

  entry_position : (side : Side) (s : Slot) (v : Value) → value_of side a s ≡ Some v → position d.tree parts (entry side (path_at d.tree s) (printed d.tree.enums v)) ≡ suc (101 * counted_from d.tree side + slot_number d.tree a s)
  entry_position side s v has =
      let path = path_parts names d is s (path_at d.tree s) (spelled_entry names d is enums a fit side s v has).1.1 in
      let place = place_by side s v has path.0 path.1 path.2 in
      let fact = its_fact side s v has in
      omega (arith, place, fact)

  list_position : (c : ℕ) (ms : List ℕ) → map.get a.lists c ≡ Some ms → position d.tree parts (collection (name_of d.tree c) ms) ≡ suc (101 * c)
  list_position c ms has =
      let fact : fact_of d.tree (Global (name_of d.tree c)) ≡ c = ap (λ (o : Option ℕ). unwrap_or o 0) (kept_parts d.tree (name_of d.tree c) c (list_named names d is c (open_list d.tree a fit c ms has))).1 in
      omega (arith, fact)

  abbrev Behind : CarriedLine → CarriedLine → Type 0
  Behind x y = position d.tree parts x < position d.tree parts y

  -- answers come behind lists, and overrides behind answers
  abbrev border : Side → ℕ
  border side = suc (101 * counted_from d.tree side)

  from_border : (side : Side) → AllByRecursion (λ y. border side ≤ position d.tree parts y) (side_part d.tree a side)
  from_border side = of_side names d is enums a fit (λ y. border side ≤ position d.tree parts y) side (λ s v has. (let e = entry_position side s v has in omega (arith, e)))

  rise : Rise d.tree parts parts
  rise =
      pairs-append Behind (list_part d.tree a) (behind d.tree a)
      (two_lists names d is enums a fit Behind (λ c k ms ns low has also. (let e = list_position c ms has in let f = list_position k ns also in omega (arith, low, e, f))))
      (pairs-append Behind (side_part d.tree a Answer) (side_part d.tree a Override) (of_one_side Answer) (of_one_side Override)
      (across Behind (λ x. position d.tree parts x < border Override) (λ y. border Override ≤ position d.tree parts y) (λ x y low up. omega (arith, low, up)) (side_part d.tree a Answer) (side_part d.tree a Override)
      (of_side names d is enums a fit (λ x. position d.tree parts x < border Override) Answer
      (λ s v has. (let e = entry_position Answer s v has in let place = slot_place_low d.tree a fit s in let there = (entry_slot d.tree a fit Answer s v has).there in omega (arith, e, place, there.1)))) (from_border Override)))
      (across Behind (λ x. position d.tree parts x < border Answer) (λ y. border Answer ≤ position d.tree parts y) (λ x y low up. omega (arith, low, up)) (list_part d.tree a) (behind d.tree a)
      (of_each_list names d is enums a fit (λ x. position d.tree parts x < border Answer) (λ c ms has. (let e = list_position c ms has in let within = list_within d.tree c (open_list d.tree a fit c ms has) in omega (arith, e, within.1))))
      (all-append (λ y. border Answer ≤ position d.tree parts y) (side_part d.tree a Answer) (side_part d.tree a Override) (from_border Answer)
      (all_where (λ y. border Override ≤ position d.tree parts y) (λ y. border Override ≤ position d.tree parts y) (λ y. border Answer ≤ position d.tree parts y) (λ y up also. omega (arith, up)) (side_part d.tree a Override) (from_border Override) (from_border Override))))
    where
      of_one_side : (side : Side) → Pairs Behind (side_part d.tree a side)
      of_one_side side = two_entries names d is enums a fit Behind side (λ s t v w low has also. (let e = entry_position side s v has in let f = entry_position side t w also in omega (arith, low, e, f)))

  pub own_parts : AreOwn d.tree parts
  own_parts = record { own = of_all names d is enums a fit (λ line. IsTrue (is_own d.tree line)) own_list own_entry; rise = rise }

-- ==== own lines that rise are those of the saved text of the answers that they give

own_some : (d : Tree) (text : List ℕ) (o : Option Value) → is_printed_of d text o ≡ true → (v : Value) × (o ≡ Some v) × (printed d.enums v ≡ text)
own_some d text None own = absurd cc
own_some d text (Some v) own = (v, refl, same_bytes (printed d.enums v) text own)

module _ (names : List (List ℕ)) (d : Accepted) (is : IsAccepted names d) where
  -- the path of a slot is one
  slot_back : (s : Slot) → IsSlot d.tree s → (p : FactPath) → path_at d.tree s ≡ slot_path_of s.member p → HasPath d.tree.facts p s.fact → member_of (path_at d.tree s) ≡ s.member
  slot_back s there (facts_by.Global n) e has = ap member_of e ∙ sym (there.once.1 (global_has_none d.tree s.fact n has))
  slot_back s there (facts_by.Member c n) e has = ap member_of e

  its_path : (path : SlotPath) (s : Slot) → IsSlot d.tree s → named_fact d.tree path ≡ Some (fact_of d.tree path) → slot_of d.tree path ≡ s → path ≡ path_at d.tree s
  its_path path s there named same =
      let spelled = spelled_slot names d is s there in
      let parts = path_parts names d is s (path_at d.tree s) spelled.1.1 in
      one_path_of d.tree path (path_at d.tree s) (fact_of d.tree path) s.fact named (fact_named names d is s (path_at d.tree s) spelled.1.1)
      (same ∙ ap (slot s.fact) (sym (slot_back s there parts.0 parts.2 parts.1)))

module _ (names : List (List ℕ)) (d : Accepted) (is : IsAccepted names d) (enums : AreLists d.tree.enums) (c : CarriedText) (text : IsCarried c) (own : AreOwn d.tree c.lines)
    (a : Answered) (of : IsOfLists (opened d.tree c.lines) c.next a) (well : WellFormed a) (from_one : FromOne a) where
  abbrev b : Answered
  b = entered d.tree (taken_value d.tree) a c.lines

  abbrev ours : List CarriedLine
  ours = all_parts d.tree b

  all : AreSoFar d.tree (taken_value d.tree) c.lines b × (b.lists ≡ a.lists) × (b.next ≡ a.next)
  all = whole names d is (taken_value d.tree) (taken_takes d.tree) c.next c.lines text a of well from_one

  lists : (q : ℕ) (ms : List ℕ) → (map.get b.lists q ≡ Some ms) ↔ ((name : List ℕ) × Contains c.lines (collection name ms) × (kept_collection d.tree name ≡ Some q))
  lists = opened_by_lines names d is (taken_value d.tree) (taken_takes d.tree) c.next c.lines text a of well from_one

  pub fits : AnswersFit d.tree b
  fits = all.0.fit

  list_name : (q : ℕ) (name ms : List ℕ) → map.get b.lists q ≡ Some ms → kept_collection d.tree name ≡ Some q → name ≡ name_of d.tree q
  list_name q name ms has kept = same_name d.tree name (name_of d.tree q) q kept (list_named names d is q (open_list d.tree b fits q ms has))

  entry_path : (side : Side) (path : SlotPath) (s : Slot) (t : List ℕ) (v : Value) → value_of side b s ≡ Some v → slot_of d.tree path ≡ s → taken_value d.tree side s.fact t ≡ Some v → path ≡ path_at d.tree s
  entry_path side path s t v has same taken =
      its_path names d is path s (entry_slot d.tree b fits side s v has)
      (given_named d.tree (taken_value d.tree) (taken_takes d.tree) side path t v (ap (λ (u : Slot). taken_value d.tree side u.fact t) same ∙ taken)) same

  -- what they say is what was read
  said : AllByRecursion (Contains c.lines) ours
  said = of_all names d is enums b fits (Contains c.lines) of_list of_entry
    where
      of_list : (q : ℕ) (ms : List ℕ) → map.get b.lists q ≡ Some ms → Contains c.lines (collection (name_of d.tree q) ms)
      of_list q ms has = let given = (lists q ms).0 has in subst (λ (n : List ℕ). Contains c.lines (collection n ms)) (list_name q given.0 ms has given.2) given.1

      of_entry : (side : Side) (s : Slot) (v : Value) → value_of side b s ≡ Some v → Contains c.lines (entry side (path_at d.tree s) (printed d.tree.enums v))
      of_entry side s v has =
          let given = (all.0.values side s v).0 has in
          let some = own_some d.tree given.1 (taken_value d.tree side (fact_of d.tree given.0) given.1) (one_of_all (λ line. IsTrue (is_own d.tree line)) c.lines (entry side given.0 given.1) own.own given.2) in
          let one : some.0 ≡ v = same_Some some.0 v (sym some.1 ∙ ap (λ (u : Slot). taken_value d.tree side u.fact given.1) given.3 ∙ given.4) in
          subst (λ (p : SlotPath). Contains c.lines (entry side p (printed d.tree.enums v))) (entry_path side given.0 s given.1 v has given.3 given.4)
          (subst (λ (t : List ℕ). Contains c.lines (entry side given.0 t)) (sym (sym (ap (λ (w : Value). printed d.tree.enums w) one) ∙ some.2)) given.2)

  there : (line : CarriedLine) → Contains c.lines line → Contains ours line
  there line h = at line h (one_of_all (λ x. IsTrue (is_own d.tree x)) c.lines line own.own h)
    where
      at : (line : CarriedLine) → Contains c.lines line → IsTrue (is_own d.tree line) → Contains ours line
      at (collection name ms) h own_one =
          let kept = something (kept_collection d.tree name) own_one in
          let has = (lists kept.0 ms).1 (name, h, kept.1) in
          subst (λ (n : List ℕ). Contains ours (collection n ms)) (sym (list_name kept.0 name ms has kept.1)) (list_of_all names d is enums b fits (Contains ours) (each_there names d is enums b fits) kept.0 ms has)
      at (entry side path t) h own_one =
          let some = own_some d.tree t (taken_value d.tree side (fact_of d.tree path) t) own_one in
          let has = (all.0.values side (slot_of d.tree path) some.0).1 (path, t, h, refl, some.1) in
          subst (λ (p : SlotPath). Contains ours (entry side p t)) (sym (entry_path side path (slot_of d.tree path) t some.0 has refl some.1))
          (subst (λ (u : List ℕ). Contains ours (entry side (path_at d.tree (slot_of d.tree path)) u)) some.2
          (value_of_all names d is enums b fits (Contains ours) (each_there names d is enums b fits) side (slot_of d.tree path) some.0 has))

  same_position : (line : CarriedLine) → Contains c.lines line → position d.tree c.lines line ≡ position d.tree ours line
  same_position (collection name ms) h = refl
  same_position (entry side (Global n) t) h = refl
  same_position (entry side (Member g k n) t) h =
      let found = any_listed g k c.lines (one_of_all (λ x. IsTrue (has_its_member c.lines x)) c.lines (entry side (Member g k n) t) text.members h) in
      ap (λ (ms : List ℕ). suc (101 * (counted_from d.tree side + fact_of d.tree (Member g k n)) + place_in k ms))
      (named_there c.lines g found.0 text.once found.1 ∙ sym (named_there ours g found.0 (is_carried names d is enums b fits).once (there (collection g found.0) found.1)))

  same_lines : c.lines ≡ ours
  same_lines =
      one_rising (position d.tree ours) c.lines ours
      (pairs_where (λ x. position d.tree c.lines x ≡ position d.tree ours x) (λ x y. position d.tree c.lines x < position d.tree c.lines y) (λ x y. position d.tree ours x < position d.tree ours y)
      (λ x y e f low. omega (arith, e, f, low)) c.lines (all_of (λ x. position d.tree c.lines x ≡ position d.tree ours x) c.lines same_position) own.rise)
      (own_parts names d is enums b fits).rise there (λ line h. one_of_all (Contains c.lines) ours line said h)

  own_is : own_text d.tree b ≡ c
  own_is = ap (λ (n : ℕ). record { next = n; lines = ours }) (all.2 ∙ of.number) ∙ ap (λ (ls : List CarriedLine). record { next = c.next; lines = ls }) (sym same_lines)

  pub saved_so : carried (c) ≡ saved d.tree b
  saved_so = ap carried (sym own_is) ∙ sym (saved_is names d is enums b fits)

  pub lines_so : saved_lines d.tree b ≡ carried_lines (c)
  lines_so = same_text names d is enums b fits ∙ ap carried_lines own_is

-- ==== what was read of a text goes on, and how it ends

module _ (names : List (List ℕ)) (d : Accepted) (is : IsAccepted names d) (enums : AreLists d.tree.enums) where
  -- a saved text that begins with the lines
  with_lines : (c : CarriedText) → IsCarried c → AreOwn d.tree c.lines → (a : Answered) × AnswersFit d.tree a × (saved_lines d.tree a ≡ carried_lines c)
  with_lines c text own =
      let of = of_lists (opened d.tree c.lines) c.next rise in
      let well = given_well (opened d.tree c.lines) c.next a rise (opened_apart d.tree c.next c.lines text) (opened_below d.tree c.next c.lines text) (opened_members d.tree c.next c.lines text) text.number.0 text.number.1 of in
      (entered d.tree (taken_value d.tree) a c.lines, fits names d is enums c text own a of well.0 well.1, lines_so names d is enums c text own a of well.0 well.1)
    where
      a : Answered
      a = with_all (opened d.tree c.lines) (start_at c.next)

      rise : FactsRise (opened d.tree c.lines)
      rise = opened_rise d.tree c.next c.lines text

  found : (stage : CarriedStage) → IsCarriedStage stage → AreOwn d.tree (stage_lines stage) → (a : Answered) × AnswersFit d.tree a × ((more : List (List ℕ)) × (saved_lines d.tree a ≡ texts_of stage ++ more))
  found Opening sound own = (start, start_fits d.tree, (saved_lines d.tree start, refl))
  found Number sound own = (start, start_fits d.tree, (next_line 1 ∷ (lists_lines d.tree start ++ (entries Answer d.tree start ++ (entries Override d.tree start ++ end_line ∷ []))), refl))
  found (Lines r) sound own = let so = with_lines (text_of r) sound.text own in (so.0, so.1, (end_line ∷ [], so.2))
  found (Whole r) sound own = let so = with_lines (text_of r) sound own in (so.0, so.1, ([], so.2 ∙ sym (append-nil (carried_lines (text_of r)))))

own_carried : (k : AcceptedParts) → IsWhose (Some k) → (a : Answered) → AnswersFit (accepted k).tree a → (c : CarriedText) × IsCarried c × IsOf (Some k) c.lines × (saved_lines (accepted k).tree a ≡ carried_lines c)
own_carried k whose a fit = (
  own_text (accepted k).tree a,
  is_carried (names_of k.checks) (accepted k) whose.0 whose.1 a fit,
  own_parts (names_of k.checks) (accepted k) whose.0 whose.1 a fit,
  same_text (names_of k.checks) (accepted k) whose.0 whose.1 a fit,
)

module _ (stage : CarriedStage) (sound : IsCarriedStage stage) (last : ℕ) (bytes behind : List ℕ) (lines : lines_of bytes ≡ texts_of stage ++ lines_of behind) (number : ℕ) (counted : number ≡ length (texts_of stage) + 1) where
  pub refused_next : (whose : Option AcceptedParts) → IsWhose whose → IsOfUpTo whose (stage_lines stage) last → (line : List ℕ) (more : List (List ℕ)) → lines_of behind ≡ line ∷ more → (fault : LoadFault) → ReadsNext whose stage line number (Err fault) → Refuses whose bytes fault
  refused_next None is own line more at_line NoMemory reads = tt
  refused_next (Some k) is own line more at_line NoMemory reads = tt
  refused_next None is own line more at_line (BadSaved n) reads =
      let one = goes_on stage sound in
      subst (λ (m : ℕ). Refuses None bytes (BadSaved m)) (sym reads.0)
      (line_refused None IsCarried carried_lines (λ c text. (c, text, tt, refl)) stage sound one.0 one.2 one.1 one.3 bytes behind lines number counted line more at_line reads.1)
  refused_next (Some k) is own line more at_line (BadSaved n) reads =
      let one = found (names_of k.checks) (accepted k) is.0 is.1 stage sound own.0 in
      subst (λ (m : ℕ). Refuses (Some k) bytes (BadSaved m)) (sym reads.0)
      (line_refused (Some k) (AnswersFit (accepted k).tree) (saved_lines (accepted k).tree) (own_carried k is) stage sound one.0 one.1 one.2.0 one.2.1 bytes behind lines number counted line more at_line reads.1)

  pub ends : (whose : Option AcceptedParts) → IsWhose whose → IsOfUpTo whose (stage_lines stage) last → behind ≡ [] → (ended : Bool) → IsTrue ended ↔ ((front : List ℕ) × (bytes ≡ front ++ 10 ∷ [])) → (result : Result CarriedRead LoadFault) → EndsCarried stage ended number result → GivesLines whose bytes result
  ends None is own none ended tells result e =
      let one = goes_on stage sound in
      finished None IsCarried carried_lines (λ c text. (c, text, tt, refl)) stage sound one.0 one.2 one.1 one.3 bytes behind lines number counted none ended tells (λ n refused. refused) tt result stage ended refl refl e
  ends (Some k) is own none ended tells result e =
      let one = found (names_of k.checks) (accepted k) is.0 is.1 stage sound own.0 in
      finished (Some k) (AnswersFit (accepted k).tree) (saved_lines (accepted k).tree) (own_carried k is) stage sound one.0 one.1 one.2.0 one.2.1 bytes behind lines number counted none ended tells (λ n refused. refused) own.0 result stage ended refl refl e

-- nothing was read yet
pub none_read : (whose : Option AcceptedParts) → IsOfUpTo whose [] 0
none_read None = tt
none_read (Some k) = (record { own = tt; rise = tt }, record { high = tt; least = λ n all. omega arith })

-- ---- what loading answers

module _ (d : Tree) (r : CarriedRead) (bytes : List ℕ) (is : bytes ≡ carried (text_of r)) where
  pub loaded : (result : Result Parts LoadFault) → IfOk result (λ b. AnswersFit d (answered b)) → IfOk result (λ b. carried (text_of r) ≡ saved d (answered b)) → IfOk result (λ b. AnswersFit d (answered b) × (bytes ≡ saved d (answered b)))
  loaded (Ok b) fit same = (fit, is ∙ same)
  loaded (Err fault) fit same = tt

pub load_only : (names : List (List ℕ)) (d : Accepted) → IsAccepted names d → AreLists d.tree.enums → (r : CarriedRead) (bytes : List ℕ) → bytes ≡ carried (text_of r)
    → (result : Result Parts LoadFault) → IfOk result (λ b. AnswersFit d.tree (answered b)) → IfOk result (λ b. carried (text_of r) ≡ saved d.tree (answered b)) → (a : Answered) → AnswersFit d.tree a → bytes ≡ saved d.tree a → IfOk result (λ b. answered b ≡ a)
load_only names d is enums r bytes text (Ok b) fit same a other e = one_saved names d is enums (answered b) a fit other (sym same ∙ sym text ∙ e)
load_only names d is enums r bytes text (Err fault) fit same a other e = tt

pub load_refused : (d : Tree) (bytes : List ℕ) (result : Result Parts LoadFault) → IfErr result (λ fault. fault ≡ NoMemory) → IfErr result (RefusesText d bytes)
load_refused d bytes (Ok b) memory = tt
load_refused d bytes (Err fault) memory = subst (RefusesText d bytes) (sym memory) tt
