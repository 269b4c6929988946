-- The slots that wait first are those that a change touches by itself.
use Rattle.std.proofs.Common.{◌≡◌, ℕ, ◌-◌, Bool, true, false, not, ◌&&◌, ◌||◌, nat_eq, if◌then◌else◌, IsTrue, IsSome, List, [], ◌∷◌, ◌++◌, All, Option, Some, None, refl, sym, ap, subst, ◌∙◌, arith}
use Rattle.std.specs.List.{list_any}
use Rattle.std.specs.FinMap as map
use Rattle.std.proofs.lemmas.Grind.{get_or_default_zero}
use Rattle.std.proofs.lemmas.List.Elements.{All-head, All-tail}
use Rattle.std.proofs.lemmas.List.Folds.{list_any-append, list_any_at}
use Rattle.common_lemmas.proofs.Bools.{and_intro, both_left, both_right, or_false, or_left, or_right, same_test}
use Rattle.common_lemmas.proofs.Numbers.{equal_number, nat_eq-comm, same_number}
use Rattle.common_lemmas.proofs.Options.{something}
use Rattle.fact_values.specs.declared.slot.Slot.{Slot}
use Rattle.fact_values.specs.declared.value.Value.{Value}
use Rattle.dict_source.specs.Finding.{IsNumber}
use Rattle.three_state.specs.Equality.{value_same}
use Rattle.answers.specs.Answered.{Answered, list_of, value_of}
use Rattle.answers.specs.Change.{Change, sets, opens, closes, adds, takes, removes, puts_back, applied}
use Rattle.answers.specs.Lists.{IsIn}
use Rattle.answers.specs.declared.edit.Side.{Side}
use Rattle.answers.specs.declared.edit.Side.TheVariants.{Answer, Override}
use Rattle.answers.proofs.FiniteLaws.{get_put_own}
use Rattle.answers.proofs.StandLaws.{elsewhere, entry_stands, list_is, list_there, none_some}
use Rattle.dict_order.proofs.DictionaryLaws.{length_mention_graph}
use Rattle.dict_meaning.specs.Accepted.{Accepted, IsAccepted}
use Rattle.dictionary.specs.ByRank.{AreByRank}
use Rattle.dict_meaning.specs.Extension.{both_same}
use Rattle.dict_meaning.specs.Fits.{AnswersFit, is_list}
use Rattle.dict_meaning.specs.Homes.{home}
use Rattle.dict_meaning.specs.Plain.{rank}
use Rattle.evaluation.specs.Results.{slot}
use Rattle.dict_meaning.specs.Slots.{is_member, slot_same, stands, stands_at}
use Rattle.dict_meaning.specs.Undone.{came, differs, is_touched_first, IsUndone}
use Rattle.dictionary.proofs.ByRankLaws.{facts_by_rank, place_of_fact}
use Rattle.dict_meaning.proofs.ExtensionLaws.{is_placed, list_stands}
use Rattle.dict_meaning.proofs.NumberLaws.{fact_there, fact_within}
use Rattle.dict_meaning.proofs.SetLaws.{set_is}
use Rattle.dict_meaning.proofs.SlotLaws.{fact_of_standing, slot_same-equal, slot_same-itself, stands_where}
use Rattle.recalc.specs.Readers.{dirty_of}
use Rattle.recalc.specs.Running.{AreWaiting}
use Rattle.recalc.specs.Seeding.{came_by, field_at, is_at, is_came, is_field, is_own, is_slot}
use Rattle.dirty_slots.specs.Waiting.{dirty_same, Queue, waits}
use Rattle.recalc.specs.declared.undone.Came.{Came}
use Rattle.dirty_slots.specs.declared.dirty_slot.DirtySlot.{DirtySlot}
use Rattle.recalc.proofs.RunningLaws.{same_tests}
use Rattle.recalc.proofs.SlotLists.{either}

-- ---- the facts in the order of their ranks

in_any : (P : ℕ → Type 0) (xs : List ℕ) (n : ℕ) → All P xs → IsTrue (list_any (nat_eq n) xs) → P n
in_any P [] n all h = absurd (cc)
in_any P (x ∷ xs) n all h =
    either (nat_eq n x) (list_any (nat_eq n) xs) h
    (λ e. subst P (sym (same_number n x e)) (All-head P x xs all))
    (λ e. in_any P xs n (All-tail P x xs all) e)

pub order_numbers : (names : List (List ℕ)) (d : Accepted) → IsAccepted names d → (order : List ℕ) → AreByRank d.ranks order → All (λ f. IsNumber d.tree.facts f) order
order_numbers names d accepted order by_rank place n low =
    subst (IsNumber d.tree.facts) (sym (get_or_default_zero order place n low)) (facts_by_rank d.tree d.ranks order order accepted.ranked by_rank refl place low)

module _ (names : List (List ℕ)) (d : Accepted) (accepted : IsAccepted names d) (order : List ℕ) (by_rank : AreByRank d.ranks order) where
  pub in_order : (n : ℕ) → IsNumber d.tree.facts n → IsTrue (list_any (nat_eq n) order)
  in_order n number =
      let found = place_of_fact d.ranks order n by_rank (omega (arith, number.0)) (omega (arith, number.1, accepted.ranked.count, length_mention_graph d.tree)) in
      list_any_at (nat_eq n) order found.0 0 found.1 (ap (nat_eq n) found.2 ∙ equal_number n)

  pub number_in : (n : ℕ) → IsTrue (list_any (nat_eq n) order) → IsNumber d.tree.facts n
  number_in n h = in_any (IsNumber d.tree.facts) order n (order_numbers names d accepted order by_rank) h

  pub standing_in : (a : Answered) (s : Slot) → IsTrue (stands d.tree a s) → IsTrue (list_any (nat_eq s.fact) order)
  standing_in a s there =
      let here = fact_of_standing d.tree a s there in
      let within = fact_within d.tree.facts s.fact here.0 here.1 in
      in_order s.fact (omega (arith, within.0), within.1)

  pub stands_in_order : (a : Answered) (s : Slot) → IsTrue (list_any (nat_eq s.fact) order) → stands d.tree a s ≡ stands_at a (home d.tree s.fact) s.member
  stands_in_order a s h =
      let number = number_in s.fact h in
      let there = fact_there d.tree.facts s.fact (omega (arith, number.0)) number.1 in
      stands_where d.tree a s there.0 there.1

-- ---- what waits of a fact at members, as slots

dirty_turned : (d : Accepted) (s t : Slot) → dirty_same (dirty_of d s) (dirty_of d t) ≡ slot_same t s
dirty_turned d s t =
    same_tests (nat_eq (rank d s.fact) (rank d t.fact)) (nat_eq s.fact t.fact) (nat_eq s.member t.member)
    (λ e. ap (λ n. nat_eq (rank d s.fact) (rank d n)) (sym (same_number s.fact t.fact e)) ∙ equal_number (rank d s.fact))
    ∙ ap (λ x. x && nat_eq s.member t.member) (nat_eq-comm s.fact t.fact)
    ∙ ap (λ x. nat_eq t.fact s.fact && x) (nat_eq-comm s.member t.member)

at_slot : (d : Accepted) (s : Slot) (ms : List ℕ) (f : ℕ) → is_at d (dirty_of d s) ms f ≡ (nat_eq s.fact f && list_any (nat_eq s.member) ms)
at_slot d s [] f = off (nat_eq s.fact f)
  where
    off : (x : Bool) → false ≡ (x && false)
    off true = refl
    off false = refl
at_slot d s (m ∷ ms) f =
    ap (λ b. dirty_same (dirty_of d s) (record { rank = rank d f; fact = f; member = m }) || b) (at_slot d s ms f)
    ∙ at (nat_eq s.fact f) refl
  where
    joined : (x y : Bool) → ((true && (true && x)) || (true && y)) ≡ (true && (x || y))
    joined true y = refl
    joined false y = refl

    none : (x y z : Bool) → ((z && (false && x)) || (false && y)) ≡ (false && (x || y))
    none x y true = refl
    none x y false = refl

    at : (b : Bool) → nat_eq s.fact f ≡ b
        → ((nat_eq (rank d s.fact) (rank d f) && (b && nat_eq s.member m)) || (b && list_any (nat_eq s.member) ms)) ≡ (b && (nat_eq s.member m || list_any (nat_eq s.member) ms))
    at true e =
        ap (λ b. (b && (true && nat_eq s.member m)) || (true && list_any (nat_eq s.member) ms))
        (ap (λ n. nat_eq (rank d s.fact) (rank d n)) (sym (same_number s.fact f e)) ∙ equal_number (rank d s.fact))
        ∙ joined (nat_eq s.member m) (list_any (nat_eq s.member) ms)
    at false e = none (nat_eq s.member m) (list_any (nat_eq s.member) ms) (nat_eq (rank d s.fact) (rank d f))

-- of all these facts
pub any_slot : (d : Accepted) (ms : ℕ → List ℕ) (s : Slot) (order : List ℕ) → list_any (λ f. is_at d (dirty_of d s) (ms f) f) order ≡ (list_any (nat_eq s.fact) order && list_any (nat_eq s.member) (ms s.fact))
any_slot d ms s [] = refl
any_slot d ms s (f ∷ order) =
    ap (λ b. b || list_any (λ g. is_at d (dirty_of d s) (ms g) g) order) (at_slot d s (ms f) f)
    ∙ ap (λ b. (nat_eq s.fact f && list_any (nat_eq s.member) (ms f)) || b) (any_slot d ms s order)
    ∙ at (nat_eq s.fact f) refl
  where
    joined : (x y : Bool) → ((true && x) || (y && x)) ≡ ((true || y) && x)
    joined true true = refl
    joined true false = refl
    joined false true = refl
    joined false false = refl

    at : (b : Bool) → nat_eq s.fact f ≡ b
        → ((b && list_any (nat_eq s.member) (ms f)) || (list_any (nat_eq s.fact) order && list_any (nat_eq s.member) (ms s.fact))) ≡ ((b || list_any (nat_eq s.fact) order) && list_any (nat_eq s.member) (ms s.fact))
    at true e =
        ap (λ n. (true && list_any (nat_eq s.member) (ms n)) || (list_any (nat_eq s.fact) order && list_any (nat_eq s.member) (ms s.fact))) (sym (same_number s.fact f e))
        ∙ joined (list_any (nat_eq s.member) (ms s.fact)) (list_any (nat_eq s.fact) order)
    at false e = refl

-- and so it has the rank of its fact
dirty_rank : (d : Accepted) (q : DirtySlot) (f m : ℕ) → IsTrue (dirty_same q (record { rank = rank d f; fact = f; member = m })) → q.rank ≡ rank d q.fact
dirty_rank d q f m same =
    let ranks : q.rank ≡ rank d f = same_number q.rank (rank d f) (both_left (nat_eq q.rank (rank d f)) (nat_eq q.fact f && nat_eq q.member m) same) in
    let facts : q.fact ≡ f = same_number q.fact f (both_left (nat_eq q.fact f) (nat_eq q.member m) (both_right (nat_eq q.rank (rank d f)) (nat_eq q.fact f && nat_eq q.member m) same)) in
    ranks ∙ ap (rank d) (sym facts)

at_rank : (d : Accepted) (q : DirtySlot) (ms : List ℕ) (f : ℕ) → IsTrue (is_at d q ms f) → q.rank ≡ rank d q.fact
at_rank d q [] f h = absurd (cc)
at_rank d q (m ∷ ms) f h = either (dirty_same q (record { rank = rank d f; fact = f; member = m })) (is_at d q ms f) h (dirty_rank d q f m) (at_rank d q ms f)

pub any_rank : (d : Accepted) (ms : ℕ → List ℕ) (q : DirtySlot) (order : List ℕ) → IsTrue (list_any (λ f. is_at d q (ms f) f) order) → q.rank ≡ rank d q.fact
any_rank d ms q [] h = absurd (cc)
any_rank d ms q (f ∷ order) h = either (is_at d q (ms f) f) (list_any (λ g. is_at d q (ms g) g) order) h (at_rank d q (ms f) f) (any_rank d ms q order)

-- ---- the slot that differs

unwrapped : {A : Type 0} {x y : A} → Some x ≡ Some y → x ≡ y
unwrapped e = cc

there_is : {A : Type 0} {o : Option A} {x : A} → o ≡ Some x → IsSome o
there_is {A} {o} {x} e = subst (λ (p : Option A). IsSome p) (sym e) refl

-- a collection that is open before the change or after it, at its own slot
list_slot : (names : List (List ℕ)) (d : Accepted) → IsAccepted names d → (now : Answered) (c : ℕ) (s : Slot) → IsTrue (is_list d.tree c) → IsTrue (slot_same (slot c 0) s) → IsTrue (stands d.tree now s)
list_slot names d accepted now c s h e = subst (λ t. IsTrue (stands d.tree now t)) (slot_same-equal (slot c 0) s e) (list_stands names d accepted now c h)

other_value : (o p : Option Value) → IsTrue (not (both_same value_same o p)) → o ≡ None → IsSome p
other_value (Some v) p h e = absurd (cc)
other_value None (Some w) h e = refl
other_value None None h e = absurd (cc)

-- a slot that has another value has one, or had one
set_slot : (d : Accepted) (side : Side) (t : Slot) (v : Option Value) (now : Answered) → IsUndone d (sets side t v) now → value_of side (applied (sets side t v) now) t ≡ v
    → (s : Slot) → IsTrue (slot_same t s && not (both_same value_same v (value_of side now t))) → IsTrue (stands d.tree now s)
set_slot d side t v now u own s h = subst (λ q. IsTrue (stands d.tree now q)) (slot_same-equal t s (both_left (slot_same t s) _ h)) (at v refl)
  where
    at : (o : Option Value) → v ≡ o → IsTrue (stands d.tree now t)
    at (Some w) e = is_placed d.tree (applied (sets side t v) now) u.before side t w (own ∙ e)
    at None e =
        let some = something (value_of side now t) (other_value v (value_of side now t) (both_right (slot_same t s) _ h) e) in
        is_placed d.tree now u.after side t some.0 some.1

own_value : (side : Side) (b : Bool) (v o p : Option Value) → b ≡ true → p ≡ (if b then v else o) → p ≡ v
own_value side true v o p e h = h
own_value side false v o p e h = absurd (cc)

pub own_stands : (names : List (List ℕ)) (d : Accepted) → IsAccepted names d → (undo : Change) (now : Answered) → IsUndone d undo now → (s : Slot) → IsTrue (differs undo now s) → IsTrue (stands d.tree now s)
own_stands names d accepted (sets Answer t v) now u s h =
    set_slot d Answer t v now u (own_value Answer (slot_same t t) v _ _ (slot_same-itself t) (set_is Answer Answer now t t v (entry_stands now t.member u.after.well u.can))) s h
own_stands names d accepted (sets Override t v) now u s h =
    set_slot d Override t v now u (own_value Override (slot_same t t) v _ _ (slot_same-itself t) (set_is Override Override now t t v (entry_stands now t.member u.after.well u.can))) s h
own_stands names d accepted (opens c) now u s h = list_slot names d accepted now c s (u.before.lists c (there_is (get_put_own now.lists c (Some [])))) h
own_stands names d accepted (closes c) now u s h = list_slot names d accepted now c s (u.after.lists c (there_is u.can)) h
own_stands names d accepted (adds c) now u s h = list_slot names d accepted now c s (u.before.lists c (there_is (get_put_own now.lists c (Some (list_of now c ++ now.next ∷ []))))) h
own_stands names d accepted (takes c closed) now u s h = list_slot names d accepted now c s (u.after.lists c (there_is u.can.1)) h
own_stands names d accepted (removes c m) now u s h = list_slot names d accepted now c s (u.after.lists c (there_is (list_there now c m u.can))) h
own_stands names d accepted (puts_back c place m e) now u s h = list_slot names d accepted now c s (u.after.lists c (there_is u.can.1)) h

-- ---- the member that came

last_in : (xs ys : List ℕ) (m : ℕ) → ys ≡ xs ++ m ∷ [] → IsIn m ys
last_in xs ys m e = subst (IsIn m) (sym e) (list_any-append (nat_eq m) xs (m ∷ []) ∙ or_right (list_any (nat_eq m) xs) (nat_eq m m || false) (or_left (nat_eq m m) false (equal_number m)))

-- a member of a list of a Writable collection: the slots of its fields stand at it, and no others
pub record HasCome (d : Accepted) (now : Answered) (c : Came) : Type 0 where
  pub list : IsTrue (is_list d.tree c.list)
  pub listed : IsIn c.member (list_of now c.list)

pub come_is : (d : Accepted) (undo : Change) (now : Answered) → IsUndone d undo now → (c : Came) → came_by undo now ≡ Some c → HasCome d now c
come_is d (takes c closed) now u k e =
    subst (HasCome d now) (unwrapped e) (record { list = u.after.lists c (there_is u.can.1); listed = last_in u.can.0 (list_of now c) (now.next - 1) (list_is now c (u.can.0 ++ (now.next - 1) ∷ []) u.can.1) })
come_is d (removes c m) now u k e =
    subst (HasCome d now) (unwrapped e) (record { list = u.after.lists c (there_is (list_there now c m u.can)); listed = u.can })
come_is d _ now u k e = absurd (cc)

came_is : (undo : Change) (now : Answered) (c : Came) → came_by undo now ≡ Some c → (m : ℕ) → came undo now m ≡ nat_eq m c.member
came_is (takes c closed) now k e m = ap (λ (o : Came). nat_eq m o.member) (unwrapped e)
came_is (removes c n) now k e m = ap (λ (o : Came). nat_eq m o.member) (unwrapped e)
came_is _ now k e m = absurd (cc)

none_came : (undo : Change) (now : Answered) → came_by undo now ≡ None → (m : ℕ) → came undo now m ≡ false
none_came (takes c closed) now e m = absurd (cc)
none_came (removes c n) now e m = absurd (cc)
none_came _ now e m = refl

module _ (d : Accepted) (now : Answered) (fits : AnswersFit d.tree now) (c : Came) (has : HasCome d now c) where
  -- it has a number, and so has its collection
  some_member : nat_eq c.member 0 ≡ false
  some_member = at (nat_eq c.member 0) refl
    where
      at : (b : Bool) → nat_eq c.member 0 ≡ b → b ≡ false
      at false e = refl
      at true e =
          absurd (let some : IsSome (map.get now.members c.member) = fits.well.listed c.list c.member has.listed in
          let none : map.get now.members c.member ≡ None = ap (map.get now.members) (same_number c.member 0 e) ∙ fits.from_one.zero in
          none_some (map.get now.members c.member) none some)

  some_list : nat_eq c.list 0 ≡ false
  some_list = at (nat_eq c.list 0) refl
    where
      at : (b : Bool) → nat_eq c.list 0 ≡ b → b ≡ false
      at false e = refl
      at true e = absurd (let h : IsTrue (is_list d.tree 0) = subst (λ n. IsTrue (is_list d.tree n)) (same_number c.list 0 e) has.list in cc)

  -- of a fact of this home, whose test is `own`
  stands_at_home : (h : ℕ) (own : Bool) → nat_eq h c.list ≡ own → stands_at now h c.member ≡ own
  stands_at_home h true e =
      ap (λ n. stands_at now n c.member) (same_number h c.list e)
      ∙ ap (λ b. if b then nat_eq c.member 0 else is_member now c.list c.member) some_list
      ∙ has.listed
  stands_at_home h false e = at (nat_eq h 0) refl
    where
      at : (b : Bool) → nat_eq h 0 ≡ b → (if b then nat_eq c.member 0 else is_member now h c.member) ≡ false
      at true z = some_member
      at false z = elsewhere now c.list h c.member fits.well has.listed (nat_eq-comm c.list h ∙ e)

field_has : (own : Bool) (m k : ℕ) → list_any (nat_eq m) (if own then k ∷ [] else []) ≡ (own && nat_eq m k)
field_has true m k = or_false (nat_eq m k)
field_has false m k = refl

-- ---- those that a change touches by itself

module _ (names : List (List ℕ)) (d : Accepted) (accepted : IsAccepted names d) (order : List ℕ) (by_rank : AreByRank d.ranks order) (undo : Change) (now : Answered) (u : IsUndone d undo now) where
  -- the slots of the member that came
  field_slots : (c : Came) → came_by undo now ≡ Some c → (s : Slot) → is_field d c order (dirty_of d s) ≡ (stands d.tree now s && came undo now s.member)
  field_slots c e s =
      any_slot d (field_at d.tree c) s order
      ∙ ap (λ b. list_any (nat_eq s.fact) order && b) (field_has (nat_eq (home d.tree s.fact) c.list) s.member c.member)
      ∙ same_test (list_any (nat_eq s.fact) order && (nat_eq (home d.tree s.fact) c.list && nat_eq s.member c.member)) (stands d.tree now s && nat_eq s.member c.member) forth back
      ∙ ap (λ b. stands d.tree now s && b) (sym (came_is undo now c e s.member))
    where
      at_member : IsTrue (list_any (nat_eq s.fact) order) → IsTrue (nat_eq s.member c.member) → stands d.tree now s ≡ nat_eq (home d.tree s.fact) c.list
      at_member i same =
          stands_in_order names d accepted order by_rank now s i
          ∙ ap (stands_at now (home d.tree s.fact)) (same_number s.member c.member same)
          ∙ stands_at_home d now u.after c (come_is d undo now u c e) (home d.tree s.fact) (nat_eq (home d.tree s.fact) c.list) refl

      forth : IsTrue (list_any (nat_eq s.fact) order && (nat_eq (home d.tree s.fact) c.list && nat_eq s.member c.member)) → IsTrue (stands d.tree now s && nat_eq s.member c.member)
      forth h =
          let i = both_left (list_any (nat_eq s.fact) order) (nat_eq (home d.tree s.fact) c.list && nat_eq s.member c.member) h in
          let r = both_right (list_any (nat_eq s.fact) order) (nat_eq (home d.tree s.fact) c.list && nat_eq s.member c.member) h in
          let same = both_right (nat_eq (home d.tree s.fact) c.list) (nat_eq s.member c.member) r in
          and_intro (stands d.tree now s) (nat_eq s.member c.member) (at_member i same ∙ both_left (nat_eq (home d.tree s.fact) c.list) (nat_eq s.member c.member) r) same

      back : IsTrue (stands d.tree now s && nat_eq s.member c.member) → IsTrue (list_any (nat_eq s.fact) order && (nat_eq (home d.tree s.fact) c.list && nat_eq s.member c.member))
      back h =
          let there = both_left (stands d.tree now s) (nat_eq s.member c.member) h in
          let same = both_right (stands d.tree now s) (nat_eq s.member c.member) h in
          let i = standing_in names d accepted order by_rank now s there in
          and_intro (list_any (nat_eq s.fact) order) (nat_eq (home d.tree s.fact) c.list && nat_eq s.member c.member) i
          (and_intro (nat_eq (home d.tree s.fact) c.list) (nat_eq s.member c.member) (sym (at_member i same) ∙ there) same)

  came_slots : (o : Option Came) → came_by undo now ≡ o → (s : Slot) → is_came d o order (dirty_of d s) ≡ (stands d.tree now s && came undo now s.member)
  came_slots (Some c) e s = field_slots c e s
  came_slots None e s = off (stands d.tree now s) ∙ ap (λ b. stands d.tree now s && b) (sym (none_came undo now e s.member))
    where
      off : (x : Bool) → false ≡ (x && false)
      off true = refl
      off false = refl

  -- the slot that differs
  own_dirty : (o : Option Slot) (s : Slot) → is_own d o (dirty_of d s) ≡ is_slot o s
  own_dirty None s = refl
  own_dirty (Some t) s = dirty_turned d s t

  own_slots : (o : Option Slot) → ((s : Slot) → is_slot o s ≡ differs undo now s) → (s : Slot) → is_own d o (dirty_of d s) ≡ (stands d.tree now s && differs undo now s)
  own_slots o is s = own_dirty o s ∙ is s ∙ same_test (differs undo now s) (stands d.tree now s && differs undo now s)
      (λ h. and_intro (stands d.tree now s) (differs undo now s) (own_stands names d accepted undo now u s h) h)
      (λ h. both_right (stands d.tree now s) (differs undo now s) h)

  first_rank : (c : Option Came) (o : Option Slot) (q : DirtySlot) → IsTrue (is_came d c order q || is_own d o q) → q.rank ≡ rank d q.fact
  first_rank c o q h = either (is_came d c order q) (is_own d o q) h (came_rank c) (own_rank o)
    where
      came_rank : (c : Option Came) → IsTrue (is_came d c order q) → q.rank ≡ rank d q.fact
      came_rank None h = absurd (cc)
      came_rank (Some k) h = any_rank d (field_at d.tree k) q order h

      own_rank : (o : Option Slot) → IsTrue (is_own d o q) → q.rank ≡ rank d q.fact
      own_rank None h = absurd (cc)
      own_rank (Some t) h = dirty_rank d q t.fact t.member h

  joined : (x y z : Bool) → ((x && y) || (x && z)) ≡ (x && (y || z))
  joined true y z = refl
  joined false y z = refl

  pub first_wait : (c : Option Came) → c ≡ came_by undo now → (o : Option Slot) → ((s : Slot) → is_slot o s ≡ differs undo now s)
      → (queue : Queue) → ((q : DirtySlot) → waits queue q ≡ (is_came d c order q || is_own d o q)) → AreWaiting d queue (λ s. stands d.tree now s && is_touched_first undo now s)
  first_wait c e o is queue h = record {
    slots = λ s. h (dirty_of d s)
        ∙ ap (λ b. b || is_own d o (dirty_of d s)) (came_slots c (sym e) s)
        ∙ ap (λ b. (stands d.tree now s && came undo now s.member) || b) (own_slots o is s)
        ∙ joined (stands d.tree now s) (came undo now s.member) (differs undo now s);
    ranked = λ q on. first_rank c o q (sym (h q) ∙ on);
  }

  -- so its fact is one of the dictionary's
  pub own_number : (o : Option Slot) → ((s : Slot) → is_slot o s ≡ differs undo now s) → (s : Slot) → o ≡ Some s → IsNumber d.tree.facts s.fact
  own_number o is s e =
      let h : is_slot o s ≡ true = ap (λ p. is_slot p s) e ∙ slot_same-itself s in
      let here = fact_of_standing d.tree now s (own_stands names d accepted undo now u s (sym (is s) ∙ h)) in
      let within = fact_within d.tree.facts s.fact here.0 here.1 in
      (omega (arith, within.0), within.1)
