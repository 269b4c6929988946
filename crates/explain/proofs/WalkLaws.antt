-- A walk finds exactly what is read.
use Rattle.std.proofs.Common.{◌≡◌, ℕ, Bool, true, false, not, ◌&&◌, ◌||◌, IsTrue, if◌then◌else◌, List, [], ◌∷◌, ◌++◌, filter, length-append, ◌-◌, take, refl, sym, ap, subst, ◌∙◌, arith, append_assoc}
use Rattle.std.specs.Cmp.{both_ways}
use Rattle.std.proofs.lemmas.List.{append-nil}
use Rattle.std.proofs.lemmas.List.Elements.{filter-append}
use Rattle.fact_values.specs.declared.slot.Slot.{Slot}
use Rattle.dict_source.specs.Dictionary.{Dictionary as Tree}
use Rattle.common_lemmas.proofs.Bools.{both, or_false, or_left, or_right}
use Rattle.answers.specs.Answered.{Answered}
use Rattle.dict_meaning.specs.Accepted.{Accepted, IsAccepted}
use Rattle.dict_meaning.specs.Slots.{slot_same, standing, stands}
use Rattle.dict_meaning.proofs.SlotLaws.{listed_stand, slot_same-equal, slot_same-itself}
use Rattle.explain.specs.declared.found.Found.{Found}
use Rattle.explain.specs.Found.{has}
use Rattle.explain.specs.Reads.{is_in, is_read, new_among, slot_reads, standing_reads}
use Rattle.explain.specs.Walk.{AddsReads, IsWalked}
use Rattle.explain.proofs.ReachLaws.{closed_reads, reads_itself, reads_on}
use Rattle.explain.proofs.SlotLists.{in_append, in_filter, new_among-append, no_more, one_fewer}

-- ---- tests

either : (a b : Bool) (P : Type 0) → IsTrue (a || b) → (IsTrue a → P) → (IsTrue b → P) → P
either true b P i h k = h refl
either false b P i h k = k i

or_swap : (a b : Bool) → (a || b) ≡ (b || a)
or_swap true true = refl
or_swap true false = refl
or_swap false true = refl
or_swap false false = refl

in_one : (t x : Slot) → is_in t (x ∷ []) ≡ slot_same t x
in_one t x = or_false (slot_same t x)

-- ---- one slot

module _ (d : Tree) (a : Answered) where
  pub skipped : (slot : Slot) (f : Found) (todo : List Slot) → stands d a slot ≡ false → AddsReads d a (slot ∷ []) f f todo todo
  skipped slot f todo out = record {
    found = λ s. sym (ap (λ (b : Bool). has f s || is_in s (if b then slot ∷ [] else [])) out ∙ or_false (has f s));
    order = sym (ap (λ (b : Bool). todo ++ new_among (has f) (if b then slot ∷ [] else [])) out ∙ append-nil todo);
    kept = λ s i. i;
    fresh = λ s i. or_left (has f s) (is_in s todo) i;
    of_these = λ s i. or_left (is_in s todo) (has f s) i;
    left = omega arith;
  }

  module _ (slot : Slot) (before after : Found) (there : stands d a slot ≡ true) (added : (s : Slot) → has after s ≡ (slot_same s slot || has before s)) where
    found_one : (s : Slot) → has after s ≡ (has before s || is_in s (filter (stands d a) (slot ∷ [])))
    found_one s =
        added s ∙ or_swap (slot_same s slot) (has before s)
        ∙ ap (λ (b : Bool). has before s || b) (sym (ap (λ (b : Bool). is_in s (if b then slot ∷ [] else [])) there ∙ in_one s slot))

    still_found : (s : Slot) → IsTrue (has before s) → IsTrue (has after s)
    still_found s h = added s ∙ or_right (slot_same s slot) (has before s) h

    fewer : (s : Slot) → IsTrue (not (has after s)) → IsTrue (not (has before s))
    fewer s h = by (has before s) (has after s) (still_found s) h
      where
        by : (b c : Bool) → (IsTrue b → IsTrue c) → IsTrue (not c) → IsTrue (not b)
        by true true k h = h
        by true false k h = absurd (let no : false ≡ true = k refl in cc)
        by false c k h = refl

    here : has after slot ≡ true
    here = added slot ∙ or_left (slot_same slot slot) (has before slot) (slot_same-itself slot)

    order_one : (todo : List Slot) → todo ++ (if has before slot then [] else slot ∷ []) ≡ todo ++ new_among (has before) (filter (stands d a) (slot ∷ []))
    order_one todo = ap (λ (b : Bool). todo ++ new_among (has before) (if b then slot ∷ [] else [])) (sym there)

    pub pushed : (todo todo' : List Slot) → true ≡ not (has before slot) → todo' ≡ todo ++ slot ∷ [] → AddsReads d a (slot ∷ []) before after todo todo'
    pushed todo todo' new e = rw e (record {
      found = found_one;
      order = ap (λ (b : Bool). todo ++ (if b then [] else slot ∷ [])) (is_new (has before slot) new) ∙ order_one todo;
      kept = λ s i. in_append s todo (slot ∷ []) ∙ or_left (is_in s todo) (is_in s (slot ∷ [])) i;
      fresh = λ s i.
          either (slot_same s slot) (has before s) (IsTrue (has before s || is_in s (todo ++ slot ∷ []))) (sym (added s) ∙ i)
          (λ same. or_right (has before s) (is_in s (todo ++ slot ∷ [])) (in_append s todo (slot ∷ []) ∙ or_right (is_in s todo) (is_in s (slot ∷ [])) (in_one s slot ∙ same)))
          (λ old. or_left (has before s) (is_in s (todo ++ slot ∷ [])) old);
      of_these = λ s i.
          either (is_in s todo) (is_in s (slot ∷ [])) (IsTrue (is_in s todo || has after s)) (sym (in_append s todo (slot ∷ [])) ∙ i)
          (λ old. or_left (is_in s todo) (has after s) old)
          (λ new. or_right (is_in s todo) (has after s) (ap (has after) (slot_same-equal s slot (sym (in_one s slot) ∙ new)) ∙ here));
      left =
          let less = one_fewer (λ s. not (has after s)) (λ s. not (has before s)) fewer slot (ap not here) (sym new) (standing d a) (listed_stand d a slot ∙ there) in
          let long = length-append todo (slot ∷ []) in
          omega arith;
    })
      where
        is_new : (b : Bool) → true ≡ not b → false ≡ b
        is_new true e = absurd (cc)
        is_new false e = refl

    pub known : (todo : List Slot) → false ≡ not (has before slot) → AddsReads d a (slot ∷ []) before after todo todo
    known todo old = record {
      found = found_one;
      order = sym (append-nil todo) ∙ ap (λ (b : Bool). todo ++ (if b then [] else slot ∷ [])) (sym (is_old (has before slot) old)) ∙ order_one todo;
      kept = λ s i. i;
      fresh = λ s i.
          or_left (has before s) (is_in s todo)
          (either (slot_same s slot) (has before s) (IsTrue (has before s)) (sym (added s) ∙ i) (λ same. ap (has before) (slot_same-equal s slot same) ∙ is_old (has before slot) old) (λ h. h));
      of_these = λ s i. or_left (is_in s todo) (has after s) i;
      left = let less = no_more (λ s. not (has after s)) (λ s. not (has before s)) fewer (standing d a) in omega arith;
    }
      where
        is_old : (b : Bool) → false ≡ not b → IsTrue b
        is_old true e = refl
        is_old false e = absurd (cc)

  -- ---- one more

  pub none_added : (f : Found) (todo : List Slot) → AddsReads d a [] f f todo todo
  none_added f todo = record {
    found = λ s. sym (or_false (has f s));
    order = sym (append-nil todo);
    kept = λ s i. i;
    fresh = λ s i. or_left (has f s) (is_in s todo) i;
    of_these = λ s i. or_left (is_in s todo) (has f s) i;
    left = omega arith;
  }

  parts : (b i j p : Bool) → ((b || (i && p)) || (j && p)) ≡ (b || ((i || j) && p))
  parts true i j p = refl
  parts false true true true = refl
  parts false true false true = refl
  parts false true true false = refl
  parts false true false false = refl
  parts false false j p = refl

  pub one_more_added : (xs : List Slot) (x : Slot) (before mid after : Found) (todo todo' todo'' : List Slot) → AddsReads d a xs before mid todo todo' → AddsReads d a (x ∷ []) mid after todo' todo'' → AddsReads d a (xs ++ x ∷ []) before after todo todo''
  one_more_added xs x before mid after todo todo' todo'' h k =
      let goes_on = λ (s : Slot) (i : IsTrue (has mid s)). k.found s ∙ or_left (has mid s) (is_in s (filter (stands d a) (x ∷ []))) i in
      record {
        found = λ s.
            k.found s
            ∙ ap (λ (b : Bool). b || is_in s (filter (stands d a) (x ∷ []))) (h.found s)
            ∙ rw (in_filter (stands d a) s xs, in_filter (stands d a) s (x ∷ []), in_filter (stands d a) s (xs ++ x ∷ []), in_append s xs (x ∷ [])) (parts (has before s) (is_in s xs) (is_in s (x ∷ [])) (stands d a s));
        order =
            let here = filter (stands d a) xs in
            let next = filter (stands d a) (x ∷ []) in
            k.order
            ∙ ap (λ (ts : List Slot). ts ++ new_among (has mid) next) h.order
            ∙ append_assoc todo (new_among (has before) here) (new_among (has mid) next)
            ∙ ap (λ (ts : List Slot). todo ++ ts) (
            ap (λ (p : Slot → Bool). new_among (has before) here ++ new_among p next) (λ i s. h.found s i)
            ∙ sym (new_among-append (has before) here next)
            ∙ ap (new_among (has before)) (sym (filter-append (stands d a) xs (x ∷ [])))
            );
        kept = λ s i. k.kept s (h.kept s i);
        fresh = λ s i.
            either (has mid s) (is_in s todo'') (IsTrue (has before s || is_in s todo'')) (k.fresh s i)
            (λ m. either (has before s) (is_in s todo') (IsTrue (has before s || is_in s todo'')) (h.fresh s m) (λ b. or_left (has before s) (is_in s todo'') b) (λ t. or_right (has before s) (is_in s todo'') (k.kept s t)))
            (λ t. or_right (has before s) (is_in s todo'') t);
        of_these = λ s i.
            either (is_in s todo') (has after s) (IsTrue (is_in s todo || has after s)) (k.of_these s i)
            (λ t. either (is_in s todo) (has mid s) (IsTrue (is_in s todo || has after s)) (h.of_these s t) (λ t. or_left (is_in s todo) (has after s) t) (λ m. or_right (is_in s todo) (has after s) (goes_on s m)))
            (λ m. or_right (is_in s todo) (has after s) m);
        left = let l = h.left in let m = k.left in omega arith;
      }

-- ---- the walk

module _ (names : List (List ℕ)) (d : Accepted) (accepted : IsAccepted names d) (a : Answered) (s : Slot) where
  walk_starts : (there : IsTrue (stands d.tree a s)) (before f : Found) (todo : List Slot) → ((t : Slot) → has before t ≡ false) → AddsReads d.tree a (s ∷ []) before f [] todo → IsWalked d a s f todo
  walk_starts there before f todo none h =
      let new = λ (t : Slot) (i : IsTrue (has before t || is_in t (filter (stands d.tree a) (s ∷ [])))). either (has before t) (is_in t (filter (stands d.tree a) (s ∷ []))) (IsTrue (is_in t (s ∷ []) && stands d.tree a t)) i (λ b. absurd (let no : false ≡ true = sym (none t) ∙ b in cc)) (λ j. sym (in_filter (stands d.tree a) t (s ∷ [])) ∙ j) in
      record {
        is_read = λ t i.
            let same = slot_same-equal t s (sym (in_one t s) ∙ (both (is_in t (s ∷ [])) (stands d.tree a t) (new t (sym (h.found t) ∙ i))).0) in
            rw same (reads_itself names d accepted a s);
        start =
            h.found s
            ∙ or_right (has before s) (is_in s (filter (stands d.tree a) (s ∷ [])))
            (in_filter (stands d.tree a) s (s ∷ []) ∙ rw (in_one s s, slot_same-itself s) there);
        todo_found = λ t i. either (is_in t []) (has f t) (IsTrue (has f t)) (h.of_these t i) (λ no. absurd (cc)) (λ j. j);
        closed = λ t i u k. or_right (has f u) (is_in t todo) (either (has before t) (is_in t todo) (IsTrue (is_in t todo)) (h.fresh t i) (λ b. absurd (let no : false ≡ true = sym (none t) ∙ b in cc)) (λ j. j));
      }

  pub walk_begins : (there : IsTrue (stands d.tree a s)) (before f : Found) (first todo : List Slot) → ((t : Slot) → has before t ≡ false) → first ≡ [] → AddsReads d.tree a (s ∷ []) before f first todo → IsWalked d a s f todo
  walk_begins there before f first todo none e h = walk_starts there before f todo none (subst (λ (l : List Slot). AddsReads d.tree a (s ∷ []) before f l todo) e h)

  walk_goes_on : (f f' : Found) (all rest todo : List Slot) (next : Slot) → all ≡ rest ++ next ∷ [] → IsWalked d a s f all → AddsReads d.tree a (slot_reads d a next) f f' rest todo → IsWalked d a s f' todo
  walk_goes_on f f' all rest todo next e w h =
      let in_all = λ (t : Slot) (i : IsTrue (is_in t rest)). ap (is_in t) e ∙ in_append t rest (next ∷ []) ∙ or_left (is_in t rest) (is_in t (next ∷ [])) i in
      let next_in : IsTrue (is_in next all) = ap (is_in next) e ∙ in_append next rest (next ∷ []) ∙ or_right (is_in next rest) (is_in next (next ∷ [])) (in_one next next ∙ slot_same-itself next) in
      let goes_on = λ (t : Slot) (i : IsTrue (has f t)). h.found t ∙ or_left (has f t) (is_in t (standing_reads d a next)) i in
      record {
        is_read = λ t i.
            either (has f t) (is_in t (standing_reads d a next)) (IsTrue (is_read d a s t)) (sym (h.found t) ∙ i) (w.is_read t)
            (λ j. reads_on names d accepted a s next t (w.is_read next (w.todo_found next next_in)) j);
        start = goes_on s w.start;
        todo_found = λ t i. either (is_in t rest) (has f' t) (IsTrue (has f' t)) (h.of_these t i) (λ j. goes_on t (w.todo_found t (in_all t j))) (λ j. j);
        closed = λ t i u k.
            either (has f t) (is_in t todo) (IsTrue (has f' u || is_in t todo)) (h.fresh t i)
            (λ old.
            either (has f u) (is_in t all) (IsTrue (has f' u || is_in t todo)) (w.closed t old u k)
            (λ j. or_left (has f' u) (is_in t todo) (goes_on u j))
            (λ j.
            either (is_in t rest) (is_in t (next ∷ [])) (IsTrue (has f' u || is_in t todo)) (sym (in_append t rest (next ∷ [])) ∙ ap (is_in t) (sym e) ∙ j)
            (λ m. or_right (has f' u) (is_in t todo) (h.kept t m))
            (λ m.
            let same : t ≡ next = slot_same-equal t next (sym (in_one t next) ∙ m) in
            or_left (has f' u) (is_in t todo) (h.found u ∙ or_right (has f u) (is_in u (standing_reads d a next)) (subst (λ (x : Slot). IsTrue (is_in u (standing_reads d a x))) same k)))))
            (λ j. or_right (has f' u) (is_in t todo) j);
      }

  pub walk_reads_on : (f f' : Found) (all rest todo reads : List Slot) (next : Slot) → all ≡ rest ++ next ∷ [] → IsWalked d a s f all → reads ≡ slot_reads d a next → AddsReads d.tree a reads f f' rest todo → IsWalked d a s f' todo
  walk_reads_on f f' all rest todo reads next e w r h = walk_goes_on f f' all rest todo next e w (subst (λ (l : List Slot). AddsReads d.tree a l f f' rest todo) r h)

  pub walk_ends : (f : Found) (todo : List Slot) → todo ≡ [] → IsWalked d a s f todo → (t : Slot) → has f t ≡ is_read d a s t
  walk_ends f todo e w t =
      both_ways (has f t) (is_read d a s t) (w.is_read t)
      (closed_reads d a (has f)
      (λ t u i k. either (has f u) (is_in t todo) (IsTrue (has f u)) (w.closed t i u k) (λ j. j) (λ j. absurd (let no : false ≡ true = ap (is_in t) (sym e) ∙ j in cc)))
      s t w.start)

-- ---- one slot, as it is found

module _ (d : Tree) (a : Answered) (slot : Slot) (before after : Found) (there : stands d a slot ≡ true) (added : (s : Slot) → has after s ≡ (slot_same s slot || has before s)) where
  pub added_if : (fresh : Bool) (todo todo' : List Slot) → fresh ≡ not (has before slot) → todo' ≡ (if fresh then todo ++ slot ∷ [] else todo) → AddsReads d a (slot ∷ []) before after todo todo'
  added_if true todo todo' new e = pushed d a slot before after there added todo todo' new e
  added_if false todo todo' old e = rw e (known d a slot before after there added todo old)

-- ---- nothing is left to be walked

pub emptied : (todo rest : List Slot) (n : ℕ) → n ≡ 0 → rest ≡ take (n - 1) todo → todo ≡ rest ++ [] → todo ≡ []
emptied todo rest n z e f = f ∙ ap (λ (l : List Slot). l ++ []) (e ∙ ap (λ (k : ℕ). take (k - 1) todo) z)
