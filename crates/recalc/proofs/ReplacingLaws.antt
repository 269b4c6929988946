-- What was replaced can be put back.
use Rattle.std.proofs.Common.{◌≡◌, Bool, true, false, cond, ◌||◌, List, [], ◌∷◌, ◌++◌, Option, Some, IsSome, refl, sym, ap, subst, ◌∙◌}
use Rattle.std.specs.FinMap as finite
use Rattle.common_lemmas.proofs.Bools.{neither_or, or_false, or_left, or_neither, or_right}
use Rattle.fact_values.specs.declared.slot.Slot.{Slot}
use Rattle.dict_meaning.specs.Slots.{slot_same}
use Rattle.dict_meaning.proofs.SlotLaws.{slot_same-equal, slot_same-itself}
use Rattle.cell_store.specs.Contents.{Cells}
use Rattle.cell_store.specs.Places.{put_at}
use Rattle.cell_store.specs.declared.cell.Cell.{Cell}
use Rattle.cell_store.proofs.SlotLaws.{get_put_at, same_cells}
use Rattle.recalc.specs.Spread.{is_in, NoTwice}
use Rattle.recalc.specs.Replacing.{before, CanPutBack, EntryCanPutBack, EntryKeepsBefore, slots_of}
use Rattle.recalc.specs.declared.log.Replaced.{Replaced}
use Rattle.recalc.proofs.SlotLists.{in_push, once_push, other_way}
use Rattle.recalc.proofs.WeighingLaws.{differs}

-- ---- cells put over cells

over_again : (x : Bool) (o p r : Option Cell) → cond x p (cond x o r) ≡ cond x p r
over_again true o p r = refl
over_again false o p r = refl

put_over : (m : Cells) (s : Slot) (o p : Option Cell) → put_at (put_at m s o) s p ≡ put_at m s p
put_over m s o p =
    same_cells (put_at (put_at m s o) s p) (put_at m s p)
    (λ q. get_put_at (put_at m s o) s p q
    ∙ ap (cond (slot_same q s) p) (get_put_at m s o q)
    ∙ over_again (slot_same q s) o p (finite.get m q)
    ∙ sym (get_put_at m s p q))

put_own : (m : Cells) (s : Slot) → put_at m s (finite.get m s) ≡ m
put_own m s = same_cells (put_at m s (finite.get m s)) m (λ q. get_put_at m s (finite.get m s) q ∙ at q (slot_same q s) refl)
  where
    at : (q : Slot) (x : Bool) → slot_same q s ≡ x → cond x (finite.get m s) (finite.get m q) ≡ finite.get m q
    at q true e = ap (finite.get m) (sym (slot_same-equal q s e))
    at q false e = refl

-- ---- one more entry

pub before_push : (es : List Replaced) (e : Replaced) (m : Cells) → before (es ++ e ∷ []) m ≡ before es (put_at m e.slot e.cell)
before_push [] e m = refl
before_push (x ∷ es) e m = ap (λ n. put_at n x.slot x.cell) (before_push es e m)

pub entry_keeps_before : EntryKeepsBefore
entry_keeps_before es m s o =
    before_push es (record { slot = s; cell = finite.get m s }) (put_at m s o)
    ∙ ap (before es) (put_over m s o (finite.get m s) ∙ put_own m s)

pub slots_push : (es : List Replaced) (e : Replaced) → slots_of (es ++ e ∷ []) ≡ slots_of es ++ e.slot ∷ []
slots_push [] e = refl
slots_push (x ∷ es) e = ap (λ ss. x.slot ∷ ss) (slots_push es e)

-- ---- what can be put back

put_some : (m : Cells) (s : Slot) (c : Cell) (q : Slot) (x : Bool) → slot_same q s ≡ x → (x ≡ false → IsSome (finite.get m q)) → IsSome (cond x (Some c) (finite.get m q))
put_some m s c q true e h = refl
put_some m s c q false e h = h refl

pub entry_can_put_back : EntryCanPutBack
entry_can_put_back es m s c can apart =
    let e : Replaced = record { slot = s; cell = finite.get m s } in
    record {
      once = subst NoTwice (sym (slots_push es e)) (once_push (slots_of es) s can.once apart);
      there = λ q i. subst (λ (o : Option Cell). IsSome o) (sym (get_put_at m s (Some c) q))
          (put_some m s c q (slot_same q s) refl
          (λ other. can.there q (older q other (sym (in_push (slots_of es) s q) ∙ sym (ap (λ ss. is_in ss q) (slots_push es e)) ∙ i))));
    }
  where
    older : (q : Slot) → slot_same q s ≡ false → (is_in (slots_of es) q || slot_same q s) ≡ true → is_in (slots_of es) q ≡ true
    older q other h = sym (or_false (is_in (slots_of es) q)) ∙ ap (λ x. is_in (slots_of es) q || x) (sym other) ∙ h

-- ---- a cell that was put, with its entry

pub put_keeps_before : (es fs : List Replaced) (m n : Cells) (s : Slot) (c : Cell) → fs ≡ es ++ record { slot = s; cell = finite.get m s } ∷ [] → n ≡ finite.insert m s c → before fs n ≡ before es m
put_keeps_before es fs m n s c kept put = ap (λ xs. before xs n) kept ∙ ap (before (es ++ record { slot = s; cell = finite.get m s } ∷ [])) put ∙ entry_keeps_before es m s (Some c)

pub put_can_be_put_back : (es fs : List Replaced) (m n : Cells) (s : Slot) (c : Cell) → fs ≡ es ++ record { slot = s; cell = finite.get m s } ∷ [] → n ≡ finite.insert m s c
    → is_in (slots_of es) s ≡ false → CanPutBack es m → CanPutBack fs n
put_can_be_put_back es fs m n s c kept put apart can =
    subst (λ xs. CanPutBack xs n) (sym kept) (subst (CanPutBack (es ++ record { slot = s; cell = finite.get m s } ∷ [])) (sym put) (entry_can_put_back es m s c can apart))

-- ---- one entry put back

once_before : (ss : List Slot) (s : Slot) → NoTwice (ss ++ s ∷ []) → NoTwice ss × (is_in ss s ≡ false)
once_before [] s h = (tt, refl)
once_before (x ∷ ss) s h =
    let rest = once_before ss s h.1 in
    let here : (is_in ss x || slot_same x s) ≡ false = sym (in_push ss s x) ∙ h.0 in
    let parts = or_neither (is_in ss x) (slot_same x s) here in
    ((parts.0, rest.0), neither_or (slot_same s x) (is_in ss s) (other_way x s parts.1) rest.1)

pub last_there : (es fs : List Replaced) (e : Replaced) (m : Cells) → es ≡ fs ++ e ∷ [] → CanPutBack es m → IsSome (finite.get m e.slot)
last_there es fs e m is can =
    can.there e.slot (ap (λ xs. is_in (slots_of xs) e.slot) is ∙ ap (λ ss. is_in ss e.slot) (slots_push fs e)
    ∙ in_push (slots_of fs) e.slot e.slot ∙ or_right (is_in (slots_of fs) e.slot) (slot_same e.slot e.slot) (slot_same-itself e.slot))

pub rest_can : (es fs : List Replaced) (e : Replaced) (m n : Cells) → es ≡ fs ++ e ∷ [] → n ≡ put_at m e.slot e.cell → CanPutBack es m → CanPutBack fs n
rest_can es fs e m n is cells can =
    let parts = once_before (slots_of fs) e.slot (subst NoTwice (ap slots_of is ∙ slots_push fs e) can.once) in
    record {
      once = parts.0;
      there = λ q i. subst (λ (o : Option Cell). IsSome o)
          (sym (ap (λ k. finite.get k q) cells ∙ get_put_at m e.slot e.cell q ∙ ap (λ x. cond x e.cell (finite.get m q)) (differs e.slot q (slots_of fs) parts.1 i)))
          (can.there q (ap (λ xs. is_in (slots_of xs) q) is ∙ ap (λ ss. is_in ss q) (slots_push fs e) ∙ in_push (slots_of fs) e.slot q ∙ or_left (is_in (slots_of fs) q) (slot_same q e.slot) i));
    }

pub one_back : (es fs : List Replaced) (e : Replaced) (m n : Cells) → es ≡ fs ++ e ∷ [] → n ≡ put_at m e.slot e.cell → before fs n ≡ before es m
one_back es fs e m n is cells = ap (before fs) cells ∙ sym (before_push fs e m) ∙ ap (λ xs. before xs m) (sym is)
