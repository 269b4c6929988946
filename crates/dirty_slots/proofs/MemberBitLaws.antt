-- What waits in rows.
use Rattle.std.proofs.Common.{◌≡◌, ℕ, zero, suc, ◌^◌, ◌<◌, ◌≤◌, get_or, Bool, false, not, ◌&&◌, ◌||◌, nat_eq, nat_lt, IsTrue, length, [], ◌∷◌, ◌++◌, Option, Some, None, refl, sym, ap, ◌∙◌, ◌⊎◌, inl, inr, arith}
use Rattle.std.specs.Prelude.{slice_get, slice_set}
use Rattle.std.proofs.lemmas.Bool.{cases_eq}
use Rattle.std.proofs.lemmas.Bool.Decides.{nat_tests}
use Rattle.std.proofs.lemmas.Option.{slice_get_read}
use Rattle.common_lemmas.proofs.Bools.{and_true}
use Rattle.dirty_slots.specs.MemberBits.{has_in, in_row, is_of_rank, Rows}
use Rattle.dirty_slots.specs.PlaceBits.{has_place}
use Rattle.dirty_slots.specs.Slots.{dirty_same}
use Rattle.dirty_slots.specs.declared.dirty_slot.DirtySlot.{DirtySlot}
use Rattle.dirty_slots.specs.declared.member_bits.MemberBits.{MemberBits}

set_at : (rows : Rows) (at : ℕ) (new old : MemberBits) → slice_get rows at ≡ Some old → slice_get (slice_set rows at new) at ≡ Some new
set_at [] at new old there = absurd cc
set_at (r ∷ rows) zero new old there = refl
set_at (r ∷ rows) (suc at) new old there = set_at rows at new old there

set_other : (rows : Rows) (at n : ℕ) (new : MemberBits) → (n ≡ at → ⊥) → slice_get (slice_set rows at new) n ≡ slice_get rows n
set_other [] at n new other = refl
set_other (r ∷ rows) zero zero new other = absurd (other refl)
set_other (r ∷ rows) zero (suc n) new other = refl
set_other (r ∷ rows) (suc at) zero new other = refl
set_other (r ∷ rows) (suc at) (suc n) new other = set_other rows at n new (λ e. other (ap suc e))

not_same : (q s : DirtySlot) → (q.fact ≡ s.fact → ⊥) → dirty_same q s ≡ false
not_same q s other = grind (arith, nat_tests)

-- ---- one more row

pushed_at : (rows : Rows) (row : MemberBits) (n : ℕ) (q : DirtySlot) → in_row (Some row) q ≡ false → in_row (slice_get (rows ++ row ∷ []) n) q ≡ in_row (slice_get rows n) q
pushed_at [] row zero q idle = idle
pushed_at [] row (suc n) q idle = refl
pushed_at (r ∷ rows) row zero q idle = refl
pushed_at (r ∷ rows) row (suc n) q idle = pushed_at rows row n q idle

pub pushed : (rows : Rows) (row : MemberBits) → ((q : DirtySlot) → has_in rows q ≡ false) → ((q : DirtySlot) → in_row (Some row) q ≡ false) → (q : DirtySlot) → has_in (rows ++ row ∷ []) q ≡ false
pushed rows row none idle q = pushed_at rows row q.fact q (idle q) ∙ none q

-- ---- one row after another is cleared

pub cleared : (rows : Rows) (at : ℕ) (row : MemberBits) → ((q : DirtySlot) → q.fact < at → has_in rows q ≡ false) → at < length rows → ((q : DirtySlot) → in_row (Some row) q ≡ false)
    → (q : DirtySlot) → q.fact < suc at → has_in (slice_set rows at row) q ≡ false
cleared rows at row before within idle q l = by (cases_eq q.fact at)
  where
    set_within : (rows : Rows) (at : ℕ) → at < length rows → slice_get (slice_set rows at row) at ≡ Some row
    set_within [] at w = absurd (omega arith)
    set_within (r ∷ rows) zero w = refl
    set_within (r ∷ rows) (suc at) w = set_within rows at (omega arith)

    by : (q.fact ≡ at) ⊎ (q.fact ≡ at → ⊥) → has_in (slice_set rows at row) q ≡ false
    by (inl e) = ap (λ n. in_row (slice_get (slice_set rows at row) n) q) e ∙ ap (λ o. in_row o q) (set_within rows at within) ∙ idle q
    by (inr other) = ap (λ o. in_row o q) (set_other rows at q.fact row other) ∙ before q (omega (arith, other))

pub all_cleared : (rows : Rows) (at : ℕ) → ((q : DirtySlot) → q.fact < at → has_in rows q ≡ false) → length rows ≤ at → (q : DirtySlot) → has_in rows q ≡ false
all_cleared rows at before past q = by (slice_get rows q.fact) refl
  where
    within : (rows : Rows) (n : ℕ) (row : MemberBits) → slice_get rows n ≡ Some row → n < length rows
    within [] n row there = absurd cc
    within (r ∷ rows) zero row there = omega arith
    within (r ∷ rows) (suc n) row there = let rest = within rows n row there in omega arith

    by : (o : Option MemberBits) → slice_get rows q.fact ≡ o → has_in rows q ≡ false
    by None there = ap (λ o. in_row o q) there
    by (Some row) there = let l = within rows q.fact row there in before q (omega arith)

-- ---- one slot more, and one less

here_more : (new old rank r f g m k : ℕ) (b : Bool) → new ≡ old → old ≡ rank → f ≡ g → k < 2 ^ 32
    → (nat_eq new r && (nat_lt m (2 ^ 32) && (nat_eq m k || b))) ≡ ((nat_eq r rank && (nat_eq f g && nat_eq m k)) || (nat_eq old r && (nat_lt m (2 ^ 32) && b)))
here_more new old rank r f g m k b same is e small = grind (arith, nat_tests)

here_less : (new old rank r f g m k : ℕ) (b : Bool) → new ≡ old → old ≡ rank → f ≡ g
    → (nat_eq new r && (nat_lt m (2 ^ 32) && (b && not (nat_eq m k)))) ≡ ((nat_eq old r && (nat_lt m (2 ^ 32) && b)) && not (nat_eq r rank && (nat_eq f g && nat_eq m k)))
here_less new old rank r f g m k b same is e = grind (arith, nat_tests)

module _ (rows : Rows) (s : DirtySlot) (new old : MemberBits) (there : slice_get rows s.fact ≡ Some old) (ranked : old.rank ≡ s.rank) (same : new.rank ≡ old.rank) where
  pub put_in : s.member < 2 ^ 32 → ((i : ℕ) → has_place new.members i ≡ (nat_eq i s.member || has_place old.members i))
      → (q : DirtySlot) → has_in (slice_set rows s.fact new) q ≡ (dirty_same q s || has_in rows q)
  put_in small adds q = by (cases_eq q.fact s.fact)
    where
      by : (q.fact ≡ s.fact) ⊎ (q.fact ≡ s.fact → ⊥) → has_in (slice_set rows s.fact new) q ≡ (dirty_same q s || has_in rows q)
      by (inl e) = ap (λ n. in_row (slice_get (slice_set rows s.fact new) n) q) e ∙ ap (λ o. in_row o q) (set_at rows s.fact new old there)
          ∙ ap (λ b. nat_eq new.rank q.rank && (nat_lt q.member (2 ^ 32) && b)) (adds q.member)
          ∙ here_more new.rank old.rank s.rank q.rank q.fact s.fact q.member s.member (has_place old.members q.member) same ranked e small
          ∙ sym (ap (λ o. dirty_same q s || in_row o q) (ap (slice_get rows) e ∙ there))
      by (inr other) = ap (λ o. in_row o q) (set_other rows s.fact q.fact new other) ∙ ap (λ b. b || has_in rows q) (sym (not_same q s other))

  pub taken_out : ((i : ℕ) → has_place new.members i ≡ (has_place old.members i && not (nat_eq i s.member)))
      → (q : DirtySlot) → has_in (slice_set rows s.fact new) q ≡ (has_in rows q && not (dirty_same q s))
  taken_out takes q = by (cases_eq q.fact s.fact)
    where
      by : (q.fact ≡ s.fact) ⊎ (q.fact ≡ s.fact → ⊥) → has_in (slice_set rows s.fact new) q ≡ (has_in rows q && not (dirty_same q s))
      by (inl e) = ap (λ n. in_row (slice_get (slice_set rows s.fact new) n) q) e ∙ ap (λ o. in_row o q) (set_at rows s.fact new old there)
          ∙ ap (λ b. nat_eq new.rank q.rank && (nat_lt q.member (2 ^ 32) && b)) (takes q.member)
          ∙ here_less new.rank old.rank s.rank q.rank q.fact s.fact q.member s.member (has_place old.members q.member) same ranked e
          ∙ sym (ap (λ o. in_row o q && not (dirty_same q s)) (ap (slice_get rows) e ∙ there))
      by (inr other) = ap (λ o. in_row o q) (set_other rows s.fact q.fact new other) ∙ sym (ap (λ b. has_in rows q && not b) (not_same q s other) ∙ and_true (has_in rows q))

rank_is : (row : MemberBits) (s : DirtySlot) → IsTrue (is_of_rank (Some row) s) → row.rank ≡ s.rank
rank_is row s h = grind (arith, nat_tests)

-- the row that is of a slot's rank
pub row_of : (rows : Rows) (s : DirtySlot) (row : MemberBits) → IsTrue (is_of_rank (slice_get rows s.fact) s) → row ≡ get_or rows s.fact row → (slice_get rows s.fact ≡ Some row) × (row.rank ≡ s.rank)
row_of rows s row ranked read = (there, rank_is row s (ap (λ o. is_of_rank o s) (sym there) ∙ ranked))
  where
    within : (rows : Rows) (n : ℕ) → IsTrue (is_of_rank (slice_get rows n) s) → n < length rows
    within [] n h = absurd cc
    within (r ∷ rows) zero h = omega arith
    within (r ∷ rows) (suc n) h = let rest = within rows n h in omega arith

    there : slice_get rows s.fact ≡ Some row
    there = slice_get_read rows (length rows) s.fact row refl (within rows s.fact ranked) read

-- a slot whose row is of another rank isn't in it
pub not_in : (rows : Rows) (s : DirtySlot) → is_of_rank (slice_get rows s.fact) s ≡ false → (q : DirtySlot) → has_in rows q ≡ (has_in rows q && not (dirty_same q s))
not_in rows s off q = by (cases_eq q.fact s.fact)
  where
    elsewhere : (r rank t : ℕ) (x y : Bool) → nat_eq t rank ≡ false → (nat_eq t r && x) ≡ ((nat_eq t r && x) && not (nat_eq r rank && y))
    elsewhere r rank t x y h = grind (arith, nat_tests)

    at : (o : Option MemberBits) → is_of_rank o s ≡ false → in_row o q ≡ (in_row o q && not (dirty_same q s))
    at None h = refl
    at (Some row) h = elsewhere q.rank s.rank row.rank (nat_lt q.member (2 ^ 32) && has_place row.members q.member) (nat_eq q.fact s.fact && nat_eq q.member s.member) h

    by : (q.fact ≡ s.fact) ⊎ (q.fact ≡ s.fact → ⊥) → has_in rows q ≡ (has_in rows q && not (dirty_same q s))
    by (inl e) = at (slice_get rows q.fact) (ap (λ n. is_of_rank (slice_get rows n) s) e ∙ off)
    by (inr other) = sym (ap (λ b. has_in rows q && not b) (not_same q s other) ∙ and_true (has_in rows q))
