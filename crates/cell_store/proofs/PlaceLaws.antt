-- A cell that is put into a place, or taken from it.
use Rattle.std.proofs.Common.{◌≡◌, ◌≢◌, ◌<◌, ℕ, Bool, true, false, true≢false, cond, List, [], ◌∷◌, Option, Some, None, refl, sym, ap, subst, ◌∙◌}
use Rattle.std.specs.Prelude.{◌&&◌, IsSome, is_some, nat_eq, option_and_then}
use Rattle.std.specs.Map.{lookup}
use Rattle.std.specs.Cmp.{first_so, second_so}
use Rattle.std.specs.FinMap as map
use Rattle.slab.specs.Slab.{Slab, Updates, with_value, get as cell_in}
use Rattle.slab.proofs.SlabLemmas.{Updates-with_value}
use Rattle.fact_values.specs.declared.slot.Slot.{Slot}
use Rattle.common_lemmas.proofs.Numbers.{equal_number, nat_eq-comm, same_number}
use Rattle.cell_store.specs.Contents.{Cells, Contents}
use Rattle.cell_store.specs.Places.{ArePlaced, Key, cells_at, key_of, put_at, same_key}
use Rattle.cell_store.specs.declared.cell.Cell.{Cell}
use Rattle.cell_store.proofs.SlotLaws.{get_put_at, same_cells, same_slot}

-- what the cells at these places have at a slot
pub get_cells_at : (cells : Slab Cell) (es : List (Key × ℕ)) (q : Slot) → map.get (cells_at cells es) q ≡ option_and_then (cell_in cells) (lookup (same_key (key_of q)) es)
get_cells_at cells [] q = map.get-empty _ q
get_cells_at cells (e ∷ es) q = get_put_at (cells_at cells es) (record { fact = e.0.0; member = e.0.1 }) (cell_in cells e.1) q
    ∙ ap (cond (same_key (key_of q) e.0) (cell_in cells e.1)) (get_cells_at cells es q)
    ∙ found (same_key (key_of q) e.0) e.1 (lookup (same_key (key_of q)) es)
  where
    found : (b : Bool) (p : ℕ) (o : Option ℕ) → cond b (cell_in cells p) (option_and_then (cell_in cells) o) ≡ option_and_then (cell_in cells) (cond b (Some p) o)
    found true p o = refl
    found false p o = refl

same_key-comm : (k l : Key) → same_key k l ≡ same_key l k
same_key-comm k l = λ i. nat_eq-comm k.0 l.0 i && nat_eq-comm k.1 l.1 i

-- places and cells before and after: the places are others at one key alone, the cells at one place alone, and that place is no other key's
record Changes (places : Key → Option ℕ) (cells : ℕ → Option Cell) (places' : Key → Option ℕ) (cells' : ℕ → Option Cell) (k : Key) (p : ℕ) (o : Option ℕ) : Type 0 where
  pub at_key : (q : Key) → places' q ≡ cond (same_key k q) o (places q)
  pub others : (r : ℕ) → r ≢ p → cells' r ≡ cells r
  pub own : (q : Key) → same_key k q ≡ false → places q ≡ Some p → ⊥

-- what is found at a key after a change
found_after : {places : Key → Option ℕ} {cells : ℕ → Option Cell} {places' : Key → Option ℕ} {cells' : ℕ → Option Cell} {k : Key} {p : ℕ} {o : Option ℕ}
    → Changes places cells places' cells' k p o → (q : Key) → option_and_then cells' (places' q) ≡ cond (same_key k q) (option_and_then cells' o) (option_and_then cells (places q))
found_after {places} {cells} {places'} {cells'} {k} {p} {o} h q = at (same_key k q) refl
  where
    kept : same_key k q ≡ false → (x : Option ℕ) → places q ≡ x → option_and_then cells' x ≡ option_and_then cells x
    kept apart None e = refl
    kept apart (Some r) e = h.others r (λ i. h.own q apart (e ∙ ap Some i))

    at : (b : Bool) → same_key k q ≡ b → option_and_then cells' (places' q) ≡ cond b (option_and_then cells' o) (option_and_then cells (places q))
    at true e = ap (option_and_then cells') (h.at_key q ∙ ap (λ b. cond b o (places q)) e)
    at false e = ap (option_and_then cells') (h.at_key q ∙ ap (λ b. cond b o (places q)) e) ∙ kept e (places q) refl

-- the cells after a change
changed : (cells cells' : Slab Cell) (es fs : List (Key × ℕ)) (s : Slot) (p : ℕ) (o : Option ℕ) (w : Option Cell)
    → Changes (λ q. lookup (same_key q) es) (cell_in cells) (λ q. lookup (same_key q) fs) (cell_in cells') (key_of s) p o
    → option_and_then (cell_in cells') o ≡ w → cells_at cells' fs ≡ put_at (cells_at cells es) s w
changed cells cells' es fs s p o w h e = same_cells _ _ (λ q.
    get_cells_at cells' fs q
    ∙ found_after h (key_of q)
    ∙ ap (λ x. cond (same_key (key_of s) (key_of q)) x (option_and_then (cell_in cells) (lookup (same_key (key_of q)) es))) e
    ∙ ap (λ b. cond b w (option_and_then (cell_in cells) (lookup (same_key (key_of q)) es))) (same_key-comm (key_of s) (key_of q))
    ∙ ap (cond (same_key (key_of q) (key_of s)) w) (sym (get_cells_at cells es q))
    ∙ sym (get_put_at (cells_at cells es) s w q))

-- the same cells, where each key finds the same place and each place the same cell
pub unchanged : (cells cells' : Slab Cell) (es fs : List (Key × ℕ)) → ((q : Key) → lookup (same_key q) fs ≡ lookup (same_key q) es) → ((r : ℕ) → cell_in cells' r ≡ cell_in cells r) → cells_at cells' fs ≡ cells_at cells es
unchanged cells cells' es fs h k = same_cells _ _ (λ q.
    get_cells_at cells' fs q
    ∙ ap (option_and_then (cell_in cells')) (h (key_of q))
    ∙ ap (λ f. option_and_then f (lookup (same_key (key_of q)) es)) (λ i r. k r i)
    ∙ sym (get_cells_at cells es q))

-- ---- the three changes

key : ℕ → ℕ → Key
key f m = (f, m)

same_keys : (k l : Key) → same_key k l ≡ true → k ≡ l
unfolding key
same_keys k l h =
    let f : k.0 ≡ l.0 = same_number _ _ (first_so (nat_eq k.0 l.0) (nat_eq k.1 l.1) h) in
    let m : k.1 ≡ l.1 = same_number _ _ (second_so (nat_eq k.0 l.0) (nat_eq k.1 l.1) h) in
    ap (λ f. key f k.1) f ∙ ap (key l.0) m

pub equal_keys : (k l : Key) → k ≡ l → same_key k l ≡ true
equal_keys k l e = ap (same_key k) (sym e) ∙ (λ i. equal_number k.0 i && equal_number k.1 i)

other_place : {places : Key → Option ℕ} {cells : ℕ → Option Cell} {k : Key} {p : ℕ} → ArePlaced places cells → places k ≡ Some p → (q : Key) → same_key k q ≡ false → places q ≡ Some p → ⊥
other_place {k = k} h e q apart there = true≢false (sym (equal_keys k q (h.apart k q _ e there)) ∙ apart)

-- the cell at a key's place becomes another
replaced : {places : Key → Option ℕ} {cells cells' : ℕ → Option Cell} {k : Key} {p : ℕ} → ArePlaced places cells → places k ≡ Some p → ((r : ℕ) → r ≢ p → cells' r ≡ cells r) → Changes places cells places cells' k p (Some p)
replaced {places} {cells} {cells'} {k} {p} h e others = record { at_key = λ q. at q (same_key k q) refl; others = others; own = other_place h e }
  where
    at : (q : Key) (b : Bool) → same_key k q ≡ b → places q ≡ cond b (Some p) (places q)
    at q true s = ap places (sym (same_keys k q s)) ∙ e
    at q false s = refl

-- a key without a place is given one
added : {places places' : Key → Option ℕ} {cells cells' : ℕ → Option Cell} {k : Key} {p : ℕ} → ArePlaced places cells → cells p ≡ None → ((q : Key) → places' q ≡ cond (same_key k q) (Some p) (places q)) → ((r : ℕ) → r ≢ p → cells' r ≡ cells r) → Changes places cells places' cells' k p (Some p)
added {p = p} h empty at_key others = record { at_key = at_key; others = others; own = λ q apart there. true≢false (sym (h.filled q p there) ∙ ap is_some empty) }

-- a key's place is taken away
taken : {places places' : Key → Option ℕ} {cells cells' : ℕ → Option Cell} {k : Key} {p : ℕ} → ArePlaced places cells → places k ≡ Some p → ((q : Key) → places' q ≡ cond (same_key k q) None (places q)) → ((r : ℕ) → r ≢ p → cells' r ≡ cells r) → Changes places cells places' cells' k p None
taken h e at_key others = record { at_key = at_key; others = others; own = other_place h e }

-- after each, places have cells of their own: where the key had a place it was this one, and the cell there is left only where it is the key's
still_placed : {places : Key → Option ℕ} {cells : ℕ → Option Cell} {places' : Key → Option ℕ} {cells' : ℕ → Option Cell} {k : Key} {p : ℕ} {o : Option ℕ}
    → Changes places cells places' cells' k p o → ((r : ℕ) → places k ≡ Some r → r ≡ p) → (IsSome (cells' p) → o ≡ Some p) → ((r : ℕ) → o ≡ Some r → (r ≡ p) × IsSome (cells' p))
    → ArePlaced places cells → ArePlaced places' cells'
still_placed {places} {cells} {places'} {cells'} {k} {p} {o} h had left new old =
    record { filled = λ q r. fill q r (same_key k q) refl; apart = λ q l r. alone q l r (same_key k q) refl (same_key k l) refl; found = λ r some. find r some (nat_eq r p) refl }
  where
    -- a place of the key is the new one; another key has it as before, and it isn't the new one
    here : (q : Key) (r : ℕ) → same_key k q ≡ true → places' q ≡ Some r → (r ≡ p) × IsSome (cells' p)
    here q r s e = new r (sym (h.at_key q ∙ ap (λ b. cond b o (places q)) s) ∙ e)

    before : (q : Key) (r : ℕ) → same_key k q ≡ false → places' q ≡ Some r → places q ≡ Some r
    before q r s e = sym (h.at_key q ∙ ap (λ b. cond b o (places q)) s) ∙ e

    elsewhere : (q : Key) (r : ℕ) → same_key k q ≡ false → places' q ≡ Some r → r ≢ p
    elsewhere q r s e i = h.own q s (before q r s e ∙ ap Some i)

    fill : (q : Key) (r : ℕ) (b : Bool) → same_key k q ≡ b → places' q ≡ Some r → IsSome (cells' r)
    fill q r true s e = let n = here q r s e in subst (λ x. IsSome (cells' x)) (sym n.0) n.1
    fill q r false s e = subst IsSome (sym (h.others r (elsewhere q r s e))) (old.filled q r (before q r s e))

    alone : (q l : Key) (r : ℕ) (b : Bool) → same_key k q ≡ b → (c : Bool) → same_key k l ≡ c → places' q ≡ Some r → places' l ≡ Some r → q ≡ l
    alone q l r true s true t e f = sym (same_keys k q s) ∙ same_keys k l t
    alone q l r true s false t e f = absurd (elsewhere l r t f (here q r s e).0)
    alone q l r false s true t e f = absurd (elsewhere q r s e (here l r t f).0)
    alone q l r false s false t e f = old.apart q l r (before q r s e) (before l r t f)

    -- the key that has a cell's place
    kept : (r : ℕ) → r ≢ p → (q : Key) → places q ≡ Some r → (b : Bool) → same_key k q ≡ b → (q : Key) × (places' q ≡ Some r)
    kept r other q there true s = absurd (other (had r (ap places (same_keys k q s) ∙ there)))
    kept r other q there false s = (q, h.at_key q ∙ ap (λ b. cond b o (places q)) s ∙ there)

    find : (r : ℕ) → IsSome (cells' r) → (b : Bool) → nat_eq r p ≡ b → (q : Key) × (places' q ≡ Some r)
    find r some true e =
        let same = same_number r p e in
        (k, h.at_key k ∙ ap (λ b. cond b o (places k)) (equal_keys k k refl) ∙ left (subst (λ x. IsSome (cells' x)) same some) ∙ ap Some (sym same))
    find r some false e =
        let other : r ≢ p = λ i. true≢false (sym (equal_number p) ∙ ap (λ x. nat_eq x p) (sym i) ∙ e) in
        let before = old.found r (subst IsSome (h.others r other) some) in
        kept r other before.0 before.1 (same_key k before.0) refl

-- each key finds the same place, and each place the same cell
pub same_places : {places places' : Key → Option ℕ} {cells cells' : ℕ → Option Cell} → ((q : Key) → places' q ≡ places q) → ((r : ℕ) → cells' r ≡ cells r) → ArePlaced places cells → ArePlaced places' cells'
same_places h k a = subst (λ f. f) (λ i. ArePlaced (λ q. sym (h q) i) (λ r. sym (k r) i)) a

-- ---- a store's fields, whose contents are `now`

-- the cell that is found at a slot, and none where the slot has no place
pub cell_found : (cells : Slab Cell) (es : List (Key × ℕ)) {room : ℕ} (now : Contents) (s : Slot) (p : ℕ) {o : Option Cell} → ◌≡◌ {A = Contents} (record { cells = cells_at cells es; room = room }) now → Some p ≡ lookup (same_key (key_of s)) es → cell_in cells p ≡ o → map.get now.cells s ≡ o
cell_found cells es now s p e there here = sym (ap (λ n. map.get n.cells s) e) ∙ get_cells_at cells es s ∙ ap (option_and_then (cell_in cells)) (sym there) ∙ here

pub no_cell : (cells : Slab Cell) (es : List (Key × ℕ)) {room : ℕ} (now : Contents) (s : Slot) → ◌≡◌ {A = Contents} (record { cells = cells_at cells es; room = room }) now → None ≡ lookup (same_key (key_of s)) es → map.get now.cells s ≡ None
no_cell cells es now s e absent = sym (ap (λ n. map.get n.cells s) e) ∙ get_cells_at cells es s ∙ ap (option_and_then (cell_in cells)) (sym absent)

-- there is room where it was asked for a slot without a cell, and the slot has none
pub room_left : (cells : Slab Cell) (es : List (Key × ℕ)) (s : Slot) (room : ℕ) (now : Contents) → ◌≡◌ {A = Contents} (record { cells = cells_at cells es; room = room }) now → None ≡ lookup (same_key (key_of s)) es → (map.get now.cells s ≡ None → 0 < now.room) → 0 < room
room_left cells es s room now e absent asked = subst (λ n. 0 < n) (sym (ap (λ c. c.room) e)) (asked (no_cell cells es now s e absent))

-- to take away what isn't there changes nothing
pub nothing_taken : (m : Cells) (s : Slot) → map.get m s ≡ None → m ≡ map.remove m s
nothing_taken m s e = sym (same_cells _ _ (λ q. get_put_at m s None q ∙ at q (same_key (key_of q) (key_of s)) refl))
  where
    at : (q : Slot) (b : Bool) → same_key (key_of q) (key_of s) ≡ b → cond b None (map.get m q) ≡ map.get m q
    at q true h = sym e ∙ sym (ap (map.get m) (same_slot q s h))
    at q false h = refl

pub contents_are : {m m' : Cells} {n n' : ℕ} → m ≡ m' → n ≡ n' → ◌≡◌ {A = Contents} (record { cells = m; room = n }) (record { cells = m'; room = n' })
contents_are e f = λ i. record { cells = e i; room = f i }

-- ---- what each change makes of the cells, and that places stay in order

-- the cell at a slot's place is replaced
pub put_over : (cells : Slab Cell) (es : List (Key × ℕ)) (s : Slot) (p : ℕ) (c : Cell) → ArePlaced (λ q. lookup (same_key q) es) (cell_in cells) → Some p ≡ lookup (same_key (key_of s)) es
    → cells_at (with_value cells p c) es ≡ map.insert (cells_at cells es) s c
put_over cells es s p c h there =
    let updates = Updates-with_value cells p c (h.filled (key_of s) p (sym there)) in
    changed cells (with_value cells p c) es es s p (Some p) (Some c) (replaced h (sym there) updates.others) updates.changed

-- a slot without a place is given one
pub put_new : (cells cells' : Slab Cell) (es fs : List (Key × ℕ)) (s : Slot) (p : ℕ) (c : Cell) → ArePlaced (λ q. lookup (same_key q) es) (cell_in cells)
    → None ≡ lookup (same_key (key_of s)) es → cell_in cells p ≡ None → ((q : Key) → lookup (same_key q) fs ≡ cond (same_key (key_of s) q) (Some p) (lookup (same_key q) es)) → Updates cells cells' p (Some c)
    → ArePlaced (λ q. lookup (same_key q) fs) (cell_in cells') × (cells_at cells' fs ≡ map.insert (cells_at cells es) s c)
put_new cells cells' es fs s p c h absent empty at_key updates =
    let change = added h empty at_key updates.others in
    (still_placed change (λ r e. absurd (let both : None ≡ Some r = absent ∙ e in cc)) (λ some. refl) (λ r e. (cc, ap is_some updates.changed)) h, changed cells cells' es fs s p (Some p) (Some c) change updates.changed)

-- a slot's place is taken away with its cell
pub take_away : (cells cells' : Slab Cell) (es fs : List (Key × ℕ)) (s : Slot) (p : ℕ) → ArePlaced (λ q. lookup (same_key q) es) (cell_in cells)
    → Some p ≡ lookup (same_key (key_of s)) es → ((q : Key) → lookup (same_key q) fs ≡ cond (same_key (key_of s) q) None (lookup (same_key q) es)) → Updates cells cells' p None
    → ArePlaced (λ q. lookup (same_key q) fs) (cell_in cells') × (cells_at cells' fs ≡ map.remove (cells_at cells es) s)
take_away cells cells' es fs s p h there at_key updates =
    let change = taken h (sym there) at_key updates.others in
    (still_placed change (λ r e. cc) (λ some. absurd (true≢false (sym some ∙ ap is_some updates.changed))) (λ r e. absurd cc) h, changed cells cells' es fs s p None None change refl)
