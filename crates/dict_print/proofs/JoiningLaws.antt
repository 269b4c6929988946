-- The loops that append one value for each element of a list: the step and the end.
use Rattle.std.proofs.Common.{◌≡◌, ℕ, zero, suc, ◌+◌, ◌<◌, ◌≤◌, List, [], ◌∷◌, ◌++◌, map, drop, get_or, length, Some, refl, sym, ap, subst, ◌∙◌}
use Rattle.std.specs.List.{All, slice_get}
use Rattle.std.proofs.lemmas.List.{at_drop_more, at_drop_all}
use Rattle.std.proofs.lemmas.List.Elements.{All-cons, All-nil}
use Rattle.std.proofs.lemmas.Option.{same_Some}
use Rattle.serde_json.specs.Data.{Data, Items, no_items, item}
use Rattle.serde_json.specs.View.{view as json, items_view}
use Rattle.serde_json.specs.declared.value.Value.{Value}
use Rattle.dict_print.specs.Joining.{joined, Appends}

pub joined_none : (ds : Items) → joined ds no_items ≡ ds
joined_none no_items = refl
joined_none (item d ds) = ap (item d) (joined_none ds)

-- a value at the end of a list
pub pushed : (vs : List Value) (v : Value) → Appends (json v) (items_view vs) (items_view (vs ++ v ∷ []))
pushed [] v rest = refl
pushed (w ∷ vs) v rest = ap (item (json w)) (pushed vs v rest)

-- what a look-up finds is at the place
pub found_at : {X : Type 0} (xs : List X) (i : ℕ) (x : X) → slice_get xs i ≡ Some x → x ≡ get_or xs i x
found_at [] i x h = absurd cc
found_at (y ∷ xs) zero x h = sym (same_Some y x h)
found_at (y ∷ xs) (suc i) x h = found_at xs i x h

-- ---- values, of which all those of a list are one behind the other

-- the value of the element at i is appended
pub next : {X : Type 0} (f : X → Data) (all : List X → Items) → ((x : X) (xs : List X) → all (x ∷ xs) ≡ item (f x) (all xs))
    → (xs : List X) (i : ℕ) (x : X) → i < length xs → x ≡ get_or xs i x → (d : Data) → d ≡ f x → (before after whole : Items) → Appends d before after
    → joined before (all (drop i xs)) ≡ whole → joined after (all (drop (i + 1) xs)) ≡ whole
next f all step xs i x low at d is before after whole push rest =
    let later = all (drop (i + 1) xs) in
    let here : all (drop i xs) ≡ item (f x) later = at_drop_more all xs i x low ∙ ap (λ y. all (y ∷ drop (i + 1) xs)) (sym at) ∙ step x (drop (i + 1) xs) in
    push later ∙ ap (λ e. joined before (item e later)) is ∙ ap (joined before) (sym here) ∙ rest

-- behind the last element
pub at_end : {X : Type 0} (all : List X → Items) → all [] ≡ no_items → (xs : List X) (i : ℕ) → length xs ≤ i → (ds whole : Items) → joined ds (all (drop i xs)) ≡ whole → ds ≡ whole
at_end all none xs i le ds whole rest = sym (joined_none ds) ∙ ap (joined ds) (sym (at_drop_all all xs i le ∙ none)) ∙ rest

-- ---- what holds of each element

pub all_next : {X Y : Type 0} (P : Y → Type 0) (view : X → Y) (xs : List X) (i : ℕ) (x : X) → i < length xs → x ≡ get_or xs i x → P (view x) → (whole : List Y)
    → (All P (map view (drop i xs)) → All P whole) → All P (map view (drop (i + 1) xs)) → All P whole
all_next P view xs i x low at p whole rest h =
    let later = map view (drop (i + 1) xs) in
    let here : map view (drop i xs) ≡ view x ∷ later = at_drop_more (map view) xs i x low ∙ ap (λ y. view y ∷ later) (sym at) in
    rest (subst (All P) (sym here) (All-cons P (view x) later p h))

pub all_at_end : {X Y : Type 0} (P : Y → Type 0) (view : X → Y) (xs : List X) (i : ℕ) → length xs ≤ i → (whole : List Y) → (All P (map view (drop i xs)) → All P whole) → All P whole
all_at_end P view xs i le whole rest = rest (subst (All P) (sym (at_drop_all (map view) xs i le)) (All-nil P))
