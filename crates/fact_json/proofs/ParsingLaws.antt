-- Lists that are read from JSON values one by one: what a reader has so far, and what it makes of those that are left.
use Rattle.std.proofs.Common.{◌≡◌, ℕ, zero, suc, ◌<◌, List, [], ◌∷◌, ◌++◌, length, drop, get_or, map, Option, Some, None, option_map, option_and_then, refl, sym, ap, ◌∙◌, arith}
use Rattle.serde_json.specs.Data.{Data, Items, item}
use Rattle.serde_json.specs.declared.value.Value.{Value}
use Rattle.serde_json.specs.View.{view as json, items_view}

-- what is left of the values begins with the next one
pub items_next : (vs : List Value) (i k : ℕ) (v : Value) → i < length vs → v ≡ get_or vs i v → k ≡ suc i → items_view (drop i vs) ≡ item (json v) (items_view (drop k vs))
items_next [] i k v low at next = absurd (omega arith)
items_next (w ∷ vs) zero k v low at next = ap (λ (x : Value). item (json x) (items_view vs)) (sym at) ∙ ap (λ (j : ℕ). item (json v) (items_view (drop j (w ∷ vs)))) (sym next)
items_next (w ∷ vs) (suc i) k v low at next = items_next vs i (suc i) v (omega arith) at refl ∙ ap (λ (j : ℕ). item (json v) (items_view (drop j (w ∷ vs)))) (sym next)

-- one more element, and those behind it
pub one_more : {X Y : Type 0} (view : X → Y) (xs : List X) (x : X) (ys : List Y) → map view (xs ++ x ∷ []) ++ ys ≡ map view xs ++ view x ∷ ys
one_more view [] x ys = refl
one_more view (z ∷ xs) x ys = ap (λ l. view z ∷ l) (one_more view xs x ys)

moved : {Y : Type 0} (so_far more : List Y) (y : Y) → ((ys : List Y) → more ++ ys ≡ so_far ++ y ∷ ys) → (o : Option (List Y)) → option_map (λ ys. more ++ ys) o ≡ option_map (λ ys. so_far ++ ys) (option_map (λ ys. y ∷ ys) o)
moved so_far more y same None = refl
moved so_far more y same (Some ys) = ap Some (same ys)

-- the reader of all takes the first value, and then those behind it
abbrev pub ReadsAll : {Y : Type 0} → (Data → Option Y) → (Items → Option (List Y)) → Type 0
ReadsAll one all = (d : Data) (ds : Items) → all (item d ds) ≡ option_and_then (λ y. option_map (λ ys. y ∷ ys) (all ds)) (one d)

-- one value more is read
pub read_next : {Y : Type 0} (one : Data → Option Y) (all : Items → Option (List Y)) → ReadsAll one all → (left later : Items) (d : Data) (y : Y) (so_far more : List Y) (whole : Option (List Y))
    → left ≡ item d later → option_map (λ ys. so_far ++ ys) (all left) ≡ whole → one d ≡ Some y → ((ys : List Y) → more ++ ys ≡ so_far ++ y ∷ ys) → option_map (λ ys. more ++ ys) (all later) ≡ whole
read_next one all step left later d y so_far more whole is before found same =
    moved so_far more y same (all later)
    ∙ ap (option_map (λ ys. so_far ++ ys)) (sym (ap all is ∙ step d later ∙ ap (option_and_then (λ z. option_map (λ ys. z ∷ ys) (all later))) found))
    ∙ before
