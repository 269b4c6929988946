-- What stands at a place of a table.
use Rattle.std.proofs.Common.{◌≡◌, ℕ, suc, ◌+◌, ◌<◌, ◌≤◌, Bool, true, false, cond, List, length, drop, get_or, slice_get, ltb, Option, Some, None, refl, sym, ap, subst, ◌∙◌, add-one}
use Rattle.std.specs.List.{position_from}
use Rattle.std.specs.Option.{IfSome, option_map}
use Rattle.std.proofs.Math.Seq.{drop-cons}
use Rattle.std.proofs.lemmas.Bool.{ltb-true}
use Rattle.std.proofs.lemmas.Option.{slice_get_past, slice_get_read}

pub part_there : {X Y : Type 0} (xs ys : List X) (part : X → Y) (i : ℕ) (x : X) → ys ≡ xs → true ≡ ltb i (length ys) → x ≡ get_or ys i x → Some (part x) ≡ option_map part (slice_get xs i)
part_there xs ys part i x same low at = ap (option_map part) (sym (slice_get_read ys (length ys) i x refl (ltb-true i (length ys) (sym low)) at) ∙ ap (λ l. slice_get l i) same)

pub part_past : {X Y : Type 0} (xs ys : List X) (part : X → Y) (i : ℕ) → ys ≡ xs → length ys ≤ i → None ≡ option_map part (slice_get xs i)
part_past xs ys part i same past = ap (option_map part) (sym (slice_get_past ys i past) ∙ ap (λ l. slice_get l i) same)

pub holds_there : {X : Type 0} (xs : List X) (P : X → Type 0) (i : ℕ) (x : X) → i < length xs → x ≡ get_or xs i x → P x → IfSome (slice_get xs i) P
holds_there xs P i x low at h = subst (λ o. IfSome o P) (sym (slice_get_read xs (length xs) i x refl low at)) h

-- the first that passes stands behind one that doesn't
pub first_behind : {X : Type 0} (xs ys : List X) (p : X → Bool) (i : ℕ) (x : X) (first : Option ℕ) → ys ≡ xs → i < length ys → x ≡ get_or ys i x → p x ≡ false → first ≡ position_from p i (drop i xs) → first ≡ position_from p (i + 1) (drop (i + 1) xs)
first_behind xs ys p i x first same low at fails before =
    before
    ∙ ap (λ l. position_from p i (drop i l)) (sym same)
    ∙ ap (position_from p i) (drop-cons ys i x low)
    ∙ ap (λ b. cond b (Some i) (position_from p (i + 1) (drop (suc i) ys))) (sym (ap p at) ∙ fails)
    ∙ ap (λ (k : ℕ). position_from p (i + 1) (drop k ys)) (sym (add-one i))
    ∙ ap (λ l. position_from p (i + 1) (drop (i + 1) l)) same
