-- Texts that are distinct, one by one.
use Rattle.std.proofs.Common.{◌≡◌, ℕ, zero, suc, ◌<◌, ◌≤◌, List, [], ◌∷◌, ◌++◌, Bool, true, false, not, ◌&&◌, ◌||◌, Bor, length, map, drop, get_or, refl, ap, ◌∙◌, arith}
use Rattle.std.specs.Prelude.{bytes_eq}
use Rattle.std.specs.List.{list_any}
use Rattle.std.proofs.lemmas.List.Folds.{list_any-append}
use Rattle.common_lemmas.proofs.Bools.{and_true}
use Rattle.common_lemmas.proofs.Bytes.{bytes_eq-comm}
use Rattle.value_text.specs.Enums.{is_among, are_distinct}

-- none stands among those that were seen, nor twice
abbrev pub are_new : List (List ℕ) → List (List ℕ) → Bool
are_new seen [] = true
are_new seen (x ∷ xs) = not (is_among x seen) && are_new (seen ++ x ∷ []) xs

abbrev none_among : List (List ℕ) → List (List ℕ) → Bool
none_among seen [] = true
none_among seen (x ∷ xs) = not (is_among x seen) && none_among seen xs

one_more : (a b n m : Bool) → (not (a || (b || false)) && (n && not m)) ≡ ((not a && n) && not (b || m))
one_more true b n m = refl
one_more false true true m = refl
one_more false true false m = refl
one_more false false true m = refl
one_more false false false m = refl

none_more : (seen : List (List ℕ)) (x : List ℕ) (xs : List (List ℕ)) → none_among (seen ++ x ∷ []) xs ≡ (none_among seen xs && not (is_among x xs))
none_more seen x [] = refl
none_more seen x (y ∷ ys) =
    let found : is_among y (seen ++ x ∷ []) ≡ (is_among y seen || (bytes_eq x y || false)) = list_any-append (bytes_eq y) seen (x ∷ []) ∙ ap (λ b. is_among y seen || (b || false)) (bytes_eq-comm y x) in
    rw (found, none_more seen x ys) (one_more (is_among y seen) (bytes_eq x y) (none_among seen ys) (is_among x ys))

first_of_all : (s d n m : Bool) → (not s && (d && (n && not m))) ≡ ((not m && d) && (not s && n))
first_of_all true true n true = refl
first_of_all true true n false = refl
first_of_all true false n true = refl
first_of_all true false n false = refl
first_of_all false true true true = refl
first_of_all false true true false = refl
first_of_all false true false true = refl
first_of_all false true false false = refl
first_of_all false false n true = refl
first_of_all false false n false = refl

are_new-is : (seen xs : List (List ℕ)) → are_new seen xs ≡ (are_distinct xs && none_among seen xs)
are_new-is seen [] = refl
are_new-is seen (x ∷ xs) = rw (are_new-is (seen ++ x ∷ []) xs, none_more seen x xs) (first_of_all (is_among x seen) (are_distinct xs) (none_among seen xs) (is_among x xs))

none_of_none : (xs : List (List ℕ)) → none_among [] xs ≡ true
none_of_none [] = refl
none_of_none (x ∷ xs) = none_of_none xs

-- with none seen before, they are distinct
pub are_new_none : (xs : List (List ℕ)) → are_new [] xs ≡ are_distinct xs
are_new_none xs = are_new-is [] xs ∙ ap (λ b. are_distinct xs && b) (none_of_none xs) ∙ and_true (are_distinct xs)

-- a text among others, by the references to them
pub among_map : (text : List ℕ) (keys : List (Bor (List ℕ))) → is_among text (map (λ t. t.now) keys) ≡ list_any (λ k. bytes_eq text k.now) keys
among_map text [] = refl
among_map text (k ∷ ks) = ap (λ b. bytes_eq text k.now || b) (among_map text ks)

seen_before : (seen rest : List (List ℕ)) (t : List ℕ) → not (is_among t seen) ≡ false → are_new seen (t ∷ rest) ≡ false
seen_before seen rest t h = rw h refl

-- a text that was seen before is not new
pub repeated_at : (texts : List (Bor (List ℕ))) (i : ℕ) (d : Bor (List ℕ)) (seen : List (List ℕ)) → i < length texts → not (is_among (get_or texts i d).now seen) ≡ false → are_new seen (map (λ t. t.now) (drop i texts)) ≡ false
repeated_at [] i d seen lt h = absurd (omega arith)
repeated_at (t ∷ ts) zero d seen lt h = seen_before seen (map (λ u. u.now) ts) t.now h
repeated_at (t ∷ ts) (suc i) d seen lt h = repeated_at ts i d seen (omega arith) h

-- nothing is left behind the last
pub all_new : (texts : List (Bor (List ℕ))) (i : ℕ) (seen : List (List ℕ)) → length texts ≤ i → are_new seen (map (λ t. t.now) (drop i texts)) ≡ true
all_new [] zero seen h = refl
all_new [] (suc i) seen h = refl
all_new (t ∷ ts) zero seen h = absurd (omega arith)
all_new (t ∷ ts) (suc i) seen h = all_new ts i seen (omega arith)
