-- Laws of finite maps from numbers.
use Rattle.std.proofs.Common.{◌≡◌, ℕ, Bool, true, false, cond, List, [], ◌∷◌, Option, Some, None, refl, sym, ap, ◌∙◌, arith}
use Rattle.std.specs.Prelude.{nat_eq, is_some}
use Rattle.std.specs.Ordering.{nat_cmp, eq_by_cmp}
use Rattle.std.specs.Cmp.{nat_cmp_total}
use Rattle.std.proofs.lemmas.Cmp.{eq_by_cmp_equiv}
use Rattle.std.specs.Map.{lookup}
use Rattle.std.specs.FinMap as map
use Rattle.std.proofs.lemmas.Bool.Decides.{nat_tests}
use Rattle.common_lemmas.proofs.Numbers.{same_number, equal_number, nat_eq-comm}
use Rattle.common_lemmas.proofs.Options.{nothing}
use Rattle.answers.specs.Finite.{Numbered, put_at, map_of, and_then}

-- maps with the same at each key are one
pub same : {X : Type 0} (m n : Numbered X) → ((q : ℕ) → map.get m q ≡ map.get n q) → m ≡ n
same m n h = map.same_map nat_cmp_total map.nat_cmp-IsAntisymmetric m n h

ties : (q k : ℕ) → eq_by_cmp nat_cmp q k ≡ nat_eq k q
ties q k = grind (arith, nat_tests, eq_by_cmp_equiv)

pub get_put : {X : Type 0} (m : Numbered X) (k : ℕ) (o : Option X) (q : ℕ) → map.get (put_at m k o) q ≡ cond (nat_eq k q) o (map.get m q)
get_put m k None q = map.get-remove nat_cmp_total m k q ∙ ap (λ b. cond b None (map.get m q)) (ties q k)
get_put m k (Some x) q = map.get-insert nat_cmp_total m k x q ∙ ap (λ b. cond b (Some x) (map.get m q)) (ties q k)

-- what was there, put back
back_at : {X : Type 0} (m : Numbered X) (k q : ℕ) (o old : Option X) (b : Bool) → nat_eq k q ≡ b → map.get m k ≡ old → cond b old (cond b o (map.get m q)) ≡ map.get m q
back_at m k q o old true e h = let s : k ≡ q = same_number k q e in sym h ∙ ap (map.get m) s
back_at m k q o old false e h = refl

pub put_back : {X : Type 0} (m : Numbered X) (k : ℕ) (o old : Option X) → map.get m k ≡ old → put_at (put_at m k o) k old ≡ m
put_back m k o old h = same _ _ (λ q. get_put (put_at m k o) k old q ∙ ap (cond (nat_eq k q) old) (get_put m k o q) ∙ back_at m k q o old (nat_eq k q) refl h)

-- what the map of a list has at a key
found : {A X : Type 0} (f : A → Option X) (b : Bool) (a : A) (o : Option A) → cond b (f a) (and_then f o) ≡ and_then f (cond b (Some a) o)
found f true a o = refl
found f false a o = refl

pub get_map_of : {A X : Type 0} (f : A → Option X) (es : List (ℕ × A)) (q : ℕ) → map.get (map_of f es) q ≡ and_then f (lookup (nat_eq q) es)
get_map_of f [] q = map.get-empty nat_cmp q
get_map_of f (e ∷ es) q = get_put (map_of f es) e.0 (f e.1) q
    ∙ ap (λ b. cond b (f e.1) (map.get (map_of f es) q)) (nat_eq-comm e.0 q)
    ∙ ap (cond (nat_eq q e.0) (f e.1)) (get_map_of f es q)
    ∙ found f (nat_eq q e.0) e.1 (lookup (nat_eq q) es)

-- entries that differ at one key make maps that differ there
pub one_changed : {A X : Type 0} (f : A → Option X) (es fs : List (ℕ × A)) (k : ℕ) (o : Option A) → ((q : ℕ) → lookup (nat_eq q) fs ≡ cond (nat_eq k q) o (lookup (nat_eq q) es)) → map_of f fs ≡ put_at (map_of f es) k (and_then f o)
one_changed {A = A} f es fs k o h = same _ _ (λ q. get_map_of f fs q ∙ ap (and_then f) (h q) ∙ chosen (nat_eq k q) o (lookup (nat_eq q) es)
    ∙ ap (cond (nat_eq k q) (and_then f o)) (sym (get_map_of f es q)) ∙ sym (get_put (map_of f es) k (and_then f o) q))
  where
    chosen : (b : Bool) (o p : Option A) → and_then f (cond b o p) ≡ cond b (and_then f o) (and_then f p)
    chosen true o p = refl
    chosen false o p = refl

-- to put there what is there changes nothing
pub put_same : {X : Type 0} (m : Numbered X) (k : ℕ) (o : Option X) → map.get m k ≡ o → put_at m k o ≡ m
put_same m k o h = same _ _ (λ q. get_put m k o q ∙ there (nat_eq k q) q refl)
  where
    there : (b : Bool) (q : ℕ) → nat_eq k q ≡ b → cond b o (map.get m q) ≡ map.get m q
    there true q e = let s : k ≡ q = same_number k q e in sym h ∙ ap (map.get m) s
    there false q e = refl

pub get_put_own : {X : Type 0} (m : Numbered X) (k : ℕ) (o : Option X) → map.get (put_at m k o) k ≡ o
get_put_own m k o = get_put m k o k ∙ ap (λ b. cond b o (map.get m k)) (equal_number k)

pub get_put_other : {X : Type 0} (m : Numbered X) (k q : ℕ) (o : Option X) → nat_eq k q ≡ false → map.get (put_at m k o) q ≡ map.get m q
get_put_other m k q o h = get_put m k o q ∙ ap (λ b. cond b o (map.get m q)) h

-- nothing is put where no entry is
pub absent : {A X : Type 0} (f : A → Option X) (es : List (ℕ × A)) (k : ℕ) → is_some (lookup (nat_eq k) es) ≡ false → map_of f es ≡ put_at (map_of f es) k None
absent f es k h = sym (put_same (map_of f es) k None (get_map_of f es k ∙ ap (and_then f) (nothing (lookup (nat_eq k) es) h)))

pub ruleset laws = (get_map_of, one_changed)
