-- The first fact with a path, by its path and by its text.
use Rattle.std.proofs.Common.{◌≡◌, ℕ, zero, suc, ◌+◌, ◌<◌, ◌↔◌, Bool, true, false, cond, ◌&&◌, List, [], ◌∷◌, map, length, slice_get, get_or, drop, option_map, bytes_eq, Option, Some, None, is_some, refl, sym, ap, ◌∙◌, arith}
use Rattle.std.specs.Prelude.{IfSome}
use Rattle.std.specs.List.{All}
use Rattle.std.proofs.lemmas.Bool.{and_parts, and_from, true≢false}
use Rattle.std.proofs.lemmas.List.Elements.{All-head, All-tail}
use Rattle.std.proofs.lemmas.Option.{slice_get-map, slice_get_within}
use Rattle.std.proofs.lemmas.Slice.Eq.{bytes_eq-Decides}
use Rattle.common_lemmas.proofs.Bytes.{equal_bytes}
use Rattle.common_lemmas.proofs.Bools.{same_test}
use Rattle.fact_paths.specs.Paths.{IsFactPath, SpellsFactPath, fact_path_text}
use Rattle.fact_paths.specs.declared.fact_path.FactPath.{FactPath}
use Rattle.fact_paths.specs.declared.fact_path.FactPath.TheVariants.{Global, Member}
use Rattle.fact_paths.specs.Parsing.{fact_path_of}
use Rattle.fact_paths.proofs.FactPathLaws.{fact_path_reading}
use Rattle.fact_paths.proofs.ParsingLaws.{one_path_from}
use Rattle.dict_source.specs.Dictionary.{number_from}
use Rattle.dict_source.specs.Tables.{LookupTable}
use Rattle.dict_source.specs.Facts.{Fact, fact_view}
use Rattle.dict_source.specs.declared.fact_source.FactSource.{FactSource}
use Rattle.dict_source.specs.Forms.{IsReadFrom, IsWellFormed}
use Rattle.dict_source.specs.Finding.{fact_at, HasPath, IsFirst, IsNumber, Finds, same_path, is_path, find_path}
use Rattle.dict_source.specs.PathIndex.{is_spelled, key_of, path_key}

-- ---- one path and another

pub same_path-same : (p : FactPath) → same_path p p ≡ true
same_path-same (Global n) = equal_bytes n
same_path-same (Member c n) = and_from (bytes_eq c c) (bytes_eq n n) (equal_bytes c) (equal_bytes n)

pub same_path-one : (p q : FactPath) → same_path p q ≡ true → p ≡ q
same_path-one (Global n) (Global m) h = ap Global ((bytes_eq-Decides n m).0 h)
same_path-one (Global n) (Member c m) h = absurd cc
same_path-one (Member b n) (Global m) h = absurd cc
same_path-one (Member b n) (Member c m) h =
    let parts = and_parts (bytes_eq b c) (bytes_eq n m) h in
    let one : b ≡ c = (bytes_eq-Decides b c).0 parts.0 in
    let two : n ≡ m = (bytes_eq-Decides n m).0 parts.1 in
    cc

pub is_path-is : (p : FactPath) (o : Option FactPath) → is_path p o ≡ true → o ≡ Some p
is_path-is p None h = absurd cc
is_path-is p (Some q) h = ap Some (sym (same_path-one p q h))

pub is_path-some : (p : FactPath) (o : Option FactPath) → o ≡ Some p → is_path p o ≡ true
is_path-some p o h = ap (is_path p) h ∙ same_path-same p

-- ---- a path and its text

-- a path is written as a slash and its key
path_written : (p : FactPath) → fact_path_text p ≡ 47 ∷ path_key p
path_written (Global n) = refl
path_written (Member c n) = refl

-- so the key is what stands behind the slash
path_behind : (p : FactPath) → key_of (fact_path_text p) ≡ path_key p
path_behind (Global n) = refl
path_behind (Member c n) = refl

-- the same of the text of a path
pub key_of-spelled : (text : List ℕ) (p : FactPath) → SpellsFactPath text p → key_of text ≡ path_key p
key_of-spelled text p h = ap key_of h.1 ∙ path_behind p

text_path : (p : FactPath) → IsFactPath p → (text : List ℕ) (o : Option FactPath) → IsReadFrom SpellsFactPath text o → (is_some o && bytes_eq (path_key p) (key_of text)) ≡ is_path p o
text_path p good text None h = refl
text_path p good text (Some q) h =
    same_test (bytes_eq (path_key p) (key_of text)) (same_path p q)
    (λ e.
    let keys : path_key p ≡ key_of text = (bytes_eq-Decides (path_key p) (key_of text)).0 e in
    let same : fact_path_text p ≡ text = path_written p ∙ ap (λ (k : List ℕ). 47 ∷ k) (keys ∙ key_of-spelled text q h) ∙ sym (path_written q) ∙ sym h.1 in
    let one : p ≡ q = one_path_from SpellsFactPath fact_path_of fact_path_reading text p q (good, sym same) h in
    ap (same_path p) (sym one) ∙ same_path-same p)
    (λ e.
    let one : p ≡ q = same_path-one p q e in
    (bytes_eq-Decides (path_key p) (key_of text)).1 (ap path_key one ∙ sym (key_of-spelled text q h)))

number_from-same : (tables : List LookupTable) (test other : Fact → Bool) (n : ℕ) (facts : List Fact) → ((f : Fact) → IsWellFormed tables f → test f ≡ other f) → All (IsWellFormed tables) facts → number_from test n facts ≡ number_from other n facts
number_from-same tables test other n [] same good = refl
number_from-same tables test other n (f ∷ facts) same good =
    let here : test f ≡ other f = same f (All-head (IsWellFormed tables) f facts good) in
    let rest : number_from test (suc n) facts ≡ number_from other (suc n) facts = number_from-same tables test other (suc n) facts same (All-tail (IsWellFormed tables) f facts good) in
    ap (λ (b : Bool). cond b (Some n) (number_from test (suc n) facts)) here ∙ ap (λ (o : Option ℕ). cond (other f) (Some n) o) rest

-- among well-formed facts the first whose path the text spells is the first with the path
pub spelled-find_path : (tables : List LookupTable) (facts : List Fact) (p : FactPath) → All (IsWellFormed tables) facts → IsFactPath p → number_from (is_spelled (path_key p)) 1 facts ≡ find_path facts p
spelled-find_path tables facts p good path =
    number_from-same tables (is_spelled (path_key p)) (λ f. is_path p f.path) 1 facts (λ f well. text_path p path f.path_text f.path well.path) good

-- ---- the number that is found is that of the first

-- none of those at i and before it passes
pub record FoundAt {X : Type 0} (test : X → Bool) (xs : List X) (i : ℕ) : Type 0 where
  pub item : X
  pub is_there : slice_get xs i ≡ Some item
  pub passes : test item ≡ true
  pub before : (j : ℕ) (x : X) → j < i → slice_get xs j ≡ Some x → test x ≡ false

number_from-none : {X : Type 0} (test : X → Bool) (n : ℕ) (xs : List X) → number_from test n xs ≡ None → (j : ℕ) (x : X) → slice_get xs j ≡ Some x → test x ≡ false
number_from-none {X = X} test n [] h j x at = absurd cc
number_from-none {X = X} test n (y ∷ xs) h j x at = by (test y) refl h j at (λ k. number_from-none test (suc n) xs k)
  where
    by : (b : Bool) → test y ≡ b → cond b (Some n) (number_from test (suc n) xs) ≡ None → (j : ℕ) → slice_get (y ∷ xs) j ≡ Some x → (number_from test (suc n) xs ≡ None → (j : ℕ) (x : X) → slice_get xs j ≡ Some x → test x ≡ false) → test x ≡ false
    by true e h j at rest = absurd cc
    by false e h zero at rest = let one : y ≡ x = cc in ap test (sym one) ∙ e
    by false e h (suc j) at rest = rest h j x at

pub number_from-some : {X : Type 0} (test : X → Bool) (n : ℕ) (xs : List X) (k : ℕ) → number_from test n xs ≡ Some k → (i : ℕ) × (k ≡ n + i) × FoundAt test xs i
number_from-some {X = X} test n [] k h = absurd cc
number_from-some {X = X} test n (y ∷ xs) k h = by (test y) refl h (λ g. number_from-some test (suc n) xs k g)
  where
    first : test y ≡ true → (j : ℕ) (x : X) → j < 0 → slice_get (y ∷ xs) j ≡ Some x → test x ≡ false
    first e j x low at = absurd (omega arith)

    later : test y ≡ false → (i : ℕ) → FoundAt test xs i → (j : ℕ) (x : X) → j < suc i → slice_get (y ∷ xs) j ≡ Some x → test x ≡ false
    later e i found zero x low at = let one : y ≡ x = cc in ap test (sym one) ∙ e
    later e i found (suc j) x low at = found.before j x (omega arith) at

    by : (b : Bool) → test y ≡ b → cond b (Some n) (number_from test (suc n) xs) ≡ Some k → (number_from test (suc n) xs ≡ Some k → (i : ℕ) × (k ≡ suc n + i) × FoundAt test xs i) → (i : ℕ) × (k ≡ n + i) × FoundAt test (y ∷ xs) i
    by true e h rest = let one : n ≡ k = cc in (0, omega arith, record { item = y; is_there = refl; passes = e; before = first e })
    by false e h rest =
        let found = rest h in
        (suc found.0, omega arith, record { item = found.2.item; is_there = found.2.is_there; passes = found.2.passes; before = later e found.0 found.2 })

none_has : (facts : List Fact) (p : FactPath) (n : ℕ) → find_path facts p ≡ None → ¬ HasPath facts p n
none_has facts p zero h has = absurd (let e : None ≡ Some has.fact = has.is_there in cc)
none_has facts p (suc i) h has =
    true≢false (sym (is_path-some p has.fact.path has.path_is) ∙ number_from-none (λ f. is_path p f.path) 1 facts h i has.fact has.is_there)

first_found : (facts : List Fact) (p : FactPath) (n i : ℕ) → n ≡ suc i → FoundAt (λ f. is_path p f.path) facts i → IsFirst facts p n
first_found facts p n i e found = record {
  here = record { fact = found.item; is_there = ap (fact_at facts) e ∙ found.is_there; path_is = is_path-is p found.item.path found.passes };
  before = before;
}
  where
    before : (k : ℕ) → k < n → ¬ HasPath facts p k
    before zero low has = absurd (let e : None ≡ Some has.fact = has.is_there in cc)
    before (suc k) low has = true≢false (sym (is_path-some p has.fact.path has.path_is) ∙ found.before k has.fact (omega arith) has.is_there)

finds : (facts : List Fact) (p : FactPath) (o : Option ℕ) → find_path facts p ≡ o → Finds facts p o
finds facts p None h = λ n. none_has facts p n h
finds facts p (Some n) h =
    let found = number_from-some (λ f. is_path p f.path) 1 facts n h in
    first_found facts p n found.0 (let e : n ≡ suc found.0 = omega arith in e) found.2

pub find_path-Finds : (facts : List Fact) (p : FactPath) → Finds facts p (find_path facts p)
find_path-Finds facts p = finds facts p (find_path facts p) refl

-- ---- the first is one

no_other : (facts : List Fact) (p : FactPath) (n : ℕ) (o : Option ℕ) → IsFirst facts p n → Finds facts p o → o ≡ Some n
no_other facts p n None first h = absurd (h n first.here)
no_other facts p n (Some m) first h =
    let low : ¬ (m < n) = λ l. first.before m l h.here in
    let high : ¬ (n < m) = λ l. h.before n l first.here in
    let one : m ≡ n = omega arith in
    ap (λ (k : ℕ). Some k) one

pub find_path-first : (facts : List Fact) (p : FactPath) (n : ℕ) → (find_path facts p ≡ Some n) ↔ IsFirst facts p n
find_path-first facts p n = (λ h. finds facts p (Some n) h, λ first. no_other facts p n (find_path facts p) first (find_path-Finds facts p))

-- ---- facts by number

-- the fact with a number, in memory
pub fact_at-view : (facts : List FactSource) (n i : ℕ) → n ≡ suc i → option_map fact_view (slice_get facts i) ≡ fact_at (map fact_view facts) n
fact_at-view facts n i e = sym (slice_get-map fact_view facts i) ∙ sym (ap (fact_at (map fact_view facts)) e)

-- what is left of a view begins with the next item's
pub drop-view : {X Y : Type 0} (v : X → Y) (xs : List X) (i k : ℕ) (x : X) → i < length xs → x ≡ get_or xs i x → k ≡ suc i → drop i (map v xs) ≡ v x ∷ drop k (map v xs)
drop-view v [] i k x low at next = absurd (omega arith)
drop-view v (y ∷ xs) zero k x low at next = ap (λ y. v y ∷ map v xs) (sym at) ∙ ap (λ (j : ℕ). v x ∷ drop j (map v (y ∷ xs))) (sym next)
drop-view v (y ∷ xs) (suc i) k x low at next = drop-view v xs i (suc i) x (omega arith) at refl ∙ ap (λ (j : ℕ). v x ∷ drop j (map v (y ∷ xs))) (sym next)

-- ---- numbers of facts

pub find_path-none : (facts : List Fact) (p : FactPath) → (find_path facts p ≡ None) ↔ ((n : ℕ) → ¬ HasPath facts p n)
find_path-none facts p = (λ h. finds facts p None h, λ h. by (find_path facts p) (find_path-Finds facts p) h)
  where
    by : (o : Option ℕ) → Finds facts p o → ((n : ℕ) → ¬ HasPath facts p n) → o ≡ None
    by None found h = refl
    by (Some n) found h = absurd (h n found.here)

within : (facts : List Fact) (n : ℕ) (f : Fact) → fact_at facts n ≡ Some f → IsNumber facts n
within facts zero f h = absurd cc
within facts (suc i) f h = let low : i < length facts = slice_get_within facts i f h in (omega arith, omega arith)

-- the first fact with a path is one of the facts
pub first_is_there : (facts : List Fact) (p : FactPath) (n : ℕ) → IsFirst facts p n → IsNumber facts n
first_is_there facts p n h = within facts n h.here.fact h.here.is_there

pub Finds-within : (facts : List Fact) (p : FactPath) (o : Option ℕ) → Finds facts p o → IfSome o (IsNumber facts)
Finds-within facts p None h = tt
Finds-within facts p (Some n) h = first_is_there facts p n h
