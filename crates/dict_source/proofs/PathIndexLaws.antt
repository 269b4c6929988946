-- What is kept under a text.
use Rattle.std.proofs.Common.{◌≡◌, ℕ, suc, ◌+◌, Bool, true, false, cond, ◌&&◌, List, [], ◌∷◌, ◌++◌, length, drop, bytes_eq, Option, Some, None, is_some, String, Global, string_bytes, string_eq, refl, sym, ap, ◌∙◌, arith, add-zero}
use Rattle.std.specs.Map.{lookup}
use Rattle.std.specs.Option.{option_or}
use Rattle.std.proofs.lemmas.List.{map-append}
use Rattle.std.proofs.lemmas.Slice.Eq.{bytes_eq-Decides}
use Rattle.indexmap.specs.IndexMap.{insert_entry}
use Rattle.dict_source.specs.Dictionary.{number_from}
use Rattle.dict_source.specs.Facts.{Fact}
use Rattle.dict_source.specs.PathIndex.{Entry, entries_of, place_of, noted, fact_noted, is_spelled, key_of, IsIndex}

-- the map's look-up is that of the entries
pub lookup-place_of : (text : List ℕ) (es : List (String Global × ℕ)) → lookup (λ key. bytes_eq text (string_bytes key)) es ≡ place_of text (entries_of es)
lookup-place_of text [] = refl
lookup-place_of text (e ∷ es) = ap (λ o. cond (bytes_eq text (string_bytes e.0)) (Some e.1) o) (lookup-place_of text es)

either_none : {X : Type 0} (b : Bool) (x : X) (o : Option X) → is_some (cond b (Some x) o) ≡ false → (b ≡ false) × (is_some o ≡ false)
either_none true x o h = absurd cc
either_none false x o h = (refl, h)

-- a number under a new text goes last
insert_entry-last : (key : String Global) (n : ℕ) (es : List (String Global × ℕ)) → is_some (place_of (string_bytes key) (entries_of es)) ≡ false → insert_entry string_eq es key n ≡ es ++ (key, n) ∷ []
insert_entry-last key n [] h = refl
insert_entry-last key n (e ∷ es) h =
    let apart = either_none (bytes_eq (string_bytes key) (string_bytes e.0)) e.1 (place_of (string_bytes key) (entries_of es)) h in
    ap (λ b. cond b ((e.0, n) ∷ es) (e ∷ insert_entry string_eq es key n)) apart.0 ∙ ap (λ l. e ∷ l) (insert_entry-last key n es apart.1)

-- where a number is kept, the entries stay
pub noted-there : (text : List ℕ) (n : ℕ) (es : List (String Global × ℕ)) (entries : List Entry) (b : Bool) → entries_of es ≡ entries → b ≡ is_some (lookup (λ key. bytes_eq text (string_bytes key)) es) → b ≡ true → entries ≡ noted entries text n
noted-there text n es entries b v h t =
    let there : is_some (place_of text entries) ≡ true = ap (λ l. is_some (place_of text l)) (sym v) ∙ sym (ap is_some (lookup-place_of text es)) ∙ sym h ∙ t in
    sym (ap (λ c. cond c entries (entries ++ (text, n) ∷ [])) there)

-- elsewhere the number goes last
pub noted-new : (text : List ℕ) (n : ℕ) (key : String Global) (es later : List (String Global × ℕ)) (entries : List Entry) (b : Bool) → entries_of es ≡ entries → b ≡ is_some (lookup (λ key. bytes_eq text (string_bytes key)) es) → b ≡ false → string_bytes key ≡ text → later ≡ insert_entry string_eq es key n → entries_of later ≡ noted entries text n
noted-new text n key es later entries b v h t k i =
    let none : is_some (place_of text entries) ≡ false = ap (λ l. is_some (place_of text l)) (sym v) ∙ sym (ap is_some (lookup-place_of text es)) ∙ sym h ∙ t in
    let own : is_some (place_of (string_bytes key) (entries_of es)) ≡ false = ap (λ l. is_some (place_of l (entries_of es))) k ∙ ap (λ l. is_some (place_of text l)) v ∙ none in
    ap entries_of (i ∙ insert_entry-last key n es own)
    ∙ map-append _ es ((key, n) ∷ [])
    ∙ ap (λ l. l ++ (string_bytes key, n) ∷ []) v
    ∙ ap (λ t. entries ++ (t, n) ∷ []) k
    ∙ sym (ap (λ c. cond c entries (entries ++ (text, n) ∷ [])) none)

-- ---- what is kept afterwards

option_or-none : {X : Type 0} (o : Option X) → option_or o None ≡ o
option_or-none None = refl
option_or-none (Some x) = refl

or_rest : {X : Type 0} (b : Bool) (x : X) (p o r : Option X) → p ≡ option_or o r → cond b (Some x) p ≡ option_or (cond b (Some x) o) r
or_rest true x p o r h = refl
or_rest false x p o r h = h

-- the number, where the test passes
abbrev pub where_true : Bool → ℕ → Option ℕ
where_true b n = cond b (Some n) None

place_of-last : (t text : List ℕ) (n : ℕ) (entries : List Entry) → place_of t (entries ++ (text, n) ∷ []) ≡ option_or (place_of t entries) (where_true (bytes_eq t text) n)
place_of-last t text n [] = refl
place_of-last t text n (e ∷ entries) = or_rest (bytes_eq t e.0) e.1 _ _ _ (place_of-last t text n entries)

some_or : {X : Type 0} (o p : Option X) → is_some o ≡ true → o ≡ option_or o p
some_or None p h = absurd cc
some_or (Some x) p h = refl

place_of-noted : (t text : List ℕ) (n : ℕ) (entries : List Entry) → place_of t (noted entries text n) ≡ option_or (place_of t entries) (where_true (bytes_eq t text) n)
place_of-noted t text n entries = by (is_some (place_of text entries)) refl
  where
    same : (b : Bool) → bytes_eq t text ≡ b → is_some (place_of text entries) ≡ true → place_of t entries ≡ option_or (place_of t entries) (where_true b n)
    same false e h = sym (option_or-none (place_of t entries))
    same true e h =
        let one : t ≡ text = (bytes_eq-Decides t text).0 e in
        some_or (place_of t entries) (Some n) (ap (λ x. is_some (place_of x entries)) one ∙ h)

    by : (b : Bool) → is_some (place_of text entries) ≡ b → place_of t (cond b entries (entries ++ (text, n) ∷ [])) ≡ option_or (place_of t entries) (where_true (bytes_eq t text) n)
    by true h = same (bytes_eq t text) refl h
    by false h = place_of-last t text n entries

pub place_of-fact_noted : (t : List ℕ) (f : Fact) (n : ℕ) (entries : List Entry) → place_of t (fact_noted entries f n) ≡ option_or (place_of t entries) (where_true (is_spelled t f) n)
place_of-fact_noted t f n entries = by (is_some f.path)
  where
    by : (b : Bool) → place_of t (cond b (noted entries (key_of f.path_text) n) entries) ≡ option_or (place_of t entries) (where_true (b && bytes_eq t (key_of f.path_text)) n)
    by true = place_of-noted t (key_of f.path_text) n entries
    by false = sym (option_or-none (place_of t entries))

-- ---- the index

number_from-last : {X : Type 0} (test : X → Bool) (n : ℕ) (xs : List X) (x : X) → number_from test n (xs ++ x ∷ []) ≡ option_or (number_from test n xs) (where_true (test x) (n + length xs))
number_from-last test n [] x = ap (λ (k : ℕ). where_true (test x) k) (sym (add-zero n))
number_from-last test n (y ∷ xs) x =
    let later : suc n + length xs ≡ n + suc (length xs) = omega arith in
    or_rest (test y) n _ (number_from test (suc n) xs) _ (number_from-last test (suc n) xs x ∙ ap (λ (k : ℕ). option_or (number_from test (suc n) xs) (where_true (test x) k)) later)

-- an index of the facts, with one fact more
pub IsIndex-last : (facts : List Fact) (f : Fact) (entries : List Entry) → IsIndex facts entries → IsIndex (facts ++ f ∷ []) (fact_noted entries f (suc (length facts)))
IsIndex-last facts f entries h = λ t.
    place_of-fact_noted t f (suc (length facts)) entries
    ∙ ap (λ o. option_or o (where_true (is_spelled t f) (suc (length facts)))) (h t)
    ∙ ap (λ k. option_or (number_from (is_spelled t) 1 facts) (where_true (is_spelled t f) k)) (let e : suc (length facts) ≡ 1 + length facts = omega arith in e)
    ∙ sym (number_from-last (is_spelled t) 1 facts f)

-- ---- an index made fact by fact

-- what is kept, and then the facts that are left, from the fact at i on
abbrev pub IsIndexSoFar : List Fact → List Entry → ℕ → Type 0
IsIndexSoFar facts entries i = (text : List ℕ) → option_or (place_of text entries) (number_from (is_spelled text) (suc i) (drop i facts)) ≡ number_from (is_spelled text) 1 facts

or_or : {X : Type 0} (o : Option X) (b : Bool) (x : X) (r : Option X) → option_or (option_or o (cond b (Some x) None)) r ≡ option_or o (cond b (Some x) r)
or_or None true x r = refl
or_or None false x r = refl
or_or (Some y) b x r = refl

-- the fact f with its number, and then the rest from the number n on
abbrev left_from : List ℕ → List Entry → Fact → ℕ → ℕ → List Fact → Option ℕ
left_from text entries f m n rest = option_or (place_of text entries) (cond (is_spelled text f) (Some m) (number_from (is_spelled text) n rest))

pub IsIndexSoFar-next : (facts : List Fact) (entries later : List Entry) (i n k : ℕ) (f : Fact) → drop i facts ≡ f ∷ drop k facts → IsIndexSoFar facts entries i → later ≡ fact_noted entries f n → n ≡ suc i → k ≡ suc i → IsIndexSoFar facts later k
IsIndexSoFar-next facts entries later i n k f e h noted number next = λ text.
    let r : Option ℕ = number_from (is_spelled text) (suc k) (drop k facts) in
    let left : List Fact → Option ℕ = λ l. option_or (place_of text entries) (number_from (is_spelled text) (suc i) l) in
    ap (λ (l : List Entry). option_or (place_of text l) r) (noted ∙ ap (λ (j : ℕ). fact_noted entries f j) number)
    ∙ ap (λ (o : Option ℕ). option_or o r) (place_of-fact_noted text f (suc i) entries)
    ∙ or_or (place_of text entries) (is_spelled text f) (suc i) r
    ∙ ap (λ (j : ℕ). left_from text entries f (suc i) j (drop k facts)) (ap suc next)
    ∙ ap left (sym e)
    ∙ h text
