-- Lists of options and the map that keeps them.
use Rattle.std.proofs.Common.{◌≡◌, ℕ, zero, suc, ◌+◌, ◌<◌, ◌≤◌, ◌^◌, Bool, true, false, not, ◌&&◌, ◌||◌, cond, List, [], ◌∷◌, ◌++◌, length, position, bytes_eq, Option, Some, None, is_some, Vec, String, Global, string_bytes, string_eq, refl, ap, ◌∙◌, arith, ltb, leb, length-append}
use Rattle.std.specs.List.{list_all, prefix_len}
use Rattle.std.specs.Map.{keys_of, lookup}
use Rattle.std.proofs.lemmas.Bool.{and_parts, and_from, or_parts, leb-true, ltb-true, lt-ltb, not-true}
use Rattle.std.proofs.lemmas.List.{map-append}
use Rattle.std.proofs.lemmas.List.Folds.{list_any-append, list_all-append}
use Rattle.std.specs.Char.{is_ascii_alphabetic}
use Rattle.std.specs.Str.{is_utf8}
use Rattle.common_lemmas.proofs.Bytes.{other_bytes}
use Rattle.fact_paths.specs.Names.{is_name, is_name_byte, IsName}
use Rattle.fact_values.specs.Texts.{IsPlainText, has_control}
use Rattle.indexmap.specs.IndexMap.{insert_entry}
use Rattle.value_text.specs.Enums.{Listed, AreLists, is_among, are_distinct, are_options, is_listed, names_of, list_place, options_at, lists_of}

-- ---- the map's words

found_here : {X : Type 0} (b c : Bool) (x : X) (o : Option X) → is_some o ≡ c → is_some (cond b (Some x) o) ≡ (b || c)
found_here true c x o h = refl
found_here false c x o h = h

-- a look-up finds a list where its name is there
pub lookup-is_among : (name : List ℕ) (es : List (String Global × Vec (List ℕ) Global)) → is_some (lookup (λ key. bytes_eq name (string_bytes key)) es) ≡ is_among name (names_of (lists_of es))
lookup-is_among name [] = refl
lookup-is_among name (e ∷ es) =
    found_here (bytes_eq name (string_bytes e.0)) _ e.1 (lookup (λ key. bytes_eq name (string_bytes key)) es) (lookup-is_among name es)

lengths : (es : List (String Global × Vec (List ℕ) Global)) → length (keys_of es) ≡ length (names_of (lists_of es))
lengths [] = refl
lengths (e ∷ es) = ap suc (lengths es)

prefixes : (name : List ℕ) (es : List (String Global × Vec (List ℕ) Global)) → prefix_len (λ key. not (bytes_eq name (string_bytes key))) (keys_of es) ≡ prefix_len (λ text. not (bytes_eq name text)) (names_of (lists_of es))
prefixes name [] = refl
prefixes name (e ∷ es) = ap (λ (n : ℕ). cond (not (bytes_eq name (string_bytes e.0))) (1 + n) 0) (prefixes name es)

-- a key's place is that of the list
pub position-list_place : (name : List ℕ) (es : List (String Global × Vec (List ℕ) Global)) → position (λ key. bytes_eq name (string_bytes key)) (keys_of es) ≡ list_place name (lists_of es)
position-list_place name es =
    let place : ℕ → ℕ → Option ℕ = λ n len. cond (ltb n len) (Some n) None in
    ap (λ (n : ℕ). place n (length (keys_of es))) (prefixes name es) ∙ ap (place (prefix_len (λ text. not (bytes_eq name text)) (names_of (lists_of es)))) (lengths es)

-- a list under a new name goes last
pub insert_entry-last : (key : String Global) (options : Vec (List ℕ) Global) (es : List (String Global × Vec (List ℕ) Global)) → is_among (string_bytes key) (names_of (lists_of es)) ≡ false → insert_entry string_eq es key options ≡ es ++ (key, options) ∷ []
insert_entry-last key options [] h = refl
insert_entry-last key options (e ∷ es) h =
    let apart = or_parts (bytes_eq (string_bytes key) (string_bytes e.0)) (is_among (string_bytes key) (names_of (lists_of es))) h in
    ap (λ b. cond b ((e.0, options) ∷ es) (e ∷ insert_entry string_eq es key options)) apart.0 ∙ ap (λ l. e ∷ l) (insert_entry-last key options es apart.1)

-- so the lists are those before and the new one
pub lists_of-last : (key : String Global) (name : List ℕ) (options : Vec (List ℕ) Global) (es later : List (String Global × Vec (List ℕ) Global)) → string_bytes key ≡ name → is_among name (names_of (lists_of es)) ≡ false → later ≡ insert_entry string_eq es key options → lists_of later ≡ lists_of es ++ record { name = name; options = options.items } ∷ []
lists_of-last key name options es later e h inserted =
    let new : is_among (string_bytes key) (names_of (lists_of es)) ≡ false = rw e h in
    let as_listed : List ℕ → Listed = λ n. record { name = n; options = options.items } in
    ap lists_of (inserted ∙ insert_entry-last key options es new) ∙ map-append _ es ((key, options) ∷ []) ∙ ap (λ n. lists_of es ++ as_listed n ∷ []) e

-- ---- one list more

distinct-last : (texts : List (List ℕ)) (text : List ℕ) → are_distinct texts ≡ true → is_among text texts ≡ false → are_distinct (texts ++ text ∷ []) ≡ true
distinct-last [] text d h = refl
distinct-last (t ∷ rest) text d h =
    let parts = and_parts (not (is_among t rest)) (are_distinct rest) d in
    let apart = or_parts (bytes_eq text t) (is_among text rest) h in
    let none : is_among t (rest ++ text ∷ []) ≡ false = list_any-append (bytes_eq t) rest (text ∷ []) ∙ rw (not-true (is_among t rest) parts.0, other_bytes text t apart.0) refl in
    and_from (not (is_among t (rest ++ text ∷ []))) (are_distinct (rest ++ text ∷ [])) (rw none refl) (distinct-last rest text parts.1 apart.1)

-- a name for the list and one or more distinct names for its options, which are new
pub record IsNew (lists : List Listed) (listed : Listed) : Type 0 where
  pub named : is_name listed.name ≡ true
  pub new : is_among listed.name (names_of lists) ≡ false
  pub names : list_all is_name listed.options ≡ true
  pub distinct : are_distinct listed.options ≡ true
  pub some : 0 < length listed.options
  pub few : length listed.options < 2 ^ 32

is_listed-new : (lists : List Listed) (listed : Listed) → IsNew lists listed → is_listed listed ≡ true
is_listed-new lists listed h =
    let options = and_from (ltb 0 (length listed.options)) (list_all is_name listed.options && are_distinct listed.options) (lt-ltb 0 (length listed.options) h.some) (and_from (list_all is_name listed.options) (are_distinct listed.options) h.names h.distinct) in
    and_from (ltb (length listed.options) 4294967296) (is_name listed.name && are_options listed.options) (lt-ltb (length listed.options) 4294967296 h.few) (and_from (is_name listed.name) (are_options listed.options) h.named options)

pub AreLists-last : (lists : List Listed) (listed : Listed) → AreLists lists → length lists + 1 < 2 ^ 32 → IsNew lists listed → AreLists (lists ++ listed ∷ [])
AreLists-last lists listed good room h = record {
  few = omega (arith, length-append lists (listed ∷ []));
  distinct = rw (map-append (λ (l : Listed). l.name) lists (listed ∷ [])) (distinct-last (names_of lists) listed.name good.distinct h.new);
  listed = list_all-append is_listed lists (listed ∷ []) ∙ and_from (list_all is_listed lists) (list_all is_listed (listed ∷ [])) good.listed (and_from (is_listed listed) true (is_listed-new lists listed h) refl);
}

-- ---- a list at its place

few_of : (listed : Listed) → is_listed listed ≡ true → length listed.options < 2 ^ 32
few_of listed h =
    let parts = and_parts (ltb (length listed.options) 4294967296) (is_name listed.name && are_options listed.options) h in
    ltb-true (length listed.options) 4294967296 parts.0

-- its options are few
pub few_at : (lists : List Listed) (i : ℕ) (options : List (List ℕ)) → list_all is_listed lists ≡ true → Some options ≡ options_at lists i → length options < 2 ^ 32
few_at [] i options h e = absurd cc
few_at (listed ∷ lists) zero options h e =
    let parts = and_parts (is_listed listed) (list_all is_listed lists) h in
    let same : options ≡ listed.options = cc in
    rw same (few_of listed parts.0)
few_at (listed ∷ lists) (suc i) options h e =
    let parts = and_parts (is_listed listed) (list_all is_listed lists) h in
    few_at lists i options parts.1 e

-- ---- lengths

-- a name has at most 64 bytes
pub name_short : (name : List ℕ) → IsName name → length name ≤ 64
name_short [] h = absurd cc
name_short (b ∷ bs) h =
    let front = and_parts (is_ascii_alphabetic b && leb (length bs) 63) (list_all is_name_byte bs) h in
    let size = and_parts (is_ascii_alphabetic b) (leb (length bs) 63) front.0 in
    let few = leb-true (length bs) 63 size.1 in
    omega (arith, few)

-- a text at most 1,000
pub text_short : (text : List ℕ) → IsPlainText text → length text ≤ 1000
text_short text h =
    let parts = and_parts (leb (length text) 1000) (is_utf8 text && not (has_control text)) h in
    leb-true (length text) 1000 parts.0
