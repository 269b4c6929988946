-- A value that is read has no more parts than its text has bytes, and one.
use Rattle.std.proofs.Common.{◌≡◌, ℕ, suc, ◌+◌, ◌≤◌, ◌<◌, ◌^◌, Bool, true, false, List, [], ◌∷◌, ◌++◌, length, Option, Some, None, option_map, option_and_then, refl, sym, ap, subst, arith, length-append}
use Rattle.std.specs.Prelude.{⊤, codes}
use Rattle.std.specs.Ordering.{match_ordering, nat_cmp}
use Rattle.std.specs.Cmp.Lexicographic.{slice_cmp}
use Rattle.std.specs.declared.cmp.Ordering.{Ordering}
use Rattle.std.specs.declared.cmp.Ordering.TheVariants.{Less, Equal, Greater}
use Rattle.json.specs.Token.{Token}
use Rattle.json.specs.Lex.{Lexeme, token, comma, colon, Class, quote, class, Mode, between, in_word, in_string, in_escape, lex_byte, lex, Place, fresh, after_value, after_comma, after_key, begins_colon, may_begin, may_close, if_allowed, place_token, punctuate, tokens}
use Rattle.json.specs.Json as json
use Rattle.json.specs.Tree.{json_tokens, items_tokens, members_tokens}
use Rattle.json.proofs.Unique.Spelling.{value-json_tokens_back}
use Rattle.serde_json.specs.Data.{Data, null, boolean, number, string, array, object, Items, no_items, item, Members, no_members, member, put}
use Rattle.serde_json.specs.Find.{as_array, get, get_member}
use Rattle.serde_json.specs.Read.{number_of, of_json, of_items, of_members, max_depth, read}
use Rattle.serde_json.specs.View.{items_view}
use Rattle.serde_json.specs.declared.value.Value.{Value}
use Rattle.dict_tree.specs.Counting.{count_of, HasFewFacts}
use Rattle.dict_tree.specs.DictParsing.{IsJson, max_bytes}
use Rattle.fact_json.proofs.MemberLaws.{array_found}

-- ---- the parts of a value

abbrev mutual
  weight : Data → ℕ
  weight null = 1
  weight (boolean b) = 1
  weight (number n) = 1
  weight (string s) = 1
  weight (array ds) = suc (items_weight ds)
  weight (object ms) = suc (members_weight ms)

  items_weight : Items → ℕ
  items_weight no_items = 0
  items_weight (item d ds) = weight d + items_weight ds

  members_weight : Members → ℕ
  members_weight no_members = 0
  members_weight (member k d ms) = weight d + members_weight ms

some_weight : (d : Data) → 1 ≤ weight d
some_weight null = omega arith
some_weight d = omega arith

count-weight : (ds : Items) → count_of ds ≤ items_weight ds
count-weight no_items = omega arith
count-weight (item d ds) = omega (arith, some_weight d, count-weight ds)

abbrev AtMost : {A : Type 0} → (A → ℕ) → ℕ → Option A → Type 0
AtMost f n None = ⊤
AtMost f n (Some a) = f a ≤ n

mapped : {A B : Type 0} (f : A → ℕ) (g : B → ℕ) (m n : ℕ) (h : A → B) → ((a : A) → f a ≤ m → g (h a) ≤ n) → (o : Option A) → AtMost f m o → AtMost g n (option_map h o)
mapped f g m n h k None x = tt
mapped f g m n h k (Some a) x = k a x

chained : {A B : Type 0} (f : A → ℕ) (g : B → ℕ) (m n : ℕ) (h : A → Option B) → ((a : A) → f a ≤ m → AtMost g n (h a)) → (o : Option A) → AtMost f m o → AtMost g n (option_and_then h o)
chained f g m n h k None x = tt
chained f g m n h k (Some a) x = k a x

flat : {A : Type 0} (o : Option A) → AtMost (λ _. 0) 0 o
flat None = tt
flat (Some a) = omega arith

-- ---- no more than tokens

by_order : (o : Ordering) (a b c : Members) (n : ℕ) → members_weight a ≤ n → members_weight b ≤ n → members_weight c ≤ n → members_weight (match_ordering o a b c) ≤ n
by_order Less a b c n p q r = p
by_order Equal a b c n p q r = q
by_order Greater a b c n p q r = r

weight-put : (k : List ℕ) (d : Data) (ms : Members) → members_weight (put k d ms) ≤ weight d + members_weight ms
weight-put k d no_members = omega arith
weight-put k d (member l e ms) =
    by_order _ (member k d (member l e ms)) (member l d ms) (member l e (put k d ms)) (weight d + members_weight (member l e ms)) (omega arith) (omega arith) (omega (arith, weight-put k d ms))

mutual
  weight-of_json : (j : json.Json) (n : ℕ) → length (json_tokens j) ≤ n → AtMost weight n (of_json j)
  weight-of_json json.null n h = omega arith
  weight-of_json (json.boolean b) n h = omega arith
  weight-of_json (json.number s) n h = mapped (λ _. 0) weight 0 n number (λ a x. omega arith) (number_of s) (flat _)
  weight-of_json (json.string s) n h = omega arith
  weight-of_json (json.array js) n h = mapped items_weight weight (length (items_tokens js)) n array (λ a x. omega arith) _ (weight-of_items js _ (omega arith))
  weight-of_json (json.object ms) n h =
      mapped members_weight weight (length (members_tokens ms)) n object (λ a x. omega arith) _ (weight-of_members ms no_members _ (omega arith))

  weight-of_items : (js : json.Items) (n : ℕ) → length (items_tokens js) ≤ n → AtMost items_weight n (of_items js)
  weight-of_items json.no_items n h = omega arith
  weight-of_items (json.item j js) n h =
      let both = length-append (json_tokens j) (items_tokens js) in
      chained weight items_weight (length (json_tokens j)) n _ (λ d x. mapped items_weight items_weight (length (items_tokens js)) n (item d) (λ ds y. omega arith) _ (weight-of_items js _ (omega arith))) _ (weight-of_json j _ (omega arith))

  weight-of_members : (ms : json.Members) (found : Members) (n : ℕ) → length (members_tokens ms) + members_weight found ≤ n → AtMost members_weight n (of_members ms found)
  weight-of_members json.no_members found n h = omega arith
  weight-of_members (json.member k j ms) found n h =
      let both = length-append (json_tokens j) (members_tokens ms) in
      chained weight members_weight (length (json_tokens j)) n _ (λ d x. weight-of_members ms (put k d found) n (omega (arith, weight-put k d found))) _ (weight-of_json j _ (omega arith))

last_within : (o : Option (json.Json × List Token)) (n : ℕ) → ((j : json.Json) (r : List Token) → o ≡ Some (j, r) → length (json_tokens j) ≤ n)
    → AtMost (λ j. length (json_tokens j)) n (option_and_then (λ p. json.if_last p.0 p.1) o)
last_within None n h = tt
last_within (Some (j, [])) n h = h j [] refl
last_within (Some (j, t ∷ r)) n h = tt

-- ---- no more tokens than bytes, and one

one_lexeme : (m : Mode) (c : Class) (x : ℕ) (xs : List ℕ) (k : Mode → List Lexeme) (n : ℕ) → ((next : Mode) → length (k next) ≤ n) → length (lex_byte m c x xs k) ≤ suc n
one_lexeme between quote x xs k n h = omega (arith, h in_string)
one_lexeme between c x xs k n h = omega (arith, h between, h in_word)
one_lexeme in_word quote x xs k n h = omega (arith, h in_word)
one_lexeme in_word c x xs k n h = omega (arith, h between, h in_word)
one_lexeme in_string quote x xs k n h = omega (arith, h between)
one_lexeme in_string c x xs k n h = omega (arith, h in_escape, h in_string)
one_lexeme in_escape c x xs k n h = omega (arith, h in_string)

length-lex : (m : Mode) (xs : List ℕ) → length (lex m xs) ≤ length xs
unfolding lex
length-lex m [] = omega arith
length-lex m (x ∷ xs) = one_lexeme m (class x) x xs (λ next. lex next xs) (length xs) (λ next. length-lex next xs)

allowed : (b : Bool) (t : Token) (k : Place → List Token) (next : Place) (n : ℕ) → length (k next) ≤ n → length (if_allowed b t k next) ≤ suc n
allowed true t k next n h = omega arith
allowed false t k next n h = omega arith

one_token : (p : Place) (t : Token) (b : Bool) (k : Place → List Token) (n : ℕ) → ((next : Place) → length (k next) ≤ n) → length (place_token p t b k) ≤ suc n
one_token p Token.begin_object b k n h = allowed (may_begin p) Token.begin_object k fresh n (h fresh)
one_token p Token.end_object b k n h = allowed (may_close p) Token.end_object k after_value n (h after_value)
one_token p Token.begin_array b k n h = allowed (may_begin p) Token.begin_array k fresh n (h fresh)
one_token p Token.end_array b k n h = allowed (may_close p) Token.end_array k after_value n (h after_value)
one_token p (Token.key s) b k n h = omega arith
one_token p (Token.string s) true k n h = allowed (may_begin p) (Token.key s) k after_key n (h after_key)
one_token p (Token.string s) false k n h = allowed (may_begin p) (Token.string s) k after_value n (h after_value)
one_token p (Token.number s) b k n h = allowed (may_begin p) (Token.number s) k after_value n (h after_value)
one_token p (Token.boolean v) b k n h = allowed (may_begin p) (Token.boolean v) k after_value n (h after_value)
one_token p Token.null b k n h = allowed (may_begin p) Token.null k after_value n (h after_value)
one_token p Token.bad b k n h = omega arith

length-punctuate : (p : Place) (ls : List Lexeme) → length (punctuate p ls) ≤ suc (length ls)
unfolding punctuate
length-punctuate fresh [] = omega arith
length-punctuate p [] = omega arith
length-punctuate fresh (token t ∷ ls) = one_token fresh t (begins_colon ls) (λ next. punctuate next ls) (suc (length ls)) (λ next. length-punctuate next ls)
length-punctuate p (token t ∷ ls) = one_token p t (begins_colon ls) (λ next. punctuate next ls) (suc (length ls)) (λ next. length-punctuate next ls)
length-punctuate after_value (comma ∷ ls) = omega (arith, length-punctuate after_comma ls)
length-punctuate p (comma ∷ ls) = omega arith
length-punctuate after_key (colon ∷ ls) = omega (arith, length-punctuate fresh ls)
length-punctuate p (colon ∷ ls) = omega arith

length-tokens : (text : List ℕ) → length (tokens text) ≤ suc (length text)
length-tokens text = omega (arith, length-punctuate fresh (lex between text), length-lex between text)

front : (j : json.Json) (ts r : List Token) → ts ≡ json_tokens j ++ r → length (json_tokens j) ≤ length ts
front j ts r e = omega (arith, ap length e, length-append (json_tokens j) r)

weight-read : (text : List ℕ) (d : Data) → read text ≡ Some d → weight d ≤ suc (length text)
weight-read text d e =
    let n = suc (length text) in
    let whole : (j : json.Json) (r : List Token) → json.value max_depth (tokens text) ≡ Some (j, r) → length (json_tokens j) ≤ n =
    λ j r h. omega (arith, front j (tokens text) r (value-json_tokens_back max_depth (tokens text) r j h), length-tokens text) in
    subst (AtMost weight n) e (chained (λ j. length (json_tokens j)) weight n n of_json (λ j x. weight-of_json j n x) _ (last_within _ n whole))

-- ---- the facts

of_one : (o : Ordering) (a c : Option Data) (e : Data) (n : ℕ) → AtMost weight n a → weight e ≤ n → AtMost weight n c → AtMost weight n (match_ordering o a (Some e) c)
of_one Less a c e n p q r = p
of_one Equal a c e n p q r = q
of_one Greater a c e n p q r = r

more : (m n : ℕ) (o : Option Data) → m ≤ n → AtMost weight m o → AtMost weight n o
more m n None le h = tt
more m n (Some d) le h = omega arith

weight-get_member : (k : List ℕ) (ms : Members) → AtMost weight (members_weight ms) (get_member k ms)
weight-get_member k no_members = tt
weight-get_member k (member l e ms) =
    let later = more (members_weight ms) (members_weight (member l e ms)) (get_member k ms) (omega arith) (weight-get_member k ms) in
    of_one (slice_cmp nat_cmp k l) (get_member k ms) (get_member k ms) e (members_weight (member l e ms)) later (omega arith) later

weight-get : (k : List ℕ) (d : Data) → AtMost weight (weight d) (get k d)
weight-get k (object ms) = more (members_weight ms) (suc (members_weight ms)) (get_member k ms) (omega arith) (weight-get_member k ms)
weight-get k d = tt

pub few_facts : (bytes : List ℕ) (d : Data) → length bytes ≤ max_bytes → IsJson bytes d → HasFewFacts d
few_facts bytes d le h ds e =
    let found : get (codes "facts") d ≡ Some (array ds) = array_found (get (codes "facts") d) ds e in
    let part : suc (items_weight ds) ≤ weight d = subst (AtMost weight (weight d)) found (weight-get (codes "facts") d) in
    omega (arith, count-weight ds, weight-read bytes d h.1)

count_of-items_view : (vs : List Value) → count_of (items_view vs) ≡ length vs
count_of-items_view [] = refl
count_of-items_view (v ∷ vs) = ap suc (count_of-items_view vs)

-- so those in memory are few too
pub few_items : (d : Data) (vs xs : List Value) → HasFewFacts d → Some (items_view vs) ≡ option_and_then as_array (get (codes "facts") d) → xs ≡ vs → length xs < 2 ^ 32
few_items d vs xs h is same = omega (arith, h (items_view vs) (sym is), count_of-items_view vs, ap length same)
