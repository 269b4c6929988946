-- How deep the printed form nests: what is within the limits is no deeper than 100.
use Rattle.std.proofs.Common.{◌≡◌, ℕ, suc, ◌+◌, ◌*◌, ◌≤◌, List, [], ◌∷◌, Bool, true, false, not, ◌&&◌, cond, Option, Some, None, Ordering, Less, Equal, Greater, refl, subst, arith}
use Rattle.std.specs.Prelude.{codes, nat_le, option_map}
use Rattle.std.specs.Ordering.{match_ordering}
use Rattle.std.proofs.lemmas.Bool.{leb-true}
use Rattle.std.proofs.lemmas.Option.{same_Some}
use Rattle.common_lemmas.proofs.Bools.{both}
use Rattle.serde_json.specs.Data.{Data, string, array, Members, no_members, member, put, depth, items_depth, members_depth}
use Rattle.serde_json.specs.Read.{max_depth}
use Rattle.fact_values.specs.declared.fact_type.FactType.{FactType}
use Rattle.law_arithmetic.specs.declared.table.Row.{Row}
use Rattle.value_text.specs.Enums.{Listed}
use Rattle.dict_source.specs.Tree.{Literal, literal_true, Source, Sources, SourceCase, SourceCases, literal, read, switch, many, one, two, pick, no_trees, tree, no_cases, a_case, depth as tree_depth, depth_of_trees, depth_of_cases}
use Rattle.dict_source.specs.declared.operators.OneOp.{OneOp}
use Rattle.dict_source.specs.declared.operators.OneOp.TheVariants as ones
use Rattle.dict_source.specs.Tables.{LookupTable}
use Rattle.dict_source.specs.Facts.{Fact, Bound, least, option_within, conditional_within, fact_within}
use Rattle.dict_source.specs.Dictionary.{Dictionary, IsWithinLimits, number_from}
use Rattle.fact_json.specs.Json.{literal_json, one_json, json_of, json_of_trees, json_of_cases}
use Rattle.fact_json.specs.FactJson.{items_from, stated_text, limit_json, conditional_json}
use Rattle.fact_json.specs.Versions.{version_text}
use Rattle.dict_print.specs.DictionaryJson.{put_some, some_array, enum_json, row_json, table_json, fact_json, json_by_main, last_members, writable_members, derived_members, all_members, dictionary_json, printed_version}

-- ---- expressions

literal_nests : (c : Literal) → depth (literal_json c) ≤ 2
literal_nests literal_true = omega arith
literal_nests c = omega arith

operation_nests : (op : OneOp) (d : Data) → depth (one_json op d) ≤ suc (depth d)
operation_nests (ones.Lookup t) d = omega arith
operation_nests op d = omega arith

mutual
  -- a case of a switch is an array in an array, and any other node one array
  expr_nests : (t : Source) → depth (json_of t) ≤ 2 * tree_depth t
  expr_nests (literal c) = literal_nests c
  expr_nests (read r) = omega arith
  expr_nests (switch cs) = omega (arith, cases_nest cs)
  expr_nests (many op ts) = omega (arith, trees_nest ts)
  expr_nests (one op t) = omega (arith, operation_nests op (json_of t), expr_nests t)
  expr_nests (two op a b) = omega (arith, expr_nests a, expr_nests b)
  expr_nests (pick op p t) = omega (arith, expr_nests t)

  trees_nest : (ts : Sources) → items_depth (json_of_trees ts) ≤ 2 * depth_of_trees ts
  trees_nest no_trees = omega arith
  trees_nest (tree t ts) = omega (arith, expr_nests t, trees_nest ts)

  cases_nest : (cs : SourceCases) → items_depth (json_of_cases cs) ≤ 1 + 2 * depth_of_cases cs
  cases_nest no_cases = omega arith
  cases_nest (a_case t o cs) = omega (arith, expr_nests t, expr_nests o, cases_nest cs)

-- ---- members and items

ordered_nest : (o : Ordering) (a b c : Members) (n : ℕ) → members_depth a ≤ n → members_depth b ≤ n → members_depth c ≤ n → members_depth (match_ordering o a b c) ≤ n
ordered_nest Less a b c n p q r = p
ordered_nest Equal a b c n p q r = q
ordered_nest Greater a b c n p q r = r

put_nests : (k : List ℕ) (d : Data) (ms : Members) (n : ℕ) → depth d ≤ n → members_depth ms ≤ n → members_depth (put k d ms) ≤ n
put_nests k d no_members n p q = omega arith
put_nests k d (member l e ms) n p q =
    ordered_nest _ (member k d (member l e ms)) (member l d ms) (member l e (put k d ms)) n (omega arith) (omega arith) (omega (arith, put_nests k d ms n p (omega arith)))

-- what is there nests no deeper
abbrev Nests : ℕ → Option Data → Type 0
Nests n o = (d : Data) → o ≡ Some d → depth d ≤ n

put_some_nests : (k : List ℕ) (o : Option Data) (ms : Members) (n : ℕ) → Nests n o → members_depth ms ≤ n → members_depth (put_some k o ms) ≤ n
put_some_nests k None ms n p q = q
put_some_nests k (Some d) ms n p q = put_nests k d ms n (p d refl) q

items_nest : {X : Type 0} (json : X → Data) (n : ℕ) → ((x : X) → depth (json x) ≤ n) → (xs : List X) → items_depth (items_from json xs) ≤ n
items_nest json n h [] = omega arith
items_nest json n h (x ∷ xs) = omega (arith, h x, items_nest json n h xs)

some_array_nests : {X : Type 0} (json : X → Data) (n : ℕ) → ((x : X) → depth (json x) ≤ n) → (xs : List X) → Nests (suc n) (some_array json xs)
some_array_nests json n h [] d e = absurd cc
some_array_nests json n h (x ∷ xs) d e = subst (λ c. depth c ≤ suc n) (same_Some (array (items_from json (x ∷ xs))) d e) (omega (arith, items_nest json n h (x ∷ xs)))

-- ---- facts

limit_nests : (b : Bound) → depth (limit_json b) ≤ 2
limit_nests (least text) = omega arith
limit_nests b = omega arith

option_nests : (o : Option Source) → option_within 48 o ≡ true → Nests 96 (option_map json_of o)
option_nests None h d e = absurd cc
option_nests (Some t) h d e = subst (λ c. depth c ≤ 96) (same_Some (json_of t) d e) (omega (arith, expr_nests t, leb-true (tree_depth t) 48 h))

conditional_nests : (o : Option SourceCase) → conditional_within 48 o ≡ true → Nests 97 (option_map conditional_json o)
conditional_nests None h d e = absurd cc
conditional_nests (Some c) h d e =
    let p = both (nat_le (tree_depth c.0) 48) (nat_le (tree_depth c.1) 48) h in
    subst (λ x. depth x ≤ 97) (same_Some (conditional_json c) d e) (omega (arith, expr_nests c.0, expr_nests c.1, leb-true (tree_depth c.0) 48 p.0, leb-true (tree_depth c.1) 48 p.1))

weaker : (m n : ℕ) (o : Option Data) → m ≤ n → Nests m o → Nests n o
weaker m n o le h d e = omega (arith, h d e)

text_nests : (o : Option (List ℕ)) → Nests 0 (option_map string o)
text_nests None d e = absurd cc
text_nests (Some text) d e = subst (λ c. depth c ≤ 0) (same_Some (string text) d e) (omega arith)

last_nest : (f : Fact) → option_within 48 f.placeholder ≡ true → members_depth (last_members f) ≤ 97
last_nest f h =
    let words = put_some (codes "description") (option_map string f.description) no_members in
    let words_nest : members_depth words ≤ 97 = put_some_nests (codes "description") (option_map string f.description) no_members 97 (weaker 0 97 (option_map string f.description) (omega arith) (text_nests f.description)) (omega arith) in
    put_some_nests (codes "placeholder") (option_map json_of f.placeholder) words 97 (weaker 96 97 (option_map json_of f.placeholder) (omega arith) (option_nests f.placeholder h)) words_nest

by_main : (f : Fact) (m : Option Source) → option_within 48 m ≡ true → conditional_within 48 f.conditional ≡ true → option_within 48 f.placeholder ≡ true → depth (json_by_main f m) ≤ 98
by_main f None main conditional placeholder =
    let limits = put_some (codes "limits") (some_array limit_json f.limits) (last_members f) in
    let limits_nest : members_depth limits ≤ 97 = put_some_nests (codes "limits") (some_array limit_json f.limits) (last_members f) 97 (weaker 3 97 (some_array limit_json f.limits) (omega arith) (some_array_nests limit_json 2 limit_nests f.limits)) (last_nest f placeholder) in
    let stated = put (codes "writable") (string (stated_text f.stated)) limits in
    let stated_nests : members_depth stated ≤ 97 = put_nests (codes "writable") (string (stated_text f.stated)) limits 97 (omega arith) limits_nest in
    let all : members_depth (writable_members f) ≤ 97 = put_nests (codes "path") (string f.path_text) stated 97 (omega arith) stated_nests in
    omega (arith, all)
by_main f (Some t) main conditional placeholder =
    let condition = put_some (codes "conditional") (option_map conditional_json f.conditional) (last_members f) in
    let condition_nests : members_depth condition ≤ 97 = put_some_nests (codes "conditional") (option_map conditional_json f.conditional) (last_members f) 97 (conditional_nests f.conditional conditional) (last_nest f placeholder) in
    let is = put (codes "is") (json_of t) condition in
    let is_nests : members_depth is ≤ 97 = put_nests (codes "is") (json_of t) condition 97 (omega (arith, expr_nests t, leb-true (tree_depth t) 48 main)) condition_nests in
    let stated = put (codes "derived") (string (stated_text f.stated)) is in
    let stated_nests : members_depth stated ≤ 97 = put_nests (codes "derived") (string (stated_text f.stated)) is 97 (omega arith) is_nests in
    let all : members_depth (derived_members f t) ≤ 97 = put_nests (codes "path") (string f.path_text) stated 97 (omega arith) stated_nests in
    omega (arith, all)

fact_nests : (f : Fact) → fact_within 48 f ≡ true → depth (fact_json f) ≤ 98
fact_nests f h =
    let p = both (option_within 48 f.main && conditional_within 48 f.conditional) (option_within 48 f.placeholder) h in
    let q = both (option_within 48 f.main) (conditional_within 48 f.conditional) p.0 in
    by_main f f.main q.0 q.1 p.1

none_here : (b : Bool) (n : ℕ) (o : Option ℕ) → cond (not b) (Some n) o ≡ None → (b ≡ true) × (o ≡ None)
none_here true n o h = (refl, h)
none_here false n o h = absurd cc

facts_nest : (n : ℕ) (fs : List Fact) → number_from (λ f. not (fact_within 48 f)) n fs ≡ None → items_depth (items_from fact_json fs) ≤ 98
facts_nest n [] h = omega arith
facts_nest n (f ∷ fs) h =
    let p = none_here (fact_within 48 f) n (number_from (λ g. not (fact_within 48 g)) (suc n) fs) h in
    omega (arith, fact_nests f p.0, facts_nest (suc n) fs p.1)

-- ---- the whole

enum_nests : (e : Listed) → depth (enum_json e) ≤ 2
enum_nests e = omega (arith, items_nest string 0 (λ s. omega arith) e.options)

row_nests : (enums : List Listed) (from : FactType) (row : Row) → depth (row_json enums from row) ≤ 1
row_nests enums from row = omega arith

table_nests : (enums : List Listed) (t : LookupTable) → depth (table_json enums t) ≤ 3
table_nests enums t = omega (arith, items_nest (row_json enums t.from) 1 (row_nests enums t.from) t.rows)

pub printed_nests : (d : Dictionary) → IsWithinLimits d → depth (dictionary_json d) ≤ max_depth
printed_nests d h =
    let enums = put_some (codes "enums") (some_array enum_json d.enums) no_members in
    let enums_nest : members_depth enums ≤ 99 = put_some_nests (codes "enums") (some_array enum_json d.enums) no_members 99 (weaker 3 99 (some_array enum_json d.enums) (omega arith) (some_array_nests enum_json 2 enum_nests d.enums)) (omega arith) in
    let tables = put_some (codes "tables") (some_array (table_json d.enums) d.tables) enums in
    let tables_nest : members_depth tables ≤ 99 = put_some_nests (codes "tables") (some_array (table_json d.enums) d.tables) enums 99 (weaker 4 99 (some_array (table_json d.enums) d.tables) (omega arith) (some_array_nests (table_json d.enums) 3 (table_nests d.enums) d.tables)) enums_nest in
    let array_nests : depth (array (items_from fact_json d.facts)) ≤ 99 = omega (arith, facts_nest 1 d.facts h.deep) in
    let facts = put (codes "facts") (array (items_from fact_json d.facts)) tables in
    let facts_are : members_depth facts ≤ 99 = put_nests (codes "facts") (array (items_from fact_json d.facts)) tables 99 array_nests tables_nest in
    let all : members_depth (all_members d) ≤ 99 = put_nests (codes "version") (string (version_text (printed_version d))) facts 99 (omega arith) facts_are in
    omega (arith, all)
