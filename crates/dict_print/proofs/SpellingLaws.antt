-- What is printed spells the dictionary.
use Rattle.std.proofs.Common.{◌≡◌, ◌⊎◌, inl, inr, ℕ, List, [], ◌∷◌, length, Bool, true, false, not, IsTrue, ◌&&◌, Option, Some, None, refl, sym, subst, ◌∙◌, arith}
use Rattle.std.specs.Prelude.{◌==◌, ◌||◌, codes, nat_lt, option_map}
use Rattle.std.specs.List.{All, list_all, list_any}
use Rattle.std.proofs.lemmas.List.Elements.{All-head, All-tail}
use Rattle.std.proofs.lemmas.Bool.Decides.{nat_tests}
use Rattle.common_lemmas.proofs.Bools.{both, is_not, or_neither}
use Rattle.serde_json.specs.Data.{Data, string, array, object, no_members, put}
use Rattle.serde_json.specs.Find.{get}
use Rattle.fact_paths.specs.Names.{is_name}
use Rattle.fact_paths.specs.Paths.{SpellsFactPath}
use Rattle.value_text.specs.Enums.{Listed, AreLists, is_listed, are_options, are_distinct}
use Rattle.dict_source.specs.Tree.{Source, SourceCase}
use Rattle.dict_source.specs.Tables.{LookupTable}
use Rattle.dict_tree.specs.TableJson.{SpellTables}
use Rattle.dict_source.specs.Facts.{Fact, Bound}
use Rattle.dict_source.specs.Forms.{IsReadFrom, HasForm, HasOptionForm, HasConditionalForm, HasKind, IsWellFormed}
use Rattle.dict_source.specs.Dictionary.{Dictionary}
use Rattle.fact_json.specs.Json.{json_of}
use Rattle.fact_json.specs.FactParsing.{writable_keys, derived_keys}
use Rattle.fact_json.specs.FactJson.{AreSpelled, IsObjectOf, IsOptionalText, IsNamed, items_from, stated_text, limit_json, conditional_json, SpellLimits, SpellsOptional, SpellsRequired, SpellsConditional, SpellsWritable, SpellsDerived, SpellsFact}
use Rattle.dict_tree.specs.DictJson.{SpellsEnum, SpellEnums, SpellsTop, SpellsDictionary, top_keys}
use Rattle.fact_json.specs.Profile.{fact_uses_law, has_operators}
use Rattle.fact_json.specs.Versions.{version_text}
use Rattle.fact_json.specs.declared.version.Version.TheVariants as versions
use Rattle.dict_tree.proofs.EnumJsonLaws.{not_empty}
use Rattle.dict_print.specs.DictionaryJson.{put_some, some_array, enum_json, fact_json, json_by_main, writable_json, derived_json, dictionary_json, needs_law, printed_version, table_json, version_for, IsPrintable}
use Rattle.dict_print.proofs.TableLaws.{tables_spelled}

enum_spelled : (e : Listed) → is_listed e ≡ true → SpellsEnum (enum_json e) e
enum_spelled e h =
    let p = both (nat_lt (length e.options) 4294967296) (is_name e.name && are_options e.options) h in
    let n = both (is_name e.name) (are_options e.options) p.1 in
    let o = both (nat_lt 0 (length e.options)) (list_all is_name e.options && are_distinct e.options) n.1 in
    let d = both (list_all is_name e.options) (are_distinct e.options) o.1 in
    record { keys = refl; name = refl; named = n.0; options = refl; all_named = d.0; some = not_empty e.options o.0; distinct = d.1 }

enums_spelled : (es : List Listed) → list_all is_listed es ≡ true → AreSpelled SpellsEnum (items_from enum_json es) es
enums_spelled [] h = tt
enums_spelled (e ∷ es) h = let p = both (is_listed e) (list_all is_listed es) h in (enum_spelled e p.0, enums_spelled es p.1)

lists_spelled : (es : List Listed) → AreLists es → SpellEnums (some_array enum_json es) es
lists_spelled [] h = refl
lists_spelled (e ∷ es) h = (items_from enum_json (e ∷ es), refl, enums_spelled (e ∷ es) h.listed, h.distinct)

-- ---- the members of a fact

limits_spelled : (ls : List Bound) → SpellLimits (some_array limit_json ls) ls
limits_spelled [] = refl
limits_spelled (l ∷ ls) = refl

-- an object whose members are those of a writable fact, each where it is found
record WritableParts (d : Data) (text stated : List ℕ) (limits placeholder description : Option Data) : Type 0 where
  keys : IsObjectOf writable_keys d
  description_is : get (codes "description") d ≡ description
  path : get (codes "path") d ≡ Some (string text)
  stated_is : get (codes "writable") d ≡ Some (string stated)
  limits_are : get (codes "limits") d ≡ limits
  placeholder_is : get (codes "placeholder") d ≡ placeholder

writable_parts : (text stated : List ℕ) (limits placeholder description : Option Data)
    → WritableParts (object (put (codes "path") (string text) (put (codes "writable") (string stated) (put_some (codes "limits") limits (put_some (codes "placeholder") placeholder (put_some (codes "description") description no_members)))))) text stated limits placeholder description
writable_parts text stated None None None = record { keys = refl; description_is = refl; path = refl; stated_is = refl; limits_are = refl; placeholder_is = refl }
writable_parts text stated None None (Some t) = record { keys = refl; description_is = refl; path = refl; stated_is = refl; limits_are = refl; placeholder_is = refl }
writable_parts text stated None (Some p) None = record { keys = refl; description_is = refl; path = refl; stated_is = refl; limits_are = refl; placeholder_is = refl }
writable_parts text stated None (Some p) (Some t) = record { keys = refl; description_is = refl; path = refl; stated_is = refl; limits_are = refl; placeholder_is = refl }
writable_parts text stated (Some l) None None = record { keys = refl; description_is = refl; path = refl; stated_is = refl; limits_are = refl; placeholder_is = refl }
writable_parts text stated (Some l) None (Some t) = record { keys = refl; description_is = refl; path = refl; stated_is = refl; limits_are = refl; placeholder_is = refl }
writable_parts text stated (Some l) (Some p) None = record { keys = refl; description_is = refl; path = refl; stated_is = refl; limits_are = refl; placeholder_is = refl }
writable_parts text stated (Some l) (Some p) (Some t) = record { keys = refl; description_is = refl; path = refl; stated_is = refl; limits_are = refl; placeholder_is = refl }

-- the same of a fact that follows from others
record DerivedParts (d : Data) (text stated : List ℕ) (main : Data) (conditional placeholder description : Option Data) : Type 0 where
  keys : IsObjectOf (derived_keys versions.Second) d
  description_is : get (codes "description") d ≡ description
  path : get (codes "path") d ≡ Some (string text)
  stated_is : get (codes "derived") d ≡ Some (string stated)
  main_is : get (codes "is") d ≡ Some main
  conditional_is : get (codes "conditional") d ≡ conditional
  placeholder_is : get (codes "placeholder") d ≡ placeholder

derived_parts : (text stated : List ℕ) (main : Data) (conditional placeholder description : Option Data)
    → DerivedParts (object (put (codes "path") (string text) (put (codes "derived") (string stated) (put (codes "is") main (put_some (codes "conditional") conditional (put_some (codes "placeholder") placeholder (put_some (codes "description") description no_members))))))) text stated main conditional placeholder description
derived_parts text stated main None None None = record { keys = refl; description_is = refl; path = refl; stated_is = refl; main_is = refl; conditional_is = refl; placeholder_is = refl }
derived_parts text stated main None None (Some t) = record { keys = refl; description_is = refl; path = refl; stated_is = refl; main_is = refl; conditional_is = refl; placeholder_is = refl }
derived_parts text stated main None (Some p) None = record { keys = refl; description_is = refl; path = refl; stated_is = refl; main_is = refl; conditional_is = refl; placeholder_is = refl }
derived_parts text stated main None (Some p) (Some t) = record { keys = refl; description_is = refl; path = refl; stated_is = refl; main_is = refl; conditional_is = refl; placeholder_is = refl }
derived_parts text stated main (Some c) None None = record { keys = refl; description_is = refl; path = refl; stated_is = refl; main_is = refl; conditional_is = refl; placeholder_is = refl }
derived_parts text stated main (Some c) None (Some t) = record { keys = refl; description_is = refl; path = refl; stated_is = refl; main_is = refl; conditional_is = refl; placeholder_is = refl }
derived_parts text stated main (Some c) (Some p) None = record { keys = refl; description_is = refl; path = refl; stated_is = refl; main_is = refl; conditional_is = refl; placeholder_is = refl }
derived_parts text stated main (Some c) (Some p) (Some t) = record { keys = refl; description_is = refl; path = refl; stated_is = refl; main_is = refl; conditional_is = refl; placeholder_is = refl }

-- both versions that are printed have the keys of the second
printed_keys : (law : Bool) → derived_keys (version_for law) ≡ derived_keys versions.Second
printed_keys true = refl
printed_keys false = refl

-- each has the operators of the facts for which it is printed
operators_printed : (law : Bool) (f : Fact) → (law ≡ false → fact_uses_law f ≡ false) → IsTrue (has_operators (version_for law) f)
operators_printed true f none = refl
operators_printed false f none = is_not (fact_uses_law f) (none refl)

-- ---- facts

module _ (tables : List LookupTable) where
  optional_spelled : (o : Option Source) → HasOptionForm tables o → SpellsOptional tables (option_map json_of o) o
  optional_spelled None h = tt
  optional_spelled (Some t) h = (h, refl)

  conditional_spelled : (o : Option SourceCase) → HasConditionalForm tables o → SpellsConditional tables (option_map conditional_json o) o
  conditional_spelled None h = tt
  conditional_spelled (Some c) h = (h.0, h.1, refl)

  writable_spelled : (f : Fact) → IsReadFrom SpellsFactPath f.path_text f.path → f.main ≡ None → HasKind tables f None → HasOptionForm tables f.placeholder → IsNamed f.stated → SpellsWritable tables (writable_json f) f
  writable_spelled f path main kind placeholder named =
      let p = writable_parts f.path_text (stated_text f.stated) (some_array limit_json f.limits) (option_map json_of f.placeholder) (option_map string f.description) in
      record {
        keys = p.keys;
        description = p.description_is;
        path = p.path;
        read_path = path;
        stated = p.stated_is;
        kind = (kind.0, named);
        limits = subst (λ o. SpellLimits o f.limits) (sym p.limits_are) (limits_spelled f.limits);
        main = main;
        conditional = kind.1;
        placeholder = subst (λ o. SpellsOptional tables o f.placeholder) (sym p.placeholder_is) (optional_spelled f.placeholder placeholder);
      }

  main_spelled : (o : Option Data) (m : Option Source) (t : Source) → o ≡ Some (json_of t) → m ≡ Some t → HasForm tables t → SpellsRequired tables o m
  main_spelled o m t e main form = rw (e, main) (form, refl)

  derived_spelled : (law : Bool) (f : Fact) (t : Source) → IsReadFrom SpellsFactPath f.path_text f.path → f.main ≡ Some t → HasKind tables f (Some t) → HasConditionalForm tables f.conditional → HasOptionForm tables f.placeholder → IsNamed f.stated → SpellsDerived (version_for law) tables (derived_json f t) f
  derived_spelled law f t path main kind conditional placeholder named =
      let p = derived_parts f.path_text (stated_text f.stated) (json_of t) (option_map conditional_json f.conditional) (option_map json_of f.placeholder) (option_map string f.description) in
      record {
        keys = subst (λ keys. IsObjectOf keys (derived_json f t)) (sym (printed_keys law)) p.keys;
        description = p.description_is;
        path = p.path;
        read_path = path;
        stated = p.stated_is;
        kind = (kind.0, named);
        limits = kind.2;
        main = main_spelled (get (codes "is") (derived_json f t)) f.main t p.main_is main kind.1;
        conditional = subst (λ o. SpellsConditional tables o f.conditional) (sym p.conditional_is) (conditional_spelled f.conditional conditional);
        placeholder = subst (λ o. SpellsOptional tables o f.placeholder) (sym p.placeholder_is) (optional_spelled f.placeholder placeholder);
      }

  by_main : (law : Bool) (f : Fact) (m : Option Source) → f.main ≡ m → HasKind tables f m → IsReadFrom SpellsFactPath f.path_text f.path → HasConditionalForm tables f.conditional → HasOptionForm tables f.placeholder → IsNamed f.stated → SpellsWritable tables (json_by_main f m) f ⊎ SpellsDerived (version_for law) tables (json_by_main f m) f
  by_main law f None main kind path conditional placeholder named = inl (writable_spelled f path main kind placeholder named)
  by_main law f (Some t) main kind path conditional placeholder named = inr (derived_spelled law f t path main kind conditional placeholder named)

  fact_spelled : (law : Bool) (f : Fact) → IsWellFormed tables f → IsNamed f.stated → (law ≡ false → fact_uses_law f ≡ false) → SpellsFact (version_for law) tables (fact_json f) f
  fact_spelled law f h named none = record {
    form = by_main law f f.main refl h.kind h.path h.conditional h.placeholder named;
    operators = operators_printed law f none;
  }

  facts_spelled : (law : Bool) (fs : List Fact) → All (IsWellFormed tables) fs → All (λ f. IsNamed f.stated) fs → (law ≡ false → list_any fact_uses_law fs ≡ false) → AreSpelled (SpellsFact (version_for law) tables) (items_from fact_json fs) fs
  facts_spelled law [] h named none = tt
  facts_spelled law (f ∷ fs) h named none =
      let apart : law ≡ false → (fact_uses_law f ≡ false) × (list_any fact_uses_law fs ≡ false) = λ e. or_neither (fact_uses_law f) (list_any fact_uses_law fs) (none e) in (
        fact_spelled law f (All-head (IsWellFormed tables) f fs h) (All-head (λ g. IsNamed g.stated) f fs named) (λ e. (apart e).0),
        facts_spelled law fs (All-tail (IsWellFormed tables) f fs h) (All-tail (λ g. IsNamed g.stated) f fs named) (λ e. (apart e).1),
      )

-- ---- the whole

-- the law profile has a member for tables, and version 2 none
top_keyed : (law : Bool) (version : List ℕ) (facts : Data) (tables enums : Option Data) → (law ≡ false → tables ≡ None)
    → IsObjectOf (top_keys (version_for law)) (object (put (codes "version") (string version) (put (codes "facts") facts (put_some (codes "tables") tables (put_some (codes "enums") enums no_members)))))
top_keyed true version facts None None apart = refl
top_keyed true version facts None (Some e) apart = refl
top_keyed true version facts (Some t) None apart = refl
top_keyed true version facts (Some t) (Some e) apart = refl
top_keyed false version facts None None apart = refl
top_keyed false version facts None (Some e) apart = refl
top_keyed false version facts (Some t) enums apart = let none : Some t ≡ None = apart refl in absurd cc

record TopParts (version : List ℕ) (d facts : Data) (tables enums : Option Data) : Type 0 where
  description : get (codes "description") d ≡ None
  version_is : get (codes "version") d ≡ Some (string version)
  enums_are : get (codes "enums") d ≡ enums
  tables_are : get (codes "tables") d ≡ tables
  facts_are : get (codes "facts") d ≡ Some facts

top_parts : (version : List ℕ) (facts : Data) (tables enums : Option Data)
    → TopParts version (object (put (codes "version") (string version) (put (codes "facts") facts (put_some (codes "tables") tables (put_some (codes "enums") enums no_members))))) facts tables enums
top_parts version facts None None = record { description = refl; version_is = refl; enums_are = refl; tables_are = refl; facts_are = refl }
top_parts version facts None (Some e) = record { description = refl; version_is = refl; enums_are = refl; tables_are = refl; facts_are = refl }
top_parts version facts (Some t) None = record { description = refl; version_is = refl; enums_are = refl; tables_are = refl; facts_are = refl }
top_parts version facts (Some t) (Some e) = record { description = refl; version_is = refl; enums_are = refl; tables_are = refl; facts_are = refl }

-- version 2 is printed where there are no tables, and no fact has an operator of the law profile
no_tables : (enums : List Listed) (ts : List LookupTable) (some : Bool) → (not (length ts == 0) || some) ≡ false → some_array (table_json enums) ts ≡ None
no_tables enums [] some h = refl
no_tables enums (t ∷ ts) some h =
    let yes : not (length (t ∷ ts) == 0) ≡ true = grind (arith, nat_tests) in
    let wrong : false ≡ true = sym (or_neither (not (length (t ∷ ts) == 0)) some h).0 ∙ yes in
    absurd cc

no_operators : (d : Dictionary) → needs_law d ≡ false → list_any fact_uses_law d.facts ≡ false
no_operators d h = (or_neither (not (length d.tables == 0)) (list_any fact_uses_law d.facts) h).1

pub printed_spells : (d : Dictionary) → IsPrintable d → SpellsDictionary (dictionary_json d) d
printed_spells d h =
    let law = needs_law d in
    let version = version_text (printed_version d) in
    let facts = array (items_from fact_json d.facts) in
    let tables = some_array (table_json d.enums) d.tables in
    let enums = some_array enum_json d.enums in
    let p = top_parts version facts tables enums in
    let sound = h.valid.tables in
    let top : SpellsTop (dictionary_json d) (printed_version d) d.enums d.tables (items_from fact_json d.facts) = record {
      keys = top_keyed law version facts tables enums (no_tables d.enums d.tables (list_any fact_uses_law d.facts));
      description = subst IsOptionalText (sym p.description) tt;
      version = p.version_is;
      enums = subst (λ o. SpellEnums o d.enums) (sym p.enums_are) (lists_spelled d.enums h.lists);
      tables = subst (λ o. SpellTables d.enums o d.tables) (sym p.tables_are) (tables_spelled d.enums d.tables h.lists h.tables sound.typed sound.few sound.distinct);
      facts = p.facts_are;
    } in
    record { version = printed_version d; items = items_from fact_json d.facts; top = top; facts = facts_spelled d.tables law d.facts h.valid.well_formed h.named (no_operators d) }
