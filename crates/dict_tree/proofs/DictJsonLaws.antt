-- What is read of a value is spelled by it, and the part that is named isn't of the form.
use Rattle.std.proofs.Common.{◌≡◌, inl, inr, ℕ, ◌+◌, List, [], ◌∷◌, ◌&&◌, Option, Some, None, option_and_then, Result, Ok, Err, refl, sym, ap, subst, ◌∙◌}
use Rattle.std.specs.Prelude.{codes}
use Rattle.std.proofs.lemmas.Option.{none-some}
use Rattle.common_lemmas.proofs.Bools.{both, chosen}
use Rattle.common_lemmas.proofs.Options.{both_some}
use Rattle.serde_json.specs.Data.{Data, Items, no_items, item}
use Rattle.serde_json.specs.Find.{as_str, as_array, as_object, get}
use Rattle.value_text.specs.Enums.{Listed}
use Rattle.dict_source.specs.Tables.{LookupTable}
use Rattle.dict_tree.specs.TableJson.{SpellTables}
use Rattle.dict_tree.specs.TableParsing.{tables_in}
use Rattle.dict_source.specs.Facts.{Fact}
use Rattle.fact_json.specs.FactJson.{AreSpelled, IsObjectOf, SpellsFact}
use Rattle.fact_json.specs.FactParsing.{has_no_other, is_optional_text, text_at, fact_of}
use Rattle.dict_source.specs.Dictionary.{Dictionary, too_many, too_deep}
use Rattle.dict_tree.specs.DictParsing.{facts_step, facts_of, if_top, tables_over, version_with, version_in, enums_in, shallow, few, with_facts, from_parts, dictionary_with, dictionary_of}
use Rattle.dict_tree.specs.DictJson.{top_keys, SpellsTop, SpellsDictionary, IsTopWrong, IsFactWrong, IsFirstWrong, IsWrongAt, ValueGives}
use Rattle.fact_json.specs.Versions.{version_names, version_of, version_text}
use Rattle.dict_tree.specs.declared.fault.TreeFault.{TreeFault}
use Rattle.dict_tree.specs.declared.fault.TreeFault.TheVariants as faults
use Rattle.fact_json.specs.declared.version.Version.{Version}
use Rattle.fact_json.specs.declared.version.Version.TheVariants as versions
use Rattle.fact_json.proofs.NameLaws.{named_so}
use Rattle.fact_json.proofs.MemberLaws.{object_is, is_object, optional_text_found, optional_text_again, text_found, array_found}
use Rattle.fact_json.proofs.FactJsonLaws.{fact_found, fact_again}
use Rattle.dict_tree.proofs.EnumJsonLaws.{enums_found, enums_again}
use Rattle.dict_tree.proofs.TableJsonLaws.{tables_found, tables_again}

-- ---- outside the facts

version_again : (version : Version) → version_of (version_text version) ≡ Some version
version_again versions.First = refl
version_again v = refl

abbrev TablesAre : Data → List Listed → List LookupTable → Type 0
TablesAre d es ts = tables_in es (get (codes "tables") d) ≡ Some ts

top_found : (d : Data) (version : Version) (es : List Listed) (ts : List LookupTable) (ds : Items) → version_in d ≡ Some version → enums_in (get (codes "enums") d) ≡ Some es → TablesAre d es ts
    → option_and_then as_array (get (codes "facts") d) ≡ Some ds → SpellsTop d version es ts ds
top_found d version es ts ds v e k f =
    let a = both_some (version_with d) (as_object d) version v in
    let b = both_some (if_top d a.0) (option_and_then version_of (text_at (codes "version") d)) version a.2 in
    let g = chosen (has_no_other (top_keys b.0) a.0 && is_optional_text (get (codes "description") d)) b.0 version b.2 in
    let p = both (has_no_other (top_keys b.0) a.0) (is_optional_text (get (codes "description") d)) g.0 in
    let t = both_some version_of (text_at (codes "version") d) version (b.1 ∙ ap Some g.1) in
    record {
      keys = subst (λ (x : Version). IsObjectOf (top_keys x) d) g.1 (object_is (top_keys b.0) d a.0 a.1 p.0);
      description = optional_text_found (get (codes "description") d) p.1;
      version = text_found (get (codes "version") d) (version_text version) (t.1 ∙ ap Some (named_so version_text version_names t.0 version refl t.2));
      enums = enums_found (get (codes "enums") d) es e;
      tables = tables_found es (get (codes "tables") d) ts k;
      facts = array_found (get (codes "facts") d) ds f;
    }

top_version : (d : Data) (version : Version) (es : List Listed) (ts : List LookupTable) (ds : Items) → SpellsTop d version es ts ds → version_in d ≡ Some version
top_version d version es ts ds h =
    let o = is_object (top_keys version) d h.keys in
    let named : option_and_then version_of (text_at (codes "version") d) ≡ Some version = ap (λ (x : Option Data). option_and_then version_of (option_and_then as_str x)) h.version ∙ version_again version in
    ap (λ (x : Data). option_and_then (version_with d) (as_object x)) o.1
    ∙ ap (option_and_then (if_top d o.0)) named ∙ rw (o.2, optional_text_again (get (codes "description") d) h.description) refl

-- ---- facts in order

abbrev done : {A : Type 0} → A → Result A TreeFault
done x = Ok x

abbrev fails : {A : Type 0} → TreeFault → Result A TreeFault
fails e = Err e

module _ (tables : List LookupTable) where
  abbrev Spelled : Version → Items → List Fact → Type 0
  Spelled version = AreSpelled (SpellsFact version tables)

  step_found : (version : Version) (n : ℕ) (d : Data) (ds : Items) (fs : List Fact) (o : Option Fact) (r : Result (List Fact) TreeFault) → fact_of version tables d ≡ o → ((gs : List Fact) → r ≡ done gs → Spelled version ds gs)
      → facts_step n o r ≡ done fs → Spelled version (item d ds) fs
  step_found version n d ds fs None r is go e = absurd cc
  step_found version n d ds fs (Some f) (Ok gs) is go e = let same : f ∷ gs ≡ fs = cc in subst (Spelled version (item d ds)) same (fact_found tables version d f is, go gs refl)
  step_found version n d ds fs (Some f) (Err x) is go e = absurd cc

  facts_found : (version : Version) (n : ℕ) (ds : Items) (fs : List Fact) → facts_of version tables n ds ≡ done fs → Spelled version ds fs
  facts_found version n no_items fs e = let same : [] ≡ fs = cc in subst (Spelled version no_items) same tt
  facts_found version n (item d ds) fs e = step_found version n d ds fs (fact_of version tables d) (facts_of version tables (n + 1) ds) refl (λ gs h. facts_found version (n + 1) ds gs h) e

  facts_again : (version : Version) (n : ℕ) (ds : Items) (fs : List Fact) → Spelled version ds fs → facts_of version tables n ds ≡ done fs
  facts_again version n no_items [] h = refl
  facts_again version n (item d ds) (f ∷ fs) h = rw (fact_again tables version d f h.0, facts_again version (n + 1) ds fs h.1) refl
  facts_again version n ds fs h = absurd h

  abbrev NamesFirst : Version → ℕ → Items → TreeFault → Type 0
  NamesFirst version n ds e = (m : ℕ) × (e ≡ faults.Shape m) × IsFirstWrong version tables n ds m

  step_wrong : (version : Version) (n : ℕ) (d : Data) (ds : Items) (e : TreeFault) (o : Option Fact) (r : Result (List Fact) TreeFault) → fact_of version tables d ≡ o → ((x : TreeFault) → r ≡ fails x → NamesFirst version (n + 1) ds x)
      → facts_step n o r ≡ fails e → NamesFirst version n (item d ds) e
  step_wrong version n d ds e None r is go h =
      let wrong : IsFactWrong version tables d = λ f s. none-some f (sym is ∙ fact_again tables version d f s) in
      (n, cc, inl (wrong, refl))
  step_wrong version n d ds e (Some f) (Ok gs) is go h = absurd cc
  step_wrong version n d ds e (Some f) (Err x) is go h =
      let same : x ≡ e = cc in
      let w = go x refl in
      (w.0, sym same ∙ w.1, inr (f, fact_found tables version d f is, w.2))

  first_found : (version : Version) (n : ℕ) (ds : Items) (e : TreeFault) → facts_of version tables n ds ≡ fails e → NamesFirst version n ds e
  first_found version n no_items e h = absurd cc
  first_found version n (item d ds) e h = step_wrong version n d ds e (fact_of version tables d) (facts_of version tables (n + 1) ds) refl (λ x g. first_found version (n + 1) ds x g) h

  wrong_fact : (version : Version) (d : Data) (o : Option Fact) → fact_of version tables d ≡ o → IsFactWrong version tables d → o ≡ None
  wrong_fact version d None is h = refl
  wrong_fact version d (Some f) is h = absurd (h f (fact_found tables version d f is))

  first_again : (version : Version) (n : ℕ) (ds : Items) (m : ℕ) → IsFirstWrong version tables n ds m → facts_of version tables n ds ≡ fails (faults.Shape m)
  first_again version n no_items m h = absurd h
  first_again version n (item d ds) m (inl h) = rw (wrong_fact version d (fact_of version tables d) refl h.0, h.1) refl
  first_again version n (item d ds) m (inr h) = rw (fact_again tables version d h.0 h.1, first_again version (n + 1) ds m h.2) refl

-- ---- what is read

shallow_given : (d : Data) (dict : Dictionary) (o : Option ℕ) → SpellsDictionary d dict → too_many dict ≡ None → too_deep dict ≡ o → ValueGives d (shallow dict o)
shallow_given d dict None s few deep = (s, record { many = few; deep = deep })
shallow_given d dict (Some n) s few deep = (dict, s, few, deep)

few_given : (d : Data) (dict : Dictionary) (o : Option ℕ) → SpellsDictionary d dict → too_many dict ≡ o → ValueGives d (few dict o)
few_given d dict None s is = shallow_given d dict (too_deep dict) s is refl
few_given d dict (Some n) s is = (dict, s, is)

facts_given : (d : Data) (version : Version) (es : List Listed) (ts : List LookupTable) (ds : Items) (r : Result (List Fact) TreeFault) → SpellsTop d version es ts ds → facts_of version ts 1 ds ≡ r → ValueGives d (with_facts es ts r)
facts_given d version es ts ds (Ok fs) top is =
    few_given d (dictionary_with es ts fs) (too_many (dictionary_with es ts fs)) (record { version = version; items = ds; top = top; facts = facts_found ts version 1 ds fs is }) refl
facts_given d version es ts ds (Err e) top is =
    let w = first_found ts version 1 ds e is in
    rw w.1 (inr (record { version = version; enums = es; tables = ts; items = ds; top = top; first = w.2 }))

-- the tables that stand over the lists
tables_spelled : (d : Data) (es : List Listed) (ts : List LookupTable) (o : Option (List Listed)) → o ≡ Some es → SpellTables es (get (codes "tables") d) ts → tables_over o d ≡ Some ts
tables_spelled d es ts o e h = rw e (tables_again es (get (codes "tables") d) ts h)

given : (d : Data) (v : Option Version) (o : Option (List Listed)) (k : Option (List LookupTable)) (i : Option Items) → version_in d ≡ v → enums_in (get (codes "enums") d) ≡ o → tables_over o d ≡ k
    → option_and_then as_array (get (codes "facts") d) ≡ i → ValueGives d (from_parts v o k i)
given d (Some version) (Some es) (Some ts) (Some ds) v e k f = facts_given d version es ts ds (facts_of version ts 1 ds) (top_found d version es ts ds v e k f) refl
given d None o k i v e t f = inl (λ version es ts ds top. none-some version (sym v ∙ top_version d version es ts ds top), refl)
given d v None k i h e t f = inl (λ version es ts ds top. none-some es (sym e ∙ enums_again (get (codes "enums") d) es top.enums), refl)
given d v o None i h e t f = inl (λ version es ts ds top. none-some ts (sym t ∙ tables_spelled d es ts o (sym e ∙ enums_again (get (codes "enums") d) es top.enums) top.tables), refl)
given d v o k None h e t f = inl (λ version es ts ds top. none-some ds (sym f ∙ ap (option_and_then as_array) top.facts), refl)

-- what is read of a value is what the value gives
pub read_given : (d : Data) (r : Result Dictionary TreeFault) → dictionary_of d ≡ r → ValueGives d r
unfolding dictionary_of
read_given d r e = subst (ValueGives d) e (given d (version_in d) (enums_in (get (codes "enums") d)) (tables_over (enums_in (get (codes "enums") d)) d) (option_and_then as_array (get (codes "facts") d)) refl refl refl refl)

-- ---- what is spelled

spelled_top : (d : Data) (version : Version) (es : List Listed) (ts : List LookupTable) (ds : Items) → SpellsTop d version es ts ds → dictionary_of d ≡ with_facts es ts (facts_of version ts 1 ds)
unfolding dictionary_of
spelled_top d version es ts ds h =
    let lists = enums_again (get (codes "enums") d) es h.enums in
    rw (top_version d version es ts ds h, tables_spelled d es ts (enums_in (get (codes "enums") d)) lists h.tables, lists, ap (option_and_then as_array) h.facts) refl

spelled_few : (d : Data) (dict : Dictionary) → SpellsDictionary d dict → dictionary_of d ≡ few dict (too_many dict)
spelled_few d dict h = spelled_top d h.version dict.enums dict.tables h.items h.top ∙ ap (with_facts dict.enums dict.tables) (facts_again dict.tables h.version 1 h.items dict.facts h.facts)

top_wrong : (d : Data) (v : Option Version) (o : Option (List Listed)) (k : Option (List LookupTable)) (i : Option Items) → IsTopWrong d → version_in d ≡ v → enums_in (get (codes "enums") d) ≡ o → tables_over o d ≡ k
    → option_and_then as_array (get (codes "facts") d) ≡ i → from_parts v o k i ≡ fails (faults.Shape 0)
top_wrong d (Some version) (Some es) (Some ts) (Some ds) h v e t f = absurd (h version es ts ds (top_found d version es ts ds v e t f))
top_wrong d v o k i h is e t f = refl

wrong_named : (d : Data) (number : ℕ) → IsWrongAt d number → dictionary_of d ≡ Err (faults.Shape number)
unfolding dictionary_of
wrong_named d number (inl h) =
    rw h.1 (top_wrong d (version_in d) (enums_in (get (codes "enums") d)) (tables_over (enums_in (get (codes "enums") d)) d) (option_and_then as_array (get (codes "facts") d)) h.0 refl refl refl refl)
wrong_named d number (inr h) = spelled_top d h.version h.enums h.tables h.items h.top ∙ ap (with_facts h.enums h.tables) (first_again h.tables h.version 1 h.items number h.first)

-- what the value gives is read of it
pub given_read : (d : Data) (r : Result Dictionary TreeFault) → ValueGives d r → dictionary_of d ≡ r
given_read d (Ok dict) h = spelled_few d dict h.0 ∙ ap (few dict) h.1.many ∙ ap (shallow dict) h.1.deep
given_read d (Err (faults.Shape number)) h = wrong_named d number h
given_read d (Err (faults.TooMany what)) h = spelled_few d h.0 h.1 ∙ ap (few h.0) h.2
given_read d (Err (faults.TooDeep number)) h = spelled_few d h.0 h.1 ∙ ap (few h.0) h.2 ∙ ap (shallow h.0) h.3
given_read d (Err e) h = absurd h
