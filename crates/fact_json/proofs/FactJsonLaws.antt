-- A fact that is read is spelled, and a fact that is spelled is read.
use Rattle.std.proofs.Common.{◌≡◌, ◌⊎◌, inl, inr, ℕ, List, [], ◌∷◌, Bool, true, false, cond, Option, Some, None, option_and_then, refl, sym, ap, subst, ◌∙◌}
use Rattle.std.specs.Prelude.{codes}
use Rattle.std.proofs.lemmas.Option.{same_Some}
use Rattle.common_lemmas.proofs.Bools.{chosen}
use Rattle.common_lemmas.proofs.Options.{both_some, mapped}
use Rattle.serde_json.specs.Data.{Data, string, array, object, Items, no_items, item, Members}
use Rattle.serde_json.specs.Find.{as_str, as_array, as_object, get, get_member}
use Rattle.fact_paths.specs.Parsing.{fact_path_of}
use Rattle.fact_json.specs.declared.limits_json.LimitName.{LimitName}
use Rattle.fact_json.specs.declared.limits_json.LimitName.TheVariants as names
use Rattle.fact_json.specs.declared.version.Version.{Version}
use Rattle.dict_source.specs.Tree.{Source, SourceCase}
use Rattle.fact_json.specs.Profile.{has_operators}
use Rattle.dict_source.specs.Tables.{LookupTable}
use Rattle.dict_source.specs.Facts.{Fact, Stated, Bound, least}
use Rattle.dict_source.specs.Forms.{IsWritableType, IsDerivedType}
use Rattle.fact_json.specs.Json.{text_json}
use Rattle.fact_json.specs.FactJson.{items_from, stated_text, limit_json, IsNamed, SpellLimits, SpellsOptional, SpellsRequired, SpellsConditional, SpellsWritable, SpellsDerived, SpellsFact}
use Rattle.fact_json.specs.Parsing.{two_texts, pair_tree, tree_of}
use Rattle.fact_json.specs.StatedParsing.{writable_stated, derived_stated}
use Rattle.fact_json.specs.FactParsing.{has_no_other, limit_names, limit_name, bound_under, limit_of, limit_list, limits_in, main_in, tree_in, conditional_in, fact_from, writable_keys, derived_keys, writable_fact, derived_fact, fact_with, if_of_version, fact_of}
use Rattle.fact_json.proofs.ExprLaws.{two_texts_are, found, pair_found, again, spelled_again}
use Rattle.fact_json.proofs.NameLaws.{named_so}
use Rattle.fact_json.proofs.MemberLaws.{object_is, is_object, array_is, text_in_found, text_in_again, text_found, key_is_known}
use Rattle.fact_json.proofs.StatedLaws.{IsOf, writable_stated_found, derived_stated_found, writable_stated_again, derived_stated_again}
use Rattle.dict_source.proofs.UseLaws.{fact_path_from, fact_path_given}

-- ---- limits

abbrev limit_word : LimitName → List ℕ
limit_word names.Min = codes "Min"
limit_word names.Max = codes "Max"
limit_word names.MaxLength = codes "MaxLength"
limit_word names.Check = codes "Check"

under : (n : LimitName) (text : List ℕ) → text_json (limit_word n) text ≡ limit_json (bound_under n text)
under names.Min text = refl
under n text = refl

limit_found : (d : Data) (b : Bound) → limit_of d ≡ Some b → d ≡ limit_json b
limit_found d b e =
    let a = both_some _ (option_and_then two_texts (as_array d)) b e in
    let p = both_some two_texts (as_array d) a.0 a.1 in
    let n = mapped _ (limit_name a.0.0) b a.2 in
    let name : a.0.0 ≡ limit_word n.0 = named_so limit_word limit_names a.0.0 n.0 refl n.1 in
    rw n.2 (array_is d p.0 p.1 ∙ ap array (two_texts_are p.0 a.0 p.2) ∙ ap (λ (w : List ℕ). text_json w a.0.1) name ∙ under n.0 a.0.1)

limit_again : (b : Bound) → limit_of (limit_json b) ≡ Some b
limit_again (least text) = refl
limit_again b = refl

limits_found : (ds : Items) (bs : List Bound) → limit_list ds ≡ Some bs → ds ≡ items_from limit_json bs
limits_found no_items bs e = ap (items_from limit_json) (same_Some [] bs e)
limits_found (item d ds) bs e =
    let a = both_some _ (limit_of d) bs e in
    let b = mapped _ (limit_list ds) bs a.2 in
    rw b.2 (ap (λ (x : Data). item x ds) (limit_found d a.0 a.1) ∙ ap (item (limit_json a.0)) (limits_found ds b.0 b.1))

limits_again : (bs : List Bound) → limit_list (items_from limit_json bs) ≡ Some bs
limits_again [] = refl
limits_again (b ∷ bs) = rw (limit_again b, limits_again bs) refl

limits_in_found : (o : Option Data) (bs : List Bound) → limits_in o ≡ Some bs → SpellLimits o bs
limits_in_found None bs e = sym (same_Some [] bs e)
limits_in_found (Some d) bs e =
    let a = both_some limit_list (as_array d) bs e in
    array_is d a.0 a.1 ∙ ap array (limits_found a.0 bs a.2)

limits_in_again : (o : Option Data) (bs : List Bound) → SpellLimits o bs → limits_in o ≡ Some bs
limits_in_again None bs h = ap Some (sym h)
limits_in_again (Some d) bs h = rw h (limits_again bs)

module _ (tables : List LookupTable) where
  -- ---- expressions of a fact

  tree_in_found : (o : Option Data) (t : Option Source) → tree_in tables o ≡ Some t → SpellsOptional tables o t
  tree_in_found None t e = subst (SpellsOptional tables None) (same_Some None t e) tt
  tree_in_found (Some d) t e = let a = mapped _ (tree_of tables d) t e in rw a.2 (found tables d a.0 a.1)

  tree_in_again : (o : Option Data) (t : Option Source) → SpellsOptional tables o t → tree_in tables o ≡ Some t
  tree_in_again None None h = refl
  tree_in_again (Some d) (Some t) h = rw (spelled_again tables d t h) refl
  tree_in_again None (Some t) h = absurd h
  tree_in_again (Some d) None h = absurd h

  main_found : (o : Option Data) (t : Option Source) → main_in tables o ≡ Some t → SpellsRequired tables o t
  main_found None t e = absurd cc
  main_found (Some d) t e = let a = mapped _ (tree_of tables d) t e in rw a.2 (found tables d a.0 a.1)

  main_again : (o : Option Data) (t : Option Source) → SpellsRequired tables o t → main_in tables o ≡ Some t
  main_again (Some d) (Some t) h = rw (spelled_again tables d t h) refl
  main_again (Some d) None h = absurd h
  main_again None t h = absurd h

  conditional_in_found : (o : Option Data) (c : Option SourceCase) → conditional_in tables o ≡ Some c → SpellsConditional tables o c
  conditional_in_found None c e = subst (SpellsConditional tables None) (same_Some None c e) tt
  conditional_in_found (Some d) c e =
      let a = mapped _ (option_and_then (pair_tree tables) (as_array d)) c e in
      let b = both_some (pair_tree tables) (as_array d) a.0 a.1 in
      let h = pair_found tables b.0 a.0 b.2 in
      rw a.2 (h.0, h.1, array_is d b.0 b.1 ∙ ap array h.2)

  conditional_in_again : (o : Option Data) (c : Option SourceCase) → SpellsConditional tables o c → conditional_in tables o ≡ Some c
  conditional_in_again None None h = refl
  conditional_in_again (Some d) (Some c) h = ap (λ (x : Data). conditional_in tables (Some x)) h.2 ∙ rw (again tables c.0 h.0, again tables c.1 h.1) refl
  conditional_in_again None (Some c) h = absurd h
  conditional_in_again (Some d) None h = absurd h

  -- ---- a fact and its parts

  record HasParts (text : Option (List ℕ)) (limits : Option (List Bound)) (main : Option (Option Source)) (conditional : Option (Option SourceCase)) (placeholder : Option (Option Source)) (stated : Option Stated) (description : Option (Option (List ℕ))) (f : Fact) : Type 0 where
    text_is : text ≡ Some f.path_text
    path_is : fact_path_of f.path_text ≡ f.path
    limits_are : limits ≡ Some f.limits
    main_is : main ≡ Some f.main
    conditional_is : conditional ≡ Some f.conditional
    placeholder_is : placeholder ≡ Some f.placeholder
    stated_is : stated ≡ Some f.stated
    description_is : description ≡ Some f.description

  parts_of : (text : Option (List ℕ)) (limits : Option (List Bound)) (main : Option (Option Source)) (conditional : Option (Option SourceCase)) (placeholder : Option (Option Source)) (stated : Option Stated) (description : Option (Option (List ℕ))) (f : Fact)
      → fact_from text limits main conditional placeholder stated description ≡ Some f → HasParts text limits main conditional placeholder stated description f
  parts_of (Some text) (Some limits) (Some main) (Some conditional) (Some placeholder) (Some stated) (Some description) f e =
      subst (HasParts (Some text) (Some limits) (Some main) (Some conditional) (Some placeholder) (Some stated) (Some description)) (same_Some _ f e)
      (record { text_is = refl; path_is = refl; limits_are = refl; main_is = refl; conditional_is = refl; placeholder_is = refl; stated_is = refl; description_is = refl })
  parts_of text limits main conditional placeholder stated description f e = absurd cc

  from_its_parts : (text : Option (List ℕ)) (limits : Option (List Bound)) (main : Option (Option Source)) (conditional : Option (Option SourceCase)) (placeholder : Option (Option Source)) (stated : Option Stated) (description : Option (Option (List ℕ))) (f : Fact)
      → HasParts text limits main conditional placeholder stated description f → fact_from text limits main conditional placeholder stated description ≡ Some f
  from_its_parts text limits main conditional placeholder stated description f h =
      rw (h.text_is, h.limits_are, h.main_is, h.conditional_is, h.placeholder_is, h.stated_is, h.description_is, h.path_is) refl

  -- ---- the types that facts state

  text_at_found : (P : Stated → Type 0) (read : List ℕ → Option Stated) → ((text : List ℕ) (s : Stated) → read text ≡ Some s → IsOf P text s) → (o : Option Data) (s : Stated) → option_and_then read (option_and_then as_str o) ≡ Some s → (o ≡ Some (string (stated_text s))) × P s × IsNamed s
  text_at_found P read law o s e =
      let a = both_some read (option_and_then as_str o) s e in
      let h = law a.0 s a.2 in
      (text_found o (stated_text s) (a.1 ∙ ap Some h.2), h.0, h.1)

  -- ---- facts that are read

  writable_found : (d : Data) (ms : Members) (f : Fact) → as_object d ≡ Some ms → has_no_other writable_keys ms ≡ true → writable_fact tables d ≡ Some f → SpellsWritable tables d f
  unfolding writable_fact
  writable_found d ms f is keys e =
      let p = parts_of _ _ _ _ _ _ _ f e in
      let s = text_at_found IsWritableType writable_stated writable_stated_found (get (codes "writable") d) f.stated p.stated_is in
      record {
        keys = object_is writable_keys d ms is keys;
        description = text_in_found (get (codes "description") d) f.description p.description_is;
        path = text_found (get (codes "path") d) f.path_text p.text_is;
        read_path = fact_path_from f.path_text f.path p.path_is;
        stated = s.0;
        kind = (s.1, s.2);
        limits = limits_in_found (get (codes "limits") d) f.limits p.limits_are;
        main = sym (same_Some None f.main p.main_is);
        conditional = sym (same_Some None f.conditional p.conditional_is);
        placeholder = tree_in_found (get (codes "placeholder") d) f.placeholder p.placeholder_is;
      }

  derived_found : (version : Version) (d : Data) (ms : Members) (f : Fact) → as_object d ≡ Some ms → has_no_other (derived_keys version) ms ≡ true → derived_fact tables d ≡ Some f → SpellsDerived version tables d f
  unfolding derived_fact
  derived_found version d ms f is keys e =
      let p = parts_of _ _ _ _ _ _ _ f e in
      let s = text_at_found IsDerivedType derived_stated derived_stated_found (get (codes "derived") d) f.stated p.stated_is in
      record {
        keys = object_is (derived_keys version) d ms is keys;
        description = text_in_found (get (codes "description") d) f.description p.description_is;
        path = text_found (get (codes "path") d) f.path_text p.text_is;
        read_path = fact_path_from f.path_text f.path p.path_is;
        stated = s.0;
        kind = (s.1, s.2);
        limits = sym (same_Some [] f.limits p.limits_are);
        main = main_found (get (codes "is") d) f.main p.main_is;
        conditional = conditional_in_found (get (codes "conditional") d) f.conditional p.conditional_is;
        placeholder = tree_in_found (get (codes "placeholder") d) f.placeholder p.placeholder_is;
      }

  kind_found : (version : Version) (w k : Bool) (d : Data) (ms : Members) (f : Fact) → as_object d ≡ Some ms
      → has_no_other writable_keys ms ≡ w → has_no_other (derived_keys version) ms ≡ k → cond w (writable_fact tables d) (cond k (derived_fact tables d) None) ≡ Some f → SpellsWritable tables d f ⊎ SpellsDerived version tables d f
  kind_found version true k d ms f is we ke e = inl (writable_found d ms f is we e)
  kind_found version false true d ms f is we ke e = inr (derived_found version d ms f is ke e)
  kind_found version false false d ms f is we ke e = absurd cc

  form_found : (version : Version) (d : Data) (f : Fact) → option_and_then (fact_with version tables d) (as_object d) ≡ Some f → SpellsWritable tables d f ⊎ SpellsDerived version tables d f
  form_found version d f e =
      let a = both_some (fact_with version tables d) (as_object d) f e in
      kind_found version (has_no_other writable_keys a.0) (has_no_other (derived_keys version) a.0) d a.0 f a.1 refl refl a.2

  pub fact_found : (version : Version) (d : Data) (f : Fact) → fact_of version tables d ≡ Some f → SpellsFact version tables d f
  fact_found version d f e =
      let a = both_some (if_of_version version) (option_and_then (fact_with version tables d) (as_object d)) f e in
      let g = chosen (has_operators version a.0) a.0 f a.2 in
      subst (SpellsFact version tables d) g.1 (record { form = form_found version d a.0 a.1; operators = g.0 })

  -- ---- facts that are spelled

  writable_again : (d : Data) (f : Fact) → SpellsWritable tables d f → writable_fact tables d ≡ Some f
  unfolding writable_fact
  writable_again d f h = from_its_parts _ _ _ _ _ _ _ f (record {
    text_is = ap (option_and_then as_str) h.path;
    path_is = fact_path_given f.path_text f.path h.read_path;
    limits_are = limits_in_again (get (codes "limits") d) f.limits h.limits;
    main_is = ap Some (sym h.main);
    conditional_is = ap Some (sym h.conditional);
    placeholder_is = tree_in_again (get (codes "placeholder") d) f.placeholder h.placeholder;
    stated_is = ap (λ (o : Option Data). option_and_then writable_stated (option_and_then as_str o)) h.stated ∙ writable_stated_again f.stated h.kind.0 h.kind.1;
    description_is = text_in_again (get (codes "description") d) f.description h.description;
  })

  derived_again : (version : Version) (d : Data) (f : Fact) → SpellsDerived version tables d f → derived_fact tables d ≡ Some f
  unfolding derived_fact
  derived_again version d f h = from_its_parts _ _ _ _ _ _ _ f (record {
    text_is = ap (option_and_then as_str) h.path;
    path_is = fact_path_given f.path_text f.path h.read_path;
    limits_are = ap Some (sym h.limits);
    main_is = main_again (get (codes "is") d) f.main h.main;
    conditional_is = conditional_in_again (get (codes "conditional") d) f.conditional h.conditional;
    placeholder_is = tree_in_again (get (codes "placeholder") d) f.placeholder h.placeholder;
    stated_is = ap (λ (o : Option Data). option_and_then derived_stated (option_and_then as_str o)) h.stated ∙ derived_stated_again f.stated h.kind.0 h.kind.1;
    description_is = text_in_again (get (codes "description") d) f.description h.description;
  })

  -- a fact that states a derived type isn't writable
  not_writable : (w : Bool) (d : Data) (ms : Members) (v : Data) → d ≡ object ms → get (codes "derived") d ≡ Some v → has_no_other writable_keys ms ≡ w → w ≡ false
  not_writable false d ms v is e h = refl
  not_writable true d ms v is e h =
      let there : get_member (codes "derived") ms ≡ Some v = ap (get (codes "derived")) (sym is) ∙ e in
      let known : false ≡ true = key_is_known writable_keys (codes "derived") ms v there h in
      absurd cc

  form_again : (version : Version) (d : Data) (f : Fact) → SpellsWritable tables d f ⊎ SpellsDerived version tables d f → option_and_then (fact_with version tables d) (as_object d) ≡ Some f
  form_again version d f (inl h) =
      let o = is_object writable_keys d h.keys in
      ap (λ (x : Data). option_and_then (fact_with version tables d) (as_object x)) o.1 ∙ rw o.2 (writable_again d f h)
  form_again version d f (inr h) =
      let o = is_object (derived_keys version) d h.keys in
      let w : has_no_other writable_keys o.0 ≡ false = not_writable (has_no_other writable_keys o.0) d o.0 (string (stated_text f.stated)) o.1 h.stated refl in
      ap (λ (x : Data). option_and_then (fact_with version tables d) (as_object x)) o.1 ∙ rw (w, o.2) (derived_again version d f h)

  pub fact_again : (version : Version) (d : Data) (f : Fact) → SpellsFact version tables d f → fact_of version tables d ≡ Some f
  fact_again version d f h = ap (option_and_then (if_of_version version)) (form_again version d f h.form) ∙ rw h.operators refl
