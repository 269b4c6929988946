-- A fact that is spelled is well formed.
use Rattle.std.proofs.Common.{◌≡◌, ◌⊎◌, inl, inr, Option, Some, None, List, [], ◌∷◌, sym, subst}
use Rattle.std.specs.List.{All}
use Rattle.std.proofs.lemmas.List.Elements.{All-nil, All-cons}
use Rattle.serde_json.specs.Data.{Data, Items, no_items, item}
use Rattle.fact_json.specs.declared.version.Version.{Version}
use Rattle.dict_source.specs.Tree.{Source, SourceCase}
use Rattle.dict_source.specs.Tables.{LookupTable}
use Rattle.dict_source.specs.Facts.{Fact}
use Rattle.dict_source.specs.Forms.{HasKind, HasOptionForm, HasConditionalForm, IsDerivedType, IsWellFormed}
use Rattle.fact_json.specs.FactJson.{SpellsOptional, SpellsRequired, SpellsConditional, SpellsWritable, SpellsDerived, SpellsFact, AreSpelled}

module _ (tables : List LookupTable) where
  optional_form : (o : Option Data) (t : Option Source) → SpellsOptional tables o t → HasOptionForm tables t
  optional_form o None h = tt
  optional_form None (Some t) h = absurd h
  optional_form (Some d) (Some t) h = h.0

  conditional_form : (o : Option Data) (c : Option SourceCase) → SpellsConditional tables o c → HasConditionalForm tables c
  conditional_form o None h = tt
  conditional_form None (Some c) h = absurd h
  conditional_form (Some d) (Some c) h = (h.0, h.1)

  derived_kind : (f : Fact) (o : Option Data) (t : Option Source) → IsDerivedType f.stated → f.limits ≡ [] → SpellsRequired tables o t → HasKind tables f t
  derived_kind f (Some d) (Some t) kind limits h = (kind, h.0, limits)
  derived_kind f (Some d) None kind limits h = absurd h
  derived_kind f None t kind limits h = absurd h

  form_is_well_formed : (version : Version) (d : Data) (f : Fact) → SpellsWritable tables d f ⊎ SpellsDerived version tables d f → IsWellFormed tables f
  form_is_well_formed version d f (inl h) = record {
    path = h.read_path;
    kind = subst (HasKind tables f) (sym h.main) (h.kind.0, h.conditional);
    conditional = subst (HasConditionalForm tables) (sym h.conditional) tt;
    placeholder = optional_form _ f.placeholder h.placeholder;
  }
  form_is_well_formed version d f (inr h) = record {
    path = h.read_path;
    kind = derived_kind f _ f.main h.kind.0 h.limits h.main;
    conditional = conditional_form _ f.conditional h.conditional;
    placeholder = optional_form _ f.placeholder h.placeholder;
  }

  pub fact_is_well_formed : (version : Version) (d : Data) (f : Fact) → SpellsFact version tables d f → IsWellFormed tables f
  fact_is_well_formed version d f h = form_is_well_formed version d f h.form

  pub facts_are_well_formed : (version : Version) (ds : Items) (fs : List Fact) → AreSpelled (SpellsFact version tables) ds fs → All (IsWellFormed tables) fs
  facts_are_well_formed version no_items [] h = All-nil (IsWellFormed tables)
  facts_are_well_formed version (item d ds) (f ∷ fs) h = All-cons (IsWellFormed tables) f fs (fact_is_well_formed version d f h.0) (facts_are_well_formed version ds fs h.1)
  facts_are_well_formed version ds fs h = absurd h
