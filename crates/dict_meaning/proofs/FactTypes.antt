-- What typing says of each fact: it breaks no rule, and its body and its placeholder have the type that it states.
use Rattle.std.proofs.Common.{◌≡◌, ℕ, zero, suc, ◌+◌, Bool, true, false, ◌&&◌, ◌||◌, List, [], ◌∷◌, ◌++◌, slice_get, Option, Some, None, refl, subst, arith}
use Rattle.std.proofs.lemmas.Bool.{false_from_ne_true}
use Rattle.fact_values.specs.declared.fact_type.FactType.{FactType}
use Rattle.fact_values.specs.declared.fact_type.FactType.TheVariants.{Boolean}
use Rattle.dict_source.specs.Tree.{Source, SourceCase}
use Rattle.dict_source.specs.Facts.{Fact, option_size, conditional_size}
use Rattle.dict_source.specs.Dictionary.{Dictionary as Tree}
use Rattle.dict_source.specs.Finding.{fact_at}
use Rattle.dict_source.specs.Typing.{HasType}
use Rattle.dict_rules.specs.declared.rules.Rule.{Rule}
use Rattle.dict_rules.specs.declared.rules.Rule.TheVariants.{BadPath, DuplicatePath, WrongPlace}
use Rattle.dict_rules.specs.BadPath.{is_bad_path}
use Rattle.dict_types.specs.DictFaults.{AreTypedFacts, HaveWanted, IsKept, IsTypedDictionary, IsTypedFact, Part, conditional_parts, option_parts}
use Rattle.dict_rules.specs.DuplicatePath.{is_duplicate}
use Rattle.node_types.specs.FactTyping.{types_in}
use Rattle.dict_rules.specs.NoCollection.{is_list}
use Rattle.node_types.specs.NodeFaults.{SourceTypes}
use Rattle.dict_rules.specs.Rules.{breaks}
use Rattle.node_types.specs.StatedTypes.{stated_type, type_at}
use Rattle.dict_types.specs.TypedParts.{TypedFact, TypedDictionary}
use Rattle.dict_rules.specs.Uses.{conditional_has_use, fact_has_use, has_use, option_has_use}
use Rattle.dict_rules.specs.WrongPlace.{has_wrong_place, is_member_path, is_misplaced}
use Rattle.common_lemmas.proofs.Bools.{or_neither}
use Rattle.dict_meaning.specs.Plain.{body}
use Rattle.dict_meaning.proofs.PlacedReads.{placed_type, placed_types}

-- ---- rules

-- a fact with this number keeps the rule
kept_by : (d : Tree) (names : List (List ℕ)) (rule : Rule) → IsKept d names rule → (n : ℕ) (f : Fact) → fact_at d.facts n ≡ Some f → breaks d names rule n f ≡ false
kept_by d names rule kept n f e = false_from_ne_true (breaks d names rule n f) (λ h. kept n (record { fact = f; is_there = e; passes = h }))

-- ---- the expressions of a fact, one by one

abbrev pub HasOptionType : SourceTypes → FactType → Option Source → Type 0
HasOptionType ty want None = Unit {0}
HasOptionType ty want (Some t) = HasType ty 0 t want

abbrev pub HasConditionalType : SourceTypes → FactType → Option SourceCase → Type 0
HasConditionalType ty want None = Unit {0}
HasConditionalType ty want (Some c) = HasType ty 0 c.0 Boolean × HasType ty 0 c.1 want

option_first : (ty : SourceTypes) (n : ℕ) (want : FactType) (o : Option Source) (ps : List Part) → HaveWanted ty (option_parts n want o ++ ps) → HasOptionType ty want o × HaveWanted ty ps
option_first ty n want None ps h = (tt, h)
option_first ty n want (Some t) ps h = (h.0, h.1)

conditional_first : (ty : SourceTypes) (n : ℕ) (want : FactType) (o : Option SourceCase) (ps : List Part) → HaveWanted ty (conditional_parts n want o ++ ps) → HasConditionalType ty want o × HaveWanted ty ps
conditional_first ty n want None ps h = (tt, h)
conditional_first ty n want (Some c) ps h = ((h.0, h.1.0), h.1.1)

option_alone : (ty : SourceTypes) (n : ℕ) (want : FactType) (o : Option Source) → HaveWanted ty (option_parts n want o) → HasOptionType ty want o
option_alone ty n want None h = tt
option_alone ty n want (Some t) h = h.0

-- ---- the same in placed types

placed_option : (d : Tree) (n : ℕ) (want : FactType) (o : Option Source) → option_has_use (is_misplaced d n) d n o ≡ false → HasOptionType (types_in d n) want o → HasOptionType (placed_types d n) want o
placed_option d n want None h k = tt
placed_option d n want (Some t) h k = placed_type d n t 0 None want h k

placed_conditional : (d : Tree) (n : ℕ) (want : FactType) (o : Option SourceCase) → conditional_has_use (is_misplaced d n) d n o ≡ false → HasConditionalType (types_in d n) want o → HasConditionalType (placed_types d n) want o
placed_conditional d n want None h k = tt
placed_conditional d n want (Some c) h k =
    let parts = or_neither (has_use (is_misplaced d n) d n None c.0) (has_use (is_misplaced d n) d n None c.1) h in
    (placed_type d n c.0 0 None Boolean parts.0 k.0, placed_type d n c.1 0 None want parts.1 k.1)

-- the body is the main expression, or a Switch of the conditional and of it
body_type : (d : Tree) (n : ℕ) (want : FactType) (f : Fact) (main : Option Source) (c : Option SourceCase) → f.main ≡ main → f.conditional ≡ c → HasOptionType (placed_types d n) want main → HasConditionalType (placed_types d n) want c → HasOptionType (placed_types d n) want (body f)
body_type d n want f None c e g h k = rw e tt
body_type d n want f (Some t) None e g h k = rw (e, g) h
body_type d n want f (Some t) (Some c) e g h k = rw (e, g) (tt, (k.0, k.1, (refl, h, tt)))

-- ---- a fact of a dictionary

-- it states the type, its body and its placeholder have it, its path stands first, and no list is a member's fact
pub record IsTypedAs (d : Tree) (n : ℕ) (f : Fact) (t : FactType) : Type 0 where
  pub stated : stated_type d f ≡ Some t
  pub body : HasOptionType (placed_types d n) t (body f)
  pub placeholder : HasOptionType (placed_types d n) t f.placeholder
  pub path : is_bad_path d n f ≡ false
  pub first : is_duplicate d n f ≡ false
  pub no_member : (is_list f.stated ≡ true) → is_member_path f.path ≡ false

facts_typed : (d : Tree) (n : ℕ) (fs : List Fact) (ts : List TypedFact) → AreTypedFacts d n fs ts → (i : ℕ) (f : Fact) → slice_get fs i ≡ Some f → (m : ℕ) → m ≡ n + i → (t : FactType) × IsTypedFact d m f t
facts_typed d n [] ts h i f e m k = absurd cc
facts_typed d n (g ∷ fs) [] h i f e m k = absurd h
facts_typed d n (g ∷ fs) (t ∷ ts) h zero f e m k =
    let one : g ≡ f = cc in
    let same : n ≡ m = omega arith in
    (t.stated, subst (λ (x : ℕ). IsTypedFact d x f t.stated) same (subst (λ (x : Fact). IsTypedFact d n x t.stated) one h.0))
facts_typed d n (g ∷ fs) (t ∷ ts) h (suc i) f e m k = facts_typed d (suc n) fs ts h.2 i f e m (omega arith)

number_typed : (d : Tree) (fs : List Fact) (ts : List TypedFact) → AreTypedFacts d 1 fs ts → (n : ℕ) (f : Fact) → fact_at fs n ≡ Some f → (t : FactType) × IsTypedFact d n f t
number_typed d fs ts h zero f e = absurd cc
number_typed d fs ts h (suc i) f e = facts_typed d 1 fs ts h i f e (suc i) (omega arith)

typed_as : (d : Tree) (n : ℕ) (f : Fact) (t : FactType) → IsTypedFact d n f t → is_bad_path d n f ≡ false → is_duplicate d n f ≡ false → has_wrong_place d n f ≡ false → IsTypedAs d n f t
typed_as d n f t h path first place =
    let ty = types_in d n in
    let after_main = 1 + option_size f.main in
    let after_conditional = 1 + option_size f.main + conditional_size f.conditional in
    let main = option_first ty 1 t f.main (conditional_parts after_main t f.conditional ++ option_parts after_conditional t f.placeholder) h.1 in
    let conditional = conditional_first ty after_main t f.conditional (option_parts after_conditional t f.placeholder) main.1 in
    let placeholder = option_alone ty after_conditional t f.placeholder conditional.1 in
    let places = or_neither (is_list f.stated && is_member_path f.path) (fact_has_use (is_misplaced d n) d n f) place in
    let uses = or_neither (option_has_use (is_misplaced d n) d n f.main) (conditional_has_use (is_misplaced d n) d n f.conditional || option_has_use (is_misplaced d n) d n f.placeholder) places.1 in
    let rest = or_neither (conditional_has_use (is_misplaced d n) d n f.conditional) (option_has_use (is_misplaced d n) d n f.placeholder) uses.1 in
    record {
      stated = h.0;
      body = body_type d n t f f.main f.conditional refl refl (placed_option d n t f.main uses.0 main.0) (placed_conditional d n t f.conditional rest.0 conditional.0);
      placeholder = placed_option d n t f.placeholder rest.1 placeholder;
      path = path;
      first = first;
      no_member = λ l. not_both (is_list f.stated) (is_member_path f.path) places.0 l;
    }
  where
    not_both : (a b : Bool) → (a && b) ≡ false → a ≡ true → b ≡ false
    not_both true b h e = h
    not_both false b h e = absurd cc

-- each fact of a typed dictionary
pub typed_fact : (d : Tree) (names : List (List ℕ)) (td : TypedDictionary) → IsTypedDictionary d names td → (n : ℕ) (f : Fact) → fact_at d.facts n ≡ Some f → (t : FactType) × IsTypedAs d n f t
typed_fact d names td h n f e =
    let k = number_typed d d.facts td.facts h.1 n f e in (
      k.0,
      typed_as d n f k.0 k.1 (kept_by d names BadPath h.0.0 n f e) (kept_by d names DuplicatePath h.0.1.0 n f e) (kept_by d names WrongPlace h.0.1.1.1.1.0 n f e),
    )

-- its type, by its number
pub type_of_number : (d : Tree) (n : ℕ) (f : Fact) (t : FactType) → fact_at d.facts n ≡ Some f → stated_type d f ≡ Some t → type_at d n ≡ Some t
type_of_number d n f t e h = rw e h
