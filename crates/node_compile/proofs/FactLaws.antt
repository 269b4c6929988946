-- The nodes of an accepted dictionary's facts stand for the facts' expressions.
use Rattle.std.proofs.Common.{◌≡◌, ◌<◌, ℕ, zero, suc, ◌+◌, false, ◌&&◌, ◌||◌, List, [], ◌∷◌, ◌++◌, length, drop, get_or, map, slice_get, Option, Some, None, refl, sym, ap, subst, ◌∙◌, add-one, append_assoc, arith}
use Rattle.std.specs.Prelude.{option_and_then, option_map}
use Rattle.std.proofs.Math.Seq.{drop-cons}
use Rattle.std.proofs.lemmas.Bool.{false_from_ne_true}
use Rattle.std.proofs.lemmas.List.{map-append}
use Rattle.std.proofs.lemmas.Option.{slice_get-map}
use Rattle.fact_values.specs.declared.fact_type.FactType.{FactType}
use Rattle.dict_source.specs.Dictionary.{Dictionary as Tree}
use Rattle.dict_source.specs.Facts.{Fact, fact_view}
use Rattle.dict_source.specs.Finding.{fact_at}
use Rattle.dict_source.specs.Tree.{Source, SourceCase}
use Rattle.dict_source.specs.declared.fact_source.FactSource.{FactSource}
use Rattle.dict_types.specs.DictFaults.{IsTypedDictionary}
use Rattle.dict_rules.specs.NoCollection.{is_list}
use Rattle.node_types.specs.StatedTypes.{type_at}
use Rattle.dict_types.specs.Typed.{numbered}
use Rattle.dict_types.specs.TypedParts.{TypedDictionary}
use Rattle.dict_rules.specs.Uses.{conditional_has_use, fact_has_use, has_use, option_has_use}
use Rattle.dict_rules.specs.WrongPlace.{has_wrong_place, is_member_path, is_misplaced}
use Rattle.evaluation.specs.Mentioned.{AllOf}
use Rattle.common_lemmas.proofs.Bools.{or_neither}
use Rattle.dict_meaning.specs.Plain.{body, conditional_body}
use Rattle.dict_meaning.proofs.FactTypes.{HasOptionType, type_of_number, typed_fact}
use Rattle.dict_meaning.proofs.NumberLaws.{fact_there}
use Rattle.dict_meaning.proofs.PlacedReads.{placed_types}
use Rattle.node_eval.specs.NodeTypes.{IsTypedCell}
use Rattle.node_eval.specs.SlotsOf.{slots_of}
use Rattle.node_eval.specs.View.{view}
use Rattle.node_compile.specs.Compiled.{IsCompiled, IsNodeOf, StandsFor, node_place}
use Rattle.node_compile.specs.Compiling.{NodeTrees, fact_trees, facts_trees, node_tree}
use Rattle.node_compile.specs.FactTrees.{trees_of}
use Rattle.node_compile.specs.declared.compiled.Compiled.{Compiled}
use Rattle.node_compile.specs.declared.fact.FactNodes.{FactNodes}
use Rattle.node_compile.proofs.GivesLaws.{same}
use Rattle.node_compile.proofs.NodeTypeLaws.{HaveFactTypes, node_type}

-- ---- an expression

each : {X : Type 0} (M : X → Type 0) → ((x : X) → M x) → (xs : List X) → AllOf M xs
each M h [] = tt
each M h (x ∷ xs) = (h x, each M h xs)

module _ (d : Tree) (fact : ℕ) (has_types : HaveFactTypes d) where
  stands_for : (t : Source) (u : FactType) → has_use (is_misplaced d fact) d fact None t ≡ false → HasOptionType (placed_types d fact) u (Some t) → StandsFor d fact t (node_tree d fact t)
  stands_for t u h k = record {
    result = λ results own inner. (same d fact results t 0 (node_place own inner) u k).0;
    weight = λ results own inner. (same d fact results t 0 (node_place own inner) u k).1;
    visits = λ results own inner. (same d fact results t 0 (node_place own inner) u k).2;
    typed = λ dom results at cells. record {
      type_of = u;
      node = node_type d fact has_types t 0 None u h k 0;
      cells = each (λ s. IsTypedCell dom (type_at d) results s) cells (slots_of results at (node_tree d fact t));
    };
  }

  is_node_of : (o : Option Source) (u : FactType) → option_has_use (is_misplaced d fact) d fact o ≡ false → HasOptionType (placed_types d fact) u o → IsNodeOf d fact o (option_map (node_tree d fact) o)
  is_node_of None u h k = tt
  is_node_of (Some t) u h k = stands_for t u h k

-- ---- a fact

body_in_place : (d : Tree) (n : ℕ) (main : Option Source) (c : Option SourceCase) → option_has_use (is_misplaced d n) d n main ≡ false → conditional_has_use (is_misplaced d n) d n c ≡ false
    → option_has_use (is_misplaced d n) d n (option_map (conditional_body c) main) ≡ false
body_in_place d n None c h k = refl
body_in_place d n (Some t) None h k = h
body_in_place d n (Some t) (Some c) h k =
    let parts = or_neither (has_use (is_misplaced d n) d n None c.0) (has_use (is_misplaced d n) d n None c.1) k in
    rw (parts.0, parts.1, h) refl

-- the body and the placeholder have no use out of its place
pub record InPlace (d : Tree) (n : ℕ) (f : Fact) : Type 0 where
  pub body : option_has_use (is_misplaced d n) d n (body f) ≡ false
  pub placeholder : option_has_use (is_misplaced d n) d n f.placeholder ≡ false

in_place : (d : Tree) (n : ℕ) (f : Fact) → has_wrong_place d n f ≡ false → InPlace d n f
in_place d n f h =
    let main = option_has_use (is_misplaced d n) d n f.main in
    let conditional = conditional_has_use (is_misplaced d n) d n f.conditional in
    let placeholder = option_has_use (is_misplaced d n) d n f.placeholder in
    let places = or_neither (is_list f.stated && is_member_path f.path) (fact_has_use (is_misplaced d n) d n f) h in
    let first = or_neither main (conditional || placeholder) places.1 in
    let rest = or_neither conditional placeholder first.1 in
    record { body = body_in_place d n f.main f.conditional first.0 rest.0; placeholder = rest.1 }

module _ (d : Tree) (checks : List (List ℕ)) (typed : TypedDictionary) (good : IsTypedDictionary d checks typed) where
  fact_types : HaveFactTypes d
  fact_types n is =
      let low : 0 < n = omega (arith, is.0) in
      let f = fact_there d.facts n low is.1 in
      let t = typed_fact d checks typed good n f.0 f.1 in
      (t.0, type_of_number d n f.0 t.0 f.1 t.1.stated)

  places_kept : (n : ℕ) (f : Fact) → fact_at d.facts n ≡ Some f → InPlace d n f
  places_kept n f e = in_place d n f (false_from_ne_true (has_wrong_place d n f) (λ h. good.0.1.1.1.1.0 n (record { fact = f; is_there = e; passes = h })))

  -- ---- all facts

  main_stands : (n : ℕ) (o : Option Fact) → fact_at d.facts n ≡ o → IsNodeOf d n (option_and_then body o) (option_and_then (λ (t : NodeTrees). t.main) (option_map (fact_trees d n) o))
  main_stands n None e = tt
  main_stands n (Some f) e =
      let t = typed_fact d checks typed good n f e in
      is_node_of d n fact_types (body f) t.0 (places_kept n f e).body t.1.body

  placeholder_stands : (n : ℕ) (o : Option Fact) → fact_at d.facts n ≡ o → IsNodeOf d n (option_and_then (λ (f : Fact). f.placeholder) o) (option_and_then (λ (t : NodeTrees). t.placeholder) (option_map (fact_trees d n) o))
  placeholder_stands n None e = tt
  placeholder_stands n (Some f) e =
      let t = typed_fact d checks typed good n f e in
      is_node_of d n fact_types f.placeholder t.0 (places_kept n f e).placeholder t.1.placeholder

-- ---- facts by their numbers

trees_at : (d : Tree) (fs : List Fact) (n i m : ℕ) → m ≡ n + i → slice_get (facts_trees d n fs) i ≡ option_map (fact_trees d m) (slice_get fs i)
trees_at d [] n i m e = refl
trees_at d (f ∷ fs) n zero m e = let one : n ≡ m = omega arith in ap (λ (k : ℕ). Some (fact_trees d k f)) one
trees_at d (f ∷ fs) n (suc i) m e = trees_at d fs (suc n) i m (omega arith)

trees_numbered : (d : Tree) (n : ℕ) → numbered (facts_trees d 1 d.facts) n ≡ option_map (fact_trees d n) (fact_at d.facts n)
trees_numbered d zero = refl
trees_numbered d (suc i) = trees_at d d.facts 1 i (suc i) (omega arith)

numbered-map : (fs : List FactNodes) (n : ℕ) → numbered (map trees_of fs) n ≡ option_map trees_of (numbered fs n)
numbered-map fs zero = refl
numbered-map fs (suc i) = slice_get-map trees_of fs i

main_in : (o : Option FactNodes) → option_and_then (λ (f : FactNodes). option_map view f.main) o ≡ option_and_then (λ (t : NodeTrees). t.main) (option_map trees_of o)
main_in None = refl
main_in (Some f) = refl

placeholder_in : (o : Option FactNodes) → option_and_then (λ (f : FactNodes). option_map view f.placeholder) o ≡ option_and_then (λ (t : NodeTrees). t.placeholder) (option_map trees_of o)
placeholder_in None = refl
placeholder_in (Some f) = refl

-- one fact more is compiled
pub next_fact : (d : Tree) (fs : List FactSource) (i : ℕ) (f : FactSource) (so_far more : List FactNodes) (x : FactNodes) (whole : List NodeTrees)
    → i < length fs → f ≡ get_or fs i f → map trees_of so_far ++ facts_trees d (i + 1) (map fact_view (drop i fs)) ≡ whole → trees_of x ≡ fact_trees d (i + 1) (fact_view f) → more ≡ so_far ++ x ∷ []
    → map trees_of more ++ facts_trees d (i + 1 + 1) (map fact_view (drop (i + 1) fs)) ≡ whole
next_fact d fs i f so_far more x whole low at before same pushed =
    let later = facts_trees d (i + 1 + 1) (map fact_view (drop (i + 1) fs)) in
    let here = fact_trees d (i + 1) (fact_view (get_or fs i f)) in
    ap (λ l. map trees_of l ++ later) pushed
    ∙ ap (λ l. l ++ later) (map-append trees_of so_far (x ∷ []))
    ∙ append_assoc (map trees_of so_far) (trees_of x ∷ []) later
    ∙ ap (λ (t : NodeTrees). map trees_of so_far ++ t ∷ later) (same ∙ ap (λ (g : FactSource). fact_trees d (i + 1) (fact_view g)) at)
    ∙ ap (λ (k : ℕ). map trees_of so_far ++ here ∷ facts_trees d k (map fact_view (drop (i + 1) fs))) (add-one (i + 1))
    ∙ ap (λ (k : ℕ). map trees_of so_far ++ here ∷ facts_trees d (suc (i + 1)) (map fact_view (drop k fs))) (add-one i)
    ∙ ap (λ (l : List FactSource). map trees_of so_far ++ facts_trees d (i + 1) (map fact_view l)) (sym (drop-cons fs i f low))
    ∙ before

-- nodes that are compiled of each fact stand for its expressions
pub is_compiled : (d : Tree) (checks : List (List ℕ)) (typed : TypedDictionary) → IsTypedDictionary d checks typed → (c : Compiled) → map trees_of c.facts.items ≡ facts_trees d 1 d.facts → IsCompiled d c
is_compiled d checks typed good c e = record {
  main = λ n. subst (IsNodeOf d n (option_and_then body (fact_at d.facts n))) (sym (main_in (numbered c.facts.items n) ∙ ap (option_and_then (λ (t : NodeTrees). t.main)) (at n))) (main_stands d checks typed good n (fact_at d.facts n) refl);
  placeholder = λ n. subst (IsNodeOf d n (option_and_then (λ (f : Fact). f.placeholder) (fact_at d.facts n))) (sym (placeholder_in (numbered c.facts.items n) ∙ ap (option_and_then (λ (t : NodeTrees). t.placeholder)) (at n))) (placeholder_stands d checks typed good n (fact_at d.facts n) refl);
}
  where
    at : (n : ℕ) → option_map trees_of (numbered c.facts.items n) ≡ option_map (fact_trees d n) (fact_at d.facts n)
    at n = sym (numbered-map c.facts.items n) ∙ ap (λ (l : List NodeTrees). numbered l n) e ∙ trees_numbered d n
