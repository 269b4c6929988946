-- Values of lists of expressions, one after another.
use Rattle.std.proofs.Common.{◌≡◌, List, ◌∷◌, Option, Some, None, ◌++◌, map, refl, ap, sym, ◌∙◌, append_assoc}
use Rattle.std.proofs.lemmas.List.{map-append}
use Rattle.fact_values.specs.declared.value.Value.{Value}
use Rattle.value_text.specs.Enums.{Listed}
use Rattle.dict_source.specs.Facts.{Fact, conditional_nodes, fact_nodes, option_nodes}
use Rattle.dict_source.specs.Tree.{Source, Sources, SourceCase, SourceCases, literal, read, switch, many, one, two, pick, no_trees, tree, no_cases, a_case, nodes, nodes_of_cases, nodes_of_trees}
use Rattle.dict_source.specs.View.{trees_of, cases_of}
use Rattle.node_types.specs.Constants.{values_of, tree_values, case_values, option_values, conditional_values, fact_values, node_value}

module _ (enums : List Listed) where
  -- one operand more is noted
  pub tree_next : (rest later : List Source) (t : Source) (out new whole : List (Option Value)) → rest ≡ t ∷ later → out ++ tree_values enums (trees_of rest) ≡ whole → new ≡ out ++ values_of enums t → new ++ tree_values enums (trees_of later) ≡ whole
  tree_next rest later t out new whole e h noted =
      ap (λ (l : List (Option Value)). l ++ tree_values enums (trees_of later)) noted
      ∙ append_assoc out (values_of enums t) (tree_values enums (trees_of later))
      ∙ sym (ap (λ (r : List Source). out ++ tree_values enums (trees_of r)) e)
      ∙ h

  -- one case more is noted: its test, and then its outcome
  pub case_next : (rest later : List SourceCase) (c : SourceCase) (out test new whole : List (Option Value)) → rest ≡ c ∷ later → out ++ case_values enums (cases_of rest) ≡ whole → test ≡ out ++ values_of enums c.0 → new ≡ test ++ values_of enums c.1 → new ++ case_values enums (cases_of later) ≡ whole
  case_next rest later c out test new whole e h first second =
      let left : List (Option Value) = case_values enums (cases_of later) in
      ap (λ (l : List (Option Value)). l ++ left) (second ∙ ap (λ (l : List (Option Value)). l ++ values_of enums c.1) first)
      ∙ append_assoc (out ++ values_of enums c.0) (values_of enums c.1) left
      ∙ append_assoc out (values_of enums c.0) (values_of enums c.1 ++ left)
      ∙ sym (ap (λ (r : List SourceCase). out ++ case_values enums (cases_of r)) e)
      ∙ h

  -- ---- values are those of the nodes

  joined : (xs ys : List (Option Value)) (ns ms : List Source) → xs ≡ map (node_value enums) ns → ys ≡ map (node_value enums) ms → xs ++ ys ≡ map (node_value enums) (ns ++ ms)
  joined xs ys ns ms e f = ap (λ (l : List (Option Value)). l ++ ys) e ∙ ap (λ (l : List (Option Value)). map (node_value enums) ns ++ l) f ∙ sym (map-append (node_value enums) ns ms)

  mutual
    values_of-nodes : (t : Source) → values_of enums t ≡ map (node_value enums) (nodes t)
    values_of-nodes (literal c) = refl
    values_of-nodes (read r) = refl
    values_of-nodes (switch cs) = ap (λ (l : List (Option Value)). None ∷ l) (case_values-nodes cs)
    values_of-nodes (many op ts) = ap (λ (l : List (Option Value)). None ∷ l) (tree_values-nodes ts)
    values_of-nodes (one op t) = ap (λ (l : List (Option Value)). None ∷ l) (values_of-nodes t)
    values_of-nodes (two op a b) = ap (λ (l : List (Option Value)). None ∷ l) (joined (values_of enums a) (values_of enums b) (nodes a) (nodes b) (values_of-nodes a) (values_of-nodes b))
    values_of-nodes (pick op p t) = ap (λ (l : List (Option Value)). None ∷ l) (values_of-nodes t)

    tree_values-nodes : (ts : Sources) → tree_values enums ts ≡ map (node_value enums) (nodes_of_trees ts)
    tree_values-nodes no_trees = refl
    tree_values-nodes (tree t ts) = joined (values_of enums t) (tree_values enums ts) (nodes t) (nodes_of_trees ts) (values_of-nodes t) (tree_values-nodes ts)

    case_values-nodes : (cs : SourceCases) → case_values enums cs ≡ map (node_value enums) (nodes_of_cases cs)
    case_values-nodes no_cases = refl
    case_values-nodes (a_case t o cs) =
        joined (values_of enums t) (values_of enums o ++ case_values enums cs) (nodes t) (nodes o ++ nodes_of_cases cs) (values_of-nodes t)
        (joined (values_of enums o) (case_values enums cs) (nodes o) (nodes_of_cases cs) (values_of-nodes o) (case_values-nodes cs))

  option_values-nodes : (o : Option Source) → option_values enums o ≡ map (node_value enums) (option_nodes o)
  option_values-nodes None = refl
  option_values-nodes (Some t) = values_of-nodes t

  conditional_values-nodes : (o : Option SourceCase) → conditional_values enums o ≡ map (node_value enums) (conditional_nodes o)
  conditional_values-nodes None = refl
  conditional_values-nodes (Some c) = joined (values_of enums c.0) (values_of enums c.1) (nodes c.0) (nodes c.1) (values_of-nodes c.0) (values_of-nodes c.1)

  pub fact_values-nodes : (f : Fact) → fact_values enums f ≡ map (node_value enums) (fact_nodes f)
  fact_values-nodes f =
      joined (option_values enums f.main) (conditional_values enums f.conditional ++ option_values enums f.placeholder) (option_nodes f.main) (conditional_nodes f.conditional ++ option_nodes f.placeholder) (option_values-nodes f.main)
      (joined (conditional_values enums f.conditional) (option_values enums f.placeholder) (conditional_nodes f.conditional) (option_nodes f.placeholder) (conditional_values-nodes f.conditional) (option_values-nodes f.placeholder))
