-- Types of operands and of cases one after another.
use Rattle.std.proofs.Common.{◌≡◌, ℕ, ◌+◌, List, [], ◌∷◌, ◌++◌, Result, Ok, sym, ap, ◌∙◌}
use Rattle.fact_values.specs.declared.fact_type.FactType.{FactType}
use Rattle.dict_source.specs.Tree.{Tree, Trees, tree, Cases, a_case, size}
use Rattle.dict_source.specs.Typing.{Types}
use Rattle.node_types.specs.declared.operand_types.CaseType.{CaseType}
use Rattle.node_types.specs.Inferring.{◌>>=◌, type_of, types_of, case_types}
use Rattle.node_types.proofs.OneByOneLaws.{moved}

module _ {C R P : Type 0} (ty : Types C R P) (b : ℕ) where
  -- one operand more has a type
  pub types_next : (n k : ℕ) (left later : Trees C R P) (t : Tree C R P) (u : FactType) (out new : List FactType) (whole : Result (List FactType) ℕ) → left ≡ tree t later → k ≡ n + size t
      → (types_of ty n b left >>= λ us. Ok (out ++ us)) ≡ whole → type_of ty n b t ≡ Ok u → new ≡ out ++ u ∷ [] → (types_of ty k b later >>= λ us. Ok (new ++ us)) ≡ whole
  types_next n k left later t u out new whole is next before found same =
      ap (λ (j : ℕ). types_of ty j b later >>= λ us. Ok (new ++ us)) next
      ∙ moved out new u same (types_of ty (n + size t) b later)
      ∙ ap (λ (r : Result (List FactType) ℕ). r >>= λ us. Ok (out ++ us)) (sym (ap (types_of ty n b) is ∙ ap (λ (r : Result FactType ℕ). r >>= λ v. types_of ty (n + size t) b later >>= λ us. Ok (v ∷ us)) found))
      ∙ before

  -- and one case more
  pub cases_next : (n m k : ℕ) (left later : Cases C R P) (t o : Tree C R P) (u v : FactType) (out new : List CaseType) (whole : Result (List CaseType) ℕ) → left ≡ a_case t o later → m ≡ n + size t → k ≡ m + size o
      → (case_types ty n b left >>= λ us. Ok (out ++ us)) ≡ whole → type_of ty n b t ≡ Ok u → type_of ty m b o ≡ Ok v → new ≡ out ++ record { test = u; outcome = v } ∷ [] → (case_types ty k b later >>= λ us. Ok (new ++ us)) ≡ whole
  cases_next n m k left later t o u v out new whole is middle next before test outcome same =
      ap (λ (j : ℕ). case_types ty j b later >>= λ us. Ok (new ++ us)) (next ∙ ap (λ (j : ℕ). j + size o) middle)
      ∙ moved out new (record { test = u; outcome = v }) same (case_types ty (n + size t + size o) b later)
      ∙ ap (λ (r : Result (List CaseType) ℕ). r >>= λ us. Ok (out ++ us)) (sym (
      ap (case_types ty n b) is
      ∙ ap (λ (r : Result FactType ℕ). r >>= λ x. type_of ty (n + size t) b o >>= λ y. case_types ty (n + size t + size o) b later >>= λ us. Ok (record { test = x; outcome = y } ∷ us)) test
      ∙ ap (λ (r : Result FactType ℕ). r >>= λ y. case_types ty (n + size t + size o) b later >>= λ us. Ok (record { test = u; outcome = y } ∷ us)) (ap (λ (j : ℕ). type_of ty j b o) (sym middle) ∙ outcome)))
      ∙ before
