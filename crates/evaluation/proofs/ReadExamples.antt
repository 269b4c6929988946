-- What evaluations read, by example.
use Rattle.std.proofs.Common.{◌≡◌, ℕ, true, false, List, [], ◌∷◌, refl}
use Rattle.fact_values.specs.declared.fault.ValueFault.TheVariants.{Overflow}
use Rattle.fact_values.specs.declared.value.Value.{Value}
use Rattle.fact_values.specs.declared.value.Value.TheVariants.{Boolean, Members, Item}
use Rattle.dict_source.specs.Tree.{Tree, read, switch, many, pick, no_trees, tree, no_cases, a_case}
use Rattle.dict_source.specs.declared.operators.ManyOp.TheVariants.{All}
use Rattle.dict_source.specs.declared.operators.PickOp.TheVariants.{Filter, Find}
use Rattle.three_state.specs.declared.res.Res.{Res}
use Rattle.three_state.specs.declared.res.Res.TheVariants.{Complete, Placeholder, Incomplete, Fault}
use Rattle.evaluation.specs.Over.{Env}
use Rattle.evaluation.specs.SlotsRead.{ReadBy, fields_read, item_read, slots_read}

-- a read has a number, by which it is named, and its result; at a member it is named by both
abbrev Named : Type 0
Named = Tree Value (ℕ × Res) (ℕ × Res)

abbrev named_env : Env Value (ℕ × Res) (ℕ × Res) ℕ
named_env = record {
  constant = λ v. v;
  reads = λ at r. r.1;
  source = λ at p. p.1;
  enter = λ at p m. m;
}

abbrev by_number : ReadBy (ℕ × Res) (ℕ × Res) ℕ (ℕ × ℕ)
by_number = record {
  reads = λ at r. (r.0, at) ∷ [];
  source = λ at p. (p.0, at) ∷ [];
}

abbrev reads : Named → List (ℕ × ℕ)
reads t = slots_read named_env by_number 0 t

abbrev slot : ℕ → Res → Named
slot n r = read (n, r)

-- an All reads its operands, also behind one that decides
all_operands : reads (many All (tree (slot 1 (Complete (Boolean false))) (tree (slot 2 Incomplete) no_trees))) ≡ (1, 0) ∷ (2, 0) ∷ []
all_operands = refl

-- the second condition decides: its case is read, the first case and what follows isn't
up_to_the_case :
    reads (switch (a_case (slot 1 (Placeholder (Boolean false))) (slot 2 Incomplete) (a_case (slot 3 (Complete (Boolean true))) (slot 4 Incomplete) (a_case (slot 5 Incomplete) (slot 6 Incomplete) no_cases))))
    ≡ (1, 0) ∷ (3, 0) ∷ (4, 0) ∷ []
up_to_the_case = refl

up_to_an_unanswered_condition : reads (switch (a_case (slot 1 Incomplete) (slot 2 Incomplete) no_cases)) ≡ (1, 0) ∷ []
up_to_an_unanswered_condition = refl

-- a Filter evaluates its condition at each member, a Find at those up to the one that decides
each_member : reads (pick Filter (1, Complete (Members (4 ∷ 7 ∷ []))) (slot 2 (Fault Overflow))) ≡ (1, 0) ∷ (2, 4) ∷ (2, 7) ∷ []
each_member = refl

up_to_the_found_one : reads (pick Find (1, Complete (Members (4 ∷ 7 ∷ []))) (slot 2 (Complete (Boolean true)))) ≡ (1, 0) ∷ (2, 4) ∷ []
up_to_the_found_one = refl

no_members : reads (pick Filter (1, Incomplete) (slot 2 Incomplete)) ≡ (1, 0) ∷ []
no_members = refl

-- ---- the words of nodes that read

each_field : fields_read {X = ℕ × ℕ} (Complete (Members (4 ∷ 7 ∷ []))) ((1, 0) ∷ []) (λ m. (2, m) ∷ []) ≡ (1, 0) ∷ (2, 4) ∷ (2, 7) ∷ []
each_field = refl

field_of_the_named_member : item_read {X = ℕ × ℕ} (Placeholder (Item 7)) ((1, 0) ∷ []) (λ m. (2, m) ∷ []) ≡ (1, 0) ∷ (2, 7) ∷ []
field_of_the_named_member = refl

no_item_no_field : item_read {X = ℕ × ℕ} Incomplete ((1, 0) ∷ []) (λ m. (2, m) ∷ []) ≡ (1, 0) ∷ []
no_item_no_field = refl
