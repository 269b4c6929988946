-- What is sure of expressions over symbols, by example.
use Rattle.std.proofs.Common.{◌≡◌, ℕ, ℤ, pos, Bool, true, not, ◌&&◌, if◌then◌else◌, List, [], ◌∷◌, filter, refl}
use Rattle.fact_values.specs.declared.value.Value.{Value}
use Rattle.fact_values.specs.declared.value.Value.TheVariants.{Boolean, Dollar, Members}
use Rattle.dict_source.specs.Tree.{Tree, literal, read, switch, many, one, pick, no_trees, tree, no_cases, a_case}
use Rattle.dict_source.specs.declared.operators.ManyOp.TheVariants.{All}
use Rattle.dict_source.specs.declared.operators.OneOp.TheVariants.{Not}
use Rattle.dict_source.specs.declared.operators.PickOp.TheVariants.{Filter}
use Rattle.three_state.specs.declared.res.Res.TheVariants.{Complete}
use Rattle.evaluation.specs.Over.{over}
use Rattle.evaluation.specs.Sure.{IsKnown, KnownValues, is_sure, worth}
use Rattle.evaluation.proofs.Sureness.{sure}

-- ---- a read by its value at a member, and a collection by its members: all is known

abbrev Formula : Type 0
Formula = Tree Value (ℕ → Value) (List ℕ)

abbrev given : KnownValues Value (ℕ → Value) (List ℕ) ℕ
given = record {
  env = record {
    constant = λ v. v;
    reads = λ at r. Complete (r at);
    source = λ at p. Complete (Members p);
    enter = λ at p m. m;
  };
  knows = λ at r. true;
  value = λ at r. r at;
  has_members = λ at p. true;
  members = λ at p. p;
}

all_is_known : IsKnown given
all_is_known = record { reads = λ at r h. refl; source = λ at p h. refl }

abbrev symbol : Bool → Formula
symbol b = read (λ m. Boolean b)

abbrev dollar : ℤ → Formula
dollar cents = literal (Dollar cents)

-- married and filing jointly: 2.00, else 1.00
abbrev amount : Bool → Bool → Formula
amount married joint = switch (a_case (many All (tree (symbol married) (tree (symbol joint) no_trees))) (dollar (pos 200)) (a_case (literal (Boolean true)) (dollar (pos 100)) no_cases))

amount_is_sure : (married joint : Bool) → is_sure given 0 (amount married joint) ≡ true
amount_is_sure married joint = refl

amount_is_worth : (married joint : Bool) → worth given 0 (amount married joint) ≡ (if married && joint then Dollar (pos 200) else Dollar (pos 100))
amount_is_worth married joint = refl

amount_is : (married joint : Bool) → over given.env 0 (amount married joint) ≡ Complete (if married && joint then Dollar (pos 200) else Dollar (pos 100))
amount_is married joint = sure given all_is_known (amount married joint) 0 refl

-- the members of a list of two for whom something isn't so
others_are_worth : (so : ℕ → Bool) → worth given 0 (pick Filter (4 ∷ 7 ∷ []) (one Not (read (λ m. Boolean (so m))))) ≡ Members (filter (λ m. not (so m)) (4 ∷ 7 ∷ []))
others_are_worth so = refl

others_are_sure : (so : ℕ → Bool) → is_sure given 0 (pick Filter (4 ∷ 7 ∷ []) (one Not (read (λ m. Boolean (so m))))) ≡ true
others_are_sure so = refl
