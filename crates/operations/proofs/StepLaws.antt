-- What every evaluator says of the steps that it takes, and of a collection with no members to go through.
use Rattle.std.proofs.Common.{◌≡◌, ℕ, suc, ◌+◌, ◌<◌, ◌≤◌, List, [], ◌∷◌, length, drop, drop-cons, get_or, add-one, refl, sym, ap, subst, ◌∙◌, arith}
use Rattle.std.specs.Prelude.{IfOk, OnOk, Result}
use Rattle.std.proofs.lemmas.Result.{on_ok_weaker}
use Rattle.fact_values.specs.declared.fault.ValueFault.{ValueFault}
use Rattle.fact_values.specs.declared.memory.NoMemory.{NoMemory}
use Rattle.three_state.specs.Results.{members_of}
use Rattle.three_state.specs.declared.res.Res.{Res}
use Rattle.three_state.specs.declared.res.Res.TheVariants.{Complete, Placeholder, Incomplete, Fault}
use Rattle.three_state.specs.declared.strict.Verdict.TheVariants as verdict
use Rattle.operations.specs.Sources.{verdict_on_source}

-- a result that is one thing is also what that is equal to
pub ok_same : (r : Result Res NoMemory) (x y : Res) → x ≡ y → IfOk r (λ z. z ≡ x) → IfOk r (λ z. z ≡ y)
ok_same r x y e h = subst (λ (w : Res). IfOk r (λ z. z ≡ w)) e h

-- one step at a node, and then those of its operands
pub one_more : (old ticked new work : ℕ) → ticked ≡ old + 1 → new ≤ ticked + work → new ≤ old + suc work
one_more old ticked new work e h = omega arith

pub ok_more : (r : Result Res NoMemory) (old ticked new work : ℕ) → ticked ≡ old + 1 → OnOk r (new ≡ ticked + work) → OnOk r (new ≡ old + suc work)
ok_more r old ticked new work e h = on_ok_weaker r (λ (k : new ≡ ticked + work). omega (arith, k, e)) h

-- a collection whose verdict isn't to go on has no members
pub none_incomplete : (source : Res) → verdict_on_source source ≡ verdict.Incomplete → members_of source ≡ []
none_incomplete (Complete v) h = absurd cc
none_incomplete (Placeholder v) h = absurd cc
none_incomplete Incomplete h = refl
none_incomplete (Fault fault) h = refl

pub none_fault : (source : Res) (fault : ValueFault) → verdict_on_source source ≡ verdict.Fault fault → members_of source ≡ []
none_fault (Complete v) fault h = absurd cc
none_fault (Placeholder v) fault h = absurd cc
none_fault Incomplete fault h = refl
none_fault (Fault _) fault h = refl

-- the next member of a list, and those behind it
pub next_member : (ms : List ℕ) (i : ℕ) → i < length ms → drop i ms ≡ get_or ms i 0 ∷ drop (i + 1) ms
next_member ms i h = drop-cons ms i 0 h ∙ ap (λ (k : ℕ). get_or ms i 0 ∷ drop k ms) (sym (add-one i))
