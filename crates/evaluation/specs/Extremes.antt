-- What GreaterOf and LesserOf give: one of their operands, and none is greater, or none is less.
use Rattle.std.specs.Prelude.{◌≡◌, ◌⊎◌, false, List, [], ◌∷◌}
use Rattle.std.specs.Ordering.{is_gt, is_lt}
use Rattle.fact_values.specs.declared.fact_type.FactType.{FactType}
use Rattle.fact_values.specs.declared.value.Value.{Value}
use Rattle.fact_values.specs.Values.{order_of}
use Rattle.dict_source.specs.Typing.{IsOrdered}
use Rattle.evaluation.specs.Mentioned.{AllOf}
use Rattle.evaluation.specs.Operations.{greatest_of, least_of}
use Rattle.evaluation.specs.Typed.{Domains, IsOfType}

abbrev pub IsAmong : Value → List Value → Type 0
IsAmong v [] = ⊥
IsAmong v (w ∷ ws) = (v ≡ w) ⊎ IsAmong v ws

abbrev pub AreOfType : Domains → FactType → List Value → Type 0
AreOfType d t vs = AllOf (λ v. IsOfType d v t) vs

abbrev pub IsNotGreater : Value → Value → Type 0
IsNotGreater v w = is_gt (order_of v w) ≡ false

abbrev pub IsNotLess : Value → Value → Type 0
IsNotLess v w = is_lt (order_of v w) ≡ false

-- ---- laws, of one value or more of one type with an order

abbrev pub GreatestIsGreatest : Type 0
GreatestIsGreatest =
    (d : Domains) (t : FactType) (v : Value) (vs : List Value) → IsOrdered t → AreOfType d t (v ∷ vs)
    → IsAmong (greatest_of (v ∷ vs)) (v ∷ vs) × AllOf (λ w. IsNotGreater w (greatest_of (v ∷ vs))) (v ∷ vs)

abbrev pub LeastIsLeast : Type 0
LeastIsLeast =
    (d : Domains) (t : FactType) (v : Value) (vs : List Value) → IsOrdered t → AreOfType d t (v ∷ vs)
    → IsAmong (least_of (v ∷ vs)) (v ∷ vs) × AllOf (λ w. IsNotLess w (least_of (v ∷ vs))) (v ∷ vs)
