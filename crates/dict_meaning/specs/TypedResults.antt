-- Plain evaluation gives values of the facts' types.
use Rattle.std.specs.Prelude.{◌≡◌, ℕ, List, Some}
use Rattle.fact_values.specs.declared.fact_type.FactType.{FactType}
use Rattle.fact_values.specs.declared.slot.Slot.{Slot}
use Rattle.node_types.specs.StatedTypes.{type_at}
use Rattle.three_state.specs.declared.res.Res.{Res}
use Rattle.evaluation.specs.Typed.{IsResOfType}
use Rattle.answers.specs.Answered.{Answered}
use Rattle.dict_meaning.specs.Accepted.{Accepted, IsAccepted}
use Rattle.dict_meaning.specs.Fits.{AnswersFit, domains}
use Rattle.dict_meaning.specs.Plain.{plain}

-- so a Collection or an Item names members that stand
abbrev pub TypedResults : Type 0
TypedResults =
    (names : List (List ℕ)) (d : Accepted) → IsAccepted names d → (a : Answered) → AnswersFit d.tree a
    → (s : Slot) (r : Res) → plain d a s ≡ Some r → (t : FactType) → type_at d.tree s.fact ≡ Some t → IsResOfType (domains d.tree a) r t
