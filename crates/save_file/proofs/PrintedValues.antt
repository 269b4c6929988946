-- What is printed of a value that fits is read as the value, and is part of a line.
use Rattle.save_file.proofs.Common.{Accepted, Answer, Answered, AnswersFit, AreLists, FactType, IsAccepted, IsSome, List, Override, Side, Slot, Some, Tree, Value, ap, both, domains, is_answered_by, is_given, is_overridden_by, option_and_then, option_at, or_left, or_right, printed, refl, stands, subst, takes, type_at, value_at, value_of, value_printed, value_spelled, ℕ, ◌∙◌, ◌≡◌}
use Rattle.std.proofs.Common.{IsTrue}
use Rattle.evaluation.specs.Typed.{IsOfType}
use Rattle.graph_session.proofs.TypeLaws.{given_read}
use Rattle.saved_text.proofs.LineTexts.{IsLine, value_line}
use Rattle.value_text.proofs.PrintedTexts.{value_spelled as printed_spelled}
use Rattle.value_text.proofs.TypeLaws.{read_printed}
use Rattle.value_text.specs.ValueLaws.{IsValueOf}
use Rattle.value_text.specs.Values.{IsRead}
use Rattle.fact_values.specs.declared.fact_type.FactType.TheVariants as types
use Rattle.fact_values.specs.declared.value.Value.TheVariants as values

value_of_type : (d : Tree) (a : Answered) (w : Value) (t : FactType) → IsRead d.enums t → IsOfType (domains d a) w t → IsValueOf d.enums t w
value_of_type d a (values.Boolean b) types.Boolean r h = h
value_of_type d a (values.Int n) types.Int r h = h
value_of_type d a (values.Dollar n) types.Dollar r h = h
value_of_type d a (values.Rational q) types.Rational r h = h
value_of_type d a (values.Day n) types.Day r h = h
value_of_type d a (values.Text s) types.Text r h = h
value_of_type d a (values.Choice list place) (types.Enum n) r h =
    (h.0, subst (λ (l : ℕ). IsSome (option_at d.enums l place)) h.0 (value_printed d a (values.Choice list place) (types.Enum n) h))
value_of_type d a (values.Members ms) (types.Collection c) r h = absurd r
value_of_type d a (values.Item m) (types.Item c) r h = absurd r
value_of_type d a w t r h = absurd h

pub given_by : (side : Side) (d : Tree) (fact : ℕ) → IsTrue (takes side d fact) → IsTrue (is_given d fact)
given_by Answer d fact h = or_left (is_answered_by d fact) (is_overridden_by d fact) h
given_by Override d fact h = or_right (is_answered_by d fact) (is_overridden_by d fact) h

module _ (names : List (List ℕ)) (d : Accepted) (is : IsAccepted names d) (enums : AreLists d.tree.enums) (a : Answered) (fit : AnswersFit d.tree a) (side : Side) (s : Slot) (w : Value) (has : value_of side a s ≡ Some w) where
  pub of_type : (t : FactType) × (type_at d.tree s.fact ≡ Some t) × IsValueOf d.tree.enums t w
  of_type =
      let typed = fit.typed side s w has in
      let may = both (stands d.tree a s) (takes side d.tree s.fact) (fit.placed side s (rw has refl)) in
      let read = given_read names d is s.fact typed.0 (given_by side d.tree s.fact may.1) typed.1 in
      (typed.0, typed.1, value_of_type d.tree a w typed.0 read typed.2)

  pub printed_read : value_spelled d.tree s.fact (printed d.tree.enums w) ≡ Some w
  printed_read =
      let typed = of_type in
      ap (option_and_then (λ (t : FactType). value_at d.tree.enums t (printed d.tree.enums w))) typed.1 ∙ read_printed d.tree.enums typed.0 w enums typed.2

  pub printed_line : IsLine (printed d.tree.enums w)
  printed_line =
      let typed = of_type in
      value_line d.tree.enums enums typed.0 (printed d.tree.enums w) w (printed_spelled d.tree.enums typed.0 w typed.2)
