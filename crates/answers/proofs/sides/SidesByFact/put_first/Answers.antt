use Rattle.std.proofs.Common.{◌≡◌, Option, Some, None, refl, sym, ◌∙◌}
use Rattle.std.specs.Prelude.{IsSome, nat_eq}
use Rattle.std.specs.Map.{lookup}
use Rattle.answers.specs.declared.edit.Side.{Side}
use Rattle.answers.specs.declared.sides.Sides.{Sides}
use Rattle.answers.specs.Finite.{and_then}
use Rattle.answers.specs.Meaning.{side_of}
use Rattle.answers.proofs.SideLaws.{side_at, side_written}
use Rattle.answers.proofs.sides.SidesByFact.put_first.Goals as goal

-- at a fact without a place, neither side stands
no_side : (side : Side) (o : Option Sides) → (IsSome o → ⊥) → and_then (side_of side) o ≡ None
no_side side None h = refl
no_side side (Some p) h = absurd (h refl)

pub returns-in-Ok-clause-new : goal.returns-in-Ok-clause-new
returns-in-Ok-clause-new c = side_written c.args.side c.args.self.now.by_fact.entries c.insert.new.self.entries c.args.fact (Some c.args.value) c.only.result c.in-Ok.ensures.updates.0 c.only.ensures.value
    (λ q d. c.only.ensures.other q d ∙ sym (side_at q c.args.self.now.by_fact.entries c.args.fact ∙ no_side q (lookup (nat_eq c.args.fact) c.args.self.now.by_fact.entries) c.requires))
