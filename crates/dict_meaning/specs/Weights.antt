-- How much work the evaluation of a slot is.
use Rattle.std.specs.Prelude.{◌≡◌, ℕ, suc, ◌+◌, ◌*◌, Option, Some, None, length, sum_by}
use Rattle.fact_values.specs.declared.slot.Slot.{Slot}
use Rattle.dict_source.specs.Tree.{Source, Use, pick}
use Rattle.dict_source.specs.Dictionary.{Dictionary as Tree}
use Rattle.dict_source.specs.declared.operators.PickOp.{PickOp}
use Rattle.dict_source.specs.Finding.{fact_at}
use Rattle.three_state.specs.Results.{members_of}
use Rattle.evaluation.specs.Over.{weight}
use Rattle.answers.specs.Answered.{Answered}
use Rattle.dict_meaning.specs.Accepted.{Accepted}
use Rattle.dict_meaning.specs.Plain.{at_fact, body, plain}
use Rattle.dict_meaning.specs.Dependencies.{EvalPosition, entered, outermost, source_env, source_result}
use Rattle.evaluation.specs.Results.{Results}
use Rattle.dict_meaning.specs.Slots.{standing}
use Rattle.dict_meaning.specs.Touched.{touched}

-- of an expression of the slot's fact, with the results of plain evaluation; an absent one weighs nothing
abbrev pub expression_weight : Accepted → Answered → Slot → Option Source → ℕ
expression_weight d a s None = 0
expression_weight d a s (Some t) = weight (source_env d.tree (plain d a) s.fact) (outermost s.member) t

-- of a slot: its body and its placeholder
abbrev pub slot_weight : Accepted → Answered → Slot → ℕ
slot_weight d a s = at_fact (fact_at d.tree.facts s.fact) 0 (λ f. expression_weight d a s (body f) + expression_weight d a s f.placeholder)

-- of all slots that stand
abbrev pub whole_weight : Accepted → Answered → ℕ
whole_weight d a = sum_by (slot_weight d a) (standing d.tree a)

-- of the slots that a change touches, after it
abbrev pub touched_weight : Accepted → Answered → Answered → ℕ
touched_weight d a b = sum_by (slot_weight d b) (touched d a b)

-- ---- a law

-- a Filter and a Find weigh 1, and what their condition weighs at any member as often as there are members
abbrev pub PickWeighs : Type 0
PickWeighs =
    (d : Tree) (results : Results) (fact : ℕ) (at : EvalPosition) (op : PickOp) (u : Use) (t : Source) (m : ℕ)
    → weight (source_env d results fact) at (pick op u t)
    ≡ suc (length (members_of (source_result d results fact at u.path)) * weight (source_env d results fact) (entered d fact at u.path m) t)
