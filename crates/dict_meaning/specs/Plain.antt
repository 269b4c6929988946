-- Plain evaluation: the result of each slot, from the answers alone, by rank.
use Rattle.std.specs.Prelude.{◌≡◌, ℕ, zero, suc, ◌<◌, ◌&&◌, nat_lt, if◌then◌else◌, List, Option, Some, None, is_some, IsSome, option_map}
use Rattle.std.specs.FinMap as map
use Rattle.fact_values.specs.declared.slot.Slot.{Slot}
use Rattle.fact_values.specs.declared.value.Value.{Value}
use Rattle.fact_values.specs.declared.value.Value.TheVariants.{Members}
use Rattle.dict_source.specs.Tree.{Source, SourceCase, literal_true, literal, switch, no_cases, a_case}
use Rattle.dict_source.specs.Facts.{Fact, Stated, scalar, enum_of, writable_list, list_of, item_of}
use Rattle.dict_source.specs.Dictionary.{Dictionary as Tree}
use Rattle.dict_source.specs.Finding.{fact_at}
use Rattle.dict_order.specs.Ranks.{rank_of}
use Rattle.three_state.specs.declared.res.Res.{Res}
use Rattle.three_state.specs.declared.res.Res.TheVariants.{Complete, Placeholder, Incomplete, Fault}
use Rattle.three_state.specs.Results.{down}
use Rattle.evaluation.specs.Over.{over}
use Rattle.answers.specs.Answered.{Answered, value_of}
use Rattle.answers.specs.declared.edit.Side.TheVariants.{Answer, Override}
use Rattle.dict_meaning.specs.Accepted.{Accepted, IsAccepted}
use Rattle.dict_meaning.specs.Dependencies.{outermost, source_env}
use Rattle.evaluation.specs.Results.{Results}
use Rattle.dict_meaning.specs.Slots.{stands}

-- ---- one slot, over any map of results

-- the body where there is a conditional: its value where the condition is true, else the main expression
abbrev pub conditional_body : Option SourceCase → Source → Source
conditional_body None main = main
conditional_body (Some c) main = switch (a_case c.0 c.1 (a_case (literal literal_true) main no_cases))

-- a Writable fact has none
abbrev pub body : Fact → Option Source
body f = option_map (conditional_body f.conditional) f.main

-- an answer, or none
abbrev pub answer_result : Option Value → Res
answer_result None = Incomplete
answer_result (Some v) = Complete v

-- the value of an open collection
abbrev pub open_list : Option (List ℕ) → Option Value
open_list members = option_map (λ ms. Members ms) members

-- what a person gave to a Writable slot: the members of an open collection, or an answer
abbrev pub given_value : Stated → Answered → Slot → Option Value
given_value writable_list a s = open_list (map.get a.lists s.fact)
given_value (scalar t) a s = value_of Answer a s
given_value (enum_of n) a s = value_of Answer a s
given_value (list_of u) a s = value_of Answer a s
given_value (item_of u) a s = value_of Answer a s

abbrev pub or_override : Option Value → Res → Res
or_override None r = r
or_override (Some v) r = Complete v

-- the result of an expression of the slot's fact
abbrev pub expression : Tree → Results → Slot → Source → Res
expression d results s t = over (source_env d results s.fact) (outermost s.member) t

abbrev pub main_result : Tree → Answered → Results → Slot → Stated → Option Source → Res
main_result d a results s stated None = answer_result (given_value stated a s)
main_result d a results s stated (Some t) = or_override (value_of Override a s) (expression d results s t)

-- an incomplete result gives way to the placeholder
abbrev pub or_placeholder : Tree → Results → Slot → Option Source → Res → Res
or_placeholder d results s None r = r
or_placeholder d results s (Some t) (Complete v) = Complete v
or_placeholder d results s (Some t) (Placeholder v) = Placeholder v
or_placeholder d results s (Some t) Incomplete = down (expression d results s t)
or_placeholder d results s (Some t) (Fault fault) = Fault fault

-- the result of a slot of this fact, given those of the slots that it reads
abbrev pub slot_result : Tree → Answered → Results → Slot → Fact → Res
slot_result d a results s f = or_placeholder d results s f.placeholder (main_result d a results s f.stated (body f))

-- ---- all slots

abbrev pub rank : Accepted → ℕ → ℕ
rank d fact = rank_of d.ranks fact

abbrev pub at_fact : {A : Type 0} → Option Fact → A → (Fact → A) → A
at_fact None none f = none
at_fact (Some fact) none f = f fact

-- the results of the slots of facts of rank below n
unfoldable pub table : Accepted → Answered → ℕ → Results
table d a zero s = None
table d a (suc n) s =
    at_fact (fact_at d.tree.facts s.fact) None
    (λ f. if nat_lt (rank d s.fact) (suc n) && stands d.tree a s then Some (slot_result d.tree a (table d a n) s f) else None)

-- the result of a slot, and none where it doesn't stand
unfoldable pub plain : Accepted → Answered → Results
plain d a s = table d a (suc (rank d s.fact)) s

-- ---- laws

-- a slot's result over a map, where it stands
abbrev pub plain_step : Accepted → Answered → Results → Slot → Option Res
plain_step d a results s = at_fact (fact_at d.tree.facts s.fact) None (λ f. if stands d.tree a s then Some (slot_result d.tree a results s f) else None)

-- plain evaluation is one step over itself
abbrev pub PlainIsRecursive : Type 0
PlainIsRecursive = (names : List (List ℕ)) (d : Accepted) → IsAccepted names d → (a : Answered) (s : Slot) → plain d a s ≡ plain_step d a (plain d a) s

-- exactly the slots that stand have a result
abbrev pub StandingHaveResults : Type 0
StandingHaveResults = (d : Accepted) (a : Answered) (s : Slot) → is_some (plain d a s) ≡ stands d.tree a s

-- a map that has plain evaluation of the facts of rank below n
abbrev pub IsPlainBelow : Accepted → Answered → ℕ → Results → Type 0
IsPlainBelow d a n results = (s : Slot) → IsSome (fact_at d.tree.facts s.fact) → rank d s.fact < n → results s ≡ plain d a s

-- over such a map, a slot's result is plain evaluation
abbrev pub StepOverLower : Type 0
StepOverLower =
    (names : List (List ℕ)) (d : Accepted) → IsAccepted names d → (a : Answered) (results : Results) (s : Slot)
    → IsPlainBelow d a (rank d s.fact) results → plain_step d a results s ≡ plain d a s

-- a map that has what is known of the facts of rank below n
abbrev pub HasKnown : Accepted → (Slot → Option Value) → ℕ → Results → Type 0
HasKnown d known n results = (s : Slot) (v : Value) → known s ≡ Some v → rank d s.fact < n → results s ≡ Some (Complete v)

-- where each slot has its known value over known values of lower rank, plain evaluation has them all
abbrev pub JoinedByRank : Type 0
JoinedByRank =
    (names : List (List ℕ)) (d : Accepted) → IsAccepted names d → (a : Answered) (known : Slot → Option Value)
    → ((s : Slot) (v : Value) → known s ≡ Some v → (results : Results) → HasKnown d known (rank d s.fact) results → plain_step d a results s ≡ Some (Complete v))
    → (s : Slot) (v : Value) → known s ≡ Some v → plain d a s ≡ Some (Complete v)
