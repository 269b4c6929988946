-- A Filter in a loop, from the verdict on its collection.
use Rattle.std.proofs.Common.{◌≡◌, ℕ, Bool, true, false, if◌then◌else◌, List, [], ◌∷◌, map, Option, None, Ok, refl, ap, ◌∙◌}
use Rattle.std.specs.List.{list_all, list_any}
use Rattle.fact_values.specs.declared.fault.ValueFault.{ValueFault}
use Rattle.fact_values.specs.declared.value.Value.{Value}
use Rattle.fact_values.specs.declared.value.Value.TheVariants.{Members}
use Rattle.fact_values.specs.Members.{IsMemberList}
use Rattle.three_state.specs.Folds.{filter_on}
use Rattle.three_state.specs.Results.{after_verdict, down, fault_or_go, filter_of, first_fault, is_complete, is_incomplete, is_true, kept, members_in, members_of, verdict_of}
use Rattle.three_state.specs.declared.res.Res.{Res}
use Rattle.three_state.specs.declared.res.Res.TheVariants.{Placeholder}
use Rattle.three_state.specs.declared.strict.Verdict.TheVariants as verdict
use Rattle.three_state.proofs.FoldLaws.{verdict_on-start}
use Rattle.three_state.proofs.RuleLaws.{filter_on-found}
use Rattle.evaluation.proofs.MemberLaws.{filter-member_list}
use Rattle.operations.specs.Sources.{verdict_on_source}

-- an operation with a value, behind a placeholder
down-go : (b : Bool) (f : Option ValueFault) (c : Bool) (v : Value) → after_verdict (if b then verdict.Incomplete else fault_or_go f false) (Ok v) ≡ down (after_verdict (if b then verdict.Incomplete else fault_or_go f c) (Ok v))
down-go false None true v = refl
down-go false None false v = refl
down-go _ _ _ v = refl

pub filter_of-verdict : (source : Res) (condition : ℕ → Res) → after_verdict (verdict_of (source ∷ map condition (members_of source))) (Ok (Members (kept condition (members_of source)))) ≡ filter_of source condition
filter_of-verdict (Placeholder v) condition =
    let rs = map condition (members_in v) in
    down-go (list_any is_incomplete rs) (first_fault rs) (list_all is_complete rs) (Members (kept condition (members_in v)))
filter_of-verdict _ condition = refl

pub filter_on-source : (source : Res) (condition : ℕ → Res) → filter_on condition [] (verdict_on_source source) (members_of source) ≡ filter_of source condition
filter_on-source source condition =
    filter_on-found condition [] (verdict_on_source source) (members_of source)
    ∙ ap (λ v. after_verdict v (Ok (Members (kept condition (members_of source))))) (verdict_on-start (source ∷ map condition (members_of source)))
    ∙ filter_of-verdict source condition

-- ---- the members that are kept

pub kept-member_list : (condition : ℕ → Res) (ms : List ℕ) → IsMemberList ms → IsMemberList (kept condition ms)
kept-member_list condition ms h = filter-member_list (λ m. is_true (condition m)) ms h
