-- Each result of a slot has a text.
use Rattle.std.proofs.Common.{◌≡◌, ℕ, IsTrue, List, Some, is_some, sym, ap, subst, ◌∙◌}
use Rattle.fact_values.specs.declared.fact_type.FactType.{FactType}
use Rattle.fact_values.specs.declared.slot.Slot.{Slot}
use Rattle.value_text.specs.Enums.{Listed}
use Rattle.dict_source.specs.Dictionary.{Dictionary as Tree, Written}
use Rattle.three_state.specs.declared.res.Res.{Res}
use Rattle.three_state.specs.declared.res.Res.TheVariants.{Complete, Placeholder}
use Rattle.evaluation.specs.Typed.{IsResOfType}
use Rattle.answers.specs.Answered.{Answered}
use Rattle.dict_meaning.specs.Accepted.{Accepted, IsAccepted}
use Rattle.dictionary.specs.AcceptedParts.{AcceptedParts, accepted, names_of}
use Rattle.dict_meaning.specs.Fits.{AnswersFit, domains}
use Rattle.dict_meaning.specs.Plain.{plain}
use Rattle.dict_meaning.specs.Slots.{stands}
use Rattle.dict_meaning.proofs.FactTypes.{typed_fact, type_of_number}
use Rattle.dict_meaning.proofs.PlainLaws.{standing_have_results}
use Rattle.dict_meaning.proofs.TypedResultLaws.{typed_results}
use Rattle.dict_meaning.proofs.PrintedLaws.{value_printed}
use Rattle.dict_meaning.proofs.SlotLaws.{fact_of_standing}
use Rattle.session_lines.specs.Replies.{IsResPrinted}

res_printed : (d : Tree) (a : Answered) (r : Res) (t : FactType) → IsResOfType (domains d a) r t → IsResPrinted d.enums r
res_printed d a (Complete v) t h = value_printed d a v t h
res_printed d a (Placeholder v) t h = value_printed d a v t h
res_printed d a r t h = tt

-- ---- a slot with a result stands, and has a type

pub stands_with : (d : Accepted) (a : Answered) (s : Slot) (r : Res) → plain d a s ≡ Some r → IsTrue (stands d.tree a s)
stands_with d a s r e = sym (standing_have_results d a s) ∙ ap is_some e

pub result_printed : (names : List (List ℕ)) (d : Accepted) → IsAccepted names d → (a : Answered) → AnswersFit d.tree a → (s : Slot) (r : Res) → plain d a s ≡ Some r → IsResPrinted d.tree.enums r
result_printed names d accepted a fit s r e =
    let there = fact_of_standing d.tree a s (stands_with d a s r e) in
    let typed = typed_fact d.tree names d.typed accepted.typed s.fact there.0 there.1 in
    res_printed d.tree a r typed.0 (typed_results names d accepted a fit s r e typed.0 (type_of_number d.tree s.fact there.0 typed.0 there.1 typed.1.stated))

-- the same of a session's result: its dictionary is seen through the source and the lists that were asked for
pub result_listed : (k : AcceptedParts) (a : Answered) (s : Slot) (r : Res) (dict : AcceptedParts) (source : Written) (lists : List Listed) → dict ≡ k → source ≡ dict.source → lists ≡ source.enums
    → IsAccepted (names_of dict.checks) (accepted dict) → AnswersFit (accepted k).tree a → plain (accepted k) a s ≡ Some r → IsResPrinted lists r
result_listed k a s r dict source lists same of_dict of_source is fit e =
    let enums : lists ≡ (accepted k).tree.enums = of_source ∙ ap (λ (w : Written). w.enums) (of_dict ∙ ap (λ (d : AcceptedParts). d.source) same) in
    let kept : IsAccepted (names_of k.checks) (accepted k) = subst (λ d. IsAccepted (names_of d.checks) (accepted d)) same is in
    subst (λ l. IsResPrinted l r) (sym enums) (result_printed (names_of k.checks) (accepted k) kept a fit s r e)
