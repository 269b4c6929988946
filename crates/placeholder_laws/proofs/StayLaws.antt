-- A final result stays under every extension of the answers.
use Rattle.std.proofs.Common.{◌≡◌, ℕ, List, ◌||◌, IsTrue, Option, Some, is_some, sym, ◌∙◌}
use Rattle.fact_values.specs.declared.slot.Slot.{Slot}
use Rattle.fact_values.specs.declared.value.Value.{Value}
use Rattle.dict_source.specs.Dictionary.{Dictionary as Tree}
use Rattle.dict_source.specs.Finding.{IsNumber}
use Rattle.three_state.specs.declared.res.Res.{Res}
use Rattle.three_state.specs.declared.res.Res.TheVariants.{Complete}
use Rattle.common_lemmas.proofs.Bools.{both_left}
use Rattle.answers.specs.Answered.{Answered, value_of}
use Rattle.answers.specs.declared.edit.Side.TheVariants.{Override}
use Rattle.dict_meaning.specs.Accepted.{Accepted, IsAccepted}
use Rattle.dict_meaning.specs.Final.{is_complete_in, is_final}
use Rattle.dict_meaning.specs.Plain.{plain}
use Rattle.dict_meaning.specs.Slots.{stands}
use Rattle.dict_meaning.specs.Steady.{steady}
use Rattle.dict_meaning.proofs.FinalLaws.{complete_value, final_stays}
use Rattle.dict_meaning.proofs.NumberLaws.{fact_within}
use Rattle.dict_meaning.proofs.SlotLaws.{fact_of_standing}
use Rattle.placeholder_laws.specs.Stays.{Stays}

-- ---- a slot that stands is one of a fact

pub standing_number : (d : Tree) (a : Answered) (s : Slot) → IsTrue (stands d a s) → IsNumber d.facts s.fact
standing_number d a s there = let f = fact_of_standing d a s there in fact_within d.facts s.fact f.0 f.1

-- ---- a final result stays

same_value : (before after : Option Res) (v : Value) → before ≡ Some (Complete v) → (w : Value) × (before ≡ Some (Complete w)) × (after ≡ Some (Complete w)) → after ≡ Some (Complete v)
same_value before after v e k = k.2 ∙ sym k.1 ∙ e

pub final_result_stays : (names : List (List ℕ)) (d : Accepted) → IsAccepted names d → (a : Answered) (s : Slot) → IsTrue (is_final d a s) → Stays d a s
final_result_stays names d accepted a s final =
    let value = complete_value (plain d a s) (both_left (is_complete_in (plain d a s)) (is_some (value_of Override a s) || steady d s.fact) final) in
    (value.0, value.1, λ b extension. same_value (plain d a s) (plain d b s) value.0 value.1 (final_stays names d accepted a b extension s final))
