-- A line `final V` stays.
use Rattle.std.proofs.Common.{◌≡◌, ℕ, Bool, true, false, not, ◌||◌, IsTrue, List, [], ◌∷◌, ◌++◌, Option, Some, None, is_some, unwrap_or, refl, sym, ap, ◌∙◌, arith}
use Rattle.std.specs.Prelude.{codes, nat_eq}
use Rattle.std.proofs.lemmas.List.{append_cancel_left}
use Rattle.std.specs.FinMap as map
use Rattle.std.specs.List.{list_any}
use Rattle.fact_paths.specs.declared.slot_path.SlotPath.{SlotPath}
use Rattle.fact_paths.specs.declared.slot_path.SlotPath.TheVariants as paths
use Rattle.fact_values.specs.declared.slot.Slot.{Slot}
use Rattle.fact_values.specs.declared.value.Value.{Value}
use Rattle.value_text.specs.Enums.{Listed}
use Rattle.value_text.specs.Values.{printed}
use Rattle.dict_source.specs.Dictionary.{Dictionary as Tree}
use Rattle.dict_source.specs.Targets.{find_global}
use Rattle.three_state.specs.declared.res.Res.{Res}
use Rattle.three_state.specs.declared.res.Res.TheVariants.{Complete, Placeholder, Incomplete, Fault}
use Rattle.common_lemmas.proofs.Bools.{both}
use Rattle.answers.specs.Answered.{Answered, value_of}
use Rattle.answers.specs.declared.edit.Side.TheVariants.{Override}
use Rattle.dict_meaning.specs.Accepted.{Accepted, IsAccepted}
use Rattle.dict_meaning.specs.Extension.{Extends, IsExtension}
use Rattle.dict_meaning.specs.Final.{is_complete_in, is_final}
use Rattle.dict_meaning.specs.Plain.{plain}
use Rattle.dict_meaning.specs.Steady.{steady}
use Rattle.graph_session.specs.Naming.{is_unknown, lacks_member, slot_of}
use Rattle.graph_session.specs.Refusals.{decided, first_of, when}
use Rattle.graph_session.specs.Rules.{Rules, tree_of}
use Rattle.script_lines.specs.declared.command.Command.TheVariants.{Final}
use Rattle.graph_session.specs.declared.reply.Refusal.TheVariants.{UnknownFact, NoMember}
use Rattle.graph_session.specs.declared.reply.Reply.TheVariants.{FinalAsked}
use Rattle.placeholder_laws.specs.Stays.{Stays}
use Rattle.placeholder_laws.proofs.StayLaws.{final_result_stays}
use Rattle.session_lines.specs.Laws.{FinalLinesStay, final_line}
use Rattle.session_lines.specs.Replies.{asked_text, final_text}
use Rattle.session_lines.specs.Stepping.{LineState, Step, step_answered}

-- ---- texts that begin with another byte

abbrev first_byte : List ℕ → ℕ
first_byte [] = 0
first_byte (b ∷ bs) = b

abbrev only_line : List (List ℕ) → List ℕ
only_line [] = []
only_line (line ∷ lines) = line

-- what is answered where the path is unknown, or has a member that isn't there
abbrev answered_by : Rules → LineState → SlotPath → Slot → Bool → Bool → Step
answered_by r t path s unknown lacks = step_answered r t (Final path) (decided (first_of (when unknown UnknownFact ∷ when lacks NoMember ∷ [])) (FinalAsked s, t.session_state))

-- ---- what a value that is printed says

-- the result is final and complete
final_where_printed : (lists : List Listed) (final : Bool) (o : Option Res) (value : List ℕ) → asked_text (final_text lists final) o (codes "open") ≡ final_line value
    → IsTrue final
final_where_printed lists true o value is = refl
final_where_printed lists false None value is = absurd (omega (arith, ap first_byte is))
final_where_printed lists false (Some (Complete v)) value is = absurd (omega (arith, ap first_byte is))
final_where_printed lists false (Some (Placeholder v)) value is = absurd (omega (arith, ap first_byte is))
final_where_printed lists false (Some Incomplete) value is = absurd (omega (arith, ap first_byte is))
final_where_printed lists false (Some (Fault fault)) value is = absurd (omega (arith, ap first_byte is))

final_text_is : (lists : List Listed) (final : Bool) (o : Option Res) (v : Value) → IsTrue final → o ≡ Some (Complete v) → asked_text (final_text lists final) o (codes "open") ≡ codes "final " ++ printed lists v
final_text_is lists final o v holds is = λ i. asked_text (final_text lists (holds i)) (is i) (codes "open")

-- ---- what stays

list_stays : (o p : Option (List ℕ)) (m : ℕ) → ((ms : List ℕ) → o ≡ Some ms → p ≡ Some ms) → not (list_any (nat_eq m) (unwrap_or o [])) ≡ false → not (list_any (nat_eq m) (unwrap_or p [])) ≡ false
list_stays None p m h i = absurd (cc)
list_stays (Some ms) p m h i = rw (h ms refl) i

-- a member that is there stays
there_still : (d : Tree) (a b : Answered) → Extends a b → (path : SlotPath) → lacks_member d a path ≡ false → lacks_member d b path ≡ false
there_still d a b ext (paths.Global n) h = refl
there_still d a b ext (paths.Member c k n) h =
    let collection = unwrap_or (find_global d c) 0 in
    list_stays (map.get a.lists collection) (map.get b.lists collection) k (ext.lists collection) h

final_still : (d : Accepted) (a b : Answered) → Extends a b → (s : Slot) (v : Value) → plain d b s ≡ Some (Complete v) → IsTrue (is_final d a s) → IsTrue (is_final d b s)
final_still d a b ext s v is final =
    let kept = (both (is_complete_in (plain d a s)) (is_some (value_of Override a s) || steady d s.fact) final).1 in
    rw (is, ext.overrides s) kept

-- the text of a value behind the same words
value_text : (v w : List ℕ) → final_line v ≡ final_line w → w ≡ v
value_text v w is = sym (append_cancel_left (codes "final ") v w is)

module _ (names : List (List ℕ)) (r : Rules) (accepted : IsAccepted names r.accepted) (c : LineState) (s : Slot) where
  abbrev line_in : LineState → List ℕ
  line_in e = asked_text (final_text (tree_of r).enums (is_final r.accepted e.session_state.timeline.now s)) (plain r.accepted e.session_state.timeline.now s) (codes "open")

  module _ (final : IsTrue (is_final r.accepted c.session_state.timeline.now s)) where
    stays : Stays r.accepted c.session_state.timeline.now s
    stays = final_result_stays names r.accepted accepted c.session_state.timeline.now s final

    line_now : line_in c ≡ final_line (printed (tree_of r).enums stays.0)
    line_now = final_text_is (tree_of r).enums (is_final r.accepted c.session_state.timeline.now s) (plain r.accepted c.session_state.timeline.now s) stays.0 final stays.1

    line_again : (d : LineState) → IsExtension (tree_of r) c.session_state.timeline.now d.session_state.timeline.now → line_in d ≡ final_line (printed (tree_of r).enums stays.0)
    line_again d ext =
        let there = stays.2 d.session_state.timeline.now ext in
        let still = final_still r.accepted c.session_state.timeline.now d.session_state.timeline.now ext.extends s stays.0 there final in
        final_text_is (tree_of r).enums (is_final r.accepted d.session_state.timeline.now s) (plain r.accepted d.session_state.timeline.now s) stays.0 still there

  -- what a value that is printed says: the result is final, the path is known, and its member is there
  known_where_printed : (path : SlotPath) (unknown lacks : Bool) (text : List ℕ) → (answered_by r c path s unknown lacks).lines ≡ final_line text ∷ []
      → IsTrue (is_final r.accepted c.session_state.timeline.now s) × (line_in c ≡ final_line text) × (unknown ≡ false) × (lacks ≡ false)
  known_where_printed path true lacks text is = absurd (omega (arith, ap first_byte (ap only_line is)))
  known_where_printed path false true text is = absurd (omega (arith, ap first_byte (ap only_line is)))
  known_where_printed path false false text is = (final_where_printed (tree_of r).enums (is_final r.accepted c.session_state.timeline.now s) (plain r.accepted c.session_state.timeline.now s) text (ap only_line is), ap only_line is, refl, refl)

pub final_lines_stay : FinalLinesStay
final_lines_stay names r accepted c path text is =
    let s = slot_of (tree_of r) path in
    let known = known_where_printed names r accepted c s path (is_unknown (tree_of r) path) (lacks_member (tree_of r) c.session_state.timeline.now path) text is in
    let final = known.0 in
    let same : text ≡ printed (tree_of r).enums (stays names r accepted c s final).0 = value_text _ text (sym (line_now names r accepted c s final) ∙ known.1) in
    record {
      stays = stays names r accepted c s final;
      printed_so = same;
      again = λ d ext.
          (λ i. (answered_by r d path s (known.2 i) (there_still (tree_of r) c.session_state.timeline.now d.session_state.timeline.now ext.extends path known.3 i)).lines)
          ∙ ap (λ (line : List ℕ). line ∷ []) (line_again names r accepted c s final d ext ∙ ap final_line (sym same));
    }
