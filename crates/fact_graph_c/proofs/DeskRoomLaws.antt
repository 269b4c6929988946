-- A line at a desk whose reply needs more memory than is kept for it changes nothing.
use Rattle.std.proofs.Common.{◌≡◌, ℕ, ◌+◌, ◌*◌, ◌<◌, ◌≤◌, ◌^◌, suc, Bool, true, false, ◌&&◌, nat_eq, nat_le, IsTrue, if◌then◌else◌, List, [], ◌∷◌, ◌++◌, length, length-append, Option, Some, None, IsSome, refl, sym, ap, subst, ◌∙◌, arith}
use Rattle.std.specs.Prelude.{codes, decimal}
use Rattle.std.specs.List.{list_all}
use Rattle.std.proofs.lemmas.Bool.{leb-true}
use Rattle.std.proofs.lemmas.Fmt.{length-decimal-le}
use Rattle.common_lemmas.proofs.Bools.{both}
use Rattle.fact_values.specs.Members.{IsMemberList, is_member}
use Rattle.fact_values.specs.declared.fact_type.FactType.{FactType}
use Rattle.fact_values.specs.declared.fact_type.FactType.TheVariants as types
use Rattle.fact_values.specs.declared.fault.ValueFault.{ValueFault}
use Rattle.fact_values.specs.declared.fault.ValueFault.TheVariants.{Overflow, ZeroDivide}
use Rattle.fact_values.specs.declared.slot.Slot.{Slot}
use Rattle.fact_values.specs.declared.value.Value.{Value}
use Rattle.fact_values.specs.declared.value.Value.TheVariants as values
use Rattle.value_text.specs.Enums.{AreLists, option_at}
use Rattle.value_text.specs.MemberTexts.{printed_item, printed_members, printed_rest}
use Rattle.value_text.specs.ValueLaws.{IsValueOf}
use Rattle.value_text.specs.Values.{printed}
use Rattle.value_text.proofs.Decimals.{decimal_of_member}
use Rattle.value_text.proofs.PrintedTexts.{value_spelled}
use Rattle.saved_text.proofs.LineTexts.{value_short}
use Rattle.script_lines.specs.Joined.{joined}
use Rattle.script_lines.specs.Lines.{ScriptLine, whole, long}
use Rattle.script_lines.specs.Parsing.{Heard, nothing, bad_line, command, heard}
use Rattle.script_lines.specs.Commands.{without_return}
use Rattle.script_lines.specs.declared.command.Command.{Command}
use Rattle.script_lines.specs.declared.command.Command.TheVariants as commands
use Rattle.three_state.specs.declared.res.Res.{Res}
use Rattle.three_state.specs.declared.res.Res.TheVariants.{Complete, Placeholder, Incomplete, Fault}
use Rattle.evaluation.specs.Typed.{IsOfType, IsResOfType}
use Rattle.evaluation.proofs.MemberLaws.{member_list-length, member_list-members}
use Rattle.answers.specs.Answered.{Answered}
use Rattle.dict_meaning.specs.Accepted.{IsAccepted}
use Rattle.dict_meaning.specs.Final.{is_final}
use Rattle.dict_meaning.specs.Fits.{AnswersFit, domains}
use Rattle.dict_meaning.specs.Plain.{plain}
use Rattle.dict_meaning.proofs.FactTypes.{typed_fact, type_of_number}
use Rattle.dict_meaning.proofs.PrintedLaws.{value_printed}
use Rattle.dict_meaning.proofs.SlotLaws.{fact_of_standing}
use Rattle.dict_meaning.proofs.TypedResultLaws.{typed_results}
use Rattle.dictionary.specs.AcceptedParts.{names_of}
use Rattle.graph_session.specs.Counts.{stamp_of}
use Rattle.graph_session.specs.Naming.{slot_of}
use Rattle.graph_session.specs.Rules.{Rules, tree_of}
use Rattle.graph_session.specs.Step as session
use Rattle.session_lines.specs.Marks.{party_mark}
use Rattle.session_lines.specs.Replies.{asked_text, fault_text, final_text, reply_text, result_text}
use Rattle.session_lines.proofs.PrintLaws.{stands_with}
use Rattle.shared_desk.specs.Desk.{Desk, desk_after, desk_refusal}
use Rattle.shared_desk.specs.DeskView.{DeskView, IsOrderly, StandsFor}
use Rattle.shared_desk.specs.Refusals.{decided}
use Rattle.shared_desk.specs.declared.refusal.DeskRefusal.{DeskRefusal}
use Rattle.desk_lines.specs.DeskStepping.{DeskStep, marked_lines, step_asked, step_decided, step_party_line, step_said}
use Rattle.desk_lines.specs.PartyLines.{is_silent, is_watching, party_of, party_said_in, said_behind, said_by}
use Rattle.desk_lines.specs.declared.party_line.PartyLine.{PartyLine}
use Rattle.desk_lines.specs.declared.party_line.PartyLine.TheVariants.{Silent, NoParty, NoCommand, Asks}
use Rattle.desk_lines.proofs.MarkLaws.{party_of_some}
use Rattle.fact_graph_c.specs.Room.{desk_room}

-- ---- members

item_low : (m : ℕ) → IsTrue (is_member m) → length (printed_item m) ≤ 8
item_low m is =
    let high = leb-true m 1000000 (both (nat_le 1 m) (nat_le m 1000000) is).1 in
    omega (arith, decimal_of_member m (omega (arith, high)))

rest_low : (ms : List ℕ) → IsTrue (list_all is_member ms) → length (printed_rest ms) ≤ 9 * length ms
rest_low [] all = omega arith
rest_low (m ∷ ms) all =
    let parts = both (is_member m) (list_all is_member ms) all in
    omega (arith, item_low m parts.0, length-append (printed_item m) (printed_rest ms), rest_low ms parts.1)

members_low : (ms : List ℕ) → IsMemberList ms → length (printed_members ms) ≤ 1024
members_low [] is = omega arith
members_low (m ∷ ms) is =
    let few = member_list-length (m ∷ ms) is in
    let parts = both (is_member m) (list_all is_member ms) (member_list-members (m ∷ ms) is) in
    omega (arith, few, item_low m parts.0, rest_low ms parts.1, length-append (printed_item m) (printed_rest ms ++ 93 ∷ []), length-append (printed_rest ms) (93 ∷ []))

-- ---- which party a line is of

abbrev party_in : PartyLine → ℕ
party_in (Asks p asked) = p
party_in _ = 0

heard_low : (q p : ℕ) (asked : Command) (h : Heard) → q ≤ 16 → said_by q h ≡ Asks p asked → p ≤ 16
heard_low q p asked nothing low e = absurd cc
heard_low q p asked bad_line low e = absurd cc
heard_low q p asked (command c) low e = by (is_watching c) e
  where
    by : (b : Bool) → (if b then NoCommand q else Asks q c) ≡ Asks p asked → p ≤ 16
    by true e = absurd cc
    by false e = subst (λ (n : ℕ). n ≤ 16) (ap party_in e) low

party_low : (line : List ℕ) (p : ℕ) (asked : Command) → party_said_in line ≡ Asks p asked → p ≤ 16
party_low line p asked e = by (is_silent text) e
  where
    text : List ℕ
    text = without_return line

    behind : (o : Option (ℕ × List ℕ)) → party_of text ≡ o → said_behind o ≡ Asks p asked → p ≤ 16
    behind None is e = absurd cc
    behind (Some part) is e = heard_low part.0 p asked (heard part.1) (party_of_some text part is).0.1 e

    by : (b : Bool) → (if b then Silent else said_behind (party_of text)) ≡ Asks p asked → p ≤ 16
    by true e = absurd cc
    by false e = behind (party_of text) refl e

-- a line with its mark and its newline
line_low : (p : ℕ) (text : List ℕ) → p ≤ 16 → length (joined (marked_lines p (text ∷ []))) ≤ length text + 5
line_low p text low =
    let digits = length-decimal-le 2 p (omega arith) (omega (arith, low)) (omega (arith, low)) in
    omega (arith, digits, length-append (decimal p) (codes " "), length-append (decimal p ++ codes " ") text, length-append (party_mark p ++ text) (10 ∷ []))

-- what a desk goes by
module _ (r : Rules) (d : Desk) (is_accepted : IsAccepted (names_of r.checks) r.accepted) (lists : AreLists (tree_of r).enums) (fit : AnswersFit (tree_of r) d.session_state.timeline.now) (orderly : IsOrderly d) (few : d.session_state.changes < 2 ^ 63) where
  -- ---- the replies to questions

  abbrev now : Answered
  now = d.session_state.timeline.now

  spelled_low : (t : FactType) (v : Value) → IsValueOf (tree_of r).enums t v → length (printed (tree_of r).enums v) ≤ 1024
  spelled_low t v is = omega (arith, value_short (tree_of r).enums lists t (printed (tree_of r).enums v) v (value_spelled (tree_of r).enums t v is))

  value_low : (v : Value) (t : FactType) → IsOfType (domains (tree_of r) now) v t → length (printed (tree_of r).enums v) ≤ 1024
  value_low (values.Boolean b) types.Boolean h = spelled_low types.Boolean (values.Boolean b) h
  value_low (values.Int n) types.Int h = spelled_low types.Int (values.Int n) h
  value_low (values.Dollar n) types.Dollar h = spelled_low types.Dollar (values.Dollar n) h
  value_low (values.Rational q) types.Rational h = spelled_low types.Rational (values.Rational q) h
  value_low (values.Day n) types.Day h = spelled_low types.Day (values.Day n) h
  value_low (values.Text text) types.Text h = spelled_low types.Text (values.Text text) h
  value_low (values.Choice list place) (types.Enum n) h =
      spelled_low (types.Enum n) (values.Choice list place) (h.0, subst (λ (l : ℕ). IsSome (option_at (tree_of r).enums l place)) h.0 (value_printed (tree_of r) now (values.Choice list place) (types.Enum n) h))
  value_low (values.Members ms) (types.Collection c) h = members_low ms h.0
  value_low (values.Item m) (types.Item c) h = omega (arith, item_low m h.0)
  value_low v t h = absurd h

  fault_low : (fault : ValueFault) → length (fault_text fault) ≤ 1036
  fault_low Overflow = omega arith
  fault_low ZeroDivide = omega arith

  res_low : (res : Res) (t : FactType) → IsResOfType (domains (tree_of r) now) res t → length (result_text (tree_of r).enums res) ≤ 1036
  res_low (Complete v) t h = omega (arith, value_low v t h)
  res_low (Placeholder v) t h = omega (arith, value_low v t h)
  res_low Incomplete t h = omega arith
  res_low (Fault fault) t h = fault_low fault

  final_low : (b : Bool) (res : Res) (t : FactType) → IsResOfType (domains (tree_of r) now) res t → length (final_text (tree_of r).enums b res) ≤ 1036
  final_low true (Complete v) t h = omega (arith, value_low v t h)
  final_low false (Complete v) t h = omega arith
  final_low b (Placeholder v) t h = omega arith
  final_low b Incomplete t h = omega arith
  final_low b (Fault fault) t h = omega arith

  -- the result of a slot has the type of its fact
  result_typed : (s : Slot) (res : Res) → plain r.accepted now s ≡ Some res → (t : FactType) × IsResOfType (domains (tree_of r) now) res t
  result_typed s res e =
      let there = fact_of_standing (tree_of r) now s (stands_with r.accepted now s res e) in
      let typed = typed_fact (tree_of r) (names_of r.checks) r.accepted.typed is_accepted.typed s.fact there.0 there.1 in
      (typed.0, typed_results (names_of r.checks) r.accepted is_accepted now fit s res e typed.0 (type_of_number (tree_of r) s.fact there.0 typed.0 there.1 typed.1.stated))

  answer_low : (s : Slot) (o : Option Res) → plain r.accepted now s ≡ o → length (asked_text (result_text (tree_of r).enums) o (codes "incomplete")) ≤ 1036
  answer_low s None e = omega arith
  answer_low s (Some res) e = let typed = result_typed s res e in res_low res typed.0 typed.1

  finality_low : (b : Bool) (s : Slot) (o : Option Res) → plain r.accepted now s ≡ o → length (asked_text (final_text (tree_of r).enums b) o (codes "open")) ≤ 1036
  finality_low b s None e = omega arith
  finality_low b s (Some res) e = let typed = result_typed s res e in final_low b res typed.0 typed.1

  stamp_low : (s : Slot) → length (decimal (stamp_of d.session_state.counts s)) ≤ 19
  stamp_low s =
      let low = orderly.stamps s in
      length-decimal-le 19 (stamp_of d.session_state.counts s) (omega arith) (omega (arith, low, few)) (omega (arith, low, few))

  -- ---- steps

  module _ (w : DeskView) where
    -- a reply that has as many bytes as there is room for leaves the desk as it was
    abbrev FillsStill : DeskStep → Type 0
    FillsStill made = StandsFor w made.state.desk → desk_room ≤ length (joined made.lines) → StandsFor w d

    unlooked : (b : Bool) (m n : ℕ) → (if b && false then m else n) ≡ n
    unlooked true m n = refl
    unlooked false m n = refl

    -- `touched` shows no slot
    touched_still : (p : ℕ) → StandsFor w (desk_after r d p commands.Touched) → StandsFor w d
    touched_still p h = record {
      orderly = orderly;
      session_state = h.session_state;
      changers = h.changers;
      entries = h.entries;
      kept = h.kept;
      last_seen = λ q s. ap (λ (n : ℕ). nat_le (stamp_of d.session_state.counts s) n) (sym (unlooked (nat_eq q p) d.session_state.changes (d.last_seen q s))) ∙ h.last_seen q s;
    }

    -- every other reply is short
    short : (p : ℕ) (text : List ℕ) (after : Desk) → p ≤ 16 → length text ≤ 1036 → StandsFor w after → desk_room ≤ length (joined (marked_lines p (text ∷ []))) → StandsFor w d
    short p text after low few_bytes stands full = absurd (omega (arith, full, few_bytes, line_low p text low))

    -- what an accepted command says, and the desk behind it
    abbrev text_of : ℕ → Command → List ℕ
    text_of p asked = reply_text r (desk_after r d p asked).session_state (session.reply r d.session_state asked)

    answered : (p : ℕ) → p ≤ 16 → (asked : Command) → FillsStill (step_decided r d p (decided None (session.reply r d.session_state asked, desk_after r d p asked)))
    answered p low (commands.Get path) =
        let s = slot_of (tree_of r) path in
        short p (text_of p (commands.Get path)) (desk_after r d p (commands.Get path)) low (answer_low s (plain r.accepted now s) refl)
    answered p low (commands.Final path) =
        let s = slot_of (tree_of r) path in
        short p (text_of p (commands.Final path)) (desk_after r d p (commands.Final path)) low (finality_low (is_final r.accepted now s) s (plain r.accepted now s) refl)
    answered p low (commands.Stamp path) = short p (text_of p (commands.Stamp path)) (desk_after r d p (commands.Stamp path)) low (omega (arith, stamp_low (slot_of (tree_of r) path)))
    answered p low (commands.Add path) =
        short p (text_of p (commands.Add path)) (desk_after r d p (commands.Add path)) low
        (omega (arith, length-decimal-le 7 now.next (omega arith) (omega (arith, fit.well.high)) (omega (arith, fit.well.high))))
    answered p low commands.Touched = λ stands full. touched_still p stands
    answered p low asked = short p (text_of p asked) (desk_after r d p asked) low (omega arith)

    by_refusal : (p : ℕ) → p ≤ 16 → (asked : Command) (o : Option DeskRefusal) → FillsStill (step_decided r d p (decided o (session.reply r d.session_state asked, desk_after r d p asked)))
    by_refusal p low asked (Some refusal) = λ stands full. stands
    by_refusal p low asked None = answered p low asked

    commanded : (p : ℕ) → p ≤ 16 → (asked : Command) → FillsStill (step_asked r d p asked)
    commanded p low commands.Quit = λ stands full. stands
    commanded p low (commands.Missing path) = λ stands full. stands
    commanded p low asked = by_refusal p low asked (desk_refusal r d p asked)

    said : (l : PartyLine) → ((p : ℕ) (asked : Command) → l ≡ Asks p asked → p ≤ 16) → FillsStill (step_said r d l)
    said Silent low = λ stands full. stands
    said NoParty low = λ stands full. stands
    said (NoCommand p) low = λ stands full. stands
    said (Asks p asked) low = commanded p (low p asked refl) asked

    -- of a line
    pub desk_fills_still : (line : ScriptLine) → FillsStill (step_party_line r d line)
    desk_fills_still (whole line) = said (party_said_in line) (party_low line)
    desk_fills_still long = λ stands full. stands
