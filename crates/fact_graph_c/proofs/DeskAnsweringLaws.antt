-- What a host's line leaves at a desk.
use Rattle.std.proofs.Common.{◌≡◌, ℕ, ◌<◌, ◌≤◌, ◌^◌, Bool, true, false, if◌then◌else◌, List, [], ◌∷◌, ◌++◌, length, length-append, Some, refl, sym, ap, subst, ◌∙◌, arith}
use Rattle.std.proofs.lemmas.List.{append-nil}
use Rattle.fg_io.specs.Outside.{RoseByOne}
use Rattle.fg_io.specs.Sent.{Sent}
use Rattle.script_lines.specs.Joined.{joined}
use Rattle.script_lines.specs.Lines.{ScriptLine}
use Rattle.answers.specs.Answered.{Answered}
use Rattle.dict_meaning.specs.Fits.{AnswersFit}
use Rattle.graph_session.specs.Rules.{Rules, tree_of}
use Rattle.graph_session.specs.SessionView.{SessionState}
use Rattle.shared_desk.specs.Desk.{Desk}
use Rattle.shared_desk.specs.DeskView.{DeskView, StandsFor}
use Rattle.desk_lines.specs.DeskAnswering.{StandsAt}
use Rattle.desk_lines.specs.DeskStepping.{DeskState, DeskStep, desk_line_step, desk_open, desk_replies, desk_state_after, step_party_line}
use Rattle.fact_graph_c.specs.Answering.{line_given}
use Rattle.fact_graph_c.specs.DeskAnswers.{DeskStays, TakesDeskStep, desk_rules, desk_said, desk_state_of, desk_step_of}
use Rattle.fact_graph_c.specs.Room.{desk_room}
use Rattle.fact_graph_c.specs.Sound.{IsSoundDesk}
use Rattle.fact_graph_c.specs.declared.desk_engine.DeskEngine.{DeskEngine}
use Rattle.fact_graph_c.specs.declared.text.Text.{Text}
use Rattle.fact_graph_c.proofs.DeskRoomLaws.{desk_fills_still}
use Rattle.fact_graph_c.proofs.TextLaws.{put_behind, put_whole, room_stays}

module _ (old : DeskEngine) (line : List ℕ) (lines : List ScriptLine) (given : lines ≡ line_given line ∷ []) (goes_on : old.over ≡ false) where
  at : (d : Desk) → desk_open d ≡ desk_state_of old d
  at d = λ i. record { desk = d; over = sym goes_on i }

  state_here : (d : Desk) → desk_state_after (desk_rules old) (desk_open d) lines ≡ (desk_step_of old d line).state
  state_here d = λ i. desk_state_after (desk_rules old) (at d i) (given i)

  lines_here : (d : Desk) → desk_replies (desk_rules old) (desk_open d) lines ≡ (desk_step_of old d line).lines
  lines_here d = (λ i. desk_replies (desk_rules old) (at d i) (given i)) ∙ append-nil (desk_step_of old d line).lines

  -- the reply to the line was taken whole, where nothing was said before
  pub takes_desk_step : (new : DeskEngine) (over : Bool) → desk_said old ≡ [] → new.over ≡ over
      → ((d : Desk) → StandsFor old.desk d → Sent (Some (old.text.room ∷ desk_said old)) (Some (new.text.room ∷ desk_said new)) (joined (desk_replies (desk_rules old) (desk_open d) lines)) [])
      → ((d : Desk) → StandsFor old.desk d → StandsAt new.desk (desk_state_after (desk_rules old) (desk_open d) lines) over)
      → TakesDeskStep old new line over
  takes_desk_step new over empty ends sent stands = record {
    text = λ d s.
        put_whole old.text.room new.text.room (desk_said old) (desk_said new) (joined (desk_replies (desk_rules old) (desk_open d) lines)) (sent d s)
        ∙ ap (λ (t : List ℕ). t ++ joined (desk_replies (desk_rules old) (desk_open d) lines)) empty
        ∙ ap joined (lines_here d);
    stands = λ d s. subst (λ (st : DeskState). StandsFor new.desk st.desk) (state_here d) (stands d s).0;
    quits = λ d s. ap (λ (st : DeskState). st.over) (sym (state_here d)) ∙ (stands d s).1;
    ends = ends;
  }

  -- the text was longer than the room for it, so that its step changes nothing
  pub desk_stays_full : (text : Text) (w : DeskView) → IsSoundDesk old → old.desk.session.changes < 2 ^ 63 → desk_room ≤ old.text.room → desk_said old ≡ []
      → (d : Desk) → StandsFor old.desk d → RoseByOne old.text.faults text.faults → (rest : List ℕ)
      → Sent (Some (old.text.room ∷ desk_said old)) (Some (text.room ∷ text.bytes.items)) (joined (desk_replies (desk_rules old) (desk_open d) lines)) rest
      → StandsFor w (desk_state_after (desk_rules old) (desk_open d) lines).desk → StandsFor w d
  desk_stays_full text w sound few roomy empty d s rose rest sent stands =
      let r : Rules = desk_rules old in
      let fit : AnswersFit (tree_of r) d.session_state.timeline.now = subst (λ (c : SessionState). AnswersFit (tree_of r) c.timeline.now) s.session_state sound.fit in
      let few_here : d.session_state.changes < 2 ^ 63 = subst (λ (c : SessionState). c.changes < 2 ^ 63) s.session_state few in
      let made : DeskStep = step_party_line r d (line_given line) in
      let lines_made : desk_replies r (desk_open d) lines ≡ made.lines = (λ i. desk_replies r (desk_open d) (given i)) ∙ append-nil made.lines in
      let stands_made : StandsFor w made.state.desk = subst (λ (st : DeskState). StandsFor w st.desk) (λ i. desk_state_after r (desk_open d) (given i)) stands in
      let filled : text.room ≤ length text.bytes.items = text.full (omega (arith, rose.0)) in
      let roomy_still : desk_room ≤ text.room = subst (λ (n : ℕ). desk_room ≤ n) (sym (room_stays _ _ _ _ _ rest sent)) roomy in
      let long_text : text.room ≤ length (joined made.lines) =
      omega (arith, filled, ap length (put_behind _ _ _ _ _ rest sent), length-append (desk_said old) sent.front, ap length empty, ap length sent.split, length-append sent.front rest, ap (λ (ls : List (List ℕ)). length (joined ls)) lines_made) in
      desk_fills_still r d sound.is_accepted sound.lists fit s.orderly few_here w (line_given line) stands_made (omega (arith, long_text, roomy_still))

-- nothing follows `quit`
pub desk_stays_over : (old new : DeskEngine) (line : List ℕ) → old.over ≡ true → desk_said new ≡ [] → new.desk ≡ old.desk → new.over ≡ true → TakesDeskStep old new line true
desk_stays_over old new line quit empty same ends = record {
  text = λ d s. empty ∙ sym (ap (λ (st : DeskStep). joined st.lines) (still d));
  stands = λ d s. subst (λ (v : DeskView). StandsFor v (desk_step_of old d line).state.desk) (sym same) (subst (λ (st : DeskStep). StandsFor old.desk st.state.desk) (sym (still d)) s);
  quits = λ d s. ap (λ (st : DeskStep). st.state.over) (still d);
  ends = ends;
}
  where
    still : (d : Desk) → desk_step_of old d line ≡ record { lines = []; state = record { desk = d; over = true } }
    still d = λ i. desk_line_step (desk_rules old) (record { desk = d; over = quit i }) (line_given line)

-- ---- no memory

-- what is kept is as before
pub desk_stays : (old new : DeskEngine) → desk_said new ≡ [] → ((d : Desk) → StandsFor old.desk d → new.desk ≡ old.desk) → new.over ≡ old.over → DeskStays old new
desk_stays old new empty kept over = record { text = empty; stands = λ d s. subst (λ (v : DeskView). StandsFor v d) (sym (kept d s)) s; ends = over }
