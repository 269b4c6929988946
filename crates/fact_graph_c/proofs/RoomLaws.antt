-- A step whose text needs more memory than a session keeps changes nothing.
use Rattle.std.proofs.Common.{◌≡◌, ℕ, ◌*◌, ◌≤◌, zero, suc, Bool, true, false, cond, if◌then◌else◌, List, [], ◌∷◌, ◌++◌, length, map, Option, Some, None, refl, sym, ap, subst, ◌∙◌, arith, length-append}
use Rattle.std.specs.Prelude.{Result, Ok, Err, codes}
use Rattle.std.proofs.lemmas.Fmt.{length-decimal-le}
use Rattle.script_lines.specs.Joined.{joined}
use Rattle.script_lines.specs.Lines.{ScriptLine, whole, long}
use Rattle.script_lines.specs.Parsing.{Heard, nothing, bad_line, command, heard_in}
use Rattle.script_lines.specs.declared.command.Command.{Command}
use Rattle.script_lines.specs.declared.command.Command.TheVariants as commands
use Rattle.fact_values.specs.declared.slot.Slot.{Slot}
use Rattle.answers.specs.WellFormed.{WellFormed}
use Rattle.dict_meaning.specs.Accepted.{IsAccepted}
use Rattle.dictionary.specs.AcceptedParts.{Named, names_of}
use Rattle.dict_meaning.specs.Fits.{AnswersFit}
use Rattle.dict_meaning.specs.Plain.{plain}
use Rattle.evaluation.specs.Results.{Results}
use Rattle.dict_meaning.specs.SlotText.{slot_text}
use Rattle.dict_meaning.proofs.SlotTextLaws.{slot_short, standing_slot}
use Rattle.graph_session.specs.Refusals.{decided, slot_found}
use Rattle.graph_session.specs.Rules.{Rules, tree_of}
use Rattle.graph_session.specs.SessionView.{SessionState}
use Rattle.graph_session.specs.Step as session
use Rattle.graph_session.specs.declared.reply.Refusal.{Refusal}
use Rattle.graph_session.specs.declared.reply.Reply.{Reply}
use Rattle.fact_watch.specs.Refusals.{unwatch_refusal, watch_of, watch_refusal}
use Rattle.fact_watch.specs.Says.{slot_says}
use Rattle.fact_watch.specs.Watching.{Watch, code_at, without}
use Rattle.fact_watch.specs.declared.commands.WatchRefusal.{WatchRefusal}
use Rattle.session_lines.specs.Firing.{firing, firing_lines, name_at, watch_line}
use Rattle.session_lines.specs.Replies.{bad_line_text, long_line_text, missing_output, refusal_text, reply_text, watch_refusal_text}
use Rattle.session_lines.specs.Stepping.{LineState, State, Step, fired, open_at, place_in, put_watch, cut_watch, said, step, step_answered, step_command, step_heard, step_writing, text_of, watch_decided}
use Rattle.session_lines.proofs.FiringLaws.{said_stands}
use Rattle.session_lines.proofs.PrintLaws.{stands_with}
use Rattle.fact_graph_c.specs.Room.{room_for}
use Rattle.session_lines.specs.Tables.{standard_relations}

-- the names of the standard relations are short
pub standard_short : (place : ℕ) → length (name_at standard_relations place) ≤ 9
standard_short zero = omega arith
standard_short (suc zero) = omega arith
standard_short (suc (suc zero)) = omega arith
standard_short (suc (suc (suc zero))) = omega arith
standard_short (suc (suc (suc (suc place)))) = omega arith

-- what the session goes by, and where it stands before a step and behind it
module _ (r : Rules) (s now : LineState) (is_accepted : IsAccepted (names_of r.checks) r.accepted) (well : WellFormed s.session_state.timeline.now) (fit : AnswersFit (tree_of r) now.session_state.timeline.now)
    (named_short : (place : ℕ) → length (name_at s.relations place) ≤ 9) (room : ℕ) (roomy : room_for (length s.watched) ≤ room) where
  -- ---- the lines of the watches

  abbrev results : Results
  results = plain r.accepted s.session_state.timeline.now

  abbrev results_now : Results
  results_now = plain r.accepted now.session_state.timeline.now

  abbrev says : Watch → Bool
  says p = slot_says (code_at (λ (n : Named). n.1) s.relations p.0) (results p.1) (results_now p.1)

  -- a slot that has a result stands, and its path is short
  slot_said : (p : Watch) → says p ≡ true → length (slot_text (tree_of r) p.1) ≤ 140
  slot_said p said_so =
      let there = said_stands (tree_of r) s.relations results results_now p said_so in
      let stand = stands_with r.accepted now.session_state.timeline.now p.1 there.0 there.1 in
      slot_short (names_of r.checks) r.accepted is_accepted p.1 (standing_slot (tree_of r) now.session_state.timeline.now fit.well fit.from_one p.1 stand)

  line_short : (p : Watch) → says p ≡ true → length (watch_line (tree_of r) s.relations p) ≤ 160
  line_short p said_so =
      omega (arith, slot_said p said_so, named_short p.0, length-append (name_at s.relations p.0) (codes " " ++ slot_text (tree_of r) p.1))

  abbrev lines : List Watch → List ℕ
  lines watched = joined (firing_lines (tree_of r) s.relations results results_now watched)

  lines_short : (watched : List Watch) → length (lines watched) ≤ 161 * length watched
  lines_short [] = omega arith
  lines_short (p ∷ ps) = by (says p) refl (lines_short ps)
    where
      by : (b : Bool) → says p ≡ b → length (lines ps) ≤ 161 * length ps
          → length (joined (map (watch_line (tree_of r) s.relations) (cond b (p ∷ firing s.relations results results_now ps) (firing s.relations results results_now ps)))) ≤ 161 * suc (length ps)
      by true said_so rest = omega (arith, line_short p said_so, rest, length-append (watch_line (tree_of r) s.relations p) (10 ∷ lines ps))
      by false unsaid rest = omega (arith, rest)

  -- ---- the replies of changes

  reply_short : (asked : Command) → session.is_change asked ≡ true → (c : SessionState) → length (reply_text r c (session.reply r s.session_state asked)) ≤ 11
  reply_short (commands.Set path text) change c = omega arith
  reply_short (commands.Clear path) change c = omega arith
  reply_short (commands.OpenList path) change c = omega arith
  reply_short (commands.Add path) change c = omega (arith, length-decimal-le 7 s.session_state.timeline.now.next (omega arith) (omega (arith, well.high)) (omega (arith, well.high)))
  reply_short (commands.Remove path member) change c = omega arith
  reply_short (commands.Override path text) change c = omega arith
  reply_short (commands.Release path) change c = omega arith
  reply_short commands.Undo change c = omega arith
  reply_short commands.Redo change c = omega arith
  reply_short _ change c = absurd cc

  -- every other command leaves the session where it is
  unmoved : (asked : Command) → session.is_change asked ≡ false → session.moved_by r s.session_state (session.timeline_by (tree_of r) s.session_state.timeline asked) ≡ s.session_state
  unmoved (commands.Set path text) question = absurd cc
  unmoved (commands.Clear path) question = absurd cc
  unmoved (commands.OpenList path) question = absurd cc
  unmoved (commands.Add path) question = absurd cc
  unmoved (commands.Remove path member) question = absurd cc
  unmoved (commands.Override path text) question = absurd cc
  unmoved (commands.Release path) question = absurd cc
  unmoved commands.Undo question = absurd cc
  unmoved commands.Redo question = absurd cc
  unmoved _ question = refl

  -- ---- steps

  -- a text that has as many bytes as there is room for leaves all as it was
  abbrev FillsStill : Step → Type 0
  FillsStill made = made.state ≡ open_at now → room ≤ length (text_of made) → now ≡ s

  still : (text : List (List ℕ)) → FillsStill (record { lines = text; state = open_at s })
  still text is full = sym (ap (λ (t : State). t.standing) is)

  writing : (text : List ℕ) → FillsStill (step_writing s text)
  writing text = still (text ∷ [])

  answered : (asked : Command) (o : Option Refusal) (reply : Reply) (c : SessionState) → (session.is_change asked ≡ false → c ≡ s.session_state) → (session.is_change asked ≡ true → length (reply_text r c reply) ≤ 11)
      → FillsStill (step_answered r s asked (decided o (reply, c)))
  answered asked (Some refusal) reply c same short = writing (refusal_text refusal)
  answered asked None reply c same short = λ is full. by (ap (λ (t : State). t.standing) is) full (session.is_change asked) refl
    where
      by : record s { session_state = c } ≡ now → room ≤ length (joined (said r s asked (reply_text r c reply) c)) → (b : Bool) → session.is_change asked ≡ b → now ≡ s
      by at full true change =
          let here : c ≡ now.session_state = ap (λ (t : LineState). t.session_state) at in
          let lines_here : length (joined (fired r s c)) ≤ 161 * length s.watched = subst (λ (d : SessionState). length (joined (fired r s d)) ≤ 161 * length s.watched) (sym here) (lines_short s.watched) in
          let whole_text : joined (said r s asked (reply_text r c reply) c) ≡ reply_text r c reply ++ 10 ∷ joined (fired r s c) = ap (λ (b : Bool). joined (if b then reply_text r c reply ∷ fired r s c else reply_text r c reply ∷ [])) change in
          absurd (omega (arith, full, ap length whole_text, length-append (reply_text r c reply) (10 ∷ joined (fired r s c)), short change, lines_here, roomy))
      by at full false question = sym at ∙ ap (λ (d : SessionState). record s { session_state = d }) (same question)

  -- of a watch
  watch_decides : (watched : List Watch) (o : Option WatchRefusal) → FillsStill (watch_decided s watched o)
  watch_decides watched None = λ is full. absurd (omega (arith, full, roomy))
  watch_decides watched (Some refusal) = writing (watch_refusal_text refusal)

  put : (name : List ℕ) (found : Result Slot Refusal) → FillsStill (put_watch s name found)
  put name (Ok slot) = watch_decides (s.watched ++ watch_of (place_in s.relations name) slot ∷ []) (watch_refusal (place_in s.relations name) s.watched slot)
  put name (Err refusal) = writing (refusal_text refusal)

  cut : (name : List ℕ) (found : Result Slot Refusal) → FillsStill (cut_watch s name found)
  cut name (Ok slot) = watch_decides (without (watch_of (place_in s.relations name) slot) s.watched) (unwatch_refusal (place_in s.relations name) s.watched slot)
  cut name (Err refusal) = writing (refusal_text refusal)

  commanded : (asked : Command) → FillsStill (step_command r s asked)
  commanded commands.Quit = λ is full. absurd (let over : true ≡ false = ap (λ (t : State). t.over) is in cc)
  commanded (commands.Missing path) = still (missing_output r s.session_state (slot_found r s.session_state.timeline.now path))
  commanded (commands.Watch name path) = put name (slot_found r s.session_state.timeline.now path)
  commanded (commands.Unwatch name path) = cut name (slot_found r s.session_state.timeline.now path)
  commanded asked =
      let c : SessionState = session.moved_by r s.session_state (session.timeline_by (tree_of r) s.session_state.timeline asked) in
      answered asked (session.refusal r s.session_state asked) (session.reply r s.session_state asked) c (unmoved asked) (λ change. reply_short asked change c)

  heard : (h : Heard) → FillsStill (step_heard r s h)
  heard nothing = still []
  heard bad_line = writing bad_line_text
  heard (command asked) = commanded asked

  -- of a line
  pub fills_still : (line : ScriptLine) → (step r (open_at s) line).state ≡ open_at now → room ≤ length (text_of (step r (open_at s) line)) → now ≡ s
  fills_still (whole line) = heard (heard_in line)
  fills_still long = writing long_line_text
