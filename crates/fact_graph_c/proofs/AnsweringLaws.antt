-- What a host's line leaves at a session.
use Rattle.std.proofs.Common.{◌≡◌, inl, inr, refl, Option, None, ℕ, ◌<◌, ◌≤◌, Bool, true, false, nat_le, if◌then◌else◌, List, [], ◌∷◌, ◌++◌, length, length-append, Some, sym, ap, subst, ◌∙◌, arith}
use Rattle.std.proofs.lemmas.Bool.Decides.{nat_tests}
use Rattle.std.proofs.lemmas.List.{append-nil}
use Rattle.fg_io.specs.Outside.{RoseByOne}
use Rattle.fg_io.specs.Sent.{Sent}
use Rattle.script_lines.specs.Joined.{joined}
use Rattle.script_lines.specs.Lines.{ScriptLine, whole, long}
use Rattle.graph_session.specs.Refusals.{SameChecks}
use Rattle.graph_session.specs.Rules.{rules}
use Rattle.dictionary.specs.AcceptedParts.{AcceptedParts, Named, accepted}
use Rattle.dictionary.specs.Checks.{has_check}
use Rattle.dict_meaning.specs.Fits.{AnswersFit}
use Rattle.graph_session.specs.SessionView.{SessionState, SessionView, session_state}
use Rattle.fact_watch.specs.Watching.{Watching}
use Rattle.session_lines.specs.Answering.{line_state_of}
use Rattle.session_lines.specs.Stepping.{LineState, State, Step, open_at, replies, state_after, step, text_of}
use Rattle.fact_graph_c.specs.Answering.{Stays, TakesStep, line_given, rules_of, said, state_of}
use Rattle.fact_graph_c.specs.Checks.{HasStandardChecks}
use Rattle.fact_graph_c.specs.Consulting.{Serves}
use Rattle.fact_graph_c.specs.Room.{room_for}
use Rattle.fact_graph_c.specs.Sound.{IsSound}
use Rattle.session_lines.specs.Tables.{standard_checks, standard_relations}
use Rattle.fact_graph_c.specs.declared.engine.Engine.{Engine}
use Rattle.fact_graph_c.specs.declared.text.Text.{Text}
use Rattle.fact_graph_c.proofs.ConsultingLaws.{alike, by_standard, short_names, unwatched}
use Rattle.fact_graph_c.proofs.RoomLaws.{fills_still}
use Rattle.fact_graph_c.proofs.TextLaws.{put_behind, put_whole, room_stays}

-- the checks of a table are those of the session's dictionary, or no fact of it has a check
pub same_checks : (k : AcceptedParts) (table : List Named) → table ≡ standard_checks → HasStandardChecks k → SameChecks (rules k) table
same_checks k table is same = by (has_check (accepted k).tree) refl
  where
    by : (b : Bool) → has_check (accepted k).tree ≡ b → SameChecks (rules k) table
    by true e = inl (same e ∙ sym is)
    by false e = inr e

-- a line is given whole exactly where it isn't too long
pub given_long : (line : List ℕ) → 4096 < length line → line_given line ≡ long
given_long line over =
    let above : nat_le (length line) 4096 ≡ false = grind (arith, nat_tests) in
    ap (λ (b : Bool). if b then whole line else long) above

pub given_whole : (line : List ℕ) → length line ≤ 4096 → line_given line ≡ whole line
given_whole line short =
    let within : nat_le (length line) 4096 ≡ true = grind (arith, nat_tests) in
    ap (λ (b : Bool). if b then whole line else long) within

module _ (old new : Engine) (line : List ℕ) where
  -- where the script stands by these relations
  abbrev here : List Named → State
  here relations = open_at (line_state_of old.session relations old.watches)

  -- the step of the line from there
  abbrev made : State → Step
  made st = step (rules_of old) st (line_given line)

  -- the reply from such a place was taken whole, and a step from it is the line's but for the relations
  behind : (over : Bool) (relations : List Named) (lines : List ScriptLine) (st : State)
      → here relations ≡ st → text_of (made st) ≡ text_of (made (state_of old)) → by_standard (made st).state ≡ (made (state_of old)).state
      → lines ≡ line_given line ∷ [] → said old ≡ [] → new.over ≡ over
      → Sent (Some (old.text.room ∷ said old)) (Some (new.text.room ∷ said new)) (joined (replies (rules_of old) (here relations) lines)) []
      → state_after (rules_of old) (here relations) lines ≡ record { standing = line_state_of new.session relations new.watches; over = over }
      → TakesStep old new line over
  behind over relations lines st stands text state given empty ends sent left =
      let text_here : replies (rules_of old) (here relations) lines ≡ replies (rules_of old) st (line_given line ∷ []) = λ i. replies (rules_of old) (stands i) (given i) in
      let state_here : state_after (rules_of old) (here relations) lines ≡ (made st).state = λ i. state_after (rules_of old) (stands i) (given i) in
      let now : state_of new ≡ by_standard (record { standing = line_state_of new.session relations new.watches; over = over }) = λ i. record { standing = line_state_of new.session standard_relations new.watches; over = ends i } in
      record {
        text = put_whole old.text.room new.text.room (said old) (said new) (joined (replies (rules_of old) (here relations) lines)) sent ∙ ap (λ (t : List ℕ). t ++ joined (replies (rules_of old) (here relations) lines)) empty
            ∙ ap joined (text_here ∙ append-nil (made st).lines) ∙ text;
        state = now ∙ ap by_standard (sym left ∙ state_here) ∙ state;
        ends = ends;
      }

  -- the reply to the line was taken whole, where nothing was said before
  pub takes_step : (over : Bool) (relations : List Named) (lines : List ScriptLine)
      → Serves relations old.watches.watched line → lines ≡ line_given line ∷ []
      → old.over ≡ false → said old ≡ [] → new.over ≡ over
      → Sent (Some (old.text.room ∷ said old)) (Some (new.text.room ∷ said new)) (joined (replies (rules_of old) (here relations) lines)) []
      → state_after (rules_of old) (here relations) lines ≡ record { standing = line_state_of new.session relations new.watches; over = over }
      → TakesStep old new line over
  takes_step over relations lines (inl standard) given goes_on empty ends sent left =
      let stands : here relations ≡ state_of old = λ i. record { standing = line_state_of old.session (standard i) old.watches; over = sym goes_on i } in
      let state_here : state_after (rules_of old) (here relations) lines ≡ (made (state_of old)).state = λ i. state_after (rules_of old) (stands i) (given i) in
      let at_standard : by_standard (record { standing = line_state_of new.session relations new.watches; over = over }) ≡ record { standing = line_state_of new.session relations new.watches; over = over } =
      λ i. record { standing = line_state_of new.session (sym standard i) new.watches; over = over } in
      behind over relations lines (state_of old) stands refl (ap by_standard (sym state_here ∙ left) ∙ at_standard ∙ sym left ∙ state_here) given empty ends sent left
  takes_step over relations lines (inr none) given goes_on empty ends sent left =
      let c : SessionState = session_state old.session in
      let stands : here relations ≡ open_at (unwatched c []) = λ i. record { standing = record { session_state = c; relations = none.0 i; watched = none.1.0 i }; over = false } in
      let standard : state_of old ≡ open_at (unwatched c standard_relations) = λ i. record { standing = record { session_state = c; relations = standard_relations; watched = none.1.0 i }; over = goes_on i } in
      let same = alike (rules_of old) c line none.1.1 in
      behind over relations lines (open_at (unwatched c [])) stands
      (ap joined (sym same.0) ∙ sym (ap (λ (st : State). text_of (made st)) standard)) (sym same.1 ∙ sym (ap (λ (st : State). (made st).state) standard)) given empty ends sent left

  -- nothing follows `quit`
  pub stays_over : old.over ≡ true → said new ≡ [] → new.session ≡ old.session → new.watches ≡ old.watches → new.over ≡ true → TakesStep old new line true
  stays_over quit empty session watches ends =
      let here : State = record { standing = line_state_of old.session standard_relations old.watches; over = true } in
      let stays : step (rules_of old) (state_of old) (line_given line) ≡ record { lines = []; state = here } =
      λ i. step (rules_of old) (record { standing = line_state_of old.session standard_relations old.watches; over = quit i }) (line_given line) in
      let now : state_of new ≡ here = λ i. record { standing = line_state_of (session i) standard_relations (watches i); over = ends i } in
      record {
        text = empty ∙ sym (ap text_of stays);
        state = now ∙ sym (ap (λ (s : Step). s.state) stays);
        ends = ends;
      }

-- ---- no memory

-- the script stands where it stood
pub stays : (old new : Engine) (relations : List Named) → said new ≡ [] → line_state_of new.session relations new.watches ≡ line_state_of old.session relations old.watches → new.over ≡ old.over → Stays old new
stays old new relations empty kept over = record { text = empty; state = λ i. record { standing = record (kept i) { relations = standard_relations }; over = over i } }

-- the text was longer than the room for it, so that its step changes nothing
pub stays_full : (old : Engine) (line : List ℕ) (session : SessionView) (watches : Watching) (text : Text) (relations : List Named) (lines : List ScriptLine) (rest : List ℕ)
    → IsSound old → room_for (length old.watches.watched) ≤ old.text.room → AnswersFit (accepted session.dict).tree session.timeline.now → session.dict ≡ old.session.dict
    → Serves relations old.watches.watched line → lines ≡ line_given line ∷ [] → said old ≡ [] → RoseByOne old.text.faults text.faults
    → Sent (Some (old.text.room ∷ said old)) (Some (text.room ∷ text.bytes.items)) (joined (replies (rules_of old) (open_at (line_state_of old.session relations old.watches)) lines)) rest
    → state_after (rules_of old) (open_at (line_state_of old.session relations old.watches)) lines ≡ open_at (line_state_of session relations watches)
    → line_state_of session relations watches ≡ line_state_of old.session relations old.watches
stays_full old line session watches text relations lines rest sound roomy fit same serves given empty rose sent left =
    let r = rules_of old in
    let here : LineState = line_state_of old.session relations old.watches in
    let made : Step = step r (open_at here) (line_given line) in
    let fits : AnswersFit (accepted old.session.dict).tree session.timeline.now = subst (λ (k : AcceptedParts). AnswersFit (accepted k).tree session.timeline.now) same fit in
    let whole_text : joined (replies r (open_at here) lines) ≡ text_of made = ap (λ (ls : List ScriptLine). joined (replies r (open_at here) ls)) given ∙ ap joined (append-nil made.lines) in
    let filled : text.room ≤ length text.bytes.items = text.full (omega (arith, rose.0)) in
    let roomy_still : room_for (length old.watches.watched) ≤ text.room = subst (λ (n : ℕ). room_for (length old.watches.watched) ≤ n) (sym (room_stays _ _ _ _ _ rest sent)) roomy in
    let long_text : text.room ≤ length (text_of made) = omega (arith, filled, ap length (put_behind _ _ _ _ _ rest sent), length-append (said old) sent.front, ap length empty, ap length sent.split, length-append sent.front rest, ap length whole_text) in
    fills_still r here (line_state_of session relations watches) sound.is_accepted sound.fit.well fits (short_names relations old.watches.watched line serves) text.room roomy_still (line_given line) (ap (state_after r (open_at here)) (sym given) ∙ left) long_text
