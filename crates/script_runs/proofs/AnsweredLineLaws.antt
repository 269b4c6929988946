-- What a session and a desk answered, as what their lines mean.
use Rattle.std.proofs.Common.{◌≡◌, ◌≢◌, ℕ, ◌+◌, ◌≤◌, Bool, true, false, List, None, refl, sym, ap, subst, arith}
use Rattle.fg_io.specs.Outside.{Output, follows_any}
use Rattle.session_lines.proofs.WritingLaws.{lines_none}
use Rattle.script_lines.specs.Lines.{ScriptLine}
use Rattle.answers.specs.Answered.{Answered}
use Rattle.dict_meaning.specs.Accepted.{Accepted}
use Rattle.dictionary.specs.AcceptedParts.{AcceptedParts, Named}
use Rattle.fact_watch.specs.Watching.{Watching, nothing_watched}
use Rattle.graph_session.specs.Rules.{Rules, rules}
use Rattle.graph_session.specs.SessionView.{SessionState, SessionView, start_at}
use Rattle.session_lines.specs.declared.progress.Progress.{Progress}
use Rattle.session_lines.specs.declared.progress.Progress.TheVariants.{More, Over, Unwritten, OutOfMemory}
use Rattle.session_lines.specs.Answering.{AnsweredAs, KeptAs, line_state_of}
use Rattle.session_lines.specs.Stepping.{LineState, State, at_start, open_at, state_after}
use Rattle.shared_desk.specs.Desk.{Desk as Defined, desk_begun}
use Rattle.shared_desk.specs.DeskView.{DeskView, StandsFor, rules_of}
use Rattle.desk_lines.specs.DeskAnswering.{DeskAnsweredAs, StandsAt}
use Rattle.desk_lines.specs.DeskStepping.{DeskState, desk_at_start, desk_open, desk_state_after}
use Rattle.script_runs.specs.Meanings.{Behind, Meaning, of_desk, of_session, silently}
use Rattle.script_runs.specs.AnsweredLines.{GoesOn, LineOutputAs}
use Rattle.script_runs.proofs.MeaningLaws.{desk_begins, desk_behind, desk_quit, session_begins, session_behind, session_quit, silently_begins, silently_behind, silently_quits}

-- ---- a session

-- a session that stands so means this
abbrev pub session_means : List Named → SessionView → Watching → Meaning → Type 0
session_means relations s w m = m ≡ of_session (rules s.dict) (open_at (line_state_of s relations w))

module _ (relations : List Named) (s s_now : SessionView) (w w_now : Watching) (sink sink_now : Output) (same : s_now.dict ≡ s.dict) where
  abbrev r : Rules
  r = rules s.dict

  abbrev here : LineState
  here = line_state_of s relations w

  abbrev here_now : LineState
  here_now = line_state_of s_now relations w_now

  abbrev MeansNow : Meaning → Type 0
  MeansNow = session_means relations s_now w_now

  -- it stands where the lines lead
  session_goes_on : (lines : List ScriptLine) → state_after r (open_at here) lines ≡ open_at here_now → GoesOn MeansNow (of_session r (open_at here)) lines
  session_goes_on lines left = record {
    there = of_session r (open_at here_now);
    means = ap (λ k. of_session (rules k) (open_at here_now)) (sym same);
    begins = session_begins r here_now;
    left = subst (λ t. Behind (of_session r (open_at here)) lines (of_session r t)) left (session_behind r (open_at here) lines);
  }

  -- the answers that stand
  stand : (lines : List ScriptLine) (over : Bool) → state_after r (open_at here) lines ≡ record { standing = here_now; over = over } → (of_session r (open_at here)).answers lines ≡ s_now.timeline.now
  stand lines over left = ap (λ (t : State). t.standing.session_state.timeline.now) left

  session_line : (lines : List ScriptLine) (progress : Progress) → AnsweredAs r sink sink_now here here_now lines progress → KeptAs (state_after r (open_at here) lines) here here_now progress
      → LineOutputAs MeansNow sink sink_now (of_session r (open_at here)) s_now.timeline.now lines progress
  session_line lines More answered kept = (answered.0, stand lines false answered.1, session_goes_on lines answered.1)
  session_line lines Over answered kept = (
    answered.0,
    stand lines true answered.1,
    (
      of_session r (state_after r (open_at here) lines),
      session_behind r (open_at here) lines,
      session_quit r (state_after r (open_at here) lines) (ap (λ (t : State). t.over) answered.1),
    ),
  )
  session_line lines Unwritten answered kept = (answered, session_goes_on lines kept)
  session_line lines OutOfMemory answered kept = (answered, λ i. of_session (rules (sym same i)) (open_at (sym kept i)))

  pub session_output : (lines : List ScriptLine) (progress : Progress) → AnsweredAs r sink sink_now here here_now lines progress → KeptAs (state_after r (open_at here) lines) here here_now progress
      → (m : Meaning) → session_means relations s w m → LineOutputAs MeansNow sink sink_now m s_now.timeline.now lines progress
  session_output lines progress answered kept m is =
      subst (λ n. LineOutputAs MeansNow sink sink_now n s_now.timeline.now lines progress) (sym is) (session_line lines progress answered kept)

-- at its start
pub begun_means : (relations : List Named) (k : AcceptedParts) (a : Answered) (stamps : Bool) (s : SessionView) (w : Watching) → s ≡ start_at k a stamps → w ≡ nothing_watched
    → session_means relations s w (of_session (rules k) (at_start (rules k) (record { answers = a; stamps = stamps; relations = relations })))
begun_means relations k a stamps s w same_session same_watches = λ i. of_session (rules (sym same_session i).dict) (open_at (line_state_of (sym same_session i) relations (sym same_watches i)))

-- ---- a desk

-- a state in which the script goes on
open_state : (state : DeskState) → state.over ≡ false → state ≡ desk_open state.desk
open_state state is = ap {A = Bool} {B = DeskState} (λ o. record { desk = state.desk; over = o }) is

-- a desk that is kept so means this
abbrev pub desk_means : DeskView → Meaning → Type 0
desk_means v m = (d : Defined) × StandsFor v d × (m ≡ of_desk (rules_of v) (desk_open d))

module _ (v v_now : DeskView) (sink sink_now : Output) (same : v_now.session.dict ≡ v.session.dict) where
  abbrev by : Rules
  by = rules_of v

  module _ (d : Defined) (lines : List ScriptLine) where
    abbrev after : DeskState
    after = desk_state_after by (desk_open d) lines

    -- it stands where the lines lead
    desk_goes_on : StandsAt v_now after false → GoesOn (desk_means v_now) (of_desk by (desk_open d)) lines
    desk_goes_on stands = record {
      there = of_desk by (desk_open after.desk);
      means = (after.desk, stands.0, ap (λ k. of_desk (rules k) (desk_open after.desk)) (sym same));
      begins = desk_begins by after.desk;
      left = subst (λ t. Behind (of_desk by (desk_open d)) lines (of_desk by t)) (open_state after stands.1) (desk_behind by (desk_open d) lines);
    }

    -- the answers that stand are those of the desk
    stood : StandsFor v_now after.desk → after.desk.session_state.timeline.now ≡ v_now.session.timeline.now
    stood stands = ap (λ (c : SessionState). c.timeline.now) (sym stands.session_state)

    desk_line : (progress : Progress) → StandsFor v d → DeskAnsweredAs by sink sink_now v v_now d lines progress
        → LineOutputAs (desk_means v_now) sink sink_now (of_desk by (desk_open d)) v_now.session.timeline.now lines progress
    desk_line More stands answered = (answered.0, stood answered.1.0, desk_goes_on answered.1)
    desk_line Over stands answered = (answered.0, stood answered.1.0, (of_desk by after, desk_behind by (desk_open d) lines, desk_quit by after answered.1.1))
    desk_line Unwritten stands answered = (answered.0, desk_goes_on answered.1)
    desk_line OutOfMemory stands answered = (answered.0, subst (λ (u : DeskView). desk_means u (of_desk by (desk_open d))) (sym answered.1) (d, stands, refl))

  pub desk_output : (lines : List ScriptLine) (progress : Progress) → ((d : Defined) → StandsFor v d → DeskAnsweredAs by sink sink_now v v_now d lines progress)
      → (m : Meaning) → desk_means v m → LineOutputAs (desk_means v_now) sink sink_now m v_now.session.timeline.now lines progress
  desk_output lines progress answered m (d, stands, is) =
      subst (λ n. LineOutputAs (desk_means v_now) sink sink_now n v_now.session.timeline.now lines progress) (sym is) (desk_line d lines progress stands (answered d stands))

-- at its start
pub desk_begun_means : (k : AcceptedParts) (a : Answered) (v : DeskView) → StandsFor v (desk_begun (rules k) a) → v.session.dict ≡ k → desk_means v (of_desk (rules k) (desk_at_start (rules k) a))
desk_begun_means k a v stands same = (desk_begun (rules k) a, stands, ap (λ q. of_desk (rules q) (desk_open (desk_begun (rules k) a))) (sym same))

-- ---- where nobody reads the replies

-- what a sink tells that keeps nothing
abbrev silent : Output
silent = record { taken = None; faults = 0; follows = follows_any }

abbrev pub silently_means : (Meaning → Type 0) → Meaning → Type 0
silently_means Means m = (told : Meaning) × Means told × (m ≡ silently told)

module _ (MeansNow : Meaning → Type 0) (sink : Output) (answers : Answered) (lines : List ScriptLine) where
  silent_line : (told : Meaning) (progress : Progress) → LineOutputAs MeansNow silent silent told answers lines progress → LineOutputAs (silently_means MeansNow) sink sink (silently told) answers lines progress
  silent_line told More output =
      let on = output.2 in
      (lines_none sink, output.1, record { there = silently on.there; means = (on.there, on.means, refl); begins = silently_begins on.there on.begins; left = silently_behind told lines on.there on.left })
  silent_line told Over output =
      let quit = output.2 in
      (lines_none sink, output.1, (silently quit.0, silently_behind told lines quit.0 quit.1, silently_quits quit.0 quit.2))
  silent_line told Unwritten output = absurd (omega (arith, output.0.puts.counted.0))
  silent_line told OutOfMemory output = (refl, (told, output.1, refl))

  pub silent_output : (Means : Meaning → Type 0) (progress : Progress) → ((told : Meaning) → Means told → LineOutputAs MeansNow silent silent told answers lines progress)
      → (m : Meaning) → silently_means Means m → LineOutputAs (silently_means MeansNow) sink sink m answers lines progress
  silent_output Means progress output m (told, means, is) =
      subst (λ (n : Meaning). LineOutputAs (silently_means MeansNow) sink sink n answers lines progress) (sym is) (silent_line told progress (output told means))

  -- no write failed
  pub silent_is_unfailing : (told : Meaning) (progress : Progress) → LineOutputAs MeansNow silent silent told answers lines progress → progress ≢ Unwritten
  silent_is_unfailing told More output = λ e. cc
  silent_is_unfailing told Over output = λ e. cc
  silent_is_unfailing told Unwritten output = absurd (omega (arith, output.0.puts.counted.0))
  silent_is_unfailing told OutOfMemory output = λ e. cc

-- ---- steps

-- within a bound, whatever is meant
pub steps_output : (is : Meaning) (most : Accepted → Answered → Answered → ℕ) (lines : List ScriptLine) (before after : ℕ) → after ≤ before + is.steps most lines
    → (m : Meaning) → m ≡ is → after ≤ before + m.steps most lines
steps_output is most lines before after took m same = subst (λ (n : Meaning). after ≤ before + n.steps most lines) (sym same) took
