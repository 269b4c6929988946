-- A session with stamps and one without answer the same, but for what is counted.
use Rattle.std.proofs.Common.{◌≡◌, ◌⊎◌, ℕ, Bool, true, false, List, [], ◌∷◌, ◌++◌, length, take, drop, Option, Some, None, inl, inr, refl, sym, ap, subst, ◌∙◌, take-append-drop}
use Rattle.std.specs.Prelude.{All, Result, Ok, Err, nat_le, if◌then◌else◌}
use Rattle.std.proofs.Math.Seq.{take-append_seam}
use Rattle.std.proofs.lemmas.List.Elements.{All-head, All-tail, All-take}
use Rattle.script_lines.specs.Joined.{joined}
use Rattle.script_lines.specs.Lines.{ScriptLine, whole, long, script_lines, ended_lines}
use Rattle.script_lines.specs.Parsing.{Heard, nothing, bad_line, command, heard_in}
use Rattle.script_lines.specs.declared.command.Command.{Command}
use Rattle.script_lines.specs.declared.command.Command.TheVariants.{Set, Clear, OpenList, Add, Remove, Override, Release, Undo, Redo, Get, Final, Stamp, Touched, Missing, Unwatch, Quit}
use Rattle.script_lines.specs.declared.command.Command.TheVariants as commands
use Rattle.script_lines.proofs.EndedLaws.{lines_go_on}
use Rattle.session_undo.specs.Timeline.{Timeline}
use Rattle.answers.specs.Answered.{Answered}
use Rattle.dictionary.specs.AcceptedParts.{Named}
use Rattle.graph_session.specs.Refusals.{decided, slot_found}
use Rattle.graph_session.specs.Rules.{Rules, tree_of}
use Rattle.graph_session.specs.SessionView.{SessionState}
use Rattle.graph_session.specs.Step as session
use Rattle.graph_session.specs.declared.reply.Refusal.{Refusal}
use Rattle.graph_session.specs.declared.reply.Reply.{Reply}
use Rattle.graph_session.specs.declared.reply.Reply.TheVariants as replied
use Rattle.script_runs.specs.declared.status.Status.{Status}
use Rattle.script_runs.specs.declared.status.Status.TheVariants.{Done, DictionaryRefused, Usage, FetchFault, ReadFault, WriteFault, ScriptTooLong, NoMemory, SavedRefused}
use Rattle.interview_ends.specs.Beginnings.{Basis}
use Rattle.interview_ends.specs.Dictionaries.{Content}
use Rattle.interview.specs.Ends.{ComesTo, EndedByRun, Interviewed, KnownRun}
use Rattle.interview.specs.Engines.{AsksNoCounts, EndedSo, EnginesAgree, LinesAgree, RunsAgree, RunAndPlainRun, asks_counts, is_of_counts, line_asks_counts}
use Rattle.interview_ends.specs.Given.{Did, EndedAs, Given, IsOneOf}
use Rattle.script_runs.specs.DefinedScript.{Defined, answered_lines, defined_script, script_limit}
use Rattle.interview.specs.Interview.{GoesOnTo, RunsTo}
use Rattle.script_runs.specs.Meanings.{meaning_of}
use Rattle.script_runs.specs.declared.mode.Mode.{Mode}
use Rattle.script_runs.specs.declared.mode.Mode.TheVariants.{Incremental, Plain}
use Rattle.interview.proofs.RunLaws.{one_run}
use Rattle.session_lines.specs.Replies.{missing_output, reply_text}
use Rattle.session_lines.specs.Stepping.{LineState, State, Step, at_start, cut_watch, open_at, place_in, put_watch, replies, said, state_after, step, step_answered, step_command, step_heard, step_line, watch_decided}
use Rattle.fact_watch.specs.Refusals.{unwatch_refusal, watch_refusal}
use Rattle.fact_watch.specs.Watching.{Watch}
use Rattle.fact_watch.specs.declared.commands.WatchRefusal.{WatchRefusal}
use Rattle.fact_values.specs.declared.slot.Slot.{Slot}

-- the same session without its counts
abbrev plain_session_state : SessionState → SessionState
plain_session_state c = record { timeline = c.timeline; changes = c.changes; counts = None }

abbrev plain_line_state : LineState → LineState
plain_line_state s = record s { session_state = plain_session_state s.session_state }

abbrev plain_state : State → State
plain_state s = record { standing = plain_line_state s.standing; over = s.over }

abbrev plain_step : Step → Step
plain_step s = record { lines = s.lines; state = plain_state s.state }

-- ---- one command

text_same : (r : Rules) (c : SessionState) (reply : Reply) → reply_text r (plain_session_state c) reply ≡ reply_text r c reply
text_same r c replied.Done = refl
text_same r c (replied.Added member) = refl
text_same r c (replied.Answer slot) = refl
text_same r c (replied.FinalAsked slot) = refl
text_same r c (replied.Stamp number) = refl
text_same r c (replied.Touched number) = refl
text_same r c (replied.MissingAsked slot) = refl
text_same r c (replied.WatchAsked slot) = refl
text_same r c (replied.UnwatchAsked slot) = refl
text_same r c replied.Quit = refl

moved_same : (r : Rules) (c : SessionState) (t : Option Timeline) → session.moved_by r (plain_session_state c) t ≡ plain_session_state (session.moved_by r c t)
moved_same r c None = refl
moved_same r c (Some t) = refl

answered_same : (r : Rules) (s : LineState) (asked : Command) (o : Option Refusal) (reply : Reply) (t : Option Timeline)
    → step_answered r (plain_line_state s) asked (decided o (reply, session.moved_by r (plain_session_state s.session_state) t)) ≡ plain_step (step_answered r s asked (decided o (reply, session.moved_by r s.session_state t)))
answered_same r s asked (Some refusal) reply t = refl
answered_same r s asked None reply t =
    let d = session.moved_by r s.session_state t in
    ap (λ (e : SessionState). step_answered r (plain_line_state s) asked (Ok (reply, e))) (moved_same r s.session_state t)
    ∙ ap {A = List ℕ} {B = Step} (λ text. record { lines = said r (plain_line_state s) asked text (plain_session_state d); state = open_at (record s { session_state = plain_session_state d }) }) (text_same r d reply)

-- what a session doesn't answer itself

missing_same : (r : Rules) (c : SessionState) (o : Result Slot Refusal) → missing_output r (plain_session_state c) o ≡ missing_output r c o
missing_same r c (Ok slot) = refl
missing_same r c (Err refusal) = refl

decided_same : (s : LineState) (watched : List Watch) (o : Option WatchRefusal) → watch_decided (plain_line_state s) watched o ≡ plain_step (watch_decided s watched o)
decided_same s watched None = refl
decided_same s watched (Some refusal) = refl

put_same : (s : LineState) (name : List ℕ) (o : Result Slot Refusal) → put_watch (plain_line_state s) name o ≡ plain_step (put_watch s name o)
put_same s name (Ok slot) = decided_same s _ (watch_refusal (place_in s.relations name) s.watched slot)
put_same s name (Err refusal) = refl

cut_same : (s : LineState) (name : List ℕ) (o : Result Slot Refusal) → cut_watch (plain_line_state s) name o ≡ plain_step (cut_watch s name o)
cut_same s name (Ok slot) = decided_same s _ (unwatch_refusal (place_in s.relations name) s.watched slot)
cut_same s name (Err refusal) = refl

-- a command that doesn't ask for them
command_same : (r : Rules) (s : LineState) (asked : Command) → asks_counts asked ≡ false → step_command r (plain_line_state s) asked ≡ plain_step (step_command r s asked)
command_same r s (Set path text) none = answered_same r s (Set path text) (session.refusal r s.session_state (Set path text)) _ (session.timeline_by (tree_of r) s.session_state.timeline (Set path text))
command_same r s (Clear path) none = answered_same r s (Clear path) (session.refusal r s.session_state (Clear path)) _ (session.timeline_by (tree_of r) s.session_state.timeline (Clear path))
command_same r s (OpenList path) none = answered_same r s (OpenList path) (session.refusal r s.session_state (OpenList path)) _ (session.timeline_by (tree_of r) s.session_state.timeline (OpenList path))
command_same r s (Add path) none = answered_same r s (Add path) (session.refusal r s.session_state (Add path)) _ (session.timeline_by (tree_of r) s.session_state.timeline (Add path))
command_same r s (Remove path member) none = answered_same r s (Remove path member) (session.refusal r s.session_state (Remove path member)) _ (session.timeline_by (tree_of r) s.session_state.timeline (Remove path member))
command_same r s (Override path text) none = answered_same r s (Override path text) (session.refusal r s.session_state (Override path text)) _ (session.timeline_by (tree_of r) s.session_state.timeline (Override path text))
command_same r s (Release path) none = answered_same r s (Release path) (session.refusal r s.session_state (Release path)) _ (session.timeline_by (tree_of r) s.session_state.timeline (Release path))
command_same r s Undo none = answered_same r s Undo (session.refusal r s.session_state Undo) _ (session.timeline_by (tree_of r) s.session_state.timeline Undo)
command_same r s Redo none = answered_same r s Redo (session.refusal r s.session_state Redo) _ (session.timeline_by (tree_of r) s.session_state.timeline Redo)
command_same r s (Get path) none = answered_same r s (Get path) (session.refusal r s.session_state (Get path)) _ None
command_same r s (Final path) none = answered_same r s (Final path) (session.refusal r s.session_state (Final path)) _ None
command_same r s (Stamp path) none = absurd cc
command_same r s Touched none = absurd cc
command_same r s (Missing path) none = ap {A = List (List ℕ)} {B = Step} (λ lines. record { lines = lines; state = open_at (plain_line_state s) }) (missing_same r s.session_state (slot_found r s.session_state.timeline.now path))
command_same r s (commands.Watch name path) none = put_same s name (slot_found r s.session_state.timeline.now path)
command_same r s (Unwatch name path) none = cut_same s name (slot_found r s.session_state.timeline.now path)
command_same r s Quit none = refl

-- ---- lines

heard_same : (r : Rules) (s : LineState) (heard : Heard) → is_of_counts heard ≡ false → step_heard r (plain_line_state s) heard ≡ plain_step (step_heard r s heard)
heard_same r s nothing none = refl
heard_same r s bad_line none = refl
heard_same r s (command asked) none = command_same r s asked none

line_same : (r : Rules) (s : LineState) (line : ScriptLine) → line_asks_counts line ≡ false → step_line r (plain_line_state s) line ≡ plain_step (step_line r s line)
line_same r s (whole line) none = heard_same r s (heard_in line) none
line_same r s long none = refl

step_same : (r : Rules) (s : State) (line : ScriptLine) → line_asks_counts line ≡ false → step r (plain_state s) line ≡ plain_step (step r s line)
step_same r s line none = by s.over
  where
    by : (over : Bool) → (if over then record { lines = []; state = plain_state s } else step_line r (plain_line_state s.standing) line) ≡ plain_step (if over then record { lines = []; state = s } else step_line r s.standing line)
    by true = refl
    by false = line_same r s.standing line none

lines_same : (r : Rules) (s : State) (lines : List ScriptLine) → All (λ l. line_asks_counts l ≡ false) lines
    → (replies r (plain_state s) lines ≡ replies r s lines) × (state_after r (plain_state s) lines ≡ plain_state (state_after r s lines))
lines_same r s [] none = (refl, refl)
lines_same r s (line ∷ lines) none =
    let one = step_same r s line (All-head (λ l. line_asks_counts l ≡ false) line lines none) in
    let rest = lines_same r (step r s line).state lines (All-tail (λ l. line_asks_counts l ≡ false) line lines none) in (
      ap (λ (t : Step). t.lines ++ replies r t.state lines) one ∙ ap (λ l. (step r s line).lines ++ l) rest.0,
      ap (λ (t : Step). state_after r t.state lines) one ∙ rest.1,
    )

-- ---- a script

-- the first of some lines
first_ask_none : (xs ys : List ScriptLine) → All (λ l. line_asks_counts l ≡ false) (xs ++ ys) → All (λ l. line_asks_counts l ≡ false) xs
first_ask_none xs ys none = subst (All (λ l. line_asks_counts l ≡ false)) (take-append_seam xs ys) (All-take (λ l. line_asks_counts l ≡ false) (length xs) (xs ++ ys) none)

answered_ask_none : (script : List ℕ) → AsksNoCounts script → All (λ l. line_asks_counts l ≡ false) (answered_lines script)
unfolding answered_lines
answered_ask_none script none =
    elim (nat_le (length script) script_limit) as (λ b. All (λ l. line_asks_counts l ≡ false) (if b then script_lines script else ended_lines (take script_limit script))) [
      | true ↦ none
      | false ↦
          let go_on = lines_go_on (take script_limit script) (drop script_limit script) in
          let all = ap script_lines (sym (take-append-drop script_limit script)) ∙ go_on.1 in
          first_ask_none (ended_lines (take script_limit script)) go_on.0 (subst (All (λ l. line_asks_counts l ≡ false)) all none)
    ]

script_same : (r : Rules) (relations : List Named) (a : Answered) (script : List ℕ) → AsksNoCounts script → defined_script (meaning_of r Incremental relations a) script ≡ defined_script (meaning_of r Plain relations a) script
unfolding defined_script
script_same r relations a script none =
    let same = lines_same r (at_start r (record { answers = a; stamps = true; relations = relations })) (answered_lines script) (answered_ask_none script none) in
    let over : (meaning_of r Plain relations a).over (answered_lines script) ≡ (meaning_of r Incremental relations a).over (answered_lines script) = ap (λ (s : State). s.over) same.1 in
    λ i. record {
      text = joined (sym same.0 i);
      status = if nat_le (length script) script_limit then Done else if sym over i then Done else ScriptTooLong;
    }

-- behind what is written before the replies
abbrev behind : List ℕ → Defined → Defined
behind front given = record { text = front ++ given.text; status = given.status }

goes_on : (e f : Mode) (relations : List Named) (script : List ℕ) → ((r : Rules) (a : Answered) → defined_script (meaning_of r e relations a) script ≡ defined_script (meaning_of r f relations a) script) → (r : Rules) (basis : Basis) (d : Defined)
    → GoesOnTo r basis e relations script d → GoesOnTo r basis f relations script d
goes_on e f relations script same r basis d (inl (s, begins, to)) = inl (s, begins, to ∙ ap (behind (joined s.front)) (same r s.answers))
goes_on e f relations script same r basis d (inr refused) = inr refused

to_other : (e f : Mode) (relations : List Named) (script : List ℕ) → ((r : Rules) (a : Answered) → defined_script (meaning_of r e relations a) script ≡ defined_script (meaning_of r f relations a) script)
    → (content : Content) (checks : List Named) (basis : Basis) (d : Defined) → RunsTo content checks basis e relations script d → RunsTo content checks basis f relations script d
to_other e f relations script same content checks basis d (inl (r, is, goes)) = inl (r, is, goes_on e f relations script same r basis d goes)
to_other e f relations script same content checks basis d (inr refused) = inr refused

pub engines_agree : EnginesAgree
engines_agree relations script none = record {
  defined = λ r a. script_same r relations a script none;
  there = to_other Incremental Plain relations script (λ r a. script_same r relations a script none);
  back = to_other Plain Incremental relations script (λ r a. sym (script_same r relations a script none));
}

-- ---- one line behind whatever lines

-- what a command that changes no answer leaves
asked_kept : (r : Rules) (s : LineState) (asked : Command) (o : Option Refusal) (reply : Reply) → (step_answered r s asked (decided o (reply, s.session_state))).state ≡ open_at s
asked_kept r s asked None reply = refl
asked_kept r s asked (Some refusal) reply = refl

-- what a command leaves, also one that asks for counts
command_leaves : (r : Rules) (s : LineState) (asked : Command) → (step_command r (plain_line_state s) asked).state ≡ plain_state (step_command r s asked).state
command_leaves r s (Stamp path) =
    let c = s.session_state in
    asked_kept r (plain_line_state s) (Stamp path) (session.refusal r (plain_session_state c) (Stamp path)) (session.reply r (plain_session_state c) (Stamp path))
    ∙ ap plain_state (sym (asked_kept r s (Stamp path) (session.refusal r c (Stamp path)) (session.reply r c (Stamp path))))
command_leaves r s Touched =
    let c = s.session_state in
    asked_kept r (plain_line_state s) Touched (session.refusal r (plain_session_state c) Touched) (session.reply r (plain_session_state c) Touched)
    ∙ ap plain_state (sym (asked_kept r s Touched (session.refusal r c Touched) (session.reply r c Touched)))
command_leaves r s asked = ap (λ (t : Step). t.state) (command_same r s asked refl)

heard_leaves : (r : Rules) (s : LineState) (heard : Heard) → (step_heard r (plain_line_state s) heard).state ≡ plain_state (step_heard r s heard).state
heard_leaves r s nothing = refl
heard_leaves r s bad_line = refl
heard_leaves r s (command asked) = command_leaves r s asked

line_leaves : (r : Rules) (s : LineState) (line : ScriptLine) → (step_line r (plain_line_state s) line).state ≡ plain_state (step_line r s line).state
line_leaves r s (whole line) = heard_leaves r s (heard_in line)
line_leaves r s long = refl

step_leaves : (r : Rules) (s : State) (line : ScriptLine) → (step r (plain_state s) line).state ≡ plain_state (step r s line).state
step_leaves r s line = by s.over
  where
    by : (over : Bool) → (if over then record { lines = []; state = plain_state s } else step_line r (plain_line_state s.standing) line).state ≡ plain_state (if over then record { lines = []; state = s } else step_line r s.standing line).state
    by true = refl
    by false = line_leaves r s.standing line

lines_lead : (r : Rules) (s : State) (lines : List ScriptLine) → state_after r (plain_state s) lines ≡ plain_state (state_after r s lines)
lines_lead r s [] = refl
lines_lead r s (line ∷ lines) = ap (λ t. state_after r t lines) (step_leaves r s line) ∙ lines_lead r (step r s line).state lines

pub lines_agree : LinesAgree
lines_agree r relations a lines line none =
    let s = at_start r (record { answers = a; stamps = true; relations = relations }) in
    sym (ap (λ (t : State). (step r t line).lines) (lines_lead r s lines) ∙ ap (λ (t : Step). t.lines) (step_same r (state_after r s lines) line none))

-- ---- two runs

abbrev is_of_outside : Status → Bool
is_of_outside Done = false
is_of_outside DictionaryRefused = false
is_of_outside Usage = false
is_of_outside FetchFault = true
is_of_outside ReadFault = true
is_of_outside WriteFault = true
is_of_outside ScriptTooLong = false
is_of_outside NoMemory = true
is_of_outside SavedRefused = false

not_of_outside : (status : Status) → EndedSo status → is_of_outside status ≡ false
not_of_outside status (inl is) = ap is_of_outside is
not_of_outside status (inr (inl is)) = ap is_of_outside is
not_of_outside status (inr (inr (inl is))) = ap is_of_outside is
not_of_outside status (inr (inr (inr (inl is)))) = ap is_of_outside is
not_of_outside status (inr (inr (inr (inr none)))) = absurd none

of_outside : (status : Status) → IsOneOf status (FetchFault ∷ ReadFault ∷ WriteFault ∷ NoMemory ∷ []) → is_of_outside status ≡ true
of_outside status (inl is) = ap is_of_outside is
of_outside status (inr (inl is)) = ap is_of_outside is
of_outside status (inr (inr (inl is))) = ap is_of_outside is
of_outside status (inr (inr (inr (inl is)))) = ap is_of_outside is
of_outside status (inr (inr (inr (inr none)))) = absurd none

ended_by_run : (given : Given) (did : Did) (status : Status) → Interviewed given did status → EndedSo status → (run : KnownRun given) → EndedByRun given run did status
ended_by_run given did status interviewed so run = by (interviewed.exact run)
  where
    by : EndedByRun given run did status ⊎ IsOneOf status (FetchFault ∷ ReadFault ∷ WriteFault ∷ NoMemory ∷ []) → EndedByRun given run did status
    by (inl ended) = ended
    by (inr outside) = let both : true ≡ false = sym (of_outside status outside) ∙ not_of_outside status so in cc

module _ (given other : Given) (twins : RunAndPlainRun given other) where
  -- what a run with this mode comes to over what the first is given
  abbrev Runs : Mode → Defined → Type 0
  Runs mode d = RunsTo twins.run.content given.checks twins.run.basis mode given.relations twins.run.script d

  run_comes : (d : Defined) → ComesTo given twins.run d → Runs Incremental d
  run_comes d comes = subst (λ m. Runs m d) twins.by_run comes

  plain_run_comes : (d : Defined) → ComesTo other twins.plain_run d → Runs Plain d
  plain_run_comes d comes =
      let mode = subst (λ m. RunsTo twins.plain_run.content other.checks twins.plain_run.basis m other.relations twins.plain_run.script d) twins.by_run_plain comes in
      let checks = subst (λ c. RunsTo twins.plain_run.content c twins.plain_run.basis Plain other.relations twins.plain_run.script d) twins.same_checks mode in
      let relations = subst (λ n. RunsTo twins.plain_run.content given.checks twins.plain_run.basis Plain n twins.plain_run.script d) twins.same_relations checks in
      let content = subst (λ c. RunsTo c given.checks twins.plain_run.basis Plain given.relations twins.plain_run.script d) twins.same_content relations in
      let basis = subst (λ b. RunsTo twins.run.content given.checks b Plain given.relations twins.plain_run.script d) twins.same_basis content in
      subst (λ s. RunsTo twins.run.content given.checks twins.run.basis Plain given.relations s d) twins.same_script basis

  one_text : (d e : Defined) → ComesTo given twins.run d → ComesTo other twins.plain_run e → e ≡ d
  one_text d e comes plain_comes =
      one_run twins.run.content given.checks twins.run.basis Plain given.relations twins.run.script e d (plain_run_comes e plain_comes)
      ((engines_agree given.relations twins.run.script twins.no_counts).there twins.run.content given.checks twins.run.basis d (run_comes d comes))

pub runs_agree : RunsAgree
runs_agree given other twins did also status other_status interviewed plain_interviewed so plain_so =
    let ended = ended_by_run given did status interviewed so twins.run in
    let plain_ended = ended_by_run other also other_status plain_interviewed plain_so twins.plain_run in
    (ended.0, ended.2, subst (EndedAs also other_status) (one_text given other twins ended.0 plain_ended.0 ended.1 plain_ended.1) plain_ended.2)
