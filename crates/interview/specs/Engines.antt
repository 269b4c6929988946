-- Where it makes no difference which engine keeps the results.
use Rattle.std.specs.Prelude.{◌≡◌, ℕ, Bool, true, false, List, [], ◌∷◌, All}
use Rattle.script_lines.specs.Lines.{ScriptLine, whole, long, script_lines}
use Rattle.script_lines.specs.Parsing.{Heard, nothing, bad_line, command, heard_in}
use Rattle.script_lines.specs.declared.command.Command.{Command}
use Rattle.script_lines.specs.declared.command.Command.TheVariants as commands
use Rattle.answers.specs.Answered.{Answered}
use Rattle.dictionary.specs.AcceptedParts.{Named}
use Rattle.graph_session.specs.Rules.{Rules}
use Rattle.session_lines.specs.Stepping.{at_start, state_after, step}
use Rattle.script_runs.specs.declared.status.Status.{Status}
use Rattle.script_runs.specs.declared.status.Status.TheVariants.{Done, DictionaryRefused, ScriptTooLong, SavedRefused}
use Rattle.interview_ends.specs.Beginnings.{Basis}
use Rattle.interview_ends.specs.Dictionaries.{Content}
use Rattle.interview.specs.Ends.{Interviewed, KnownRun}
use Rattle.interview_ends.specs.Given.{Did, EndedAs, Given, IsOneOf}
use Rattle.script_runs.specs.DefinedScript.{Defined, defined_script}
use Rattle.interview.specs.Interview.{RunsTo}
use Rattle.script_runs.specs.Meanings.{meaning_of}
use Rattle.script_runs.specs.declared.mode.Mode.TheVariants.{Incremental, Plain}

-- the commands that ask for what an engine counts
abbrev pub asks_counts : Command → Bool
asks_counts (commands.Stamp path) = true
asks_counts commands.Touched = true
asks_counts _ = false

abbrev pub is_of_counts : Heard → Bool
is_of_counts nothing = false
is_of_counts bad_line = false
is_of_counts (command asked) = asks_counts asked

-- the line is a `stamp` or a `touched`
abbrev pub line_asks_counts : ScriptLine → Bool
line_asks_counts (whole line) = is_of_counts (heard_in line)
line_asks_counts long = false

-- no line of the script is
abbrev pub AsksNoCounts : List ℕ → Type 0
AsksNoCounts script = All (λ l. line_asks_counts l ≡ false) (script_lines script)

-- ---- laws

-- What such a script comes to is the same with stamps and without, with whatever answers it begins, and whatever may be watched:
-- `run` and `run-plain` have one defined interview.
pub record AgreeOn (relations : List Named) (script : List ℕ) : Type 0 where
  pub defined : (r : Rules) (a : Answered) → defined_script (meaning_of r Incremental relations a) script ≡ defined_script (meaning_of r Plain relations a) script
  pub there : (content : Content) (checks : List Named) (basis : Basis) (d : Defined) → RunsTo content checks basis Incremental relations script d → RunsTo content checks basis Plain relations script d
  pub back : (content : Content) (checks : List Named) (basis : Basis) (d : Defined) → RunsTo content checks basis Plain relations script d → RunsTo content checks basis Incremental relations script d

abbrev pub EnginesAgree : Type 0
EnginesAgree = (relations : List Named) (script : List ℕ) → AsksNoCounts script → AgreeOn relations script

-- what a line is answered behind these lines, with stamps or without
abbrev pub reply_behind : Rules → Bool → List Named → Answered → List ScriptLine → ScriptLine → List (List ℕ)
reply_behind r stamps relations a lines line =
    (step r (state_after r (at_start r (record { answers = a; stamps = stamps; relations = relations })) lines) line).lines

-- Behind whatever lines, one that asks for no counts is answered the same by both.
abbrev pub LinesAgree : Type 0
LinesAgree =
    (r : Rules) (relations : List Named) (a : Answered) (lines : List ScriptLine) (line : ScriptLine) → line_asks_counts line ≡ false
    → reply_behind r true relations a lines line ≡ reply_behind r false relations a lines line

-- A run and a plain run over the same dictionary, saved text and script, which asks for no counts. What they come to is known.
pub record RunAndPlainRun (given other : Given) : Type 0 where
  pub run : KnownRun given
  pub plain_run : KnownRun other
  pub by_run : run.asked.mode ≡ Incremental
  pub by_run_plain : plain_run.asked.mode ≡ Plain
  pub same_checks : other.checks ≡ given.checks
  pub same_relations : other.relations ≡ given.relations
  pub same_content : plain_run.content ≡ run.content
  pub same_basis : plain_run.basis ≡ run.basis
  pub same_script : plain_run.script ≡ run.script
  pub no_counts : AsksNoCounts run.script

-- it ended as defined: by nothing from outside, and not for want of memory
abbrev pub EndedSo : Status → Type 0
EndedSo status = IsOneOf status (Done ∷ DictionaryRefused ∷ ScriptTooLong ∷ SavedRefused ∷ [])

-- Where both ended as defined, they have one status, and wrote the same bytes.
abbrev pub RunsAgree : Type 0
RunsAgree =
    (given other : Given) → RunAndPlainRun given other → (did also : Did) (status other_status : Status) → Interviewed given did status → Interviewed other also other_status
    → EndedSo status → EndedSo other_status → (d : Defined) × EndedAs did status d × EndedAs also other_status d
