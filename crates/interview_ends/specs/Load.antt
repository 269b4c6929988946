-- What `gen` is to give, and how it ends.
use Rattle.std.specs.Prelude.{◌≡◌, ℕ, List, [], length}
use Rattle.fg_io.specs.Outside.{Output}
use Rattle.script_lines.specs.Joined.{joined}
use Rattle.script_lines.specs.Lines.{lines_of}
use Rattle.answers.specs.Answered.{start}
use Rattle.dict_meaning.specs.Accepted.{IsAccepted}
use Rattle.dictionary.specs.AcceptedParts.{Named}
use Rattle.dictionary.specs.Keeping.{node_count}
use Rattle.dict_gen.specs.Chain.{chain}
use Rattle.dict_gen.specs.Script.{script}
use Rattle.graph_session.specs.Rules.{Rules, tree_of}
use Rattle.script_runs.specs.declared.status.Status.{Status}
use Rattle.script_runs.specs.declared.status.Status.TheVariants.{Done, WriteFault, NoMemory}
use Rattle.script_runs.specs.declared.mode.Mode.TheVariants.{Incremental}
use Rattle.script_runs.specs.Devices.{BeforeAfter, SentNothing, SentPart, SentWhole, SinkFailed}
use Rattle.script_runs.specs.DefinedScript.{Defined, defined_script}
use Rattle.script_runs.specs.Meanings.{meaning_of}
use Rattle.interview_ends.specs.Summary.{summary}

-- ---- what it comes to

-- what a session over the dictionary of the load with so many sums goes by: it is accepted, and names no check
pub record IsOfLoad (n : ℕ) (r : Rules) : Type 0 where
  pub facts : tree_of r ≡ chain n
  pub is_accepted : IsAccepted [] r.accepted
  pub checks : r.checks ≡ []

-- what a run of the script of the load is to write over these rules
abbrev pub replies_to_load : Rules → List Named → ℕ → List ℕ
replies_to_load r relations n = (defined_script (meaning_of r Incremental relations start) (script n)).text

-- the lines of the summary of these replies
abbrev pub gen_lines : Rules → List Named → ℕ → List (List ℕ)
gen_lines r relations n = summary n (length (tree_of r).facts) (node_count (tree_of r)) (length (lines_of (script n))) (lines_of (replies_to_load r relations n))

abbrev pub defined_gen : Rules → List Named → ℕ → Defined
defined_gen r relations n = record { text = joined (gen_lines r relations n); status = Done }

-- what `gen` is to give with so many sums
abbrev pub GensTo : List Named → ℕ → Defined → Type 0
GensTo relations n d = (r : Rules) × IsOfLoad n r × (d ≡ defined_gen r relations n)

-- it comes to one text at most
abbrev pub OneEndOfGen : Type 0
OneEndOfGen = (relations : List Named) (n : ℕ) (d e : Defined) → GensTo relations n d → GensTo relations n e → d ≡ e

-- ---- how it ends

-- by its status: what its sink took, and why
abbrev pub GeneratedAs : List Named → ℕ → BeforeAfter Output → Status → Type 0
GeneratedAs relations n output Done = (d : Defined) × GensTo relations n d × SentWhole output d.text
GeneratedAs relations n output WriteFault = SinkFailed output × ((d : Defined) × GensTo relations n d × SentPart output d.text)
GeneratedAs relations n output NoMemory = SentNothing output
GeneratedAs relations n output other = ⊥
