-- What a host's line is answered at a session, and what it leaves.
use Rattle.std.specs.Prelude.{◌≡◌, ℕ, Bool, true, false, nat_le, List, [], length, if◌then◌else◌}
use Rattle.script_lines.specs.Lines.{ScriptLine, whole, long}
use Rattle.graph_session.specs.Rules.{Rules, rules}
use Rattle.session_lines.specs.Answering.{line_state_of}
use Rattle.session_lines.specs.Stepping.{State, step, text_of}
use Rattle.session_lines.specs.Tables.{standard_relations}
use Rattle.fact_graph_c.specs.declared.engine.Engine.{Engine}
use Rattle.fact_graph_c.specs.declared.outcome.Outcome.{Outcome}
use Rattle.fact_graph_c.specs.declared.outcome.Outcome.TheVariants.{Said, Over, NoMemory}

-- ---- what an engine stands for

abbrev pub rules_of : Engine → Rules
rules_of e = rules e.session.dict

-- where its script stands
abbrev pub state_of : Engine → State
state_of e = record { standing = line_state_of e.session standard_relations e.watches; over = e.over }

abbrev pub said : Engine → List ℕ
said e = e.text.bytes.items

-- ---- a line

-- one of at most 4,096 bytes is given whole
abbrev pub line_given : List ℕ → ScriptLine
line_given line = if nat_le (length line) 4096 then whole line else long

-- the step of the line was taken: its text is said, and behind it the script goes on, or is over
pub record TakesStep (old new : Engine) (line : List ℕ) (over : Bool) : Type 0 where
  pub text : said new ≡ text_of (step (rules_of old) (state_of old) (line_given line))
  pub state : state_of new ≡ (step (rules_of old) (state_of old) (line_given line)).state
  pub ends : new.over ≡ over

-- there was no memory: nothing is said, and the script stands where it stood
pub record Stays (old new : Engine) : Type 0 where
  pub text : said new ≡ []
  pub state : state_of new ≡ state_of old

abbrev pub Answers : Engine → Engine → List ℕ → Outcome → Type 0
Answers old new line Said = TakesStep old new line false
Answers old new line Over = TakesStep old new line true
Answers old new line NoMemory = Stays old new
