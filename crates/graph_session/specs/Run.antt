-- A list of commands, one after another.
use Rattle.std.specs.Prelude.{◌≡◌, ℕ, Bool, true, false, List, [], ◌∷◌, take, Result, Ok, Err}
use Rattle.script_lines.specs.declared.command.Command.{Command}
use Rattle.answers.specs.Answered.{start}
use Rattle.dict_meaning.specs.Accepted.{IsAccepted}
use Rattle.dictionary.specs.AcceptedParts.{names_of}
use Rattle.dict_meaning.specs.Extension.{IsExtension}
use Rattle.dict_meaning.specs.Fits.{AnswersFit}
use Rattle.graph_session.specs.Rules.{Rules, tree_of}
use Rattle.graph_session.specs.SessionView.{SessionState, begun}
use Rattle.graph_session.specs.Step.{step}
use Rattle.graph_session.specs.declared.reply.Refusal.{Refusal}
use Rattle.graph_session.specs.declared.reply.Refusal.TheVariants.{UnknownFact, NoMember, WrongKind, BadValue, Limit, Check, Full, AlreadyOpen, NotAnswered, NoOverride, NothingToUndo, NothingToRedo, NoStamps, NoMemory}
use Rattle.graph_session.specs.declared.reply.Reply.{Reply}

-- what a step answers
abbrev pub said : Result (Reply × SessionState) Refusal → Result Reply Refusal
said (Ok p) = Ok p.0
said (Err r) = Err r

-- the session after it: the same after a refusal
abbrev pub next : SessionState → Result (Reply × SessionState) Refusal → SessionState
next s (Ok p) = p.1
next s (Err r) = s

-- the answer to each command, in order
abbrev pub replies : Rules → SessionState → List Command → List (Result Reply Refusal)
replies r s [] = []
replies r s (c ∷ cs) = said (step r s c) ∷ replies r (next s (step r s c)) cs

-- the session after all of them
abbrev pub ended : Rules → SessionState → List Command → SessionState
ended r s [] = s
ended r s (c ∷ cs) = ended r (next s (step r s c)) cs

-- the session after some first of them
abbrev pub IsAfterSome : Rules → SessionState → List Command → SessionState → Type 0
IsAfterSome r s cs t = (n : ℕ) × (t ≡ ended r s (take n cs))

abbrev pub is_memory : Refusal → Bool
is_memory UnknownFact = false
is_memory NoMember = false
is_memory WrongKind = false
is_memory BadValue = false
is_memory (Limit n) = false
is_memory (Check n) = false
is_memory Full = false
is_memory AlreadyOpen = false
is_memory NotAnswered = false
is_memory NoOverride = false
is_memory NothingToUndo = false
is_memory NothingToRedo = false
is_memory NoStamps = false
is_memory NoMemory = true

abbrev pub memory_said : Result Reply Refusal → Bool
memory_said (Ok r) = false
memory_said (Err r) = is_memory r

-- ---- a law

-- from the start, wherever commands lead, the answers fit the dictionary, and so they are an extension of themselves
abbrev pub CommandsLeadToFit : Type 0
CommandsLeadToFit =
    (r : Rules) → IsAccepted (names_of r.checks) r.accepted → (offered : Bool) (commands : List Command)
    → AnswersFit (tree_of r) (ended r (begun r.accepted start offered) commands).timeline.now
    × IsExtension (tree_of r) (ended r (begun r.accepted start offered) commands).timeline.now (ended r (begun r.accepted start offered) commands).timeline.now
