-- The exchange with a source of lines and a sink of replies, pull by pull and put by put: what stood at each pull, and what came of it.
-- What a source says of a pull is `pulled`: it leads from the source before to the source after only by a call with this sink, for so many
-- bytes, which came to this. So where a source came to another by these pulls, it was called so, in this order, and not else, and the sinks
-- are those that stood. By which puts a sink came to the next one, `WroteLines` says.
use Rattle.std.specs.Prelude.{◌≡◌, ◌⊎◌, ℕ, ◌-◌, ◌<◌, ◌≤◌, min, max, false, List, [], ◌∷◌, ◌++◌, All, length}
use Rattle.fg_io.specs.Outside.{ByPull, Output, Pulled, gave, faulted}
use Rattle.script_lines.specs.Lines.{ended_lines}
use Rattle.answers.specs.Answered.{Answered}
use Rattle.session_lines.specs.Writing.{WroteLines, WroteSome}
use Rattle.script_runs.specs.declared.status.Status.{Status}
use Rattle.script_runs.specs.declared.status.Status.TheVariants.{Done, NoMemory, ReadFault, ScriptTooLong, WriteFault}
use Rattle.script_runs.specs.DefinedScript.{answered_lines, script_limit}
use Rattle.script_runs.specs.Meanings.{Meaning}
use Rattle.script_runs.specs.ScriptEnds.{piece_limit}

-- ---- the pieces that came

-- the newest stands first, and these are their bytes, in order
abbrev pub bytes_of : List (List ℕ) → List ℕ
bytes_of [] = []
bytes_of (piece ∷ earlier) = bytes_of earlier ++ piece

-- how many bytes are asked for behind so many: a piece, within the limit, and at the limit one, to see whether more comes
abbrev pub asked_behind : ℕ → ℕ
asked_behind count = max 1 (min piece_limit (script_limit - count))

-- ---- one pull

-- The script goes on behind these pieces, where the sink stands so: none of them was the end, they keep within the limit, no `quit` ended
-- in them, and the replies to all lines that ended in them were put, each line of them whole as one piece, and nothing else.
pub record IsToGoOn {K : Type 0} (output : K → Output) (m : Meaning) (out : K) (pieces : List (List ℕ)) (out_now : K) : Type 0 where
  pub unended : All (λ piece. 0 < length piece) pieces
  pub within : length (bytes_of pieces) ≤ script_limit
  pub unquit : m.over (ended_lines (bytes_of pieces)) ≡ false
  pub replied : WroteLines (output out) (output out_now) (m.replies (ended_lines (bytes_of pieces)))

-- behind these pieces the script was pulled, once, and it came to this
pub record PulledBehind {S K : Type 0} (pulled : ByPull S K) (output : K → Output) (m : Meaning) (out : K) (pieces : List (List ℕ)) (script script_now : S) (came : Pulled) : Type 0 where
  pub out_now : K
  pub goes_on : IsToGoOn output m out pieces out_now
  pub call : pulled script out_now (asked_behind (length (bytes_of pieces))) came script_now

-- ---- all of them

-- these pieces came of the script, one at each pull
abbrev pub Came : {S K : Type 0} → ByPull S K → (K → Output) → Meaning → K → S → List (List ℕ) → S → Type 0
Came pulled output m out script [] script_now = script_now ≡ script
Came {S} pulled output m out script (piece ∷ earlier) script_now =
    (between : S) × Came pulled output m out script earlier between × PulledBehind pulled output m out earlier between script_now (gave piece)

-- These are all pulls, but for a last one that failed. The sink stood so before the first reply.
pub record Exchange {S K : Type 0} (pulled : ByPull S K) (output : K → Output) (m : Meaning) (out : K) (script script_now : S) (status : Status) : Type 0 where
  pub pieces : List (List ℕ)
  pub between : S
  pub came : Came pulled output m out script pieces between
  pub last : (script_now ≡ between) ⊎ ((status ≡ ReadFault) × PulledBehind pulled output m out pieces between script_now faulted)

-- ---- all puts

-- What was put in all of a script of which these bytes came, by the status: the replies to the lines that are answered, each line as one
-- piece, in order. A put that failed was the last. A failed read leaves a last line unanswered, and want of memory all from some line on.
abbrev pub Told : Output → Output → Meaning → List ℕ → Status → Type 0
Told sink sink_now m bytes Done = WroteLines sink sink_now (m.replies (answered_lines bytes))
Told sink sink_now m bytes ScriptTooLong = WroteLines sink sink_now (m.replies (answered_lines bytes))
Told sink sink_now m bytes ReadFault = WroteLines sink sink_now (m.replies (ended_lines bytes))
Told sink sink_now m bytes WriteFault = WroteSome sink sink_now (m.replies (answered_lines bytes))
Told sink sink_now m bytes NoMemory = (first : List (List ℕ)) × ((rest : List (List ℕ)) × ((m.replies (answered_lines bytes) ≡ first ++ rest) × WroteLines sink sink_now first))
Told sink sink_now m bytes other = ⊥

-- where the script is done, these answers stand behind the lines that are answered
abbrev pub Leaves : Meaning → List ℕ → Answered → Status → Type 0
Leaves m bytes answers Done = m.answers (answered_lines bytes) ≡ answers
Leaves m bytes answers other = Unit {0}

-- these are all pulls, and all puts
pub record WholeExchange {S K : Type 0} (pulled : ByPull S K) (output : K → Output) (m : Meaning) (out out_now : K) (script script_now : S) (status : Status) : Type 0 where
  pub exchange : Exchange pulled output m out script script_now status
  pub told : Told (output out) (output out_now) m (bytes_of exchange.pieces) status

-- and it left these answers
abbrev pub ExchangeLeaves : {S K : Type 0} → ByPull S K → (K → Output) → Meaning → K → K → S → S → Answered → Status → Type 0
ExchangeLeaves pulled output m out out_now script script_now answers status =
    (whole : WholeExchange pulled output m out out_now script script_now status) × Leaves m (bytes_of whole.exchange.pieces) answers status

-- lines were put, each whole as one piece, and then the exchange began
abbrev pub ExchangeBehind : {S K : Type 0} → ByPull S K → (K → Output) → Meaning → List (List ℕ) → K → K → S → S → Status → Type 0
ExchangeBehind {S} {K} pulled output m front out out_now script script_now status =
    (begun : K) × WroteLines (output out) (output begun) front × WholeExchange pulled output m begun out_now script script_now status

-- or it didn't begin: nothing was put, or the lines as far as a put that failed, and the script wasn't pulled
abbrev pub MayBegin : {S K : Type 0} → ByPull S K → (K → Output) → Meaning → List (List ℕ) → K → K → S → S → Status → Type 0
MayBegin pulled output m front out out_now script script_now status =
    ((script_now ≡ script) × ((out_now ≡ out) ⊎ ((status ≡ WriteFault) × WroteSome (output out) (output out_now) front)))
    ⊎ ExchangeBehind pulled output m front out out_now script script_now status

-- ---- laws

-- Wherever in an exchange a piece came, the script was to go on behind those before it, and the sink stood so: their replies had been put.
-- So no piece came behind the end, or behind the one in which `quit` ended.
abbrev pub PiecesFollowReplies : {S K : Type 0} → ByPull S K → (K → Output) → Type 0
PiecesFollowReplies {S} {K} pulled output =
    (m : Meaning) (out : K) (script script_now : S) (later : List (List ℕ)) (piece : List ℕ) (earlier : List (List ℕ))
    → Came pulled output m out script (later ++ (piece ∷ earlier)) script_now → (out_now : K) × IsToGoOn output m out earlier out_now
