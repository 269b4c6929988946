-- Lines are answered while they come: how far, and what the lines behind them mean.
use Rattle.std.specs.Prelude.{◌≡◌, ℕ, List, [], ◌++◌}
use Rattle.fg_io.specs.Outside.{Output}
use Rattle.script_lines.specs.Lines.{ScriptLine, script_lines, HasNoNewline}
use Rattle.answers.specs.Answered.{Answered}
use Rattle.session_lines.specs.declared.progress.Progress.{Progress}
use Rattle.session_lines.specs.declared.progress.Progress.TheVariants.{More, Over, Unwritten, OutOfMemory}
use Rattle.session_lines.specs.Writing.{WroteLines, WroteSome}
use Rattle.script_runs.specs.Meanings.{Behind, IsBeginning, IsQuit, Meaning}

-- behind these lines others may follow, and whoever answers them means this by them now
pub record GoesOn (MeansNow : Meaning → Type 0) (m : Meaning) (lines : List ScriptLine) : Type 0 where
  pub there : Meaning
  pub means : MeansNow there
  pub begins : IsBeginning there
  pub left : Behind m lines there

-- A line, or none, was answered: the lines of its reply were written whole, and these answers stand behind it; or in part, after a
-- fault, and it was carried out all the same; or there was no memory for it, and then all is as before.
abbrev pub LineOutputAs : (Meaning → Type 0) → Output → Output → Meaning → Answered → List ScriptLine → Progress → Type 0
LineOutputAs MeansNow sink sink_now m answers lines More =
    WroteLines sink sink_now (m.replies lines) × (m.answers lines ≡ answers) × GoesOn MeansNow m lines
LineOutputAs MeansNow sink sink_now m answers lines Over =
    WroteLines sink sink_now (m.replies lines) × (m.answers lines ≡ answers) × ((there : Meaning) × Behind m lines there × IsQuit there)
LineOutputAs MeansNow sink sink_now m answers lines Unwritten =
    WroteSome sink sink_now (m.replies lines) × GoesOn MeansNow m lines
LineOutputAs MeansNow sink sink_now m answers lines OutOfMemory = (sink_now ≡ sink) × MeansNow m

-- Bytes came behind those held. Lines were cut from them, as far as what is held now and what stands behind, and the replies to
-- these lines were written so.
pub record LinesOutput (m : Meaning) (Wrote : List (List ℕ) → Type 0) (held bytes : List ℕ) (there : Meaning) (held_now behind : List ℕ) : Type 0 where
  pub lines : List ScriptLine
  pub cut : (more : List ℕ) → script_lines (held ++ (bytes ++ more)) ≡ lines ++ script_lines (held_now ++ (behind ++ more))
  pub wrote : Wrote (m.replies lines)
  pub left : Behind m lines there

-- the same, wherever it stopped
pub record SomeOutput (m : Meaning) (Wrote : List (List ℕ) → Type 0) (held bytes : List ℕ) : Type 0 where
  pub there : Meaning
  pub held_now : List ℕ
  pub behind : List ℕ
  pub output : LinesOutput m Wrote held bytes there held_now behind

-- How far a piece was answered: whole, to a `quit`, to a text that wasn't written whole, or to want of memory. But for `quit`,
-- whoever answers stands where the lines that were carried out lead.
abbrev pub PieceOutputAs : (Meaning → Type 0) → Output → Output → Meaning → Answered → List ℕ → List ℕ → List ℕ → Progress → Type 0
PieceOutputAs MeansNow sink sink_now m answers held held_now bytes More =
    ((there : Meaning) × MeansNow there × IsBeginning there × LinesOutput m (WroteLines sink sink_now) held bytes there held_now []) × HasNoNewline held_now
PieceOutputAs MeansNow sink sink_now m answers held held_now bytes Over =
    (some : SomeOutput m (WroteLines sink sink_now) held bytes) × IsQuit some.there × (some.there.answers [] ≡ answers)
PieceOutputAs MeansNow sink sink_now m answers held held_now bytes Unwritten =
    (some : SomeOutput m (WroteSome sink sink_now) held bytes) × MeansNow some.there
PieceOutputAs MeansNow sink sink_now m answers held held_now bytes OutOfMemory =
    (some : SomeOutput m (WroteLines sink sink_now) held bytes) × MeansNow some.there
