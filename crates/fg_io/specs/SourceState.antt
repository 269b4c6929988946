-- A source in memory.
use Rattle.std.specs.Prelude.{◌≡◌, ℕ, min, List, length, drop, Some}
use Rattle.fg_io.specs.Calls.{Fails}
use Rattle.fg_io.specs.Outside.{Input, Pulled, gave, faulted, next_count}

pub record SourceState : Type 0 where
  -- the bytes left
  pub left : List ℕ
  -- how many a call gives at most
  pub most : ℕ
  -- the numbers of the calls that fail
  pub failing : List ℕ
  -- how many calls there were, and how many of them failed
  pub calls : ℕ
  pub faults : ℕ

-- what the source tells
abbrev pub input_shown : SourceState → Input
input_shown source = record { left = Some source.left; faults = source.faults }

-- how many bytes a pull into a buffer of this length gives
abbrev pub given_count : SourceState → ℕ → ℕ
given_count source len = min source.most (min len (length source.left))

-- after a pull that gave so many bytes
abbrev pub after_giving : SourceState → ℕ → SourceState
after_giving source count = record source { left = drop count source.left; calls = next_count source.calls }

-- after a pull that failed
abbrev pub after_failing : SourceState → SourceState
after_failing source = record source { calls = next_count source.calls; faults = next_count source.faults }

-- A pull into a buffer of this length ends so: it fails where its number is a failing one, and nowhere else.
abbrev pub PullEnds : SourceState → SourceState → ℕ → Pulled → Type 0
PullEnds old new len (gave bytes) = (¬ Fails old.failing old.calls) × (new ≡ after_giving old (given_count old len))
PullEnds old new len faulted = Fails old.failing old.calls × (new ≡ after_failing old)
