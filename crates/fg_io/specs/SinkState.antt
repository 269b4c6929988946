-- A sink in memory.
use Rattle.std.specs.Prelude.{ℕ, ◌-◌, ◌^◌, min, nat_eq, List, ◌++◌, length, take, Some}
use Rattle.fg_io.specs.Outside.{Output, next_count}

pub record SinkState : Type 0 where
  -- the bytes taken
  pub taken : List ℕ
  -- how many a call takes at most
  pub most : ℕ
  -- the numbers of the calls that fail
  pub failing : List ℕ
  -- how many calls there were, and how many of them failed
  pub calls : ℕ
  pub faults : ℕ

-- what the sink tells: it may stand so behind as many puts as it counted
abbrev pub output_shown : SinkState → Output
output_shown sink = record { taken = Some sink.taken; faults = sink.faults; follows = λ puts. nat_eq sink.calls (min (length puts) (2 ^ 64 - 1)) }

-- how many bytes a sink has room for
abbrev pub room : ℕ
room = 1000000

-- how many bytes a put of a piece of this length takes
abbrev pub taken_count : SinkState → ℕ → ℕ
taken_count sink len = min sink.most (min len (room - length sink.taken))

-- after a put that took the first so many bytes of the piece
abbrev pub after_taking : SinkState → List ℕ → ℕ → SinkState
after_taking sink piece count = record sink { taken = sink.taken ++ take count piece; calls = next_count sink.calls }

-- after a put that failed
abbrev pub after_failing : SinkState → SinkState
after_failing sink = record sink { calls = next_count sink.calls; faults = next_count sink.faults }
