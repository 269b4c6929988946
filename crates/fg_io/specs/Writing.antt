-- How much of a text a call wrote.
use Rattle.std.specs.Prelude.{ℕ, ◌≤◌, List, [], Result, Ok, Err}
use Rattle.fg_io.specs.Outside.{Output, Rose}
use Rattle.fg_io.specs.Sent.{Sent}

-- the sink took all of the text
pub record WroteAll (sink sink_now : Output) (text : List ℕ) : Type 0 where
  pub sent : Sent sink.taken sink_now.taken text []
  pub later : sink.faults ≤ sink_now.faults

-- the sink took a part, and failed
pub record WrotePart (sink sink_now : Output) (text : List ℕ) : Type 0 where
  pub part : (rest : List ℕ) × Sent sink.taken sink_now.taken text rest
  pub rose : Rose sink.faults sink_now.faults
  pub later : sink.faults ≤ sink_now.faults

abbrev pub Wrote : {T E : Type 0} → Output → Output → List ℕ → Result T E → Type 0
Wrote sink sink_now text (Ok done) = WroteAll sink sink_now text
Wrote sink sink_now text (Err failed) = WrotePart sink sink_now text
