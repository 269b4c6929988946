-- By which puts a text goes out: piece by piece, and of each piece what a put left over is put next. The first put that fails is the last.
use Rattle.std.specs.Prelude.{◌≡◌, ℕ, List, [], ◌∷◌, ◌++◌, drop, Result, Ok, Err}
use Rattle.fg_io.specs.Outside.{Follows, Output, Put, RoseByOne, put_failed, took}

-- ---- one piece

-- these puts took the piece but for this rest: the first was of the piece, and each other of what the one before it left
abbrev pub Take : List ℕ → List Put → List ℕ → Type 0
Take piece [] rest = piece ≡ rest
Take piece (took bytes count ∷ puts) rest = (bytes ≡ piece) × Take (drop count piece) puts rest
Take piece (put_failed bytes ∷ puts) rest = ⊥

-- they took it as far as this rest, and then a put of the rest failed
pub record Fail (piece : List ℕ) (puts : List Put) : Type 0 where
  pub first : List Put
  pub rest : List ℕ
  pub take : Take piece first rest
  pub last : puts ≡ first ++ put_failed rest ∷ []

-- ---- pieces one behind another

-- each was taken whole
abbrev pub TakeAll : List (List ℕ) → List Put → Type 0
TakeAll [] puts = puts ≡ []
TakeAll (piece ∷ pieces) puts = (first : List Put) × ((rest : List Put) × ((puts ≡ first ++ rest) × (Take piece first [] × TakeAll pieces rest)))

-- some were taken whole, and in the one behind them a put failed
pub record FailIn (pieces : List (List ℕ)) (puts : List Put) : Type 0 where
  pub front : List (List ℕ)
  pub piece : List ℕ
  pub behind : List (List ℕ)
  pub split : pieces ≡ front ++ piece ∷ behind
  pub first : List Put
  pub last : List Put
  pub whole : TakeAll front first
  pub fail : Fail piece last
  pub all : puts ≡ first ++ last

-- ---- what they made of a sink

-- the pieces were put whole, and no put failed
pub record PutAll (sink sink_now : Output) (pieces : List (List ℕ)) : Type 0 where
  pub puts : List Put
  pub whole : TakeAll pieces puts
  pub made : Follows sink sink_now puts
  pub counted : sink_now.faults ≡ sink.faults

-- they were put as far as the first put that failed, and none was made behind it
pub record PutPart (sink sink_now : Output) (pieces : List (List ℕ)) : Type 0 where
  pub puts : List Put
  pub part : FailIn pieces puts
  pub made : Follows sink sink_now puts
  pub counted : RoseByOne sink.faults sink_now.faults

abbrev pub PutAs : {T E : Type 0} → Output → Output → List (List ℕ) → Result T E → Type 0
PutAs sink sink_now pieces (Ok done) = PutAll sink sink_now pieces
PutAs sink sink_now pieces (Err fault) = PutPart sink sink_now pieces
