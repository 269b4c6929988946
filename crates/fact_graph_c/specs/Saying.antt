-- Calls that say a text of the session, and change nothing else.
use Rattle.std.specs.Prelude.{◌≡◌, List, ℕ, []}
use Rattle.fact_graph_c.specs.Answering.{said}
use Rattle.fact_graph_c.specs.declared.engine.Engine.{Engine}
use Rattle.fact_graph_c.specs.declared.outcome.Outcome.{Outcome}
use Rattle.fact_graph_c.specs.declared.outcome.Outcome.TheVariants.{Said, Over, NoMemory}

-- it is such a text, or nothing where there was no memory
abbrev pub SaysText : (List ℕ → Type 0) → Outcome → List ℕ → Type 0
SaysText IsText Said text = IsText text
SaysText IsText Over text = ⊥
SaysText IsText NoMemory text = text ≡ []

-- the session is as before
pub record Says (IsText : List ℕ → Type 0) (old new : Engine) (outcome : Outcome) : Type 0 where
  pub text : SaysText IsText outcome (said new)
  pub session : new.session ≡ old.session
  pub watches : new.watches ≡ old.watches
  pub over : new.over ≡ old.over
