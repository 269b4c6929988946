-- Agreement and order of two environments, by what an expression names and by the places that an evaluation may reach under each base.
use Rattle.std.specs.Prelude.{◌≡◌, ℕ, Bool, IsTrue}
use Rattle.dict_source.specs.Tree.{Tree}
use Rattle.three_state.specs.Order.{Keeps}
use Rattle.three_state.specs.Results.{members_of}
use Rattle.evaluation.specs.Over.{Env, over, weight}
use Rattle.evaluation.specs.Agreement.{IsIn}
use Rattle.evaluation.specs.Mentioned.{Each}

-- The two environments agree where something of Q or W stands, at the places that an evaluation may reach.
-- K b at says that the place may be reached under the base b.
pub record AgreeIn {B C R P S : Type 0} (Q : B → R → Type 0) (W : B → P → Type 0) (on : B → P → B) (K : B → S → Type 0) (e f : Env C R P S) : Type 0 where
  pub constant : (c : C) → e.constant c ≡ f.constant c
  pub reads : (b : B) (at : S) → K b at → (r : R) → Q b r → e.reads at r ≡ f.reads at r
  pub source : (b : B) (at : S) → K b at → (p : P) → W b p → e.source at p ≡ f.source at p
  pub enter : (b : B) (at : S) → K b at → (p : P) → W b p → (m : ℕ) → IsIn (members_of (e.source at p)) m → e.enter at p m ≡ f.enter at p m
  pub reach : (b : B) (at : S) → K b at → (p : P) → W b p → (m : ℕ) → IsIn (members_of (e.source at p)) m → K (on b p) (e.enter at p m)

-- the second environment keeps each complete result of what is of Q or W, at each place that K allows
pub record KeepsIn {B C R P S : Type 0} (Q : B → R → Type 0) (W : B → P → Type 0) (on : B → P → B) (K : B → S → Type 0) (e f : Env C R P S) : Type 0 where
  pub constant : (c : C) → e.constant c ≡ f.constant c
  pub reads : (b : B) (at : S) → K b at → (r : R) → Q b r → Keeps (e.reads at r) (f.reads at r)
  pub source : (b : B) (at : S) → K b at → (p : P) → W b p → Keeps (e.source at p) (f.source at p)
  pub enter : (b : B) (at : S) → K b at → (p : P) → W b p → (m : ℕ) → e.enter at p m ≡ f.enter at p m
  pub reach : (b : B) (at : S) → K b at → (p : P) → W b p → (m : ℕ) → K (on b p) (e.enter at p m)

-- ---- laws, with tests of what is named and of the places that may be reached

abbrev pub Passes : {B X : Type 0} → (B → X → Bool) → B → X → Type 0
Passes test b x = IsTrue (test b x)

abbrev pub CoincidenceIn : (B C R P S : Type 0) → Type 0
CoincidenceIn B C R P S =
    (q : B → R → Bool) (w : B → P → Bool) (on : B → P → B) (k : B → S → Bool) (e f : Env C R P S) → AgreeIn (Passes q) (Passes w) on (Passes k) e f
    → (t : Tree C R P) (b : B) → Each (Passes q) (Passes w) on b t → (at : S) → Passes k b at → over e at t ≡ over f at t

abbrev pub WeightCoincidenceIn : (B C R P S : Type 0) → Type 0
WeightCoincidenceIn B C R P S =
    (q : B → R → Bool) (w : B → P → Bool) (on : B → P → B) (k : B → S → Bool) (e f : Env C R P S) → AgreeIn (Passes q) (Passes w) on (Passes k) e f
    → (t : Tree C R P) (b : B) → Each (Passes q) (Passes w) on b t → (at : S) → Passes k b at → weight e at t ≡ weight f at t

abbrev pub CompleteStaysIn : (B C R P S : Type 0) → Type 0
CompleteStaysIn B C R P S =
    (q : B → R → Bool) (w : B → P → Bool) (on : B → P → B) (k : B → S → Bool) (e f : Env C R P S) → KeepsIn (Passes q) (Passes w) on (Passes k) e f
    → (t : Tree C R P) (b : B) → Each (Passes q) (Passes w) on b t → (at : S) → Passes k b at → Keeps (over e at t) (over f at t)
