-- Facts by their numbers from 1, what each mentions, and what each reaches.
use Rattle.std.specs.Prelude.{◌≡◌, ℕ, zero, suc, ◌<◌, ◌≤◌, ◌⊎◌, List, [], ◌∷◌, length, map, slice_index_or}
use Rattle.std.specs.Global.{Vec}

-- for each fact, by rising number, the facts that it mentions
abbrev pub Graph : Type 0
Graph = List (List ℕ)

-- the graph that is kept in these vectors
abbrev pub graph_of : List (Vec ℕ) → Graph
graph_of lists = map (λ (list : Vec ℕ). list.items) lists

abbrev pub IsFact : Graph → ℕ → Type 0
IsFact graph fact = (0 < fact) × (fact ≤ length graph)

-- what a fact mentions; what is no fact mentions nothing
abbrev pub mentioned : Graph → ℕ → List ℕ
mentioned graph zero = []
mentioned graph (suc place) = slice_index_or graph place []

abbrev pub Has : List ℕ → ℕ → Type 0
Has [] x = ⊥
Has (y ∷ ys) x = (x ≡ y) ⊎ Has ys x

abbrev pub Mentions : Graph → ℕ → ℕ → Type 0
Mentions graph fact other = Has (mentioned graph fact) other

-- n + 1 mentions in a row lead from one fact to the other
abbrev pub Leads : Graph → ℕ → ℕ → ℕ → Type 0
Leads graph zero fact other = Mentions graph fact other
Leads graph (suc n) fact other = (next : ℕ) × Mentions graph fact next × Leads graph n next other

-- one or more mentions in a row lead from one fact to the other
abbrev pub Reaches : Graph → ℕ → ℕ → Type 0
Reaches graph fact other = (n : ℕ) × Leads graph n fact other

-- each of these is one of so many facts
abbrev pub AreFacts : ℕ → List ℕ → Type 0
AreFacts count list = (fact : ℕ) → Has list fact → (0 < fact) × (fact ≤ count)

-- only facts are mentioned
abbrev pub MentionsFacts : Graph → Type 0
MentionsFacts graph = (fact other : ℕ) → Mentions graph fact other → IsFact graph other

-- no fact reaches itself
abbrev pub HasNoCycle : Graph → Type 0
HasNoCycle graph = (fact : ℕ) → ¬ Reaches graph fact fact

-- some fact reaches itself
abbrev pub HasCycle : Graph → Type 0
HasCycle graph = (fact : ℕ) × Reaches graph fact fact

-- the fact of the lowest number that reaches itself
pub record IsFirstCycle (graph : Graph) (fact : ℕ) : Type 0 where
  pub cycle : Reaches graph fact fact
  pub first : (lower : ℕ) → lower < fact → ¬ Reaches graph lower lower
