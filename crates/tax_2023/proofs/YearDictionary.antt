-- The dictionary of a year, also where further facts stand behind its own: their ranks, and what its facts are worth.
use Rattle.std.proofs.Common.{ℕ, IsTrue, List, [], ◌∷◌, ◌++◌, refl}
use Rattle.fact_values.specs.declared.value.Value.{Value}
use Rattle.dict_source.specs.Tree.{Source}
use Rattle.dict_source.specs.Facts.{Fact}
use Rattle.dict_source.specs.Dictionary.{Dictionary as Tree}
use Rattle.dict_types.specs.TypedParts.{TypedDictionary}
use Rattle.dict_order.specs.MentionGraph.{mention_graph}
use Rattle.dict_order.specs.Ranks.{are_ranks}
use Rattle.answers.specs.Answered.{Answered}
use Rattle.dict_meaning.specs.Accepted.{Accepted}
use Rattle.evaluation.specs.Results.{slot}
use Rattle.written_facts.specs.Figures.{Named}
use Rattle.written_facts.specs.Taking.{with_facts}
use Rattle.tax_2023.specs.Household.{Household}
use Rattle.tax_2023.specs.Years.{Year}
use Rattle.tax_2023.specs.Figures.{figures}
use Rattle.tax_2023.specs.Facts.{dictionary}
use Rattle.tax_2023.proofs.Stated.{IsWorth}
use Rattle.tax_2023.proofs.Values.{person, stated}

abbrev pub ranks : List ℕ
ranks =
    0 ∷ 0 ∷ 0 ∷ 0 ∷ 0 ∷ 0 ∷ 0 ∷ 0 ∷ 0 ∷ 0 ∷ 0 ∷ 0 ∷ 0 ∷ 0 ∷ 0 ∷ 0
    ∷ 1 ∷ 1 ∷ 2 ∷ 3 ∷ 3 ∷ 2 ∷ 4 ∷ 1 ∷ 5
    ∷ 0 ∷ 0 ∷ 0 ∷ 0 ∷ 0 ∷ 0 ∷ 0 ∷ 0 ∷ 0 ∷ 0 ∷ 0
    ∷ 1 ∷ 2 ∷ 3 ∷ 4 ∷ 5
    ∷ 6 ∷ 6 ∷ 4 ∷ 6
    ∷ []

pub ranks_are : (fs : List Named) → IsTrue (are_ranks (mention_graph (dictionary fs)) ranks)
ranks_are fs = refl

abbrev pub parts : Tree → TypedDictionary → List ℕ → Accepted
parts tree typed ranks = record { tree = tree; typed = typed; ranks = ranks }

-- what stands behind the facts of a year, and the types of all
pub record Rest : Type 0 where
  pub facts : List Fact
  pub ranks : List ℕ
  pub typed : TypedDictionary

abbrev pub no_rest : TypedDictionary → Rest
no_rest t = record { facts = []; ranks = []; typed = t }

-- the dictionary of a year with this behind it
abbrev pub of_year : Year → Rest → Accepted
of_year y t = parts (with_facts (dictionary (figures y)) t.facts) t.typed (ranks ++ t.ranks)

-- over answers and a household, the expression of the fact with number n is worth the value at a member
abbrev pub Worth : Year → Rest → Answered → Household → ℕ → ℕ → Value → Source → Type 0
Worth y t a h n m v e = IsWorth (of_year y t) a (stated y h (person a)) (slot n m) v e
