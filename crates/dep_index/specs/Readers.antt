-- Which facts read a fact.
use Rattle.std.specs.Prelude.{◌≡◌, ◌<◌, ◌≤◌, ℕ, zero, suc, Bool, not, ◌||◌, nat_eq, List, [], length, All, AllPairs, slice_index_or}
use Rattle.std.specs.List.{list_any, list_all}
use Rattle.dict_source.specs.Dictionary.{Dictionary as Tree}
use Rattle.dict_source.specs.Finding.{IsNumber}
use Rattle.dict_meaning.specs.Accepted.{Accepted}
use Rattle.dict_meaning.specs.Feeds.{is_of, mentions_of}
use Rattle.dict_meaning.specs.Plain.{rank}
use Rattle.dep_index.specs.declared.readers_of.ReaderOf.{ReaderOf}

-- the fact is mentioned by the reader
abbrev pub is_mentioned_by : Tree → ℕ → ℕ → Bool
is_mentioned_by d fact reader = list_any (is_of fact) (mentions_of d reader)

-- each of the reader's mentions of the fact is Same
abbrev pub all_same : Tree → ℕ → ℕ → Bool
all_same d fact reader = list_all (λ m. not (is_of fact m) || m.same) (mentions_of d reader)

-- the reader is this fact
abbrev pub is_reader : ℕ → ReaderOf → Bool
is_reader fact r = nat_eq r.fact fact

-- one reader is of lower rank than the other, or of the same rank and of a lower number
pub record ComesBefore (d : Accepted) (r s : ReaderOf) : Type 0 where
  pub ranks : rank d r.fact ≤ rank d s.fact
  pub numbers : rank d r.fact ≡ rank d s.fact → r.fact < s.fact

-- Each fact that mentions this one, and no other, by rising rank and then number; and so each of them once.
pub record AreReaders (d : Accepted) (fact : ℕ) (rs : List ReaderOf) : Type 0 where
  pub mentioning : (reader : ℕ) → list_any (is_reader reader) rs ≡ is_mentioned_by d.tree fact reader
  pub same : All (λ (r : ReaderOf). r.same ≡ all_same d.tree fact r.fact) rs
  pub rising : AllPairs (ComesBefore d) rs

-- ---- of all facts, by their numbers from 1

abbrev pub readers_of : List (List ReaderOf) → ℕ → List ReaderOf
readers_of by_fact zero = []
readers_of by_fact (suc place) = slice_index_or by_fact place []

-- the index has a place for the fact
abbrev pub IsIndexed : List (List ReaderOf) → ℕ → Type 0
IsIndexed by_fact fact = (1 ≤ fact) × (fact ≤ length by_fact)

pub record IsIndex (d : Accepted) (by_fact : List (List ReaderOf)) : Type 0 where
  pub count : length by_fact ≡ length d.tree.facts
  pub each : (fact : ℕ) → IsNumber d.tree.facts fact → AreReaders d fact (readers_of by_fact fact)
