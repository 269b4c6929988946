-- The readers in an index.
use Rattle.std.proofs.Common.{◌≡◌, ℕ, zero, suc, List, [], ◌∷◌, ◌++◌, refl}
use Rattle.std.specs.Prelude.{slice_index_or}
use Rattle.dep_index.specs.Readers.{readers_of}
use Rattle.dep_index.specs.declared.readers_of.ReaderOf.{ReaderOf}

at_place : (by_fact : List (List ReaderOf)) (place : ℕ)
    → slice_index_or (by_fact ++ [] ∷ []) place [] ≡ slice_index_or by_fact place []
at_place [] zero = refl
at_place [] (suc place) = refl
at_place (r ∷ by_fact) zero = refl
at_place (r ∷ by_fact) (suc place) = at_place by_fact place

-- one more fact without readers
pub readers_pushed : (by_fact : List (List ReaderOf)) (fact : ℕ)
    → readers_of (by_fact ++ [] ∷ []) fact ≡ readers_of by_fact fact
readers_pushed by_fact zero = refl
readers_pushed by_fact (suc place) = at_place by_fact place
