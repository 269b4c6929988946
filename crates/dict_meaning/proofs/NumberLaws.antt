-- Facts are numbered from 1 to their count.
use Rattle.std.proofs.Common.{◌≡◌, ℕ, zero, suc, ◌<◌, ◌≤◌, List, [], ◌∷◌, length, Some, refl, arith}
use Rattle.std.proofs.lemmas.Option.{slice_get_within}
use Rattle.dict_source.specs.Facts.{Fact}
use Rattle.dict_source.specs.Finding.{fact_at}

pub fact_within : (facts : List Fact) (n : ℕ) (f : Fact) → fact_at facts n ≡ Some f → (0 < n) × (n ≤ length facts)
fact_within facts zero f e = absurd (cc)
fact_within facts (suc i) f e = let low : i < length facts = slice_get_within facts i f e in (omega arith, omega arith)

pub fact_there : (facts : List Fact) (n : ℕ) → 0 < n → n ≤ length facts → (f : Fact) × (fact_at facts n ≡ Some f)
fact_there [] n low high = absurd (omega arith)
fact_there (f ∷ fs) zero low high = absurd (omega arith)
fact_there (f ∷ fs) (suc zero) low high = (f, refl)
fact_there (f ∷ fs) (suc (suc n)) low high = fact_there fs (suc n) (omega arith) (omega arith)
