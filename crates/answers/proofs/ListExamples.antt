-- Lists of members that compute: the middle of three taken out and put back, and the newest taken out.
use Rattle.std.proofs.Common.{◌≡◌, ℕ, [], ◌∷◌, refl}
use Rattle.std.specs.Prelude.{insert}
use Rattle.answers.specs.Lists.{Once, without, place_of, without_last}

middle : (without 2 (7 ∷ 2 ∷ 3 ∷ []) ≡ 7 ∷ 3 ∷ []) × (place_of 2 (7 ∷ 2 ∷ 3 ∷ []) ≡ 1) × (insert {X = ℕ} (7 ∷ 3 ∷ []) 1 2 ≡ 7 ∷ 2 ∷ 3 ∷ [])
middle = (refl, refl, refl)

newest : (without_last (7 ∷ 2 ∷ 3 ∷ []) ≡ 7 ∷ 2 ∷ []) × Once (7 ∷ 2 ∷ 3 ∷ [])
newest = (refl, (refl, (refl, (refl, tt))))
