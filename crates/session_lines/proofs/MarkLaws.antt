-- Lines with a mark before each.
use Rattle.std.proofs.Common.{◌≡◌, ℕ, List, [], ◌∷◌, map, refl, ap}
use Rattle.session_lines.specs.Marks.{marked, marked_lines}
use Rattle.session_lines.specs.declared.mark.PartyMark.{PartyMark}
use Rattle.session_lines.specs.declared.mark.PartyMark.TheVariants.{Unmarked}

-- of each element of a list one line
pub marked_each : {X : Type 0} (mark : PartyMark) (f : X → List ℕ) (xs : List X) → map (λ x. marked mark (f x)) xs ≡ marked_lines mark (map f xs)
marked_each mark f [] = refl
marked_each mark f (x ∷ xs) = ap (λ (l : List (List ℕ)). marked mark (f x) ∷ l) (marked_each mark f xs)

-- where nothing stands before them they are the lines
pub unmarked : (lines : List (List ℕ)) → marked_lines Unmarked lines ≡ lines
unmarked [] = refl
unmarked (line ∷ lines) = ap (λ (l : List (List ℕ)). line ∷ l) (unmarked lines)
