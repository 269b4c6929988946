-- A collection with two members may be given.
use Rattle.std.proofs.Common.{◌<◌, ℕ, List, [], ◌∷◌, arith}
use Rattle.std.specs.List.{All}
use Rattle.std.proofs.lemmas.List.Elements.{All-cons}
use Rattle.std.proofs.lemmas.Bool.Decides.{nat_tests}
use Rattle.answers.specs.Lists.{IsIn}
use Rattle.answers.specs.GivenLists.{FactsRise, AreApart, AreBelow, IsAfter, IsWithout, IsBelow}

none_left : {X : Type 0} (P : X → Type 0) → All P []
none_left P k d less = absurd (omega arith)

pub one_rises : (e : ℕ × List ℕ) → FactsRise (e ∷ [])
one_rises e = (none_left (IsAfter e.0), tt)

pub one_apart : (e : ℕ × List ℕ) → AreApart (e ∷ [])
one_apart e = (none_left (IsWithout e.1), tt)

below_4 : (m : ℕ) → IsIn m (3 ∷ 1 ∷ []) → m < 4
below_4 m here = grind (arith, nat_tests)

pub one_below : (c : ℕ) → AreBelow 4 ((c, 3 ∷ 1 ∷ []) ∷ [])
one_below c = All-cons (IsBelow 4) (c, 3 ∷ 1 ∷ []) [] below_4 (none_left (IsBelow 4))

pub ruleset one_given = (one_rises, one_apart, one_below)
