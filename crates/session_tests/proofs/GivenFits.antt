-- A given list of a Writable collection fits.
use Rattle.std.proofs.Common.{ℕ, List, [], ◌∷◌, arith}
use Rattle.std.specs.Prelude.{IsTrue, IfSome, Option, Some, None}
use Rattle.std.proofs.lemmas.List.Elements.{All-cons}
use Rattle.dict_source.specs.Dictionary.{Dictionary as Tree}
use Rattle.answers.specs.Answered.{Answered}
use Rattle.answers.specs.GivenLists.{IsOfLists}
use Rattle.answers.specs.WellFormed.{FromOne, WellFormed}
use Rattle.dict_meaning.specs.Fits.{AnswersFit, is_list}
use Rattle.dict_meaning.proofs.FitStart.{given_fit}

pub one_fits : (d : Tree) (c : ℕ) (ms : List ℕ) (next : ℕ) (a : Answered) → WellFormed a → FromOne a → IsOfLists ((c, ms) ∷ []) next a → IsTrue (is_list d c) → AnswersFit d a
one_fits d c ms next a well from_one is list =
    given_fit d ((c, ms) ∷ []) next a well from_one is (All-cons (λ (e : ℕ × List ℕ). IsTrue (is_list d e.0)) (c, ms) [] list (λ k e less. absurd (omega arith)))

-- and so does what may have been made of one
pub made_fits : {A : Type 0} (answered : A → Answered) (d : Tree) (c : ℕ) (ms : List ℕ) (next : ℕ) (made : Option A)
    → IfSome made (λ a. IsOfLists ((c, ms) ∷ []) next (answered a)) → IfSome made (λ a. WellFormed (answered a)) → IfSome made (λ a. FromOne (answered a))
    → IsTrue (is_list d c) → IfSome made (λ a. AnswersFit d (answered a))
made_fits answered d c ms next None is well from_one list = tt
made_fits answered d c ms next (Some a) is well from_one list = one_fits d c ms next (answered a) well from_one is list
