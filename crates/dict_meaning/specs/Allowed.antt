-- Which changes of answers a command may make, and which answers fit.
use Rattle.std.specs.Prelude.{ℕ, ◌&&◌, IsTrue, List, Some, None}
use Rattle.std.specs.List.{All}
use Rattle.dict_source.specs.Dictionary.{Dictionary as Tree}
use Rattle.answers.specs.Answered.{Answered, start}
use Rattle.answers.specs.GivenLists.{IsOfLists}
use Rattle.answers.specs.WellFormed.{FromOne, WellFormed}
use Rattle.answers.specs.Change.{Change, sets, opens, closes, adds, takes as takes_newest, removes, puts_back, applied, Fits}
use Rattle.dict_meaning.specs.Accepted.{Accepted, IsAccepted}
use Rattle.dict_meaning.specs.Fits.{AnswersFit, IsOfFact, is_list, takes}
use Rattle.dict_meaning.specs.Slots.{stands}

-- A value goes to a slot that stands and may have it, and is of the fact's type; a collection that is opened, or that gets a
-- member, is a Writable one. What the answers have may always be taken away. No command makes a change that only undoing makes.
abbrev pub IsAllowed : Accepted → Answered → Change → Type 0
IsAllowed d a (sets side s None) = Unit {0}
IsAllowed d a (sets side s (Some v)) = IsTrue (stands d.tree a s && takes side d.tree s.fact) × IsOfFact d.tree a s.fact v
IsAllowed d a (opens c) = IsTrue (is_list d.tree c)
IsAllowed d a (closes c) = ⊥
IsAllowed d a (adds c) = IsTrue (is_list d.tree c)
IsAllowed d a (takes_newest c closed) = ⊥
IsAllowed d a (removes c m) = Unit {0}
IsAllowed d a (puts_back c place m e) = ⊥

-- ---- laws

-- the answers at the start fit every dictionary
abbrev pub StartFits : Type 0
StartFits = (d : Tree) → AnswersFit d start

-- and so do given lists of Writable collections, of which nothing is answered
abbrev pub GivenFit : Type 0
GivenFit =
    (d : Tree) (lists : List (ℕ × List ℕ)) (next : ℕ) (a : Answered) → WellFormed a → FromOne a → IsOfLists lists next a
    → All (λ (e : ℕ × List ℕ). IsTrue (is_list d e.0)) lists → AnswersFit d a

-- after an allowed change that can be made, answers that fitted still fit
abbrev pub AllowedChangesFit : Type 0
AllowedChangesFit =
    (names : List (List ℕ)) (d : Accepted) → IsAccepted names d → (a : Answered) (c : Change)
    → AnswersFit d.tree a → Fits c a → IsAllowed d a c → AnswersFit d.tree (applied c a)
