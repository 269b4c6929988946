-- The dictionaries have no fault, by computation.
use Rattle.std.proofs.Common.{◌≡◌, ℕ, ◌++◌, IsTrue, List, [], ◌∷◌, Result, Ok, Err, refl, ap, ◌∙◌}
use Rattle.std.specs.Prelude.{IfOk}
use Rattle.fact_values.specs.Rationals.{gcd}
use Rattle.fact_values.specs.declared.memory.NoMemory.{NoMemory}
use Rattle.dict_source.specs.Dictionary.{Written, dictionary_view}
use Rattle.dict_order.specs.MentionGraph.{mention_graph}
use Rattle.dict_order.specs.Ranks.{are_ranks}
use Rattle.dict_meaning.specs.Accepted.{IsAccepted}
use Rattle.dictionary.specs.AcceptedParts.{AcceptedParts, accepted}
use Rattle.dictionary.specs.Faults.{HasNoFault}
use Rattle.written_facts.specs.Figures.{Named}
use Rattle.tax_2023.specs.Figures.{figures, spelled_day, spelled_dollars}
use Rattle.tax_2023.proofs.NoFault.{IsSound, no_fault}
use Rattle.tax_2023.proofs.YearDictionary.{ranks}
use Rattle.tax_income.specs.Facts.{dictionary_of, income_dictionary}
use Rattle.tax_income.specs.Figures.{income_figures}
use Rattle.tax_income.specs.Laws.{IsOfIncome}
use Rattle.tax_2023.specs.declared.years.TaxYear.{TaxYear}
use Rattle.tax_2023.specs.declared.years.TaxYear.TheVariants.{Year2023}
use Rattle.tax_income.specs.Years.{IncomeYear, income_of}

-- of the facts behind those of the year
abbrev pub further_ranks : List ℕ
further_ranks =
    3 ∷ 3 ∷ 3 ∷ 3 ∷ 3 ∷ 3
    ∷ 6 ∷ 6 ∷ 6 ∷ 6 ∷ 6 ∷ 6 ∷ 6 ∷ 7
    ∷ 0 ∷ 4 ∷ 6
    ∷ 5 ∷ 7 ∷ 8 ∷ 3 ∷ 4 ∷ 9 ∷ 10
    ∷ []

pub ranks_are : (fs gs : List Named) → IsTrue (are_ranks (mention_graph (income_dictionary fs gs)) (ranks ++ further_ranks))
ranks_are fs gs = refl

of_tables : (y : IncomeYear) → IsTrue (are_ranks (mention_graph (dictionary_of y)) (ranks ++ further_ranks))
of_tables y = ranks_are (figures y.tables) (income_figures y)

sound : (y : TaxYear) → IsSound (dictionary_of (income_of y)) (ranks ++ further_ranks)
unfolding spelled_dollars spelled_day gcd
sound Year2023 = record { typed = refl; ranked = of_tables (income_of Year2023) }
sound y = record { typed = refl; ranked = of_tables (income_of y) }

pub income_has_none : (y : TaxYear) → HasNoFault (dictionary_of (income_of y)) []
income_has_none y = no_fault (dictionary_of (income_of y)) (ranks ++ further_ranks) (sound y)

-- the dictionary that is answered is that of the year
pub is_of_income : (y : IncomeYear) (source : Written) → dictionary_view source ≡ dictionary_of y → (r : Result AcceptedParts NoMemory) → IfOk r (λ d. IsAccepted [] (accepted d)) → IfOk r (λ d. d.source ≡ source) → IfOk r (λ d. IsOfIncome y (accepted d))
is_of_income y source e (Ok d) h k = record { is_accepted = h; facts = ap dictionary_view k ∙ e }
is_of_income y source e (Err fault) h k = tt
