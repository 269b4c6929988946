-- The dictionaries of the years have no fault, by computation.
use Rattle.std.proofs.Common.{◌≡◌, ℕ, IsTrue, List, [], Result, Ok, Err, is_ok, refl, ap, ◌∙◌}
use Rattle.std.specs.Prelude.{IfOk}
use Rattle.fact_values.specs.declared.memory.NoMemory.{NoMemory}
use Rattle.dict_source.specs.Dictionary.{Dictionary as Tree, Written, dictionary_view}
use Rattle.dict_types.specs.Typed.{typed_dictionary}
use Rattle.dict_types.specs.TypedParts.{TypedDictionary}
use Rattle.dict_rules.specs.declared.fault.TypeFault.{TypeFault}
use Rattle.dict_order.specs.MentionGraph.{mention_graph}
use Rattle.dict_order.specs.Ranks.{are_ranks}
use Rattle.dict_order.proofs.RankLaws.{no_cycle, test_tells}
use Rattle.dict_meaning.specs.Accepted.{IsAccepted}
use Rattle.dictionary.specs.AcceptedParts.{AcceptedParts, accepted}
use Rattle.dictionary.specs.Faults.{HasNoFault}
use Rattle.dictionary.proofs.FirstLaws.{has_no_fault}
use Rattle.tax_2023.specs.Facts.{dictionary}
use Rattle.tax_2023.specs.Figures.{figures, spelled_day, spelled_dollars}
use Rattle.tax_2023.specs.Laws.{IsOfYear}
use Rattle.tax_2023.specs.Years.{Year, tables_of}
use Rattle.tax_2023.specs.declared.years.TaxYear.{TaxYear}
use Rattle.tax_2023.specs.declared.years.TaxYear.TheVariants.{Year2023}
use Rattle.tax_2023.proofs.YearDictionary.{ranks, ranks_are}

-- types are found, and a written list is the rs
pub record IsSound (d : Tree) (rs : List ℕ) : Type 0 where
  pub typed : IsTrue (is_ok (typed_dictionary d []))
  pub ranked : IsTrue (are_ranks (mention_graph d) rs)

found : (r : Result TypedDictionary TypeFault) → IsTrue (is_ok r) → (t : TypedDictionary) × (r ≡ Ok t)
found (Ok t) h = (t, refl)
found (Err fault) h = absurd cc

-- so there is no fault
pub no_fault : (d : Tree) (rs : List ℕ) → IsSound d rs → HasNoFault d []
no_fault d rs s =
    let types = found (typed_dictionary d []) s.typed in
    has_no_fault d [] types.0 types.1 (no_cycle (mention_graph d) rs (test_tells (mention_graph d) rs s.ranked))

-- ---- the years

sound : (y : TaxYear) → IsSound (dictionary (figures (tables_of y))) ranks
unfolding spelled_dollars spelled_day
sound Year2023 = record { typed = refl; ranked = ranks_are (figures (tables_of Year2023)) }
sound y = record { typed = refl; ranked = ranks_are (figures (tables_of y)) }

pub year_has_none : (y : TaxYear) → HasNoFault (dictionary (figures (tables_of y))) []
year_has_none y = no_fault (dictionary (figures (tables_of y))) ranks (sound y)

-- ---- the dictionary that is answered is that of the year

pub is_of_year : (y : Year) (source : Written) → dictionary_view source ≡ dictionary (figures y) → (r : Result AcceptedParts NoMemory) → IfOk r (λ d. IsAccepted [] (accepted d)) → IfOk r (λ d. d.source ≡ source) → IfOk r (λ d. IsOfYear y (accepted d))
is_of_year y source e (Ok d) h k = record { is_accepted = h; facts = ap dictionary_view k ∙ e }
is_of_year y source e (Err fault) h k = tt
