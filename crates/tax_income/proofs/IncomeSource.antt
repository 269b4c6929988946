-- The source takes the facts behind those of the year, group by group.
use Rattle.std.proofs.Common.{IsTrue, List, refl}
use Rattle.written_facts.specs.Figures.{Named}
use Rattle.written_facts.specs.Taking.{takes_all}
use Rattle.tax_2023.specs.Facts.{dictionary}
use Rattle.tax_income.specs.Facts.{children, credit, ends, taxes, with_children, with_ends, with_taxes}

pub ends_taken : (fs gs : List Named) → IsTrue (takes_all (dictionary fs) (ends gs))
ends_taken fs gs = refl

pub taxes_taken : (fs gs : List Named) → IsTrue (takes_all (with_ends fs gs) taxes)
taxes_taken fs gs = refl

pub children_taken : (fs gs : List Named) → IsTrue (takes_all (with_taxes fs gs) (children gs))
children_taken fs gs = refl

pub credit_taken : (fs gs : List Named) → IsTrue (takes_all (with_children fs gs) credit)
credit_taken fs gs = refl
