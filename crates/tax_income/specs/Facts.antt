-- The facts of the rate schedule and the child tax credit, behind those of a year. The tables are beside them, in `Tables`.
use Rattle.std.specs.Prelude.{ℕ, List, [], ◌∷◌, ◌++◌, codes}
use Rattle.dict_source.specs.declared.operators.ReadOp.TheVariants.{Count}
use Rattle.dict_source.specs.declared.operators.ManyOp.TheVariants.{GreaterOf, LesserOf, Subtract}
use Rattle.dict_source.specs.declared.operators.OneOp.TheVariants.{Round}
use Rattle.dict_source.specs.declared.operators.TwoOp.TheVariants.{Divide, Equal, GreaterThan, Multiply}
use Rattle.dict_source.specs.Tree.{Source, literal_dollar, literal_rational, literal, many, one, read, two}
use Rattle.dict_source.specs.View.{trees_of, use_of}
use Rattle.dict_source.specs.Facts.{Fact}
use Rattle.dict_source.specs.Dictionary.{Dictionary}
use Rattle.written_facts.specs.Figures.{Named}
use Rattle.written_facts.specs.WrittenFacts.{derived}
use Rattle.written_facts.specs.Taking.{with_facts}
use Rattle.tax_2023.specs.Figures.{figures}
use Rattle.tax_income.specs.Figures.{income_figures}
use Rattle.tax_income.specs.Years.{IncomeYear}
use Rattle.tax_2023.specs.Facts.{all, amount, any, boolean, cases, choice, day, dictionary, dollar, int, isnt, no_dollars, otherwise, question, sum, value, whole}

-- ---- words

abbrev pub dollars : List ℕ → Source
dollars text = literal (literal_dollar text)

abbrev pub rate : List ℕ → Source
rate text = literal (literal_rational text)

abbrev pub is_filed : List ℕ → Source
is_filed option = two Equal (value (codes "/filingStatus")) (choice option)

abbrev pub greater : Source → Source → Source
greater a b = many GreaterOf (trees_of (a ∷ b ∷ []))

abbrev pub lesser : Source → Source → Source
lesser a b = many LesserOf (trees_of (a ∷ b ∷ []))

abbrev pub difference : Source → Source → Source
difference a b = many Subtract (trees_of (a ∷ b ∷ []))

abbrev pub product : Source → Source → Source
product a b = two Multiply a b

-- ---- expressions

-- the figure of these names for a couple, a head of household, one who files separately, and another
abbrev pub by_status : List Named → List ℕ → List ℕ → List ℕ → List ℕ → Source
by_status gs couple head separate other =
    cases
    ((any (is_filed (codes "marriedFilingJointly") ∷ is_filed (codes "qualifyingSurvivingSpouse") ∷ []), amount gs couple)
    ∷ (is_filed (codes "headOfHousehold"), amount gs head)
    ∷ (is_filed (codes "marriedFilingSeparately"), amount gs separate)
    ∷ (otherwise, amount gs other)
    ∷ [])

abbrev pub first_band : Source
first_band = lesser (value (codes "/taxableIncome")) (value (codes "/end10"))

-- between the ends at these paths
abbrev pub band : List ℕ → List ℕ → Source
band low high = greater no_dollars (difference (lesser (value (codes "/taxableIncome")) (value high)) (value low))

abbrev pub last_band : Source
last_band = greater no_dollars (difference (value (codes "/taxableIncome")) (value (codes "/end35")))

abbrev pub all_taxes : Source
all_taxes =
    sum
    (value (codes "/tax10")
    ∷ value (codes "/tax12")
    ∷ value (codes "/tax22")
    ∷ value (codes "/tax24")
    ∷ value (codes "/tax32")
    ∷ value (codes "/tax35")
    ∷ value (codes "/tax37")
    ∷ [])

abbrev pub credit_child : List Named → Source
credit_child gs = all (value (codes "../qualifyingChild") ∷ two GreaterThan (value (codes "../dateOfBirth")) (day gs (codes "under 17, born after")) ∷ value (codes "../hasNumber") ∷ [])

abbrev pub other_dependent : Source
other_dependent = all (value (codes "../isDependent") ∷ isnt (value (codes "../creditChild")) ∷ [])

abbrev pub credit_child_count : Source
credit_child_count = read (Count, use_of (codes "/dependents/*/creditChild"))

abbrev pub other_dependent_count : Source
other_dependent_count = read (Count, use_of (codes "/dependents/*/otherDependent"))

abbrev pub credit_base : Source
credit_base = sum (product (dollars (codes "2000.00")) (value (codes "/creditChildCount")) ∷ product (dollars (codes "500.00")) (value (codes "/otherDependentCount")) ∷ [])

abbrev pub income_limit : Source
income_limit = cases ((is_filed (codes "marriedFilingJointly"), dollars (codes "400000.00")) ∷ (otherwise, dollars (codes "200000.00")) ∷ [])

abbrev pub excess : Source
excess = greater no_dollars (difference (value (codes "/totalIncome")) income_limit)

abbrev pub reduction : Source
reduction = product (one Round (two Divide (sum (value (codes "/excess") ∷ dollars (codes "494.99") ∷ [])) (whole (codes "1000")))) (whole (codes "50"))

abbrev pub child_credit : Source
child_credit = lesser (value (codes "/scheduleTax")) (greater no_dollars (difference (value (codes "/creditBase")) (value (codes "/reduction"))))

abbrev pub tax_after_credits : Source
tax_after_credits = difference (value (codes "/scheduleTax")) (value (codes "/childCredit"))

-- ---- facts

-- the upper ends of the bands, with these figures
abbrev pub ends : List Named → List Fact
ends gs =
    derived (codes "/end10") dollar (by_status gs (codes "10 percent, couple") (codes "10 percent, head of household") (codes "10 percent, separately") (codes "10 percent, single"))
    ∷ derived (codes "/end12") dollar (by_status gs (codes "12 percent, couple") (codes "12 percent, head of household") (codes "12 percent, separately") (codes "12 percent, single"))
    ∷ derived (codes "/end22") dollar (by_status gs (codes "22 percent, couple") (codes "22 percent, head of household") (codes "22 percent, separately") (codes "22 percent, single"))
    ∷ derived (codes "/end24") dollar (by_status gs (codes "24 percent, couple") (codes "24 percent, head of household") (codes "24 percent, separately") (codes "24 percent, single"))
    ∷ derived (codes "/end32") dollar (by_status gs (codes "32 percent, couple") (codes "32 percent, head of household") (codes "32 percent, separately") (codes "32 percent, single"))
    ∷ derived (codes "/end35") dollar (by_status gs (codes "35 percent, couple") (codes "35 percent, head of household") (codes "35 percent, separately") (codes "35 percent, single"))
    ∷ []

-- the tax of each band, and of all
abbrev pub taxes : List Fact
taxes =
    derived (codes "/tax10") dollar (product first_band (rate (codes "1/10")))
    ∷ derived (codes "/tax12") dollar (product (band (codes "/end10") (codes "/end12")) (rate (codes "12/100")))
    ∷ derived (codes "/tax22") dollar (product (band (codes "/end12") (codes "/end22")) (rate (codes "22/100")))
    ∷ derived (codes "/tax24") dollar (product (band (codes "/end22") (codes "/end24")) (rate (codes "24/100")))
    ∷ derived (codes "/tax32") dollar (product (band (codes "/end24") (codes "/end32")) (rate (codes "32/100")))
    ∷ derived (codes "/tax35") dollar (product (band (codes "/end32") (codes "/end35")) (rate (codes "35/100")))
    ∷ derived (codes "/tax37") dollar (product last_band (rate (codes "37/100")))
    ∷ derived (codes "/scheduleTax") dollar all_taxes
    ∷ []

-- for whom there is a credit
abbrev pub children : List Named → List Fact
children gs =
    question (codes "/dependents/*/hasNumber") boolean (codes "Do they have the social security number that the child tax credit asks for?")
    ∷ derived (codes "/dependents/*/creditChild") boolean (credit_child gs)
    ∷ derived (codes "/dependents/*/otherDependent") boolean other_dependent
    ∷ []

-- the credit, and what is left of the tax
abbrev pub credit : List Fact
credit =
    derived (codes "/creditChildCount") int credit_child_count
    ∷ derived (codes "/otherDependentCount") int other_dependent_count
    ∷ derived (codes "/creditBase") dollar credit_base
    ∷ derived (codes "/excess") dollar excess
    ∷ derived (codes "/reduction") dollar reduction
    ∷ derived (codes "/childCredit") dollar child_credit
    ∷ derived (codes "/taxAfterCredits") dollar tax_after_credits
    ∷ []

abbrev pub facts_of_income : List Named → List Fact
facts_of_income gs = ends gs ++ (taxes ++ (children gs ++ credit))

-- behind the facts of a year: with its figures, and those of its income
abbrev pub income_dictionary : (fs gs : List Named) → Dictionary
income_dictionary fs gs = with_facts (dictionary fs) (facts_of_income gs)

-- of this year
abbrev pub dictionary_of : IncomeYear → Dictionary
dictionary_of y = income_dictionary (figures y.tables) (income_figures y)

-- ---- the dictionary group by group

abbrev pub with_ends : (fs gs : List Named) → Dictionary
with_ends fs gs = with_facts (dictionary fs) (ends gs)

abbrev pub with_taxes : (fs gs : List Named) → Dictionary
with_taxes fs gs = with_facts (with_ends fs gs) taxes

abbrev pub with_children : (fs gs : List Named) → Dictionary
with_children fs gs = with_facts (with_taxes fs gs) (children gs)
