-- The facts of the dictionary of a year, in order. The tables are beside them, in `Tables`.
use Rattle.std.specs.Prelude.{ℕ, List, [], ◌∷◌, ◌++◌, codes}
use Rattle.fact_values.specs.declared.fact_type.FactType.TheVariants as types
use Rattle.value_text.specs.Enums.{Listed}
use Rattle.dict_source.specs.declared.operators.ReadOp.TheVariants.{Count, Dependency}
use Rattle.dict_source.specs.declared.operators.ManyOp.TheVariants.{Add, All, Any, GreaterOf, LesserOf, Subtract}
use Rattle.dict_source.specs.declared.operators.OneOp.TheVariants.{Not}
use Rattle.dict_source.specs.declared.operators.TwoOp.TheVariants.{Equal, GreaterThan, LessThan, Multiply}
use Rattle.dict_source.specs.declared.operators.PickOp.TheVariants.{Filter, Find}
use Rattle.dict_source.specs.Tree.{Source, SourceCase, Use, literal_true, literal_int, literal_dollar, literal_day, literal_choice, literal, read, switch, many, one, two, pick}
use Rattle.dict_source.specs.View.{cases_of, trees_of, use_of}
use Rattle.dict_source.specs.Facts.{Fact, Stated, enum_of, item_of, list_of, scalar, writable_list}
use Rattle.dict_source.specs.Dictionary.{Dictionary}
use Rattle.written_facts.specs.Figures.{Named, text_under}
use Rattle.written_facts.specs.WrittenFacts.{asked, asked_from, derived, described}
use Rattle.written_facts.specs.Taking.{with_facts}

-- ---- words

abbrev pub value : List ℕ → Source
value path = read (Dependency, use_of path)

abbrev pub all : List Source → Source
all ts = many All (trees_of ts)

abbrev pub any : List Source → Source
any ts = many Any (trees_of ts)

abbrev pub sum : List Source → Source
sum ts = many Add (trees_of ts)

abbrev pub cases : List SourceCase → Source
cases cs = switch (cases_of cs)

abbrev pub isnt : Source → Source
isnt t = one Not t

abbrev pub otherwise : Source
otherwise = literal literal_true

abbrev pub whole : List ℕ → Source
whole text = literal (literal_int text)

abbrev pub no_dollars : Source
no_dollars = literal (literal_dollar (codes "0.00"))

abbrev pub choice : List ℕ → Source
choice option = literal (literal_choice (codes "filingStatus") option)

-- the amount, and the day, of the figure with this name
abbrev pub amount : List Named → List ℕ → Source
amount fs name = literal (literal_dollar (text_under fs name))

abbrev pub day : List Named → List ℕ → Source
day fs name = literal (literal_day (text_under fs name))

abbrev pub boolean : Stated
boolean = scalar types.Boolean

abbrev pub int : Stated
int = scalar types.Int

abbrev pub dollar : Stated
dollar = scalar types.Dollar

abbrev pub date : Stated
date = scalar types.Day

-- ---- filing statuses

abbrev pub filing_statuses : List Listed
filing_statuses =
    record {
      name = codes "filingStatus";
      options = codes "single" ∷ codes "marriedFilingSeparately" ∷ codes "marriedFilingJointly" ∷ codes "qualifyingSurvivingSpouse" ∷ codes "headOfHousehold" ∷ [];
    }
    ∷ []

-- ---- expressions, with the figures of these names

abbrev pub joint : Source
joint = all (value (codes "/married") ∷ value (codes "/fileJointly") ∷ [])

abbrev pub unmarried : Source
unmarried = any (isnt (value (codes "/married")) ∷ value (codes "/consideredUnmarried") ∷ [])

abbrev pub filing_status : Source
filing_status =
    cases
    ((value (codes "/joint"), choice (codes "marriedFilingJointly"))
    ∷ (all (isnt (value (codes "/married")) ∷ value (codes "/spouseDied") ∷ isnt (value (codes "/remarried")) ∷ value (codes "/childInHome") ∷ value (codes "/paidHalfOfHome") ∷ []), choice (codes "qualifyingSurvivingSpouse"))
    ∷ (all (value (codes "/unmarried") ∷ value (codes "/paidHalfOfHome") ∷ value (codes "/qualifyingPerson") ∷ []), choice (codes "headOfHousehold"))
    ∷ (value (codes "/married"), choice (codes "marriedFilingSeparately"))
    ∷ (otherwise, choice (codes "single"))
    ∷ [])

abbrev pub basic_amount : List Named → Source
basic_amount fs =
    cases
    ((any (two Equal (value (codes "/filingStatus")) (choice (codes "marriedFilingJointly")) ∷ two Equal (value (codes "/filingStatus")) (choice (codes "qualifyingSurvivingSpouse")) ∷ []), amount fs (codes "basic, jointly or surviving spouse"))
    ∷ (two Equal (value (codes "/filingStatus")) (choice (codes "headOfHousehold")), amount fs (codes "basic, head of household"))
    ∷ (otherwise, amount fs (codes "basic, single or separately"))
    ∷ [])

abbrev pub additional_amount : List Named → Source
additional_amount fs =
    cases
    ((any (two Equal (value (codes "/filingStatus")) (choice (codes "single")) ∷ two Equal (value (codes "/filingStatus")) (choice (codes "headOfHousehold")) ∷ []), amount fs (codes "box, unmarried"))
    ∷ (otherwise, amount fs (codes "box, others"))
    ∷ [])

abbrev pub boxes : List Named → Source
boxes fs =
    sum
    (cases ((two LessThan (value (codes "/dateOfBirth")) (day fs (codes "65, born before")), whole (codes "1")) ∷ (otherwise, whole (codes "0")) ∷ [])
    ∷ cases ((value (codes "/blind"), whole (codes "1")) ∷ (otherwise, whole (codes "0")) ∷ [])
    ∷ cases ((all (value (codes "/joint") ∷ two LessThan (value (codes "/spouseDateOfBirth")) (day fs (codes "65, born before")) ∷ []), whole (codes "1")) ∷ (otherwise, whole (codes "0")) ∷ [])
    ∷ cases ((all (value (codes "/joint") ∷ value (codes "/spouseBlind") ∷ []), whole (codes "1")) ∷ (otherwise, whole (codes "0")) ∷ [])
    ∷ [])

abbrev pub standard_deduction : List Named → Source
standard_deduction fs =
    cases
    ((all (two Equal (value (codes "/filingStatus")) (choice (codes "marriedFilingSeparately")) ∷ value (codes "/spouseItemizes") ∷ []), no_dollars)
    ∷ (value (codes "/canBeClaimed"), sum (many LesserOf (trees_of (value (codes "/basicAmount") ∷ many GreaterOf (trees_of (amount fs (codes "claimed, at least") ∷ sum (value (codes "/earnedIncome") ∷ amount fs (codes "claimed, above earned income") ∷ []) ∷ [])) ∷ [])) ∷ two Multiply (value (codes "/additionalAmount")) (value (codes "/boxes")) ∷ []))
    ∷ (otherwise, sum (value (codes "/basicAmount") ∷ two Multiply (value (codes "/additionalAmount")) (value (codes "/boxes")) ∷ []))
    ∷ [])

abbrev pub total_income : Source
total_income = sum (value (codes "/earnedIncome") ∷ value (codes "/otherIncome") ∷ [])

abbrev pub taxable_income : Source
taxable_income = many GreaterOf (trees_of (no_dollars ∷ many Subtract (trees_of (value (codes "/totalIncome") ∷ value (codes "/standardDeduction") ∷ [])) ∷ []))

abbrev pub under_age : List Named → Source
under_age fs = any (two GreaterThan (value (codes "../dateOfBirth")) (day fs (codes "under 19, born after")) ∷ all (value (codes "../student") ∷ two GreaterThan (value (codes "../dateOfBirth")) (day fs (codes "under 24, born after")) ∷ []) ∷ [])

abbrev pub younger : Source
younger = any (two GreaterThan (value (codes "../dateOfBirth")) (value (codes "/dateOfBirth")) ∷ all (value (codes "/joint") ∷ two GreaterThan (value (codes "../dateOfBirth")) (value (codes "/spouseDateOfBirth")) ∷ []) ∷ [])

abbrev pub qualifying_child : Source
qualifying_child = all (value (codes "../childRelationship") ∷ any (value (codes "../disabled") ∷ all (value (codes "../underAge") ∷ value (codes "../younger") ∷ []) ∷ []) ∷ value (codes "../livedWithFiler") ∷ isnt (value (codes "../selfSupported")) ∷ isnt (value (codes "../jointReturn")) ∷ [])

abbrev pub qualifying_relative : List Named → Source
qualifying_relative fs = all (isnt (value (codes "../qualifyingChild")) ∷ value (codes "../relatedOrMember") ∷ two LessThan (value (codes "../grossIncome")) (amount fs (codes "gross income below")) ∷ value (codes "../supportedByFiler") ∷ [])

abbrev pub is_dependent : Source
is_dependent = any (value (codes "../qualifyingChild") ∷ value (codes "../qualifyingRelative") ∷ [])

abbrev pub persons_path : Use
persons_path = use_of (codes "/dependents")

-- asked of each person
abbrev pub they_depend : Source
they_depend = value (codes "isDependent")

abbrev pub dependent_list : Source
dependent_list = pick Filter persons_path they_depend

abbrev pub dependent_count : Source
dependent_count = read (Count, use_of (codes "/dependents/*/isDependent"))

abbrev pub qualifying_child_count : Source
qualifying_child_count = read (Count, use_of (codes "/dependents/*/qualifyingChild"))

abbrev pub first_dependent : Source
first_dependent = pick Find persons_path they_depend

-- ---- facts

-- a person answers it, and the words say what is asked
abbrev pub question : List ℕ → Stated → List ℕ → Fact
question path stated words = described words (asked path stated)

-- the same, with this value or a greater one
abbrev pub question_from : List ℕ → Stated → List ℕ → List ℕ → Fact
question_from path stated text words = described words (asked_from path stated text)

-- what is asked of the filer and the spouse
abbrev pub filer : List Fact
filer =
    question (codes "/dateOfBirth") date (codes "When were you born?")
    ∷ question (codes "/blind") boolean (codes "Are you blind on the last day of the year?")
    ∷ question (codes "/spouseDateOfBirth") date (codes "When was your spouse born?")
    ∷ question (codes "/spouseBlind") boolean (codes "Is your spouse blind on the last day of the year?")
    ∷ question (codes "/married") boolean (codes "Are you married on the last day of the year?")
    ∷ question (codes "/consideredUnmarried") boolean (codes "Did you live apart, and keep up a home for your child, so that you are considered unmarried?")
    ∷ question (codes "/fileJointly") boolean (codes "Do you and your spouse both choose a joint return?")
    ∷ question (codes "/spouseDied") boolean (codes "Did your spouse die in one of the two years before?")
    ∷ question (codes "/remarried") boolean (codes "Have you remarried since your spouse died, by the end of the year?")
    ∷ question (codes "/childInHome") boolean (codes "Did your child or stepchild, and no foster child, whom you can claim as a dependent, live in your home all year?")
    ∷ question (codes "/paidHalfOfHome") boolean (codes "Did you pay more than half of the cost of keeping up your home?")
    ∷ question (codes "/qualifyingPerson") boolean (codes "Is there a qualifying person for head of household?")
    ∷ question (codes "/spouseItemizes") boolean (codes "Does your spouse itemize deductions on a separate return?")
    ∷ question (codes "/canBeClaimed") boolean (codes "Can somebody else claim you as a dependent, or your spouse on a joint return, whether they do or not?")
    ∷ question_from (codes "/earnedIncome") dollar (codes "0") (codes "How much are your wages, tips and other pay for work, 0 or more?")
    ∷ question (codes "/otherIncome") dollar (codes "How much else belongs to your total income, with a minus before a loss?")
    ∷ []

-- what follows of the return
abbrev pub filed : List Named → List Fact
filed fs =
    derived (codes "/joint") boolean joint
    ∷ derived (codes "/unmarried") boolean unmarried
    ∷ derived (codes "/filingStatus") (enum_of (codes "filingStatus")) filing_status
    ∷ derived (codes "/basicAmount") dollar (basic_amount fs)
    ∷ derived (codes "/additionalAmount") dollar (additional_amount fs)
    ∷ derived (codes "/boxes") int (boxes fs)
    ∷ derived (codes "/standardDeduction") dollar (standard_deduction fs)
    ∷ derived (codes "/totalIncome") dollar total_income
    ∷ derived (codes "/taxableIncome") dollar taxable_income
    ∷ []

-- the dependents, and what is asked of each
abbrev pub persons : List Fact
persons =
    question (codes "/dependents") writable_list (codes "Whom do you support or live with, other than your spouse?")
    ∷ question (codes "/dependents/*/dateOfBirth") date (codes "When were they born?")
    ∷ question (codes "/dependents/*/childRelationship") boolean (codes "Are they your child, stepchild or foster child, your brother or sister (by half or by step too), or a descendant of one of these?")
    ∷ question (codes "/dependents/*/student") boolean (codes "Were they a full-time student in some part of five months?")
    ∷ question (codes "/dependents/*/disabled") boolean (codes "Were they permanently and totally disabled at any time?")
    ∷ question (codes "/dependents/*/livedWithFiler") boolean (codes "Did they live with you for more than half of the year?")
    ∷ question (codes "/dependents/*/selfSupported") boolean (codes "Did they pay for more than half of their own support?")
    ∷ question (codes "/dependents/*/jointReturn") boolean (codes "Do they file a joint return, other than only to claim a refund?")
    ∷ question (codes "/dependents/*/relatedOrMember") boolean (codes "Are they your relative in one of the ways that Publication 501 lists, or did they live with you all year as a member of your household?")
    ∷ question_from (codes "/dependents/*/grossIncome") dollar (codes "0") (codes "How much was their gross income, 0 or more?")
    ∷ question (codes "/dependents/*/supportedByFiler") boolean (codes "Did you pay for more than half of their support?")
    ∷ []

-- what follows of each dependent
abbrev pub tests : List Named → List Fact
tests fs =
    derived (codes "/dependents/*/underAge") boolean (under_age fs)
    ∷ derived (codes "/dependents/*/younger") boolean younger
    ∷ derived (codes "/dependents/*/qualifyingChild") boolean qualifying_child
    ∷ derived (codes "/dependents/*/qualifyingRelative") boolean (qualifying_relative fs)
    ∷ derived (codes "/dependents/*/isDependent") boolean is_dependent
    ∷ []

-- what follows of all dependents
abbrev pub counts : List Fact
counts =
    derived (codes "/dependentList") (list_of persons_path) dependent_list
    ∷ derived (codes "/dependentCount") int dependent_count
    ∷ derived (codes "/qualifyingChildCount") int qualifying_child_count
    ∷ derived (codes "/firstDependent") (item_of persons_path) first_dependent
    ∷ []

abbrev pub facts : List Named → List Fact
facts fs = filer ++ (filed fs ++ (persons ++ (tests fs ++ counts)))

abbrev pub dictionary : List Named → Dictionary
dictionary fs = record { enums = filing_statuses; tables = []; facts = facts fs }

-- ---- the dictionary group by group

abbrev pub at_start : Dictionary
at_start = record { enums = filing_statuses; tables = []; facts = [] }

abbrev pub with_filer : Dictionary
with_filer = with_facts at_start filer

abbrev pub with_return : List Named → Dictionary
with_return fs = with_facts with_filer (filed fs)

abbrev pub with_persons : List Named → Dictionary
with_persons fs = with_facts (with_return fs) persons

abbrev pub with_tests : List Named → Dictionary
with_tests fs = with_facts (with_persons fs) (tests fs)
