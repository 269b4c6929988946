-- The defined interview: what words, a dictionary and a script are to write, and the status at the end.
use Rattle.std.specs.Prelude.{◌≡◌, ◌⊎◌, ℕ, List, ◌++◌, codes}
use Rattle.dictionary.specs.declared.fault.DictFault.{DictFault}
use Rattle.dictionary.specs.AcceptedParts.{Named}
use Rattle.script_lines.specs.Joined.{joined}
use Rattle.graph_session.specs.Rules.{Rules, tree_of}
use Rattle.script_runs.specs.declared.status.Status.TheVariants.{Usage}
use Rattle.session_lines.specs.Replies.{line_with}
use Rattle.tax_2023.specs.Household.{Household}
use Rattle.tax_2023.specs.Answers.{AreOfHousehold}
use Rattle.tax_2023.specs.Laws.{HasTables, IsModest}
use Rattle.tax_2023.specs.Years.{tables_of}
use Rattle.tax_income.specs.Answers.{AreNumbered}
use Rattle.tax_income.specs.Laws.{HasIncomeTables}
use Rattle.tax_income.specs.Tables.{Numbered}
use Rattle.tax_income.specs.Years.{IncomeYear, income_of}
use Rattle.answers.specs.Answered.{Answered}
use Rattle.built_in.specs.declared.built_in.BuiltIn.{BuiltIn}
use Rattle.built_in.specs.declared.built_in.BuiltIn.TheVariants.{Year, Income}
use Rattle.script_runs.specs.declared.mode.Mode.{Mode}
use Rattle.script_runs.specs.Meanings.{meaning_of}
use Rattle.interview_ends.specs.Beginnings.{Basis, IsRefusedStart, IsStart, Start}
use Rattle.interview_ends.specs.Dictionaries.{Content, HasFault, IsAcceptedAs}
use Rattle.script_runs.specs.DefinedScript.{Defined, defined_script}
use Rattle.interview_ends.specs.DefinedEnds.{defined_fault, defined_saved_refused}

abbrev pub usage : Defined
usage = record { text = line_with (codes "usage: interview COMMAND ARGUMENTS"); status = Usage }

-- ---- runs

-- what a script gives that begins so: what is written before the replies, and then these
abbrev pub defined_run : Rules → Mode → List Named → Start → List ℕ → Defined
defined_run r mode relations s script =
    let given = defined_script (meaning_of r mode relations s.answers) script in
    record { text = joined s.front ++ given.text; status = given.status }

-- what is given over an accepted dictionary: a script that begins as the saved text says, or the line at which that is refused
abbrev pub GoesOnTo : Rules → Basis → Mode → List Named → List ℕ → Defined → Type 0
GoesOnTo r basis mode relations script d =
    ((s : Start) × IsStart r basis s × (d ≡ defined_run r mode relations s script))
    ⊎ ((n : ℕ) × IsRefusedStart r basis n × (d ≡ defined_saved_refused n))

-- What a run is to give over a dictionary, a saved text where one is named, and the bytes of a script, with these checks, in
-- this mode. A saved text is judged where the dictionary is accepted. Wherever the dictionary comes from, what comes
-- behind its acceptance is the same.
abbrev pub RunsTo : Content → List Named → Basis → Mode → List Named → List ℕ → Defined → Type 0
RunsTo content checks basis mode relations script d =
    ((r : Rules) × IsAcceptedAs checks content r × GoesOnTo r basis mode relations script d)
    ⊎ ((fault : DictFault) × HasFault checks content fault × (d ≡ defined_fault fault))

-- ---- laws

-- a run comes to one text and one status at most
abbrev pub OneEndOfRun : Type 0
OneEndOfRun =
    (content : Content) (checks : List Named) (basis : Basis) (mode : Mode) (relations : List Named) (script : List ℕ) (d e : Defined)
    → RunsTo content checks basis mode relations script d → RunsTo content checks basis mode relations script e → d ≡ e

-- ---- the tables of a year

-- where these are the answers of a household whose two incomes are modest, so that no sum overflows
pub record IsAnsweredBy (r : Rules) (a : Answered) (h : Household) : Type 0 where
  pub answers : AreOfHousehold (tree_of r) a h
  pub earned : IsModest h.earned_income
  pub other : IsModest h.other_income

-- then the facts of the dictionary have the values of the written tables, and those of the rates and the credit theirs, where it is
-- said of each person whether it has a number
abbrev pub IncomeTablesHoldIn : IncomeYear → Rules → Answered → Type 0
IncomeTablesHoldIn y r a =
    (h : Household) (numbered : Numbered) → IsAnsweredBy r a h → AreNumbered (tree_of r) a numbered h.persons
    → HasIncomeTables r.accepted y a h numbered

abbrev pub TablesHoldIn : BuiltIn → Rules → Answered → Type 0
TablesHoldIn (Year y) r a = (h : Household) → IsAnsweredBy r a h → HasTables r.accepted (tables_of y) a h
TablesHoldIn (Income y) r a = IncomeTablesHoldIn (income_of y) r a
