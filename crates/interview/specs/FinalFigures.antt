-- What a run over the dictionary of a year prints as final of a fact of the tables: the tables' figure, however the rest is
-- answered.
use Rattle.std.specs.Prelude.{◌≡◌, ℕ, pos, true, false, List, [], ◌∷◌, ◌++◌, Contains, codes, length}
use Rattle.script_lines.specs.Lines.{ScriptLine}
use Rattle.script_lines.specs.declared.command.Command.TheVariants.{Final}
use Rattle.fact_paths.specs.declared.slot_path.SlotPath.{SlotPath}
use Rattle.fact_paths.specs.declared.slot_path.SlotPath.TheVariants.{Global, Member}
use Rattle.fact_values.specs.declared.value.Value.{Value}
use Rattle.fact_values.specs.declared.value.Value.TheVariants.{Boolean, Dollar, Int, Members}
use Rattle.value_text.specs.Values.{printed}
use Rattle.three_state.specs.declared.res.Res.{Res}
use Rattle.three_state.specs.declared.res.Res.TheVariants.{Complete}
use Rattle.evaluation.specs.Sure.{first_found}
use Rattle.answers.specs.Answered.{Answered}
use Rattle.dictionary.specs.AcceptedParts.{Named}
use Rattle.dict_meaning.specs.Extension.{IsExtension}
use Rattle.graph_session.specs.Rules.{Rules, tree_of}
use Rattle.session_lines.specs.Laws.{final_line}
use Rattle.session_lines.specs.Stepping.{at_start, state_after, step_command}
use Rattle.desk_lines.specs.DeskLaws.{final_output}
use Rattle.desk_lines.specs.DeskStepping.{desk_at_start, desk_state_after, step_asked}
use Rattle.tax_2023.specs.Household.{Dependent, Household}
use Rattle.tax_2023.specs.Laws.{status_value}
use Rattle.tax_2023.specs.Tables as tables
use Rattle.tax_2023.specs.Tables.{dependents, members, qualifying_children, status}
use Rattle.tax_2023.specs.Years.{Year, tables_of}
use Rattle.tax_income.specs.Answers.{AreNumbered}
use Rattle.tax_income.specs.Tables as income_tables
use Rattle.tax_income.specs.Tables.{Numbered, credit_children, is_credit_child, is_other_dependent, other_dependents, schedule_tax}
use Rattle.tax_income.specs.Years.{IncomeYear, income_of}
use Rattle.built_in.specs.declared.built_in.BuiltIn.{BuiltIn}
use Rattle.built_in.specs.declared.built_in.BuiltIn.TheVariants as built_ins
use Rattle.script_runs.specs.declared.mode.Mode.{Mode}
use Rattle.script_runs.specs.declared.mode.Mode.TheVariants.{Incremental, Plain, Desk}
use Rattle.interview.specs.Interview.{IsAnsweredBy}
use Rattle.script_runs.specs.Meanings.{meaning_of}

-- ---- the figures of the tables

-- a slot by its path, and what it is worth
abbrev pub Figure : Type 0
Figure = SlotPath × Res

abbrev pub on_return : List ℕ → Value → Figure
on_return name v = (Global name, Complete v)

abbrev pub on_person : Dependent → List ℕ → Value → Figure
on_person p name v = (Member (codes "dependents") p.member name, Complete v)

-- those on each person, in order
abbrev pub on_persons : (Dependent → List Figure) → List Dependent → List Figure
on_persons figures [] = []
on_persons figures (p ∷ ps) = figures p ++ on_persons figures ps

abbrev pub person_figures : Year → Household → Dependent → List Figure
person_figures y h p =
    on_person p (codes "underAge") (Boolean (tables.is_under_age y p))
    ∷ on_person p (codes "younger") (Boolean (tables.is_younger h p))
    ∷ on_person p (codes "qualifyingChild") (Boolean (tables.is_qualifying_child y h p))
    ∷ on_person p (codes "qualifyingRelative") (Boolean (tables.is_qualifying_relative y h p))
    ∷ on_person p (codes "isDependent") (Boolean (tables.is_dependent y h p))
    ∷ []

-- of a year, for a household
abbrev pub year_figures : Year → Household → List Figure
year_figures y h =
    on_return (codes "filingStatus") (status_value (status h))
    ∷ on_return (codes "basicAmount") (Dollar (tables.basic_amount y h))
    ∷ on_return (codes "additionalAmount") (Dollar (tables.box_amount y h))
    ∷ on_return (codes "boxes") (Int (pos (tables.boxes y h)))
    ∷ on_return (codes "standardDeduction") (Dollar (tables.deduction y h))
    ∷ on_return (codes "taxableIncome") (Dollar (tables.taxable_income y h))
    ∷ on_return (codes "dependentList") (Members (members (dependents y h)))
    ∷ on_return (codes "dependentCount") (Int (pos (length (dependents y h))))
    ∷ on_return (codes "qualifyingChildCount") (Int (pos (length (qualifying_children y h))))
    ∷ (Global (codes "firstDependent"), first_found (members (dependents y h)))
    ∷ on_persons (person_figures y h) h.persons

abbrev pub child_figures : IncomeYear → Household → Numbered → Dependent → List Figure
child_figures y h numbered p =
    on_person p (codes "creditChild") (Boolean (is_credit_child y h numbered p))
    ∷ on_person p (codes "otherDependent") (Boolean (is_other_dependent y h numbered p))
    ∷ []

-- and with the rate schedule and the child tax credit
abbrev pub income_figures : IncomeYear → Household → Numbered → List Figure
income_figures y h numbered =
    on_return (codes "scheduleTax") (Dollar (schedule_tax y h))
    ∷ on_return (codes "creditChildCount") (Int (pos (credit_children y h numbered)))
    ∷ on_return (codes "otherDependentCount") (Int (pos (other_dependents y h numbered)))
    ∷ on_return (codes "creditBase") (Dollar (income_tables.credit_base y h numbered))
    ∷ on_return (codes "excess") (Dollar (income_tables.excess h))
    ∷ on_return (codes "reduction") (Dollar (income_tables.reduction h))
    ∷ on_return (codes "childCredit") (Dollar (income_tables.child_credit y h numbered))
    ∷ on_return (codes "taxAfterCredits") (Dollar (income_tables.tax_after_credits y h numbered))
    ∷ (on_persons (child_figures y h numbered) h.persons ++ year_figures y.tables h)

-- where all is answered so, and the answers are a household's whose incomes are modest, this is a figure of the tables
abbrev pub IsIncomeFigureOf : IncomeYear → Rules → Answered → Figure → Type 0
IsIncomeFigureOf y r all figure =
    (h : Household) × (numbered : Numbered) × IsAnsweredBy r all h × AreNumbered (tree_of r) all numbered h.persons
    × Contains (income_figures y h numbered) figure

abbrev pub IsFigureOf : BuiltIn → Rules → Answered → Figure → Type 0
IsFigureOf (built_ins.Year y) r all figure = (h : Household) × IsAnsweredBy r all h × Contains (year_figures (tables_of y) h) figure
IsFigureOf (built_ins.Income y) r all figure = IsIncomeFigureOf (income_of y) r all figure

-- ---- what is printed as final

-- where these lines lead from the answers, `final PATH` prints this value
abbrev pub PrintsAsFinal : Rules → Mode → List Named → Answered → List ScriptLine → SlotPath → List ℕ → Type 0
PrintsAsFinal r Incremental relations a lines path text =
    (step_command r (state_after r (at_start r (record { answers = a; stamps = true; relations = relations })) lines).standing (Final path)).lines ≡ final_line text ∷ []
PrintsAsFinal r Plain relations a lines path text =
    (step_command r (state_after r (at_start r (record { answers = a; stamps = false; relations = relations })) lines).standing (Final path)).lines ≡ final_line text ∷ []
PrintsAsFinal r Desk relations a lines path text =
    (p : ℕ) × ((step_asked r (desk_state_after r (desk_at_start r a) lines).desk p (Final path)).lines ≡ final_output p text)

-- The text is that of the tables' figure, for every household that has the answers given there, however it answers the rest.
abbrev pub FinalsAreFigures : BuiltIn → Rules → Mode → List Named → Answered → List ScriptLine → Type 0
FinalsAreFigures b r mode relations a lines =
    (path : SlotPath) (text : List ℕ) → PrintsAsFinal r mode relations a lines path text
    → (all : Answered) → IsExtension (tree_of r) ((meaning_of r mode relations a).answers lines) all
    → (worth : Res) → IsFigureOf b r all (path, worth)
    → (v : Value) × (worth ≡ Complete v) × (text ≡ printed (tree_of r).enums v)
