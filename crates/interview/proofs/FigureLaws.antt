-- What is printed as final over the dictionary of a year is the tables' figure.
use Rattle.std.proofs.Common.{◌≡◌, ℕ, true, false, List, [], ◌∷◌, Some, sym, ◌∙◌}
use Rattle.std.specs.List.{AllByRecursion}
use Rattle.std.proofs.lemmas.Option.{same_Some}
use Rattle.script_lines.specs.Lines.{ScriptLine}
use Rattle.fact_paths.specs.declared.slot_path.SlotPath.{SlotPath}
use Rattle.three_state.specs.declared.res.Res.{Res}
use Rattle.three_state.specs.declared.res.Res.TheVariants.{Complete}
use Rattle.answers.specs.Answered.{Answered}
use Rattle.dict_meaning.specs.Accepted.{Accepted, IsAccepted}
use Rattle.dictionary.specs.AcceptedParts.{Named}
use Rattle.dict_meaning.specs.Extension.{IsExtension}
use Rattle.dict_meaning.specs.Fits.{AnswersFit}
use Rattle.dict_meaning.specs.Plain.{plain}
use Rattle.graph_session.specs.Naming.{slot_of}
use Rattle.graph_session.specs.Rules.{Rules, tree_of}
use Rattle.placeholder_laws.specs.Stays.{Stays}
use Rattle.session_lines.specs.Stepping.{at_start, state_after}
use Rattle.session_lines.proofs.FinalLineLaws.{final_lines_stay}
use Rattle.desk_lines.specs.DeskStepping.{desk_at_start, desk_state_after}
use Rattle.desk_lines.proofs.DeskFinalLaws.{desk_final_lines_stay}
use Rattle.saved_text.proofs.Lines.{one_of_all}
use Rattle.saved_text.proofs.TextLaws.{all-append}
use Rattle.tax_2023.specs.Household.{Dependent, Household}
use Rattle.tax_2023.specs.Laws.{HasPersons, HasTables}
use Rattle.tax_2023.specs.Years.{Year, tables_of}
use Rattle.tax_income.specs.Years.{IncomeYear, income_of}
use Rattle.tax_income.specs.Laws.{HasChildren, HasIncomeTables}
use Rattle.tax_income.specs.Tables.{Numbered}
use Rattle.built_in.specs.declared.built_in.BuiltIn.{BuiltIn}
use Rattle.built_in.specs.declared.built_in.BuiltIn.TheVariants as built_ins
use Rattle.built_in.specs.BuiltIns.{IsBrought}
use Rattle.script_runs.specs.declared.mode.Mode.{Mode}
use Rattle.script_runs.specs.declared.mode.Mode.TheVariants.{Incremental, Plain, Desk}
use Rattle.interview.specs.FinalFigures.{Figure, FinalsAreFigures, IsFigureOf, child_figures, income_figures, on_persons, person_figures, year_figures}
use Rattle.interview.proofs.TableLaws.{tables_hold}

-- ---- each figure is what its slot is worth

module _ (d : Accepted) (a : Answered) where
  abbrev IsWorth : Figure → Type 0
  IsWorth figure = plain d a (slot_of d.tree figure.0) ≡ Some figure.1

  persons_worth : (y : Year) (h : Household) (ps : List Dependent) → HasPersons d y a h ps → AllByRecursion IsWorth (on_persons (person_figures y h) ps)
  persons_worth y h [] has = tt
  persons_worth y h (p ∷ ps) has =
      all-append IsWorth (person_figures y h p) (on_persons (person_figures y h) ps)
      (has.0.under_age, (has.0.younger, (has.0.qualifying_child, (has.0.qualifying_relative, (has.0.is_dependent, tt)))))
      (persons_worth y h ps has.1)

  year_worth : (y : Year) (h : Household) → HasTables d y a h → AllByRecursion IsWorth (year_figures y h)
  year_worth y h has = (
    has.filing_status,
    (
      has.basic_amount,
      (
        has.additional_amount,
        (
          has.boxes,
          (
            has.standard_deduction,
            (
              has.taxable_income,
              (has.dependent_list, (has.dependent_count, (has.qualifying_child_count, (has.first_dependent, persons_worth y h h.persons has.persons)))),
            ),
          ),
        ),
      ),
    ),
  )

  children_worth : (y : IncomeYear) (h : Household) (numbered : Numbered) (ps : List Dependent) → HasChildren d y a h numbered ps → AllByRecursion IsWorth (on_persons (child_figures y h numbered) ps)
  children_worth y h numbered [] has = tt
  children_worth y h numbered (p ∷ ps) has =
      all-append IsWorth (child_figures y h numbered p) (on_persons (child_figures y h numbered) ps)
      (has.0.credit_child, (has.0.other_dependent, tt))
      (children_worth y h numbered ps has.1)

  income_worth : (y : IncomeYear) (h : Household) (numbered : Numbered) → HasIncomeTables d y a h numbered → AllByRecursion IsWorth (income_figures y h numbered)
  income_worth y h numbered has = (
    has.schedule_tax,
    (
      has.credit_child_count,
      (
        has.other_dependent_count,
        (
          has.credit_base,
          (
            has.excess,
            (
              has.reduction,
              (
                has.child_credit,
                (
                  has.tax_after_credits,
                  all-append IsWorth (on_persons (child_figures y h numbered) h.persons) (year_figures y.tables h)
                      (children_worth y h numbered h.persons has.children) (year_worth y.tables h has.year),
                ),
              ),
            ),
          ),
        ),
      ),
    ),
  )

figure_is_worth : (b : BuiltIn) (r : Rules) (a : Answered) → IsBrought b r.accepted → AnswersFit (tree_of r) a → (figure : Figure) → IsFigureOf b r a figure → plain r.accepted a (slot_of (tree_of r) figure.0) ≡ Some figure.1
figure_is_worth (built_ins.Year y) r a is fit figure (h, answered, there) = one_of_all (IsWorth r.accepted a) (year_figures (tables_of y) h) figure (year_worth r.accepted a (tables_of y) h (tables_hold (built_ins.Year y) r a is fit h answered)) there
figure_is_worth (built_ins.Income y) r a is fit figure (h, numbered, answered, are, there) = one_of_all (IsWorth r.accepted a) (income_figures (income_of y) h numbered) figure (income_worth r.accepted a (income_of y) h numbered (tables_hold (built_ins.Income y) r a is fit h numbered answered are)) there

-- ---- what stays is what is worth by every extension

module _ (b : BuiltIn) (r : Rules) (is : IsBrought b r.accepted) where
  final_is_figure : (now all : Answered) → IsExtension (tree_of r) now all → (path : SlotPath) (worth : Res) → IsFigureOf b r all (path, worth)
      → (stays : Stays r.accepted now (slot_of (tree_of r) path)) → worth ≡ Complete stays.0
  final_is_figure now all ext path worth figure stays = same_Some worth (Complete stays.0) (sym (figure_is_worth b r all is ext.after (path, worth) figure) ∙ stays.2 all ext)

  pub finals_are_figures : (names : List (List ℕ)) → IsAccepted names r.accepted → (mode : Mode) (relations : List Named) (a : Answered) (lines : List ScriptLine) → FinalsAreFigures b r mode relations a lines
  finals_are_figures names accepted Incremental relations a lines path text says all ext worth figure =
      let s = (state_after r (at_start r (record { answers = a; stamps = true; relations = relations })) lines).standing in
      let held = final_lines_stay names r accepted s path text says in
      (held.stays.0, final_is_figure s.session_state.timeline.now all ext path worth figure held.stays, held.printed_so)
  finals_are_figures names accepted Plain relations a lines path text says all ext worth figure =
      let s = (state_after r (at_start r (record { answers = a; stamps = false; relations = relations })) lines).standing in
      let held = final_lines_stay names r accepted s path text says in
      (held.stays.0, final_is_figure s.session_state.timeline.now all ext path worth figure held.stays, held.printed_so)
  finals_are_figures names accepted Desk relations a lines path text says all ext worth figure =
      let d = (desk_state_after r (desk_at_start r a) lines).desk in
      let held = desk_final_lines_stay names r accepted d says.0 path text says.1 in
      (held.stays.0, final_is_figure d.session_state.timeline.now all ext path worth figure held.stays, held.printed_so)
