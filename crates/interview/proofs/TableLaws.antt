-- The tables hold of the dictionaries that the program brings with it.
use Rattle.dict_meaning.specs.Fits.{AnswersFit}
use Rattle.graph_session.specs.Rules.{Rules, tree_of}
use Rattle.tax_2023.proofs.TableLaw.{year_tables_hold}
use Rattle.tax_income.proofs.IncomeLaw.{income_year_tables_hold}
use Rattle.built_in.specs.declared.built_in.BuiltIn.{BuiltIn}
use Rattle.built_in.specs.declared.built_in.BuiltIn.TheVariants.{Year, Income}
use Rattle.built_in.specs.BuiltIns.{IsBrought}
use Rattle.answers.specs.Answered.{Answered}
use Rattle.interview.specs.Interview.{TablesHoldIn}

-- the tables hold of what it brings, where the answers fit
pub tables_hold : (b : BuiltIn) (r : Rules) (a : Answered) → IsBrought b r.accepted → AnswersFit (tree_of r) a → TablesHoldIn b r a
tables_hold (Year y) r a is fit = λ h answered. year_tables_hold y r.accepted is a h answered.answers answered.earned answered.other
tables_hold (Income y) r a is fit = λ h numbered answered contents. income_year_tables_hold y r.accepted is a h numbered fit answered.answers contents answered.earned answered.other
