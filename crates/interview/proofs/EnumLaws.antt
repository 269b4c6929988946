-- The enums of an accepted dictionary are lists of options, each under a name of its own.
use Rattle.std.proofs.Common.{List, refl, sym, subst, arith}
use Rattle.value_text.specs.Enums.{AreLists}
use Rattle.dict_source.specs.Dictionary.{Dictionary}
use Rattle.dictionary.specs.AcceptedParts.{Named}
use Rattle.dictionary.proofs.EnumLists.{read_lists}
use Rattle.graph_session.specs.Rules.{Rules, tree_of}
use Rattle.tax_2023.specs.Facts.{filing_statuses}
use Rattle.built_in.specs.declared.built_in.BuiltIn.{BuiltIn}
use Rattle.built_in.specs.declared.built_in.BuiltIn.TheVariants.{Year, Income}
use Rattle.built_in.specs.BuiltIns.{IsBrought}
use Rattle.interview_ends.specs.Dictionaries.{Content, IsAcceptedAs, brought, spelled}

years_lists : AreLists filing_statuses
years_lists = record { few = omega arith; distinct = refl; listed = refl }

brought_lists : (b : BuiltIn) (r : Rules) → IsBrought b r.accepted → AreLists (tree_of r).enums
brought_lists (Year y) r is = subst (λ (d : Dictionary). AreLists d.enums) (sym is.facts) years_lists
brought_lists (Income y) r is = subst (λ (d : Dictionary). AreLists d.enums) (sym is.facts) years_lists

pub accepted_lists : (checks : List Named) (content : Content) (r : Rules) → IsAcceptedAs checks content r → AreLists (tree_of r).enums
accepted_lists checks (spelled bytes) r is = read_lists is.0.0.1 (tree_of r) is.0.0.3.0 is.0.0.3.1
accepted_lists checks (brought b) r is = brought_lists b r is.0
