use Rattle.std.proofs.Common.{◌≡◌, ◌++◌, List, ℕ, ap, ◌∙◌, unsigned_abs, FitsSigned, w64, rules}
use Rattle.std.proofs.lemmas.Int.{to_z-of_z}
use Rattle.value_text.specs.Dates.{printed_date}
use Rattle.value_text.proofs.DateLemmas.{printed_of_parts}
use Rattle.value_text.proofs.day.print_day.Goals as goal

pub returns-clause-appended : goal.returns-clause-appended
returns-clause-appended c =
    let y = c.year.ensures.date in
    let m = c.month.ensures in
    let d = c.day.ensures in
    let fits_year : FitsSigned w64 c.year.result = search rules in
    let fits_month : FitsSigned w64 c.month.result = search rules in
    let fits_day : FitsSigned w64 c.day.result = search rules in
    let year : c.unsigned_abs.result ≡ unsigned_abs c.year.result = simp to_z-of_z at c.unsigned_abs.ensures.value in
    let month : c.unsigned_abs-2.result ≡ unsigned_abs c.month.result = simp to_z-of_z at c.unsigned_abs-2.ensures.value in
    let day : c.unsigned_abs-3.result ≡ unsigned_abs c.day.result = simp to_z-of_z at c.unsigned_abs-3.ensures.value in
    c.print_date.ensures.appended
    ∙ ap (λ (n : ℕ). c.args.out.now ++ printed_date n c.unsigned_abs-2.result c.unsigned_abs-3.result) year
    ∙ ap (λ (n : ℕ). c.args.out.now ++ printed_date (unsigned_abs c.year.result) n c.unsigned_abs-3.result) month
    ∙ ap (λ (n : ℕ). c.args.out.now ++ printed_date (unsigned_abs c.year.result) (unsigned_abs c.month.result) n) day
    ∙ ap (λ (text : List ℕ). c.args.out.now ++ text) (printed_of_parts c.args.day c.year.result y.0 y.1 m.0 c.month.result m.1 d.0 d.1 c.day.result y.2 m.2 d.2)
