use Rattle.std.proofs.Common.{◌≡◌, sym, ◌∙◌, rules, w8, w16, to_z, of_z}
use Rattle.std.proofs.lemmas.Int.{ints}
use Rattle.fact_values.proofs.day.calendar_date.Goals as goal

pub returns-clause-accepted : goal.returns-clause-accepted
returns-clause-accepted c =
    let year : to_z w16 (of_z w16 c.in_ok-year.year) ≡ c.args.year = search (rules, ints) in
    let month : to_z w8 (of_z w8 c.in_ok-month.month) ≡ c.args.month = search (rules, ints) in
    let day : to_z w8 (of_z w8 c.in_ok-day.day) ≡ c.args.day = search (rules, ints) in
    let succeeds = simp (year, month, day) at c.new.ensures.succeeds in
    (λ some. succeeds.0 (sym c.ok-4.ensures.variant ∙ some), λ date. c.ok-4.ensures.variant ∙ succeeds.1 date)
