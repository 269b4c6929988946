use Rattle.std.proofs.Common.{◌≡◌, ◌+◌, ◌-◌, ◌/◌, ℕ, IsTrue, drop, true, subst, arith, int_lt, rules}
use Rattle.std.specs.List.{list_all}
use Rattle.std.proofs.lemmas.Int.{ints}
use Rattle.law_arithmetic.specs.Tables.{has_begun}
use Rattle.law_arithmetic.proofs.BisectionLemmas.{begun_through, later_from}
use Rattle.law_arithmetic.proofs.bisection.halve.Goals as goal

pub returns-then-rows-middle-clause-narrowed : goal.returns-then-rows-middle-clause-narrowed
returns-then-rows-middle-clause-narrowed c =
    let rows = c.args.rows.now in
    let part = c.args.part in
    let middle : ℕ = part.first + part.length / 2 in
    let some = c.requires.some in
    let within = c.requires.narrowed.within in
    let begun : IsTrue (has_begun c.args.n c.index-rows-middle.result) = search (rules, ints) in
    let before = begun_through c.args.n rows middle c.index-rows-middle.result c.requires.rising (omega arith) c.index-rows-middle.is begun in
    let end : part.first + part.length ≡ middle + 1 + (part.length - part.length / 2 - 1) = omega arith in
    record {
      within = omega arith;
      before = before;
      behind = subst (λ (k : ℕ). IsTrue (list_all (λ r. int_lt c.args.n r.key) (drop k rows))) end c.requires.narrowed.behind;
    }

pub returns-else-rows-middle-clause-narrowed : goal.returns-else-rows-middle-clause-narrowed
returns-else-rows-middle-clause-narrowed c =
    let some = c.requires.some in
    let within = c.requires.narrowed.within in
    let later : int_lt c.args.n c.index-rows-middle.result.key ≡ true = search (rules, ints) in
    record {
      within = omega arith;
      before = c.requires.narrowed.before;
      behind = later_from c.args.n c.args.rows.now (c.args.part.first + c.args.part.length / 2) c.index-rows-middle.result c.requires.rising (omega arith) c.index-rows-middle.is later;
    }
