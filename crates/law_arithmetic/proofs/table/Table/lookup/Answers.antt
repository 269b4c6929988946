use Rattle.std.proofs.Common.{◌≡◌, ◌∙◌, ◌-◌, ℕ, ℤ, List, Some, ap, sym, w64, to_z, of_z, arith}
use Rattle.std.proofs.lemmas.Int.{to_z-of_z}
use Rattle.law_arithmetic.specs.declared.table.Row.{Row}
use Rattle.law_arithmetic.specs.Tables.{looked_up}
use Rattle.law_arithmetic.proofs.BisectionLemmas.{looked_up_first}
use Rattle.law_arithmetic.proofs.table.Table.lookup.Goals as goal

pub returns-else-begun-eq0 : goal.returns-else-begun-eq0
returns-else-begun-eq0 c =
    let rows : List Row = c.as_slice-rows.result.now in
    let n : ℤ = to_z w64 (of_z w64 c.args.n) in
    let k : ℕ = c.bisect-begun.result.rows in
    let some = c.if-begun-eq0.false in
    let found : looked_up rows n ≡ Some c.index-rows-begun.result.value =
    looked_up_first rows n k (k - 1) c.index-rows-begun.result c.bisect-begun.ensures.begun (omega arith) (omega (arith, c.bisect-begun.ensures.within)) c.index-rows-begun.is in
    let same : rows ≡ c.args.self.now = c.as_slice-rows.ensures.value ∙ c.self.view_is in
    ap (λ (row : Row). Some row.value) (sym c.index-rows-begun.is)
    ∙ (sym found ∙ (ap (λ z. looked_up rows z) (to_z-of_z w64 c.args.n c.ranges.n) ∙ ap (λ table. looked_up table c.args.n) same))
