use Rattle.std.proofs.Common.{◌≡◌, ◌≤◌, ℤ, pos, unsigned_abs, w64, sym, ap, subst, ◌∙◌, arith}
use Rattle.std.proofs.lemmas.Int.{fits_signed_from_abs, to_z-of_z}
use Rattle.fact_values.specs.Rationals.{IsRational, Ratio}
use Rattle.fact_values.proofs.Products.{product_fits, product_kept, size_of_product}
use Rattle.fact_values.proofs.rational.crosswise.Goals as goal

first : (c : goal.After-from-2) → IsRational c.args.a
first c = subst (λ (q : Ratio). IsRational q) c.a.view_is c.a.invariant

second : (c : goal.After-from-2) → IsRational c.args.b
second c = subst (λ (q : Ratio). IsRational q) c.b.view_is c.b.invariant

left : (c : goal.After-from-2) → c.from.result ≡ c.args.a.num
left c = c.from.ensures ∙ to_z-of_z w64 c.a.inside.num (fits_signed_from_abs w64 c.a.inside.num (omega (arith, c.a.invariant.2))) ∙ ap (λ (q : Ratio). q.num) c.a.view_is

right : (c : goal.After-from-2) → c.from-2.result ≡ pos c.args.b.den
right c = c.from-2.ensures ∙ ap (λ (q : Ratio). pos q.den) c.b.view_is

pub overflow_mul-result : goal.overflow_mul-result
overflow_mul-result c = product_fits c.from.result c.from-2.result c.args.a.num (pos c.args.b.den) (left c) (right c) (omega (arith, (first c).2)) (omega (arith, (second c).1))

pub returns-clause-value : goal.returns-clause-value
returns-clause-value c = product_kept c.from.result c.from-2.result c.args.a.num (pos c.args.b.den) (left c) (right c) (omega (arith, (first c).2)) (omega (arith, (second c).1))

pub returns-clause-size : goal.returns-clause-size
returns-clause-size c = subst (λ (z : ℤ). unsigned_abs z ≤ 1000000000000000000000000) (sym (returns-clause-value c)) (size_of_product c.args.a.num (pos c.args.b.den) 1000000000000 1000000000000 (first c).2 (second c).1)
