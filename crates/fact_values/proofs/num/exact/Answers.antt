use Rattle.std.proofs.Common.{◌≡◌, ◌≤◌, ℤ, unsigned_abs, w64, sym, subst, ◌∙◌}
use Rattle.std.proofs.lemmas.Int.{to_z-of_z}
use Rattle.fact_values.proofs.Products.{product_fits, product_kept, size_of_product}
use Rattle.fact_values.proofs.num.exact.Goals as goal

left : (c : goal.After-from-2) → c.from.result ≡ c.args.a
left c = c.from.ensures ∙ to_z-of_z w64 c.args.a c.ranges.a

right : (c : goal.After-from-2) → c.from-2.result ≡ c.args.b
right c = c.from-2.ensures ∙ to_z-of_z w64 c.args.b c.ranges.b

pub overflow_mul-result : goal.overflow_mul-result
overflow_mul-result c = product_fits c.from.result c.from-2.result c.args.a c.args.b (left c) (right c) c.requires.a_size c.requires.b_size

pub returns-clause-value : goal.returns-clause-value
returns-clause-value c = product_kept c.from.result c.from-2.result c.args.a c.args.b (left c) (right c) c.requires.a_size c.requires.b_size

pub returns-clause-size : goal.returns-clause-size
returns-clause-size c = subst (λ (z : ℤ). unsigned_abs z ≤ 1000000000000000000000000000000) (sym (returns-clause-value c)) (size_of_product c.args.a c.args.b 1000000000000000 1000000000000000 c.requires.a_size c.requires.b_size)
