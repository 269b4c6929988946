-- A fact of a dictionary within the limits has few nodes.
use Rattle.std.proofs.Common.{◌≡◌, ℕ, zero, suc, ◌<◌, ◌≤◌, Bool, true, false, cond, List, [], ◌∷◌, map, length, get_or, Option, Some, None, refl, ap, arith}
use Rattle.std.specs.Prelude.{nat_lt, sum_by}
use Rattle.std.proofs.lemmas.Bool.{ltb-false}
use Rattle.std.proofs.lemmas.List.Sums.{sum_by-cons}
use Rattle.dict_source.specs.Facts.{fact_size, fact_view}
use Rattle.dict_source.specs.Dictionary.{Dictionary, Written, IsValid, dictionary_view, too_many}
use Rattle.dict_source.specs.declared.fact_source.FactSource.{FactSource}

size_at : (facts : List FactSource) (i : ℕ) (f : FactSource) → i < length facts → f ≡ get_or facts i f → fact_size (fact_view f) ≤ sum_by fact_size (map fact_view facts)
size_at [] i f low at = absurd (omega arith)
size_at (g ∷ facts) zero f low at = omega (arith, ap (λ (k : FactSource). fact_size (fact_view k)) at, sum_by-cons fact_size (fact_view g) (map fact_view facts))
size_at (g ∷ facts) (suc i) f low at = omega (arith, size_at facts i f (omega arith) at, sum_by-cons fact_size (fact_view g) (map fact_view facts))

second_is_not : (a b : Bool) (rest : Option ℕ) → cond a (Some 1) (cond b (Some 2) rest) ≡ None → b ≡ false
second_is_not true b rest h = absurd cc
second_is_not false true rest h = absurd cc
second_is_not false false rest h = refl

few_nodes : (d : Dictionary) → too_many d ≡ None → sum_by fact_size d.facts ≤ 40000
few_nodes d h = ltb-false 40000 (sum_by fact_size d.facts) (second_is_not (nat_lt 2000 (length d.facts)) (nat_lt 40000 (sum_by fact_size d.facts)) _ h)

pub size_within : (w : Written) (facts : List FactSource) (i : ℕ) (f : FactSource) → IsValid (dictionary_view w) → facts ≡ w.facts → i < length facts → f ≡ get_or facts i f → fact_size (fact_view f) ≤ 40000
size_within w facts i f valid same low at =
    let a = size_at facts i f low at in
    let b = few_nodes (dictionary_view w) valid.limits.many in
    let c : sum_by fact_size (map fact_view facts) ≡ sum_by fact_size (dictionary_view w).facts = ap (λ (k : List FactSource). sum_by fact_size (map fact_view k)) same in
    omega (arith, a, b, c)
