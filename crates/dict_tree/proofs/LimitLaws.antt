-- The numbers of nodes of facts, added up against the limit.
use Rattle.std.proofs.Common.{◌≡◌, ℕ, zero, suc, ◌+◌, ◌-◌, ◌<◌, ◌≤◌, List, [], ◌∷◌, length, drop, map, get_or, sym, subst, true, arith}
use Rattle.std.specs.Prelude.{nat_lt, sum_by}
use Rattle.std.specs.List.{fold}
use Rattle.std.proofs.lemmas.Bool.{lt-ltb}
use Rattle.dict_source.specs.Facts.{Fact, fact_view, fact_size}
use Rattle.dict_source.specs.declared.fact_source.FactSource.{FactSource}

abbrev total_from : ℕ → List Fact → ℕ
total_from n fs = fold (λ m f. m + fact_size f) n fs

total_grows : (fs : List Fact) (n m : ℕ) → m ≤ n → m ≤ total_from n fs
total_grows [] n m h = h
total_grows (f ∷ fs) n m h = total_grows fs (n + fact_size f) m (omega arith)

-- the fact at a place takes the number past the limit
passed_at : (facts : List FactSource) (i : ℕ) (v : FactSource) (n : ℕ) → i < length facts → v ≡ get_or facts i v → 40000 < n + fact_size (fact_view v) → 40000 < total_from n (map fact_view (drop i facts))
passed_at [] i v n lt is h = absurd (omega arith)
passed_at (f ∷ fs) zero v n lt is h =
    let past : 40000 < n + fact_size (fact_view f) = subst (λ (x : FactSource). 40000 < n + fact_size (fact_view x)) is h in
    total_grows (map fact_view fs) (n + fact_size (fact_view f)) 40001 past
passed_at (f ∷ fs) (suc i) v n lt is h = passed_at fs i v n (omega arith) is h

pub many_nodes : (facts : List FactSource) (i left : ℕ) (v : FactSource) → left ≤ 40000 → i < length facts → v ≡ get_or facts i v → left < fact_size (fact_view v)
    → fold (λ n f. n + fact_size f) (40000 - left) (map fact_view (drop i facts)) ≡ fold (λ n f. n + fact_size f) 0 (map fact_view facts) → true ≡ nat_lt 40000 (sum_by fact_size (map fact_view facts))
many_nodes facts i left v within lt is more rest =
    sym (lt-ltb 40000 (sum_by fact_size (map fact_view facts)) (subst (λ n. 40000 < n) rest (passed_at facts i v (40000 - left) lt is (omega arith))))
