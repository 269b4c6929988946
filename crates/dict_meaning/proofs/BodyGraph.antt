-- The graph of bodies has what each fact's body mentions.
use Rattle.std.proofs.Common.{◌≡◌, ℕ, zero, suc, ◌+◌, List, [], ◌∷◌, get_or, Option, Some, None, refl, ap, arith}
use Rattle.std.specs.Prelude.{slice_get}
use Rattle.dict_source.specs.Facts.{Fact}
use Rattle.dict_source.specs.Dictionary.{Dictionary as Tree}
use Rattle.dict_source.specs.Finding.{fact_at}
use Rattle.dict_order.specs.Graph.{mentioned}
use Rattle.dict_meaning.specs.Steady.{bodies_from, body_graph, body_mentions}

-- of a fact that may be absent
abbrev pub found_body : Tree → ℕ → Option Fact → List ℕ
found_body d fact None = []
found_body d fact (Some f) = body_mentions d fact f

at_place : (d : Tree) (n : ℕ) (fs : List Fact) (i m : ℕ) → m ≡ n + i → get_or (bodies_from d n fs) i [] ≡ found_body d m (slice_get fs i)
at_place d n [] i m e = refl
at_place d n (f ∷ fs) zero m e =
    let same : n ≡ m = omega arith in
    ap (λ (k : ℕ). found_body d k (slice_get (f ∷ fs) 0)) same
at_place d n (f ∷ fs) (suc i) m e = at_place d (suc n) fs i m (omega arith)

pub mentioned_by_body : (d : Tree) (fact : ℕ) → mentioned (body_graph d) fact ≡ found_body d fact (fact_at d.facts fact)
mentioned_by_body d zero = refl
mentioned_by_body d (suc i) = at_place d 1 d.facts i (suc i) (omega arith)
