-- Mentions in a row, and paths whose facts each mention the next.
use Rattle.std.proofs.Common.{◌≡◌, ℕ, zero, suc, ◌<◌, ◌≤◌, List, [], ◌∷◌, ◌++◌, length, get_or, inl, inr, refl, sym, ap, subst, ◌∙◌, arith, Vec, Global}
use Rattle.std.proofs.lemmas.List.{get_or_past, length-map}
use Rattle.dict_order.specs.Graph.{Graph, graph_of, mentioned, Has, Mentions, Leads, Reaches, IsFact}
use Rattle.dict_order.specs.Ranking.{IsTrail}

-- ---- what is mentioned

items_at : (lists : List (Vec ℕ Global)) (place : ℕ) (v : Vec ℕ Global) → place < length lists → (get_or lists place v).items ≡ get_or (graph_of lists) place []
items_at [] place v h = absurd (omega arith)
items_at (list ∷ lists) zero v h = refl
items_at (list ∷ lists) (suc place) v h = items_at lists place v (omega arith)

-- the mentions that the vector at a place has
pub item_is : (lists : List (Vec ℕ Global)) (place : ℕ) (v : Vec ℕ Global) (list : List ℕ) → place < length lists → v ≡ get_or lists place v → list ≡ v.items → list ≡ mentioned (graph_of lists) (suc place)
item_is lists place v list lt e i = i ∙ ap (λ (w : Vec ℕ Global). w.items) e ∙ items_at lists place v lt

pub length_graph : (lists : List (Vec ℕ Global)) → length (graph_of lists) ≡ length lists
length_graph lists = length-map lists (λ (list : Vec ℕ Global). list.items)

place_of : (graph : Graph) (place x : ℕ) → Has (get_or graph place []) x → place < length graph
place_of [] place x h = absurd h
place_of (list ∷ graph) zero x h = omega arith
place_of (list ∷ graph) (suc place) x h = let l = place_of graph place x h in omega (arith, l)

-- what mentions is a fact
pub mentions_is_fact : (graph : Graph) (fact other : ℕ) → Mentions graph fact other → IsFact graph fact
mentions_is_fact graph zero other h = absurd h
mentions_is_fact graph (suc place) other h = let l = place_of graph place other h in (omega arith, omega (arith, l))

-- what is past the facts mentions nothing
pub mentions_nothing : (graph : Graph) (place : ℕ) → length graph ≤ place → mentioned graph (suc place) ≡ []
mentions_nothing graph place h = get_or_past graph place [] h

-- ---- mentions in a row

pub leads_on : (graph : Graph) (n a b c : ℕ) → Leads graph n a b → Mentions graph b c → Leads graph (suc n) a c
leads_on graph zero a b c h m = (b, h, m)
leads_on graph (suc n) a b c h m = (h.0, h.1, leads_on graph n h.0 b c h.2 m)

pub reaches_on : (graph : Graph) (a b c : ℕ) → Reaches graph a b → Mentions graph b c → Reaches graph a c
reaches_on graph a b c r m = (suc r.0, leads_on graph r.0 a b c r.1 m)

pub cycle_is_fact : (graph : Graph) (fact : ℕ) → Reaches graph fact fact → IsFact graph fact
cycle_is_fact graph fact (zero, l) = mentions_is_fact graph fact fact l
cycle_is_fact graph fact (suc n, l) = mentions_is_fact graph fact l.0 l.1

-- ---- paths

pub trail_front : (graph : Graph) (path : List ℕ) (last : ℕ) → IsTrail graph (path ++ last ∷ []) → IsTrail graph path
trail_front graph [] last t = tt
trail_front graph (a ∷ []) last t = tt
trail_front graph (a ∷ b ∷ path) last t = (t.0, trail_front graph (b ∷ path) last t.1)

pub trail_on : (graph : Graph) (path : List ℕ) (last next : ℕ) → IsTrail graph (path ++ last ∷ []) → Mentions graph last next → IsTrail graph ((path ++ last ∷ []) ++ next ∷ [])
trail_on graph [] last next t m = (m, tt)
trail_on graph (a ∷ []) last next t m = (t.0, trail_on graph [] last next tt m)
trail_on graph (a ∷ b ∷ path) last next t m = (t.0, trail_on graph (b ∷ path) last next t.1 m)

-- each fact of the path reaches the last
pub trail_reaches : (graph : Graph) (path : List ℕ) (last fact : ℕ) → IsTrail graph (path ++ last ∷ []) → Has path fact → Reaches graph fact last
trail_reaches graph [] last fact t h = absurd h
trail_reaches graph (a ∷ []) last fact t (inl e) = (0, subst (λ (x : ℕ). Mentions graph x last) (sym e) t.0)
trail_reaches graph (a ∷ []) last fact t (inr h) = absurd h
trail_reaches graph (a ∷ b ∷ path) last fact t (inl e) =
    let r = trail_reaches graph (b ∷ path) last b t.1 (inl refl) in
    (suc r.0, (b, subst (λ (x : ℕ). Mentions graph x b) (sym e) t.0, r.1))
trail_reaches graph (a ∷ b ∷ path) last fact t (inr h) = trail_reaches graph (b ∷ path) last fact t.1 h
