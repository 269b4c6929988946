-- Steady facts become known by rising rank.
use Rattle.std.proofs.Common.{◌≡◌, ℕ, zero, suc, ◌+◌, ◌-◌, ◌<◌, ◌≤◌, Bool, false, List, length, get_or, set, refl, sym, ap, ◌∙◌, inl, inr, arith}
use Rattle.std.proofs.lemmas.Bool.{cases_eq}
use Rattle.std.proofs.lemmas.List.{get_or-set_same, get_or-set_other}
use Rattle.dict_source.specs.Dictionary.{Dictionary as Tree}
use Rattle.dict_source.specs.Finding.{fact_at}
use Rattle.dict_order.specs.Graph.{Mentions}
use Rattle.dict_order.specs.MentionGraph.{mention_graph}
use Rattle.dict_order.specs.Ranks.{AreRanks}
use Rattle.dictionary.specs.ByRank.{AreByRank}
use Rattle.dict_meaning.specs.Steady.{body_graph, steady_by_rank}
use Rattle.dictionary.specs.SteadyDependencies.{TellsSteady, known_at, steady_body}
use Rattle.dictionary.proofs.BodyLaws.{steady_body_is}
use Rattle.dict_order.proofs.DictionaryLaws.{length_mention_graph}
use Rattle.dictionary.proofs.ByRankLaws.{mentioned_first, place_of_fact}
use Rattle.dict_meaning.proofs.SteadyLaws.{body_mentioned, step_from}

-- ---- what is written is known

back : (place : ℕ) → suc place - 1 ≡ place
back place = omega arith

written_here : (known : List Bool) (fact : ℕ) (b : Bool) → 1 ≤ fact → fact ≤ length known → known_at (set known (fact - 1) b) fact ≡ b
written_here known zero b low high = absurd (omega arith)
written_here known (suc place) b low high = ap (λ (k : ℕ). known_at (set known k b) (suc place)) (back place) ∙ get_or-set_same known place b false (omega arith)

written_elsewhere : (known : List Bool) (fact other : ℕ) (b : Bool) → 1 ≤ fact → (other ≡ fact → ⊥) → known_at (set known (fact - 1) b) other ≡ known_at known other
written_elsewhere known zero other b low h = absurd (omega arith)
written_elsewhere known (suc place) zero b low h = refl
written_elsewhere known (suc place) (suc k) b low h = ap (λ (i : ℕ). known_at (set known i b) (suc k)) (back place) ∙ get_or-set_other known place k b false (λ e. h (ap suc e))

-- ---- a step of the loop

module _ (d : Tree) (ranks order : List ℕ) (ranked : AreRanks (mention_graph d) ranks) (by_rank : AreByRank ranks order) (known : List Bool) (index : ℕ) (low : index < length order)
    (before : (place : ℕ) → place < index → known_at known (get_or order place 0) ≡ steady_by_rank d ranks (get_or order place 0)) where
  -- what the body mentions is known
  mentioned_known : (x : ℕ) → Mentions (body_graph d) (get_or order index 0) x → known_at known x ≡ steady_by_rank d ranks x
  mentioned_known x m =
      let found = mentioned_first d ranks order index x ranked by_rank low (body_mentioned d (get_or order index 0) x m) in
      ap (known_at known) (sym found.2) ∙ before found.0 found.1 ∙ ap (steady_by_rank d ranks) found.2

  this_one : steady_body d (known_at known) (get_or order index 0) (fact_at d.facts (get_or order index 0)) ≡ steady_by_rank d ranks (get_or order index 0)
  this_one = steady_body_is d (known_at known) (get_or order index 0) ∙ step_from d ranks ranked (known_at known) (get_or order index 0) mentioned_known

  pub settled : (number place : ℕ) → number ≡ get_or order index 0 → 1 ≤ number → number ≤ length known → place < index + 1
      → known_at (set known (number - 1) (steady_body d (known_at known) number (fact_at d.facts number))) (get_or order place 0) ≡ steady_by_rank d ranks (get_or order place 0)
  settled number place is one high lt =
      let value = steady_body d (known_at known) number (fact_at d.facts number) in
      let right : value ≡ steady_by_rank d ranks number = ap (λ (n : ℕ). steady_body d (known_at known) n (fact_at d.facts n)) is ∙ this_one ∙ ap (steady_by_rank d ranks) (sym is) in
      elim (cases_eq (get_or order place 0) number) [
        | inl same ↦ ap (known_at (set known (number - 1) value)) same ∙ written_here known number value one high ∙ right ∙ ap (steady_by_rank d ranks) (sym same)
        | inr other ↦
            let earlier : place < index = elim (cases_eq place index) [
              | inl e ↦ absurd (other (ap (λ (k : ℕ). get_or order k 0) e ∙ sym is))
              | inr ne ↦ omega (arith, ne, lt)
            ] in
            written_elsewhere known number (get_or order place 0) value one other ∙ before place earlier
      ]

-- ---- all of them

pub all_known : (d : Tree) (ranks order : List ℕ) (known : List Bool) → AreRanks (mention_graph d) ranks → AreByRank ranks order → length known ≡ length d.facts
    → ((place : ℕ) → place < length order → known_at known (get_or order place 0) ≡ steady_by_rank d ranks (get_or order place 0)) → TellsSteady d ranks known
all_known d ranks order known ranked by_rank count h = record {
  count = count;
  each = λ fact is.
      let found = place_of_fact ranks order fact by_rank (omega (arith, is.0)) (omega (arith, is.1, ranked.count, length_mention_graph d)) in
      ap (known_at known) (sym found.2) ∙ h found.0 found.1 ∙ ap (steady_by_rank d ranks) found.2;
}
