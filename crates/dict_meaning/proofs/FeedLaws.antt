-- What feeds a slot is mentioned by its fact, and is of lower rank.
use Rattle.std.proofs.Common.{◌≡◌, ◌↔◌, ℕ, ◌<◌, Bool, true, false, not, ◌&&◌, ◌||◌, nat_eq, IsTrue, List, [], ◌∷◌, inl, inr, refl, sym}
use Rattle.std.specs.List.{list_any, list_all}
use Rattle.std.proofs.lemmas.Bool.{eqb-true, eq-eqb}
use Rattle.fact_values.specs.declared.slot.Slot.{Slot}
use Rattle.dict_source.specs.Dictionary.{Dictionary as Tree}
use Rattle.dict_source.specs.declared.mentions.Mention.{Mention}
use Rattle.dict_order.specs.Graph.{Has}
use Rattle.dict_order.specs.MentionGraph.{facts_of}
use Rattle.dict_meaning.specs.Accepted.{Accepted, IsAccepted}
use Rattle.dict_meaning.specs.Feeds.{feeds, is_of, mentions_of, speaks_of}
use Rattle.dict_meaning.specs.Plain.{rank}
use Rattle.dict_meaning.proofs.RankLaws.{mentioned_lower}

-- ---- what feeds is mentioned

-- each mention of a fact is Same
abbrev are_same : ℕ → List Mention → Bool
are_same fact ms = list_all (λ m. not (is_of fact m) || m.same) ms

step : (here same any all equal : Bool) → (here && (not same || equal) || (not all || (any && equal))) ≡ (not ((not here || same) && all) || ((here || any) && equal))
step false same any all equal = refl
step true false any all equal = refl
step true true any false true = refl
step true true any false false = refl
step true true any true true = refl
step true true true true false = refl
step true true false true false = refl

-- some mention is Any, or some mention stands there and the members are equal
speaks : (t s : Slot) (ms : List Mention) → list_any (speaks_of t s) ms ≡ (not (are_same t.fact ms) || (list_any (is_of t.fact) ms && nat_eq t.member s.member))
speaks t s [] = refl
speaks t s (m ∷ ms) = rw (speaks t s ms) (step (is_of t.fact m) m.same (list_any (is_of t.fact) ms) (are_same t.fact ms) (nat_eq t.member s.member))

-- where some mention of the fact is Any, there is a mention
some_there : (fact : ℕ) (ms : List Mention) → are_same fact ms ≡ false → IsTrue (list_any (is_of fact) ms)
some_there fact [] h = absurd (cc)
some_there fact (m ∷ ms) h = at (is_of fact m) h (some_there fact ms)
  where
    at : (here : Bool) → ((not here || m.same) && are_same fact ms) ≡ false → (are_same fact ms ≡ false → IsTrue (list_any (is_of fact) ms)) → IsTrue (here || list_any (is_of fact) ms)
    at true h rest = refl
    at false h rest = rest h

by_parts : (any all equal : Bool) (p : Type 0) → (all ≡ false → IsTrue any) → (IsTrue equal ↔ p) → IsTrue (not all || (any && equal)) ↔ (IsTrue any × (IsTrue all → p))
by_parts any false equal p some shown = (λ h. (some refl, λ k. absurd (cc)), λ h. refl)
by_parts true true equal p some shown = (λ h. (refl, λ k. shown.0 h), λ h. shown.1 (h.1 refl))
by_parts false true equal p some shown = (λ h. absurd (cc), λ h. absurd (let no : false ≡ true = h.0 in cc))

pub feeds_by_mentions : (d : Tree) (t s : Slot) → IsTrue (feeds d t s) ↔ (IsTrue (list_any (is_of t.fact) (mentions_of d s.fact)) × (IsTrue (are_same t.fact (mentions_of d s.fact)) → t.member ≡ s.member))
feeds_by_mentions d t s =
    let ms = mentions_of d s.fact in
    rw (speaks t s ms) (by_parts (list_any (is_of t.fact) ms) (are_same t.fact ms) (nat_eq t.member s.member) (t.member ≡ s.member) (some_there t.fact ms) (eqb-true t.member s.member, eq-eqb t.member s.member))

-- ---- what feeds is of lower rank

has_mention : (fact : ℕ) (ms : List Mention) → IsTrue (list_any (is_of fact) ms) → Has (facts_of ms) fact
has_mention fact [] h = absurd (cc)
has_mention fact (m ∷ ms) h = at (is_of fact m) refl h (has_mention fact ms)
  where
    at : (here : Bool) → is_of fact m ≡ here → IsTrue (here || list_any (is_of fact) ms) → (IsTrue (list_any (is_of fact) ms) → Has (facts_of ms) fact) → Has (facts_of (m ∷ ms)) fact
    at true e h rest = inl (sym (eqb-true m.fact fact e))
    at false e h rest = inr (rest h)

pub feeds_fall : (names : List (List ℕ)) (d : Accepted) → IsAccepted names d → (t s : Slot) → IsTrue (feeds d.tree t s) → rank d t.fact < rank d s.fact
feeds_fall names d accepted t s h = (mentioned_lower names d accepted s.fact t.fact (has_mention t.fact (mentions_of d.tree s.fact) ((feeds_by_mentions d.tree t s).0 h).0)).1
