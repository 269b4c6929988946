-- Which slots feed a slot.
use Rattle.std.specs.Prelude.{◌≡◌, ◌↔◌, ◌<◌, ℕ, Bool, not, ◌&&◌, ◌||◌, nat_eq, IsTrue, List}
use Rattle.std.specs.List.{list_any, list_all}
use Rattle.fact_values.specs.declared.slot.Slot.{Slot}
use Rattle.dict_source.specs.Dictionary.{Dictionary as Tree}
use Rattle.dict_source.specs.Finding.{fact_at}
use Rattle.dict_source.specs.Mentions.{found_mentions}
use Rattle.dict_source.specs.declared.mentions.Mention.{Mention}
use Rattle.dict_meaning.specs.Accepted.{Accepted, IsAccepted}
use Rattle.dict_meaning.specs.Plain.{rank}

-- what the fact mentions in its main expression, its conditional and its placeholder
abbrev pub mentions_of : Tree → ℕ → List Mention
mentions_of d fact = found_mentions d fact (fact_at d.facts fact)

-- a mention of the fact
abbrev pub is_of : ℕ → Mention → Bool
is_of fact m = nat_eq m.fact fact

-- the mention is Any, or the members are equal
abbrev pub allows : Slot → Slot → Mention → Bool
allows t s m = not m.same || nat_eq t.member s.member

-- at s, the mention is of t
abbrev pub speaks_of : Slot → Slot → Mention → Bool
speaks_of t s m = is_of t.fact m && allows t s m

-- t feeds s: some mention of its fact is Any, or is Same, with equal members
abbrev pub feeds : Tree → Slot → Slot → Bool
feeds d t s = list_any (speaks_of t s) (mentions_of d s.fact)

-- ---- laws

-- so the fact of s mentions the fact of t, and where each such mention is Same, both have the same member
abbrev pub FeedsByMentions : Type 0
FeedsByMentions =
    (d : Tree) (t s : Slot)
    → IsTrue (feeds d t s)
    ↔ (IsTrue (list_any (is_of t.fact) (mentions_of d s.fact))
    × (IsTrue (list_all (λ m. not (is_of t.fact m) || m.same) (mentions_of d s.fact)) → t.member ≡ s.member))

-- what feeds a slot is of lower rank
abbrev pub FeedsFall : Type 0
FeedsFall = (names : List (List ℕ)) (d : Accepted) → IsAccepted names d → (t s : Slot) → IsTrue (feeds d.tree t s) → rank d t.fact < rank d s.fact
