-- What a fact reads is of lower rank.
use Rattle.std.proofs.Common.{◌≡◌, ℕ, ◌<◌, List, Some, is_some, sym, ap, subst, arith}
use Rattle.std.specs.Prelude.{IsSome}
use Rattle.dict_source.specs.Facts.{Fact}
use Rattle.dict_source.specs.Finding.{fact_at}
use Rattle.dict_source.specs.Mentions.{found_mentions}
use Rattle.dict_source.specs.declared.mentions.Mention.{Mention}
use Rattle.dict_order.specs.DictionaryLaws.{DictMentions}
use Rattle.dict_order.specs.Graph.{Has}
use Rattle.dict_order.specs.MentionGraph.{mention_graph}
use Rattle.dict_order.proofs.DictionaryLaws.{length_mention_graph, mentioned_is, mentions_facts}
use Rattle.dict_order.proofs.RankLaws.{falls_once}
use Rattle.evaluation.specs.Mentioned.{AllOf}
use Rattle.dict_meaning.specs.Accepted.{Accepted, IsAccepted}
use Rattle.dict_meaning.specs.Plain.{body, rank}
use Rattle.dict_meaning.proofs.FactMentions.{EachUse, all_facts, uses_of_fact}
use Rattle.dict_meaning.proofs.NumberLaws.{fact_there}

-- there is such a fact, of lower rank than this one
abbrev pub IsLower : Accepted → ℕ → ℕ → Type 0
IsLower d fact other = IsSome (fact_at d.tree.facts other) × (rank d other < rank d fact)

abbrev pub IsLowerMention : Accepted → ℕ → Mention → Type 0
IsLowerMention d fact m = IsLower d fact m.fact

pub mentioned_lower : (names : List (List ℕ)) (d : Accepted) → IsAccepted names d → (fact other : ℕ) → DictMentions d.tree fact other → IsLower d fact other
mentioned_lower names d accepted fact other h =
    let mentions = subst (λ (l : List ℕ). Has l other) (sym (mentioned_is d.tree fact)) h in
    let is = mentions_facts d.tree fact other mentions in
    (ap is_some (fact_there d.tree.facts other is.0 (omega (arith, is.1, length_mention_graph d.tree))).1, falls_once (mention_graph d.tree) d.ranks fact other accepted.ranked mentions)

pub all_lower : (names : List (List ℕ)) (d : Accepted) → IsAccepted names d → (fact : ℕ) → AllOf (IsLowerMention d fact) (found_mentions d.tree fact (fact_at d.tree.facts fact))
all_lower names d accepted fact = all_facts (IsLower d fact) (found_mentions d.tree fact (fact_at d.tree.facts fact)) (mentioned_lower names d accepted fact)

-- each use in the body and in the placeholder has targets of lower rank
pub lower_uses : (names : List (List ℕ)) (d : Accepted) → IsAccepted names d → (fact : ℕ) (f : Fact) → fact_at d.tree.facts fact ≡ Some f → EachUse d.tree fact (IsLowerMention d fact) (body f) × EachUse d.tree fact (IsLowerMention d fact) f.placeholder
lower_uses names d accepted fact f e = uses_of_fact d.tree fact (IsLowerMention d fact) f e (all_lower names d accepted fact)
