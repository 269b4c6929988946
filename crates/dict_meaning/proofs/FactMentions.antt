-- What holds of all that a fact mentions holds of the uses in its body and in its placeholder.
use Rattle.std.proofs.Common.{◌≡◌, ℕ, List, [], ◌∷◌, ◌++◌, Option, Some, None, inl, inr, refl, subst}
use Rattle.std.specs.Prelude.{option_map}
use Rattle.dict_source.specs.Tree.{Source, SourceCase}
use Rattle.dict_source.specs.Facts.{Fact}
use Rattle.dict_source.specs.Dictionary.{Dictionary as Tree}
use Rattle.dict_source.specs.Finding.{fact_at}
use Rattle.dict_source.specs.Mentions.{mentions, option_mentions, conditional_mentions, fact_mentions, found_mentions}
use Rattle.dict_source.specs.declared.mentions.Mention.{Mention}
use Rattle.dict_order.specs.Graph.{Has}
use Rattle.dict_order.specs.MentionGraph.{facts_of}
use Rattle.evaluation.specs.Mentioned.{AllOf, Each}
use Rattle.evaluation.proofs.Mentions.{all-left, all-right}
use Rattle.dict_meaning.specs.Plain.{body, conditional_body}
use Rattle.dict_meaning.proofs.MentionedLaws.{ReadIs, SourceIs, base_under, each_mentioned}

-- of each use in an expression that may be absent, outside of all conditions
abbrev pub EachUse : Tree → ℕ → (Mention → Type 0) → Option Source → Type 0
EachUse d fact M None = Unit {0}
EachUse d fact M (Some t) = Each (ReadIs d fact M) (SourceIs d fact M) (base_under d fact) 0 t

in_option : (d : Tree) (fact : ℕ) (M : Mention → Type 0) (t : Option Source) → AllOf M (option_mentions d fact t) → EachUse d fact M t
in_option d fact M None h = tt
in_option d fact M (Some t) h = each_mentioned d fact M t 0 h

in_body : (d : Tree) (fact : ℕ) (M : Mention → Type 0) (conditional : Option SourceCase) (main : Option Source) → AllOf M (option_mentions d fact main) → AllOf M (conditional_mentions d fact conditional) → EachUse d fact M (option_map (conditional_body conditional) main)
in_body d fact M conditional None h k = tt
in_body d fact M None (Some t) h k = each_mentioned d fact M t 0 h
in_body d fact M (Some c) (Some t) h k = (
  each_mentioned d fact M c.0 0 (all-left M (mentions d fact 0 c.0) (mentions d fact 0 c.1) k),
  each_mentioned d fact M c.1 0 (all-right M (mentions d fact 0 c.0) (mentions d fact 0 c.1) k),
  (tt, each_mentioned d fact M t 0 h, tt),
)

pub body_and_placeholder : (d : Tree) (fact : ℕ) (M : Mention → Type 0) (f : Fact) → AllOf M (fact_mentions d fact f) → EachUse d fact M (body f) × EachUse d fact M f.placeholder
body_and_placeholder d fact M f h =
    let main = option_mentions d fact f.main in
    let conditional = conditional_mentions d fact f.conditional in
    let placeholder = option_mentions d fact f.placeholder in
    let rest : AllOf M (conditional ++ placeholder) = all-right M main (conditional ++ placeholder) h in (
      in_body d fact M f.conditional f.main (all-left M main (conditional ++ placeholder) h) (all-left M conditional placeholder rest),
      in_option d fact M f.placeholder (all-right M conditional placeholder rest),
    )

-- the same of the fact with a number
pub uses_of_fact : (d : Tree) (fact : ℕ) (M : Mention → Type 0) (f : Fact) → fact_at d.facts fact ≡ Some f → AllOf M (found_mentions d fact (fact_at d.facts fact)) → EachUse d fact M (body f) × EachUse d fact M f.placeholder
uses_of_fact d fact M f e h = body_and_placeholder d fact M f (subst (λ (o : Option Fact). AllOf M (found_mentions d fact o)) e h)

-- what holds of each fact that is mentioned holds of each mention's
pub all_facts : (P : ℕ → Type 0) (ms : List Mention) → ((other : ℕ) → Has (facts_of ms) other → P other) → AllOf (λ m. P m.fact) ms
all_facts P [] h = tt
all_facts P (m ∷ ms) h = (h m.fact (inl refl), all_facts P ms (λ other k. h other (inr k)))
