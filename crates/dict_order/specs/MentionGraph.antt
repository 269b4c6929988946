-- The graph of a dictionary: the facts that each of its facts mentions.
use Rattle.std.specs.Prelude.{ℕ, suc, List, [], ◌∷◌, map}
use Rattle.dict_source.specs.Dictionary.{Dictionary}
use Rattle.dict_source.specs.Facts.{Fact}
use Rattle.dict_source.specs.Mentions.{fact_mentions}
use Rattle.dict_source.specs.declared.mentions.Mention.{Mention}
use Rattle.dict_order.specs.Graph.{Graph}

-- of which facts these mentions are, whether of the same member or of any
abbrev pub facts_of : List Mention → List ℕ
facts_of mentions = map (λ (mention : Mention). mention.fact) mentions

-- the same of some facts of a dictionary, the first of which has the number n
abbrev pub graph_from : Dictionary → ℕ → List Fact → Graph
graph_from d n [] = []
graph_from d n (f ∷ fs) = facts_of (fact_mentions d n f) ∷ graph_from d (suc n) fs

-- what each fact mentions in its main expression, its conditional and its placeholder, in preorder
abbrev pub mention_graph : Dictionary → Graph
mention_graph d = graph_from d 1 d.facts
