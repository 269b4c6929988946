-- One tree is accepted in one way: its types, limits and ranks are given by it.
use Rattle.std.proofs.Common.{◌≡◌, ℕ, List, Result, Ok, sym, ap, subst, ◌∙◌}
use Rattle.dict_source.specs.Dictionary.{Dictionary as Tree}
use Rattle.dict_types.specs.Typed.{typed_dictionary}
use Rattle.dict_types.specs.TypedParts.{TypedDictionary}
use Rattle.dict_rules.specs.declared.fault.TypeFault.{TypeFault}
use Rattle.dict_types.proofs.FoundLaws.{well_typed_is_found}
use Rattle.dict_order.specs.MentionGraph.{mention_graph}
use Rattle.dict_order.specs.Ranks.{AreRanks}
use Rattle.dict_order.proofs.RankLaws.{only_one}
use Rattle.dict_meaning.specs.Accepted.{Accepted, IsAccepted}

abbrev made : Tree → TypedDictionary → List ℕ → Accepted
made d t ranks = record { tree = d; typed = t; ranks = ranks }

abbrev typed : TypedDictionary → Result TypedDictionary TypeFault
typed t = Ok t

one_typed : (r : Result TypedDictionary TypeFault) (t u : TypedDictionary) → r ≡ Ok t → r ≡ Ok u → t ≡ u
one_typed r t u h k = let same : typed t ≡ typed u = sym h ∙ k in cc

pub one_accepted : (names : List (List ℕ)) (d e : Accepted) → d.tree ≡ e.tree → IsAccepted names d → IsAccepted names e → d ≡ e
one_accepted names d e same h k =
    let found : typed_dictionary e.tree names ≡ typed d.typed = ap (λ (x : Tree). typed_dictionary x names) (sym same) ∙ well_typed_is_found d.tree names d.typed h.typed in
    let ranked = subst (λ (x : Tree). AreRanks (mention_graph x) d.ranks) same h.ranked in
    let types = one_typed (typed_dictionary e.tree names) d.typed e.typed found (well_typed_is_found e.tree names e.typed k.typed) in
    let ranks = only_one (mention_graph e.tree) d.ranks e.ranks ranked k.ranked in
    ap (λ (x : Tree). made x d.typed d.ranks) same ∙ ap (λ (x : TypedDictionary). made e.tree x d.ranks) types ∙ ap (made e.tree e.typed) ranks
