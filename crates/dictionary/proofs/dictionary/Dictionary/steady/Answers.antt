use Rattle.std.proofs.Common.{◌≡◌, ◌-◌, subst, arith}
use Rattle.std.specs.Prelude.{◌↔◌, IsTrue}
use Rattle.dict_source.specs.Dictionary.{dictionary_view}
use Rattle.dictionary.specs.AcceptedParts.{AcceptedParts, accepted}
use Rattle.dict_meaning.specs.Steady.{IsSteady, steady_by_rank}
use Rattle.dictionary.proofs.KeptLaws.{steady_of_fact, tells_by}
use Rattle.dict_meaning.proofs.SteadyLaws.{tells}
use Rattle.dictionary.proofs.dictionary.Dictionary.steady.Goals as goal

value : (c : goal.After-index) → c.index.result.now ≡ steady_by_rank (dictionary_view c.self.inside.contents.value.source) c.self.inside.contents.value.ranks.items c.args.fact
value c =
    let there = rw (← c.self.view_is) at c.requires in
    steady_of_fact (dictionary_view c.self.inside.contents.value.source) c.self.inside.contents.value.ranks.items c.self.inside.contents.value.precomputed.steady.items c.args.fact (c.args.fact - 1) c.index.result.now c.self.invariant.precomputed_of.tells_steady there (rw c.deref.ensures at c.index.ensures) (omega (arith, c.requires.0))

pub returns-clause-tells : goal.returns-clause-tells
returns-clause-tells c =
    subst (λ (k : AcceptedParts). IsTrue c.index.result.now ↔ IsSteady (accepted k).tree c.args.fact) c.self.view_is
    (tells_by c.index.result.now _ (value c) (tells (dictionary_view c.self.inside.contents.value.source) c.self.inside.contents.value.ranks.items c.self.invariant.is_accepted.ranked c.args.fact))

pub returns-clause-value : goal.returns-clause-value
returns-clause-value c = rw (← c.self.view_is) (value c)
