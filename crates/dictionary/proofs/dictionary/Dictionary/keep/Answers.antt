use Rattle.std.proofs.Common.{ℕ, List, subst}
use Rattle.dict_source.specs.Dictionary.{dictionary_view}
use Rattle.dictionary.specs.Keeping.{IsPrecomputed}
use Rattle.dictionary.proofs.KeptLaws.{kept_with}
use Rattle.dictionary.proofs.dictionary.Dictionary.keep.Goals as goal

pub with-requires : goal.with-requires
with-requires g c = record {
  is_accepted = kept_with (λ k. k.name) (λ k. k.code) c.args.table.now.checks.items c.in-Ok.checks.items _ c.in-Ok.ensures c.requires;
  precomputed_of = subst (λ (ranks : List ℕ). IsPrecomputed (dictionary_view c.args.source) ranks c.in-Ok-precompute.precomputed) c.as_slice.ensures.value c.in-Ok-precompute.ensures;
}
