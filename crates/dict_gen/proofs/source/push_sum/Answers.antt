use Rattle.std.proofs.Common.{ap, ◌∙◌, arith, add-one}
use Rattle.dict_source.specs.Dictionary.{dictionary_view}
use Rattle.dict_gen.specs.Chain.{sum_path}
use Rattle.dict_gen.proofs.Pushing.{next_taken}
use Rattle.dict_gen.proofs.source.push_sum.Goals as goal

pub push_one_more-requires : goal.push_one_more-requires
push_one_more-requires c =
    let k = c.args.before in
    let other = c.if-before-eq0.false in
    next_taken (dictionary_view c.args.source.now) k c.as_str.result.now c.as_str-2.result.now (omega (arith, other)) c.requires.most c.requires.so_far
    (c.as_str.ensures.value ∙ c.in_ok-path.ensures ∙ ap sum_path (add-one k)) (c.as_str-2.ensures.value ∙ c.in_ok-other.ensures)
