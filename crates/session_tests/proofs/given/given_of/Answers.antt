use Rattle.std.proofs.Common.{[], ◌∷◌, refl}
use Rattle.answers.specs.Meaning.{answered}
use Rattle.dict_source.specs.Dictionary.{dictionary_view}
use Rattle.session_tests.proofs.GivenFits.{made_fits}
use Rattle.session_tests.proofs.given.given_of.Goals as goal

pub returns-then-begins_with_a_list : goal.returns-then-begins_with_a_list
returns-then-begins_with_a_list c =
    made_fits answered (dictionary_view c.args.dict.now.source) 1 (3 ∷ 1 ∷ []) 4 c.given.result c.given.ensures.lists c.given.ensures.well c.given.ensures.from_one (c.if-begins_with_a_list.ensures refl)
