-- `all` over the numbers answers for the whole list.
use Rattle.std.proofs.Common.{rules, tests}
use Rattle.std.proofs.lemmas.Iterator.{YieldsList-from_slice}
use Rattle.std.proofs.lemmas.Iterator.Search.{all_from_yields_List}
use Rattle.fact_values.specs.Members.{is_member as member_number}
use Rattle.fact_values.proofs.members.are_members.Goals as goal

pub returns : goal.returns
returns c =
    all_from_yields_List member_number _ _ _ c.all.ensures.ran (YieldsList-from_slice c.args.list.now cc) (λ x b q k. search (rules, tests))
