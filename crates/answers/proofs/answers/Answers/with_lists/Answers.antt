use Rattle.answers.proofs.OpenedListsLaws.{of_lists, opening_start}
use Rattle.answers.proofs.answers.Answers.with_lists.Goals as goal

pub open_lists-requires : goal.open_lists-requires
open_lists-requires c = rw (c.starting_at-parts.ensures, c.as_slice.ensures.value) (opening_start c.args.lists.items c.args.next c.requires.rise c.requires.separate c.requires.below c.requires.low c.requires.high)

pub returns-in-Ok-clause-lists : goal.returns-in-Ok-clause-lists
returns-in-Ok-clause-lists c =
    rw (c.in-Ok.ensures.new, c.starting_at-parts.ensures, c.as_slice.ensures.value) (of_lists c.args.lists.items c.args.next c.requires.rise)
