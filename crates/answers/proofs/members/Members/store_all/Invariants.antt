use Rattle.std.proofs.Common.{◌≡◌, drop}
use Rattle.answers.specs.OpenedLists.{all_blank}
use Rattle.answers.specs.Meaning.{members_of}
use Rattle.answers.proofs.members.Members.store_all.Given as goal

abbrev pub invariant-loop-member : goal.invariant-loop-member
invariant-loop-member l = all_blank (drop l.member-index l.members) (members_of l.self) ≡ all_blank l.members (members_of l.fn.self)
