-- The members from here on are left to append, at most nine bytes each.
use Rattle.saved_text.proofs.Common.{drop, length, list_all, printed_rest, true, ◌*◌, ◌++◌, ◌+◌, ◌≡◌, ◌≤◌}
use Rattle.fact_values.specs.Members.{is_member}
use Rattle.saved_text.proofs.lists.print_members.Given as goal

abbrev pub invariant-loop-member : goal.invariant-loop-member
invariant-loop-member l = record {
  appended : l.out ++ printed_rest (drop l.member-index l.members) ≡ l.initial.out ++ printed_rest l.members;
  short : length l.out ≤ length l.initial.out + 9 * l.member-index;
  members : list_all is_member (drop l.member-index l.members) ≡ true;
}
