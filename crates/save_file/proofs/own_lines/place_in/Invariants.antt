-- What is left has the member as many places behind.
use Rattle.save_file.proofs.Common.{drop, place_in, ◌+◌, ◌≡◌}
use Rattle.save_file.proofs.own_lines.place_in.Given as goal

abbrev pub invariant-loop-other : goal.invariant-loop-other
invariant-loop-other l = record {
  place : place_in l.member l.members ≡ l.place + place_in l.member (drop l.other-index l.members);
  index : l.place ≡ l.other-index;
}
