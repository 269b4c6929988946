use Rattle.std.proofs.Common.{◌≡◌, drop}
use Rattle.answers.specs.OpenedLists.{MayOpen, with_all}
use Rattle.answers.specs.Meaning.{answered}
use Rattle.answers.proofs.parts.Parts.open_lists.Given as goal

abbrev pub invariant-loop-opened : goal.invariant-loop-opened
invariant-loop-opened l = record {
  same : with_all (drop l.opened-index l.lists) (answered l.self) ≡ with_all l.lists (answered l.fn.self);
  opening : MayOpen (drop l.opened-index l.lists) (answered l.self);
}
