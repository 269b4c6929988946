use Rattle.std.proofs.Common.{◌≡◌, ◌++◌, IsTrue, flat_map, drop}
use Rattle.three_state.specs.Results.{members_of}
use Rattle.source_eval.specs.NodeReads.{target_slot}
use Rattle.source_eval.proofs.reads.note_fields.Given as goal

abbrev pub invariant-loop-member : goal.invariant-loop-member
invariant-loop-member g l = IsTrue g.N.Notes.keeps → g.N.Notes.noted l.notes ++ flat_map (target_slot l.field) (drop l.member-index l.member-items) ≡ g.N.Notes.noted l.fn.notes ++ flat_map (target_slot l.field) (members_of l.source)
