use Rattle.std.proofs.Common.{◌≡◌, drop}
use Rattle.dictionary.specs.AcceptedParts.{accepted}
use Rattle.dict_meaning.specs.Plain.{plain}
use Rattle.evaluation.specs.Results.{Results}
use Rattle.fact_watch.specs.Tables.{named_relations}
use Rattle.fact_watch.specs.Watching.{noted}
use Rattle.session_lines.specs.Firing.{firing_lines}
use Rattle.session_lines.proofs.WritingLaws.{LinesSoFar}
use Rattle.session_lines.proofs.firing.put_fired.Given as goal

abbrev pub invariant-loop-n : goal.invariant-loop-n
invariant-loop-n g l =
    (before : Results) → l.watches ≡ noted l.watches.watched before → LinesSoFar (g.K.Sink.output l.fn.out) (g.K.Sink.output l.out)
    (firing_lines (accepted l.session.dict).tree (named_relations l.table) before (plain (accepted l.session.dict) l.session.timeline.now) l.watches.watched)
    (firing_lines (accepted l.session.dict).tree (named_relations l.table) before (plain (accepted l.session.dict) l.session.timeline.now) (drop l.n l.watches.watched))
