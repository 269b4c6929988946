use Rattle.std.proofs.Common.{◌≡◌, ◌+◌, ◌-◌, ◌≤◌, true}
use Rattle.fact_watch.specs.Tables.{named_relations}
use Rattle.script_lines.specs.Lines.{HasNoNewline, ended_lines}
use Rattle.script_runs.proofs.script.run.Given as goal
use Rattle.script_runs.specs.Meanings.{IsBeginning, Meaning}
use Rattle.script_runs.specs.SoFar.{AnsweredSoFar, ExchangeSoFar}

abbrev pub invariant-loop-taken : goal.invariant-loop-taken
invariant-loop-taken g l =
    ((m : Meaning) → IsBeginning m → g.T.LineHandler.means l.fn.handler (named_relations l.tables.relations.now) m
    → (there : Meaning) × g.T.LineHandler.means l.handler (named_relations l.tables.relations.now) there × IsBeginning there
    × ((so_far : AnsweredSoFar m (g.S.Source.input l.fn.script).left (g.S.Source.input l.script).left (g.K.Sink.output l.fn.out) (g.K.Sink.output l.out) l.taken there l.lines.so_far)
    × (l.steps ≤ l.fn.steps + m.steps g.T.LineHandler.most (ended_lines so_far.bytes))
    × ExchangeSoFar g.S.Source.pulled g.K.Sink.output m l.fn.out l.fn.script so_far.bytes l.script))
    × (l.taken ≤ 67108864) × ((g.K.Sink.output l.fn.out).faults ≤ (g.K.Sink.output l.out).faults) × ((g.S.Source.input l.fn.script).faults ≤ (g.S.Source.input l.script).faults)
    × (g.T.LineHandler.goes_by l.handler ≡ g.T.LineHandler.goes_by l.fn.handler) × (g.T.LineHandler.changes l.handler ≤ l.taken) × HasNoNewline l.lines.so_far
    × (g.T.LineHandler.is_quiet ≡ true → l.out ≡ l.fn.out)

abbrev pub decreases-loop-taken : goal.decreases-loop-taken
decreases-loop-taken g l = 67108864 - l.taken
