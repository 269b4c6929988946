use Rattle.std.proofs.Common.{inl, refl}
use Rattle.fact_watch.specs.Tables.{named_relations}
use Rattle.answers.specs.Meaning.{answered}
use Rattle.graph_session.specs.Rules.{rules}
use Rattle.script_lines.specs.Joined.{joined}
use Rattle.interview.proofs.StartLaws.{ends_without}
use Rattle.interview.proofs.top.run_as.Goals as goal

pub run_behind-status-requires-clause-same_checks : goal.run_behind-status-requires-clause-same_checks
run_behind-status-requires-clause-same_checks g c = rw c.in-Ok.ensures.same_rules c.requires.same_checks

pub run_behind-status-requires-clause-unchanged : goal.run_behind-status-requires-clause-unchanged
run_behind-status-requires-clause-unchanged g c = c.in-Ok.ensures.unchanged

pub run_behind-status-requires-clause-meant : goal.run_behind-status-requires-clause-meant
run_behind-status-requires-clause-meant g c =
    let relations = named_relations c.args.tables.now.relations.now in
    (g.T.LineHandler.meaning (rules c.args.dictionary) relations (answered c.args.ready.answers), c.begin.ensures.begins relations, c.in-Ok.ensures.meant relations)

pub run_behind-status-requires-clause-given : goal.run_behind-status-requires-clause-given
run_behind-status-requires-clause-given g c = c.requires.given

pub returns-in-Ok : goal.returns-in-Ok
returns-in-Ok g c =
    let relations = named_relations c.args.tables.now.relations.now in
    let m = g.T.LineHandler.meaning (rules c.args.dictionary) relations (answered c.args.ready.answers) in
    record {
      ends = λ front gives. c.run_behind-status.ensures.ends front gives m (c.begin.ensures.begins relations) (c.in-Ok.ensures.meant relations);
      calls = λ front gives. c.run_behind-status.ensures.calls front gives m (c.begin.ensures.begins relations) (c.in-Ok.ensures.meant relations);
    }

pub returns : goal.returns
returns g c = record { ends = λ front gives. ends_without _ (joined front) _ refl (refl, refl); calls = λ front gives. inl (refl, inl refl) }
