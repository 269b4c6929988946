use Rattle.std.proofs.Common.{[]}
use Rattle.written_facts.specs.WrittenFacts.{written_views}
use Rattle.dict_gen.proofs.Pushing.{start_taken, started}
use Rattle.dict_gen.proofs.source.start.Goals as goal

pub push_facts-requires : goal.push_facts-requires
push_facts-requires c = start_taken c.new-source.result c.new.result (written_views [] c.member_rows.result.now) c.new-source.ensures c.new.ensures (c.member_rows.ensures [])

pub returns-in-Ok : goal.returns-in-Ok
returns-in-Ok c = started c.new-source.result c.new.result (written_views [] c.member_rows.result.now) _ c.new-source.ensures c.new.ensures (c.member_rows.ensures []) c.in-Ok.ensures
