use Rattle.std.proofs.Common.{true, false, refl}
use Rattle.fg_io.proofs.SentLaws.{whole_sent}
use Rattle.fact_graph_c.proofs.AnsweringLaws.{stays, stays_full, takes_step}
use Rattle.fact_graph_c.proofs.answering.answer_open.Goals as goal

pub returns-in-More : goal.returns-in-More
returns-in-More g c = record {
  answered = takes_step _ _ _ false _ _ c.requires.relations c.readied-ready.ensures.lines c.requires.goes_on c.requires.empty c.requires.goes_on (whole_sent _ _ _ c.in-More.ensures.answered.0.bytes) c.in-More.ensures.answered.1;
  dict = c.answer_ready.ensures.dict;
}

pub returns-in-Over : goal.returns-in-Over
returns-in-Over g c = record {
  answered = takes_step _ _ _ true _ _ c.requires.relations c.readied-ready.ensures.lines c.requires.goes_on c.requires.empty refl (whole_sent _ _ _ c.in-Over.ensures.answered.0.bytes) c.in-Over.ensures.answered.1;
  dict = c.answer_ready.ensures.dict;
}

pub returns-in-OutOfMemory : goal.returns-in-OutOfMemory
returns-in-OutOfMemory g c = record {
  answered = stays _ _ _ c.clear.ensures c.in-OutOfMemory.ensures.kept refl;
  dict = c.answer_ready.ensures.dict;
}

pub returns-in-Unwritten : goal.returns-in-Unwritten
returns-in-Unwritten g c = record {
  answered = stays _ _ _ c.clear-in-Unwritten.ensures
      (stays_full c.args.engine.now c.args.line.now c.answer_ready.new.session c.answer_ready.new.watches c.answer_ready.new.out _ _ c.in-Unwritten.ensures.answered.bytes.0
      c.know.ensures c.requires.roomy c.know-in-Unwritten.ensures.fit c.answer_ready.ensures.dict c.requires.relations c.readied-ready.ensures.lines c.requires.empty c.in-Unwritten.ensures.answered.puts.counted c.in-Unwritten.ensures.answered.bytes.1 c.in-Unwritten.ensures.kept)
      refl;
  dict = c.answer_ready.ensures.dict;
}
