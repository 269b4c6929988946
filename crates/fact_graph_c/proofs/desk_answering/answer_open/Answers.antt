use Rattle.std.proofs.Common.{true, false, refl}
use Rattle.fg_io.proofs.SentLaws.{whole_sent}
use Rattle.fact_graph_c.proofs.DeskAnsweringLaws.{desk_stays, desk_stays_full, takes_desk_step}
use Rattle.fact_graph_c.proofs.desk_answering.answer_open.Goals as goal

pub returns-in-More : goal.returns-in-More
returns-in-More g c = record {
  answered = takes_desk_step c.args.engine.now c.args.line.now _ c.readied-ready.ensures.lines c.requires.goes_on _ false c.requires.empty c.requires.goes_on
      (λ d s. whole_sent _ _ _ (c.in-More.ensures.answered d s).0.bytes) (λ d s. (c.in-More.ensures.answered d s).1);
  dict = c.answer_ready.ensures.dict;
}

pub returns-in-Over : goal.returns-in-Over
returns-in-Over g c = record {
  answered = takes_desk_step c.args.engine.now c.args.line.now _ c.readied-ready.ensures.lines c.requires.goes_on _ true c.requires.empty refl
      (λ d s. whole_sent _ _ _ (c.in-Over.ensures.answered d s).0.bytes) (λ d s. (c.in-Over.ensures.answered d s).1);
  dict = c.answer_ready.ensures.dict;
}

pub returns-in-OutOfMemory : goal.returns-in-OutOfMemory
returns-in-OutOfMemory g c = record {
  answered = desk_stays c.args.engine.now _ c.clear.ensures (λ d s. (c.in-OutOfMemory.ensures.answered d s).1) refl;
  dict = c.answer_ready.ensures.dict;
}

pub returns-in-Unwritten : goal.returns-in-Unwritten
returns-in-Unwritten g c = record {
  answered = record {
    text = c.clear-in-Unwritten.ensures;
    stands = λ d s.
        let put = (c.in-Unwritten.ensures.answered d s).0 in
        desk_stays_full c.args.engine.now c.args.line.now _ c.readied-ready.ensures.lines c.requires.goes_on c.answer_ready.new.out c.answer_ready.new.desk
        c.know.ensures c.requires.few c.requires.roomy c.requires.empty d s put.puts.counted put.bytes.0 put.bytes.1 (c.in-Unwritten.ensures.answered d s).1.0;
    ends = refl;
  };
  dict = c.answer_ready.ensures.dict;
}
