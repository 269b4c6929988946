use Rattle.std.proofs.Common.{inl, inr, refl}
use Rattle.fg_io.proofs.SentLaws.{sent_whole}
use Rattle.script_lines.specs.Joined.{joined}
use Rattle.interview.proofs.StartLaws.{ends_before, ends_behind}
use Rattle.interview.proofs.top.run_behind.Goals as goal

pub put_front-requires : goal.put_front-requires
put_front-requires g c = c.requires.given

pub run-requires-clause-meant : goal.run-requires-clause-meant
run-requires-clause-meant g c = c.requires.meant

pub returns-in-Ok : goal.returns-in-Ok
returns-in-Ok g c = record {
  ends = λ front gives m begins means.
      let put = c.in-Ok.ensures front gives in
      ends_behind m (joined front) _ (g.K.Sink.output c.put_front.new.out) c.run.result put.bytes.sent put.bytes.later (c.run.ensures.ends m begins means);
  calls = λ front gives m begins means.
      let put = c.in-Ok.ensures front gives in
      inr (c.put_front.new.out, record { bytes = sent_whole _ _ (joined front) put.bytes.sent; puts = put.puts }, (c.run.ensures.calls m begins means).0);
}

pub returns : goal.returns
returns g c = record {
  ends = λ front gives m begins means. ends_before m (joined front) _ (c.in-Err.ensures front gives).bytes (refl, refl);
  calls = λ front gives m begins means. let part = c.in-Err.ensures front gives in inl (refl, inr (refl, record { bytes = part.bytes.part; puts = part.puts }));
}
