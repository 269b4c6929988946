-- Texts one behind another, each written whole or in part.
use Rattle.std.proofs.Common.{ℕ, List, ◌≤◌, ◌++◌, Result, Ok, Err, [], refl, ap, subst, ◌∙◌, arith, append_assoc}
use Rattle.fg_io.specs.Outside.{Output}
use Rattle.fg_io.specs.Sent.{Sent}
use Rattle.fg_io.specs.Writing.{Wrote, WroteAll, WrotePart}
use Rattle.fg_io.proofs.SentLaws.{rose_before, sent_on, sent_part}

-- one text behind another that was written whole
pub wrote_behind : {T E : Type 0} (a b c : Output) (x y : List ℕ) (r : Result T E)
    → WroteAll a b x → Wrote b c y r → Wrote a c (x ++ y) r
wrote_behind a b c x y (Ok done) first wrote = record {
  sent = subst (λ (l : List ℕ). Sent a.taken c.taken (x ++ y) l) refl (sent_on a.taken b.taken c.taken x y [] first.sent wrote.sent);
  later = omega (arith, first.later, wrote.later);
}
wrote_behind a b c x y (Err e) first wrote = record {
  part = (wrote.part.0, sent_on a.taken b.taken c.taken x y wrote.part.0 first.sent wrote.part.1);
  rose = rose_before a.faults b.faults c.faults first.later wrote.rose;
  later = omega (arith, first.later, wrote.later);
}

-- a failure before the rest
pub failed_before : (a b : Output) (x y : List ℕ) → WrotePart a b x → WrotePart a b (x ++ y)
failed_before a b x y wrote =
    let sent = wrote.part.1 in
    record {
      part = (
        wrote.part.0 ++ y,
        record {
          front = sent.front;
          took = sent.took;
          split = ap (λ (t : List ℕ). t ++ y) sent.split ∙ append_assoc sent.front wrote.part.0 y;
        },
      );
      rose = wrote.rose;
      later = wrote.later;
    }

-- a failure within a text of which a part was written before
pub failed_within : (a b c : Output) (text piece rest : List ℕ)
    → Sent a.taken b.taken text (piece ++ rest) → a.faults ≤ b.faults → WrotePart b c piece
    → WrotePart a c text
failed_within a b c text piece rest sent le wrote = record {
  part = (wrote.part.0 ++ rest, sent_part a.taken b.taken c.taken text piece rest wrote.part.0 sent wrote.part.1);
  rose = rose_before a.faults b.faults c.faults le wrote.rose;
  later = omega (arith, wrote.later, le);
}
