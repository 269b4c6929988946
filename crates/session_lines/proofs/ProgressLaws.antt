-- How a script goes on behind lines, from how much of them was written.
use Rattle.std.proofs.Common.{◌≡◌, ℕ, ◌≤◌, List, ◌++◌, Result, Ok, Err, sym, subst, arith}
use Rattle.fg_io.specs.Outside.{Output}
use Rattle.session_lines.specs.declared.progress.Progress.{Progress}
use Rattle.session_lines.specs.declared.progress.Progress.TheVariants.{More, Over, Unwritten, OutOfMemory}
use Rattle.session_lines.specs.Answering.{WrittenAs, progress_of}
use Rattle.session_lines.specs.Writing.{WroteAs}
use Rattle.session_lines.proofs.WritingLaws.{lines_on, some_before, some_on}

module _ {T E : Type 0} (sink sink_now : Output) (lines : List (List ℕ)) where
  wrote_by : (r : Result T E) → WroteAs sink sink_now lines r → WrittenAs sink sink_now lines (progress_of r)
  wrote_by (Ok done) wrote = wrote
  wrote_by (Err failed) wrote = wrote

  pub wrote_written : (r : Result T E) (progress : Progress) → progress ≡ progress_of r → WroteAs sink sink_now lines r → WrittenAs sink sink_now lines progress
  wrote_written r progress is wrote = subst (WrittenAs sink sink_now lines) (sym is) (wrote_by r wrote)

  pub wrote_later : (r : Result T E) → WroteAs sink sink_now lines r → sink.faults ≤ sink_now.faults
  wrote_later (Ok done) wrote = omega (arith, wrote.puts.counted)
  wrote_later (Err failed) wrote = wrote.puts.counted.1

-- lines behind those that were written whole
pub written_behind : (a b c : Output) (xs ys : List (List ℕ)) (progress : Progress) → WrittenAs a b xs More → WrittenAs b c ys progress → WrittenAs a c (xs ++ ys) progress
written_behind a b c xs ys More first next = lines_on a b c xs ys first next
written_behind a b c xs ys Over first next = absurd next
written_behind a b c xs ys Unwritten first next = some_on a b c xs ys first next
written_behind a b c xs ys OutOfMemory first next = absurd next

-- a part of the first is one of both
pub unwritten_before : (a b : Output) (xs ys : List (List ℕ)) → WrittenAs a b xs Unwritten → WrittenAs a b (xs ++ ys) Unwritten
unwritten_before a b xs ys part = some_before a b xs ys part
