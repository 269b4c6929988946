-- The texts from here on are the pieces of the lines that are left.
use Rattle.std.proofs.Common.{◌≡◌, ℕ, List, drop}
use Rattle.session_lines.specs.Writing.{pieces_of}
use Rattle.session_lines.proofs.WritingLaws.{LinesSoFar}
use Rattle.interview_ends.specs.Summary.{texts_in}
use Rattle.interview_ends.proofs.ending.put_lines.Given as goal

abbrev pub invariant-loop-text : goal.invariant-loop-text
invariant-loop-text g l =
    (lines : List (List ℕ)) → texts_in l.texts ≡ pieces_of lines
    → (rest : List (List ℕ)) × (texts_in (drop l.text-index l.texts) ≡ pieces_of rest) × LinesSoFar (g.K.Sink.output l.fn.out) (g.K.Sink.output l.out) lines rest
