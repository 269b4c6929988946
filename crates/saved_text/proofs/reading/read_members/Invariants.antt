use Rattle.saved_text.proofs.Common.{length, ◌∷◌}
use denote.Text.{Utf8}
use denote.Shadow.{shadow}
use Rattle.saved_text.proofs.MemberParsing.{AreSoFar}
use Rattle.saved_text.proofs.reading.read_members.Given as goal

abbrev pub invariant-loop-word : goal.invariant-loop-word
invariant-loop-word l = shadow (Utf8 l.rest) × AreSoFar (32 ∷ l.fn.text) l.found.items l.rest

abbrev pub decreases-loop-word : goal.decreases-loop-word
decreases-loop-word l = length l.rest
