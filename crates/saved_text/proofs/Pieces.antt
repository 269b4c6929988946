-- A text that is written piece by piece.
use Rattle.saved_text.proofs.Common.{Err, List, Ok, Result, Sent, Wrote, WrotePart, [], arith, failed_within, sent_piece, subst, ℕ, ◌++◌, ◌∷◌, ◌≡◌, ◌≤◌}
use Rattle.std.proofs.lemmas.Result.{err_from_is_err_and}
use Rattle.std.specs.Result.{IsErrAnd}
use Rattle.fg_io.proofs.SentLaws.{sent_none}
use Rattle.fg_io.specs.Outside.{Output}
use Rattle.fg_io.specs.Writing.{WroteAll}

-- ---- pieces one after another

abbrev pub whole : List (List ℕ) → List ℕ
whole [] = []
whole (p ∷ ps) = p ++ whole ps

-- these pieces are left of the text
pub record IsLeft (a b : Output) (text : List ℕ) (pieces : List (List ℕ)) : Type 0 where
  pub sent : Sent a.taken b.taken text (whole pieces)
  pub later : a.faults ≤ b.faults

pub all_left : (a : Output) (text : List ℕ) (pieces : List (List ℕ)) → whole pieces ≡ text → IsLeft a a text pieces
all_left a text pieces e = record { sent = subst (λ (t : List ℕ). Sent a.taken a.taken t (whole pieces)) e (sent_none a.taken (whole pieces)); later = omega arith }

pub wrote_piece : {a b c : Output} {text p : List ℕ} {ps : List (List ℕ)} → IsLeft a b text (p ∷ ps) → WroteAll b c p → IsLeft a c text ps
wrote_piece {a = a} {b = b} {c = c} {text = text} {p = p} {ps = ps} left wrote =
    record { sent = sent_piece a.taken b.taken c.taken text p (whole ps) left.sent wrote.sent; later = omega (arith, left.later, wrote.later) }

pub failed_piece : {T E : Type 0} {a b c : Output} {text p : List ℕ} {ps : List (List ℕ)} (Q : E → Type 0) (r : Result T E) → IsErrAnd r Q → IsLeft a b text (p ∷ ps) → WrotePart b c p → Wrote a c text r
failed_piece {a = a} {b = b} {c = c} {text = text} {p = p} {ps = ps} Q r is left wrote =
    let fault = err_from_is_err_and r is in
    rw fault.1 (failed_within a b c text p (whole ps) left.sent left.later wrote)

pub last_piece : {T E : Type 0} {a b : Output} {text p : List ℕ} (c : Output) (r : Result T E) → IsLeft a b text (p ∷ []) → Wrote b c p r → Wrote a c text r
last_piece c (Ok done) left wrote = let all = wrote_piece left wrote in record { sent = all.sent; later = all.later }
last_piece {a = a} {b = b} {text = text} {p = p} c (Err failed) left wrote = failed_within a b c text p [] left.sent left.later wrote
