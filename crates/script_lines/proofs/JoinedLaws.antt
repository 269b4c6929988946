-- A script is cut into the lines that it was put together from.
use Rattle.std.proofs.Common.{◌≡◌, ℕ, List, [], ◌∷◌, ◌++◌, refl, sym, ap, ◌∙◌, append_assoc}
use Rattle.std.specs.List.{AllByRecursion}
use Rattle.script_lines.specs.Joined.{joined, last_line}
use Rattle.script_lines.specs.Lines.{lines_of, ended_of, HasNoNewline}
use Rattle.script_lines.proofs.Bytes.{lines_of-newline, ended_of-newline, lines_of-last, ended_of-last}

pub joined-append : (xs ys : List (List ℕ)) → joined (xs ++ ys) ≡ joined xs ++ joined ys
joined-append [] ys = refl
joined-append (line ∷ xs) ys = ap (λ t. line ++ 10 ∷ t) (joined-append xs ys) ∙ sym (append_assoc line (10 ∷ joined xs) (joined ys))

-- its lines
pub lines_of-joined : (lines : List (List ℕ)) (last : List ℕ) → AllByRecursion HasNoNewline lines → HasNoNewline last
    → lines_of (joined lines ++ last) ≡ lines ++ last_line last
lines_of-joined [] last each none = lines_of-last last none
lines_of-joined (line ∷ lines) last each none =
    ap lines_of (append_assoc line (10 ∷ joined lines) last)
    ∙ lines_of-newline line (joined lines ++ last) each.0
    ∙ ap (λ others. line ∷ others) (lines_of-joined lines last each.1 none)

-- its ended lines
pub ended_of-joined : (lines : List (List ℕ)) (last : List ℕ) → AllByRecursion HasNoNewline lines → HasNoNewline last
    → ended_of (joined lines ++ last) ≡ lines
ended_of-joined [] last each none = ended_of-last last none
ended_of-joined (line ∷ lines) last each none =
    ap ended_of (append_assoc line (10 ∷ joined lines) last)
    ∙ ended_of-newline line (joined lines ++ last) each.0
    ∙ ap (λ others. line ∷ others) (ended_of-joined lines last each.1 none)
