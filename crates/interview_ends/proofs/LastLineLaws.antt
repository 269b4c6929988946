-- An interview that ends with one line, or with several.
use Rattle.std.proofs.Common.{◌≡◌, ℕ, ◌+◌, ◌<◌, List, [], ◌∷◌, drop, get_or, length, inl, inr, refl, sym, ap, subst, ◌∙◌, arith}
use Rattle.std.proofs.lemmas.List.{drop_more}
use Rattle.std.specs.Prelude.{Vec}
use Rattle.std.specs.declared.alloc.Global.{Global}
use Rattle.fg_io.specs.Outside.{Output}
use Rattle.fg_io.specs.Puts.{PutAll}
use Rattle.script_lines.specs.Joined.{joined}
use Rattle.session_lines.specs.Replies.{line_with}
use Rattle.session_lines.specs.Writing.{pieces_of}
use Rattle.script_runs.specs.declared.status.Status.{Status}
use Rattle.interview_ends.specs.LastLines.{PutAtEnd, PutBy, PutLinesAtEnd, PutsOneLine}
use Rattle.interview_ends.specs.StepEnds.{EndedBy}
use Rattle.interview_ends.specs.Summary.{texts_in}

-- with a status with which a line comes whole
pub puts_line : (sink sink_now : Output) (line : List ℕ) (whole status : Status) → (PutAll sink sink_now (line_with line ∷ []) → PutBy sink sink_now (line_with line ∷ []) whole)
    → PutAtEnd sink sink_now (line_with line) whole status → PutsOneLine sink sink_now status
puts_line sink sink_now line whole status by (inl (is, all)) = inr (line, subst (PutBy sink sink_now (line_with line ∷ [])) (sym is) (by all))
puts_line sink sink_now line whole status by (inr (is, part)) = inr (line, subst (PutBy sink sink_now (line_with line ∷ [])) (sym is) part)

-- the bytes of lines
pub ended_by : (sink sink_now : Output) (lines : List (List ℕ)) (whole status : Status) → PutLinesAtEnd sink sink_now lines whole status → EndedBy sink sink_now (joined lines) whole status
ended_by sink sink_now lines whole status (inl (is, wrote)) = inl (is, wrote.bytes)
ended_by sink sink_now lines whole status (inr (is, part)) = inr (is, omega (arith, part.puts.counted.0), part.bytes)

-- ---- texts that are the pieces of lines

pub no_text : (rest : List (List ℕ)) → [] ≡ pieces_of rest → rest ≡ []
no_text [] is = refl
no_text (line ∷ rest) is = absurd cc

-- the first of them, and the others
pieces_of-cons : (rest : List (List ℕ)) (text : List ℕ) (texts : List (List ℕ)) → text ∷ texts ≡ pieces_of rest
    → (line : List ℕ) × ((lines : List (List ℕ)) × ((rest ≡ line ∷ lines) × (text ≡ line_with line) × (texts ≡ pieces_of lines)))
pieces_of-cons [] text texts is = absurd cc
pieces_of-cons (line ∷ lines) text texts is = (line, (lines, (refl, cc, cc)))

pub next_text : (items : List (Vec ℕ Global)) (i : ℕ) (item : Vec ℕ Global) (rest : List (List ℕ)) → i < length items → item ≡ get_or items i item → texts_in (drop i items) ≡ pieces_of rest
    → (line : List ℕ) × (lines : List (List ℕ)) × (rest ≡ line ∷ lines) × (item.items ≡ line_with line) × (texts_in (drop (i + 1) items) ≡ pieces_of lines)
next_text items i item rest low is same =
    let split = drop_more items i item low ∙ ap (λ (v : Vec ℕ Global). v ∷ drop (i + 1) items) (sym is) in
    let parts = pieces_of-cons rest item.items (texts_in (drop (i + 1) items)) (sym (ap texts_in split) ∙ same) in
    (parts.0, parts.1.0, parts.1.1.0, parts.1.1.1, parts.1.1.2)
