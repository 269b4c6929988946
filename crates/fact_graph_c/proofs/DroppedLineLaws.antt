-- What is said of the lines that are dropped, piece by piece.
use Rattle.std.proofs.Common.{List, Option, [], ap, append_assoc, drop, get_or, length, map, subst, sym, ℕ, ◌++◌, ◌+◌, ◌<◌, ◌∙◌, ◌∷◌, ◌≡◌}
use Rattle.std.proofs.lemmas.List.{drop_more}
use Rattle.std.specs.Prelude.{codes, string_bytes}
use Rattle.fg_io.specs.Outside.{Output}
use Rattle.fg_io.specs.Sent.{Sent}
use Rattle.saved_text.proofs.Pieces.{IsLeft, all_left}
use Rattle.save_file.specs.Resuming.{dropped_line}
use Rattle.save_file.specs.declared.reason.Dropped.{Dropped}
use Rattle.fact_graph_c.specs.DroppedLines.{reason_text, dropped_line_text, dropped_lines_text}

-- a line in pieces
pub line_left : (d : Dropped) (key : List ℕ) → key ≡ string_bytes d.key → (a : Output) → IsLeft a a (dropped_line_text (dropped_line d) ++ 10 ∷ []) (codes "dropped " ∷ key ∷ (reason_text d.reason ++ 10 ∷ []) ∷ [])
line_left d key same a = all_left a (dropped_line_text (dropped_line d) ++ 10 ∷ []) _ (pieces (codes "dropped ") key (reason_text d.reason) ∙ ap (λ (k : List ℕ). (codes "dropped " ++ (k ++ reason_text d.reason)) ++ 10 ∷ []) same)
  where
    pieces : (front word reason : List ℕ) → front ++ (word ++ ((reason ++ 10 ∷ []) ++ [])) ≡ (front ++ (word ++ reason)) ++ 10 ∷ []
    pieces front word reason = simp append_assoc

-- the next line, and those behind it
pub next_dropped : (a b : Option (List ℕ)) (text : List ℕ) (items : List Dropped) (i : ℕ) (item : Dropped) → i < length items → item ≡ get_or items i item
    → Sent a b text (dropped_lines_text (map dropped_line (drop i items))) → Sent a b text ((dropped_line_text (dropped_line item) ++ 10 ∷ []) ++ dropped_lines_text (map dropped_line (drop (i + 1) items)))
next_dropped a b text items i item low is sent = subst (Sent a b text) (ap (λ (ds : List Dropped). dropped_lines_text (map dropped_line ds)) split ∙ sym (append_assoc (dropped_line_text (dropped_line item)) (10 ∷ []) (dropped_lines_text (map dropped_line (drop (i + 1) items))))) sent
  where
    split : drop i items ≡ item ∷ drop (i + 1) items
    split = drop_more items i item low ∙ ap (λ (d : Dropped). d ∷ drop (i + 1) items) (sym is)
