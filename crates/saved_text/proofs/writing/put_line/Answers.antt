use Rattle.saved_text.proofs.Common.{List, [], ap, ℕ, ◌++◌, ◌∙◌, ◌∷◌}
use Rattle.saved_text.proofs.LinesLeft.{wrote_line}
use Rattle.saved_text.proofs.writing.put_line.Goals as goal

pub returns : goal.returns
returns g c =
    let front = rw c.unwrap.ensures at c.try_extend_from_slice.ensures.ok in
    let both = rw c.unwrap-2.ensures at c.try_extend_from_slice-2.ensures.ok in
    let whole = rw c.unwrap-3.ensures at c.try_extend_from_slice-3.ensures.ok in
    wrote_line _ _ _ (c.args.front.now ++ c.args.back.now) c.put_piece.result
    (c.as_slice.ensures.value
    ∙ whole
    ∙ ap (λ (t : List ℕ). t ++ 10 ∷ []) (both ∙ ap (λ (t : List ℕ). t ++ c.args.back.now) (front ∙ ap (λ (t : List ℕ). t ++ c.args.front.now) c.new-line.ensures)))
    c.put_piece.ensures.written c.put_piece.ensures.puts
