use Rattle.saved_text.proofs.Common.{Answer, Override, [], accepted, answered, end_line, entries, lists_lines as lists, next_line, opening_line, saved_lines, ◌++◌, ◌∷◌}
use Rattle.saved_text.proofs.LinesLeft.{all_left, failed_as, wrote_last, wrote_next}
use Rattle.saved_text.proofs.saving.put_saved.Goals as goal

pub returns-in_err-put_line : goal.returns-in_err-put_line
returns-in_err-put_line g c =
    let d = (accepted c.args.dict.now).tree in
    let a = answered c.args.answers.now in
    let overrides = entries Override d a ++ end_line ∷ [] in
    let values = entries Answer d a ++ overrides in
    let behind = lists d a ++ values in
    let opening = all_left (g.K.Sink.output c.args.out.now) (saved_lines d a) in
    failed_as _ _ _ (saved_lines d a) (opening_line ∷ []) (next_line a.next ∷ behind) _ c.from_residual.result _ c.from_residual.ensures.1 opening c.in_err-put_line.ensures

pub returns-in_err-put_next : goal.returns-in_err-put_next
returns-in_err-put_next g c =
    let d = (accepted c.args.dict.now).tree in
    let a = answered c.args.answers.now in
    let overrides = entries Override d a ++ end_line ∷ [] in
    let values = entries Answer d a ++ overrides in
    let behind = lists d a ++ values in
    let opening = all_left (g.K.Sink.output c.args.out.now) (saved_lines d a) in
    let next = wrote_next _ _ _ (saved_lines d a) (opening_line ∷ []) (next_line a.next ∷ behind) _ opening c.in_ok-put_line.ensures in
    failed_as _ _ _ (saved_lines d a) (next_line a.next ∷ []) behind _ c.from_residual-in_err-put_next.result _ c.from_residual-in_err-put_next.ensures.1 next (rw c.next_number.ensures.number at c.in_err-put_next.ensures)

pub returns-in_err-put_lists : goal.returns-in_err-put_lists
returns-in_err-put_lists g c =
    let d = (accepted c.args.dict.now).tree in
    let a = answered c.args.answers.now in
    let overrides = entries Override d a ++ end_line ∷ [] in
    let values = entries Answer d a ++ overrides in
    let behind = lists d a ++ values in
    let opening = all_left (g.K.Sink.output c.args.out.now) (saved_lines d a) in
    let next = wrote_next _ _ _ (saved_lines d a) (opening_line ∷ []) (next_line a.next ∷ behind) _ opening c.in_ok-put_line.ensures in
    let first = wrote_next _ _ _ (saved_lines d a) (next_line a.next ∷ []) behind _ next (rw c.next_number.ensures.number at c.in_ok-put_next.ensures) in
    failed_as _ _ _ (saved_lines d a) (lists d a) values _ c.from_residual-in_err-put_lists.result _ c.from_residual-in_err-put_lists.ensures.1 first c.in_err-put_lists.ensures

pub returns-in_err-put_entries : goal.returns-in_err-put_entries
returns-in_err-put_entries g c =
    let d = (accepted c.args.dict.now).tree in
    let a = answered c.args.answers.now in
    let overrides = entries Override d a ++ end_line ∷ [] in
    let values = entries Answer d a ++ overrides in
    let behind = lists d a ++ values in
    let opening = all_left (g.K.Sink.output c.args.out.now) (saved_lines d a) in
    let next = wrote_next _ _ _ (saved_lines d a) (opening_line ∷ []) (next_line a.next ∷ behind) _ opening c.in_ok-put_line.ensures in
    let first = wrote_next _ _ _ (saved_lines d a) (next_line a.next ∷ []) behind _ next (rw c.next_number.ensures.number at c.in_ok-put_next.ensures) in
    let second = wrote_next _ _ _ (saved_lines d a) (lists d a) values _ first c.in_ok-put_lists.ensures in
    failed_as _ _ _ (saved_lines d a) (entries Answer d a) overrides _ c.from_residual-in_err-put_entries.result _ c.from_residual-in_err-put_entries.ensures.1 second c.in_err-put_entries.ensures

pub returns-in_err-put_entries-2 : goal.returns-in_err-put_entries-2
returns-in_err-put_entries-2 g c =
    let d = (accepted c.args.dict.now).tree in
    let a = answered c.args.answers.now in
    let overrides = entries Override d a ++ end_line ∷ [] in
    let values = entries Answer d a ++ overrides in
    let behind = lists d a ++ values in
    let opening = all_left (g.K.Sink.output c.args.out.now) (saved_lines d a) in
    let next = wrote_next _ _ _ (saved_lines d a) (opening_line ∷ []) (next_line a.next ∷ behind) _ opening c.in_ok-put_line.ensures in
    let first = wrote_next _ _ _ (saved_lines d a) (next_line a.next ∷ []) behind _ next (rw c.next_number.ensures.number at c.in_ok-put_next.ensures) in
    let second = wrote_next _ _ _ (saved_lines d a) (lists d a) values _ first c.in_ok-put_lists.ensures in
    let third = wrote_next _ _ _ (saved_lines d a) (entries Answer d a) overrides _ second c.in_ok-put_entries.ensures in
    failed_as _ _ _ (saved_lines d a) (entries Override d a) (end_line ∷ []) _ c.from_residual-in_err-put_entries-2.result _ c.from_residual-in_err-put_entries-2.ensures.1 third c.in_err-put_entries-2.ensures

pub returns : goal.returns
returns g c =
    let d = (accepted c.args.dict.now).tree in
    let a = answered c.args.answers.now in
    let overrides = entries Override d a ++ end_line ∷ [] in
    let values = entries Answer d a ++ overrides in
    let behind = lists d a ++ values in
    let opening = all_left (g.K.Sink.output c.args.out.now) (saved_lines d a) in
    let next = wrote_next _ _ _ (saved_lines d a) (opening_line ∷ []) (next_line a.next ∷ behind) _ opening c.in_ok-put_line.ensures in
    let first = wrote_next _ _ _ (saved_lines d a) (next_line a.next ∷ []) behind _ next (rw c.next_number.ensures.number at c.in_ok-put_next.ensures) in
    let second = wrote_next _ _ _ (saved_lines d a) (lists d a) values _ first c.in_ok-put_lists.ensures in
    let third = wrote_next _ _ _ (saved_lines d a) (entries Answer d a) overrides _ second c.in_ok-put_entries.ensures in
    let last = wrote_next _ _ _ (saved_lines d a) (entries Override d a) (end_line ∷ []) _ third c.in_ok-put_entries-2.ensures in
    wrote_last _ _ _ (saved_lines d a) (end_line ∷ []) c.put_line-2.result last c.put_line-2.ensures
