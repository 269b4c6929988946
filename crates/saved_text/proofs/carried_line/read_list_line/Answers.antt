use Rattle.saved_text.proofs.Common.{List, ReadsLine, ap, append-nil, codes, cut_some, front_lacks, printed_rest, subst, sym, uncut_lacks, ℕ, ◌++◌, ◌∙◌}
use Rattle.saved_text.proofs.CarriedLines.{bad_members}
use Rattle.saved_text.proofs.carried_line.read_list_line.Goals as goal

pub with_members-requires-clause-name : goal.with_members-requires-clause-name
with_members-requires-clause-name c = uncut_lacks 32 c.args.text.now (sym c.in-None.ensures)

pub with_members-requires-in-Ok-clause-name : goal.with_members-requires-in-Ok-clause-name
with_members-requires-in-Ok-clause-name c = front_lacks 32 c.args.text.now c.in-Some.name.now c.in-Some.behind.now (sym c.in-Some.ensures)

pub returns-in-None : goal.returns-in-None
returns-in-None c =
    subst (λ (t : List ℕ). ReadsLine (codes "list /" ++ t) c.with_members.result)
    (ap (λ (ms : List ℕ). c.args.text.now ++ printed_rest ms) c.new.ensures.items ∙ append-nil c.args.text.now) c.with_members.ensures

pub returns-in-Err : goal.returns-in-Err
returns-in-Err c = bad_members c.args.text.now c.in-Some.name.now c.in-Some.behind.now (sym c.in-Some.ensures) c.in-Err.fault c.in-Err.ensures

pub returns-in-Ok : goal.returns-in-Ok
returns-in-Ok c =
    subst (λ (t : List ℕ). ReadsLine (codes "list /" ++ t) c.with_members-in-Ok.result)
    (ap (λ (t : List ℕ). c.in-Some.name.now ++ t) c.in-Ok.ensures.0 ∙ sym (cut_some 32 c.args.text.now c.in-Some.name.now c.in-Some.behind.now (sym c.in-Some.ensures))) c.with_members-in-Ok.ensures
