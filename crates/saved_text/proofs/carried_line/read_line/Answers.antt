use Rattle.saved_text.proofs.Common.{List, ReadsLine, after_some, codes, subst, sym, ℕ}
use Rattle.saved_text.proofs.Lines.{not_behind}
use Rattle.saved_text.proofs.carried_line.read_line.Goals as goal

pub returns-in-Some : goal.returns-in-Some
returns-in-Some c = subst (λ (t : List ℕ). ReadsLine t c.read_list_line.result) (sym (after_some (codes "list /") c.args.line.now c.in-Some.text.now (sym c.in-Some.ensures))) c.read_list_line.ensures

pub read_entry-requires-clause-no_list : goal.read_entry-requires-clause-no_list
read_entry-requires-clause-no_list c = not_behind (codes "list /") c.args.line.now (sym c.in-None.ensures)
