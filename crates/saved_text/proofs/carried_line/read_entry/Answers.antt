use Rattle.saved_text.proofs.Common.{HasNoNewline, List, ReadsLine, after_some, codes, subst, sym, ℕ}
use Rattle.saved_text.proofs.CarriedLines.{none_there}
use Rattle.saved_text.proofs.carried_line.read_entry.Goals as goal

pub read_entry_line-requires : goal.read_entry_line-requires
read_entry_line-requires c = none_there (codes "value ") c.in-Some.text.now (subst HasNoNewline (after_some (codes "value ") c.args.line.now c.in-Some.text.now (sym c.in-Some.ensures)) c.requires.line)

pub returns-in-Some : goal.returns-in-Some
returns-in-Some c = subst (λ (t : List ℕ). ReadsLine t c.read_entry_line.result) (sym (after_some (codes "value ") c.args.line.now c.in-Some.text.now (sym c.in-Some.ensures))) c.read_entry_line.ensures

pub read_entry_line-requires-in-Some-behind : goal.read_entry_line-requires-in-Some-behind
read_entry_line-requires-in-Some-behind c = none_there (codes "override ") c.in-Some-behind.text.now (subst HasNoNewline (after_some (codes "override ") c.args.line.now c.in-Some-behind.text.now (sym c.in-Some-behind.ensures)) c.requires.line)
