use Rattle.saved_text.proofs.Common.{refl, sym}
use Rattle.saved_text.proofs.CarriedLines.{bad_path, entry_read, no_value}
use Rattle.saved_text.proofs.carried_line.read_entry_line.Goals as goal

pub returns-in_default : goal.returns-in_default
returns-in_default c = no_value c.args.side c.args.text.now (sym c.in_default.ensures)

pub returns-in-Err : goal.returns-in-Err
returns-in-Err c = bad_path c.args.side c.args.text.now c.in-Some.path.now c.in-Some.value.now (sym c.in-Some.ensures) c.in-Err.fault c.in-Err.ensures

pub returns-in-Ok-copy_text : goal.returns-in-Ok-copy_text
returns-in-Ok-copy_text c =
    entry_read c.args.side c.args.text.now c.in-Some.path.now c.in-Some.value.now (sym c.in-Some.ensures) c.requires c.in-Ok.path c.in-Ok.ensures c.in-Ok-copy_text.ensures.utf8
    (record { side = c.args.side; path = c.in-Ok.path; text = c.in-Ok-copy_text.text }) refl refl c.in-Ok-copy_text.ensures.copied
