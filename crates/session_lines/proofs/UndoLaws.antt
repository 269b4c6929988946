-- `undo` behind a change.
use Rattle.std.proofs.Common.{refl}
use Rattle.script_lines.specs.declared.command.Command.TheVariants.{Set, Clear, OpenList, Add, Remove, Override, Release}
use Rattle.session_lines.specs.Laws.{UndoRestores}

pub undo_restores : UndoRestores
undo_restores r s (Set path text) makes none = rw none (refl, refl, refl)
undo_restores r s (Clear path) makes none = rw none (refl, refl, refl)
undo_restores r s (OpenList path) makes none = rw none (refl, refl, refl)
undo_restores r s (Add path) makes none = rw none (refl, refl, refl)
undo_restores r s (Remove path member) makes none = rw none (refl, refl, refl)
undo_restores r s (Override path text) makes none = rw none (refl, refl, refl)
undo_restores r s (Release path) makes none = rw none (refl, refl, refl)
undo_restores r s asked makes none = absurd (cc)
