-- Worked examples: the texts of commands, and what is heard in lines.
use Rattle.std.proofs.Common.{◌≡◌, [], ◌∷◌, ◌++◌, map, refl}
use Rattle.std.specs.Prelude.{codes}
use Rattle.std.specs.Fmt.{digits}
use Rattle.std.specs.Str.{is_utf8, chars}
use lib.Utf8.{encode}
use Rattle.fact_paths.specs.declared.slot_path.SlotPath.{SlotPath}
use Rattle.fact_paths.specs.declared.slot_path.SlotPath.TheVariants.{Global, Member}
use Rattle.script_lines.specs.Commands.{command_text}
use Rattle.script_lines.specs.Parsing.{nothing, bad_line, command, heard_in}
use Rattle.script_lines.specs.declared.command.Command.TheVariants.{Set, Remove, Final, Watch, Quit}

abbrev a : SlotPath
a = Global (codes "a")

forms : map command_text (Set a (codes " x") ∷ Remove (Global (codes "c")) 20 ∷ Watch (codes "completed") (Member (codes "c") 1 (codes "s")) ∷ [])
    ≡ codes "set /a  x" ∷ codes "remove /c #20" ∷ codes "watch completed /c/#1/s" ∷ []
unfolding digits
forms = refl

-- no reply: an empty line, one with a byte 13 alone, and notes
silent_lines : map heard_in ([] ∷ (13 ∷ []) ∷ codes "# note" ∷ (35 ∷ 255 ∷ []) ∷ []) ≡ nothing ∷ nothing ∷ nothing ∷ nothing ∷ []
silent_lines = refl

bad_lines : map heard_in ((13 ∷ 13 ∷ []) ∷ (codes "get /a" ++ 255 ∷ []) ∷ codes " # note" ∷ codes "quit " ∷ codes "undo x" ∷ codes "set /a" ∷ codes "final  /a" ∷ codes "remove /c #01" ∷ codes "watch 1x /s" ∷ [])
    ≡ bad_line ∷ bad_line ∷ bad_line ∷ bad_line ∷ bad_line ∷ bad_line ∷ bad_line ∷ bad_line ∷ bad_line ∷ []
unfolding is_utf8 chars encode
bad_lines = refl

commands : map heard_in ((codes "quit" ++ 13 ∷ []) ∷ codes "set /a  x" ∷ codes "set /a " ∷ codes "final /c/#3/k" ∷ codes "remove /c #1" ∷ [])
    ≡ command Quit ∷ command (Set a (codes " x")) ∷ command (Set a []) ∷ command (Final (Member (codes "c") 3 (codes "k"))) ∷ command (Remove (Global (codes "c")) 1) ∷ []
unfolding is_utf8 chars encode
commands = refl
