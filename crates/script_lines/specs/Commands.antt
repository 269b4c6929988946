-- The commands of a script: which line spells which.
use Rattle.std.specs.Prelude.{◌≡◌, ℕ, ◌-◌, ◌==◌, List, [], ◌∷◌, ◌++◌, length, take, slice_index, codes, decimal, Option, Some, None, Result, Ok, Err, if◌then◌else◌}
use Rattle.std.specs.Str.{IsUtf8}
use Rattle.fact_paths.specs.Names.{IsName}
use Rattle.fact_paths.specs.Paths.{IsMemberNumber, IsSlotPath, slot_path_text}
use Rattle.script_lines.specs.declared.fault.LineFault.{LineFault}
use Rattle.script_lines.specs.declared.fault.LineFault.TheVariants.{BadLine, NoMemory}
use Rattle.script_lines.specs.declared.command.Command.{Command}
use Rattle.script_lines.specs.declared.command.Command.TheVariants.{Set, Clear, OpenList, Add, Remove, Override, Release, Undo, Redo, Get, Final, Stamp, Touched, Missing, Watch, Unwatch, Quit}

-- ---- the forms

-- each command's text: words parted by one blank, and a value is all behind the second
abbrev pub command_text : Command → List ℕ
command_text (Set slot value) = codes "set " ++ (slot_path_text slot ++ (codes " " ++ value))
command_text (Clear slot) = codes "clear " ++ slot_path_text slot
command_text (OpenList slot) = codes "open " ++ slot_path_text slot
command_text (Add slot) = codes "add " ++ slot_path_text slot
command_text (Remove slot member) = codes "remove " ++ (slot_path_text slot ++ (codes " #" ++ decimal member))
command_text (Override slot value) = codes "override " ++ (slot_path_text slot ++ (codes " " ++ value))
command_text (Release slot) = codes "release " ++ slot_path_text slot
command_text Undo = codes "undo"
command_text Redo = codes "redo"
command_text (Get slot) = codes "get " ++ slot_path_text slot
command_text (Final slot) = codes "final " ++ slot_path_text slot
command_text (Stamp slot) = codes "stamp " ++ slot_path_text slot
command_text Touched = codes "touched"
command_text (Missing slot) = codes "missing " ++ slot_path_text slot
command_text (Watch name slot) = codes "watch " ++ (name ++ (codes " " ++ slot_path_text slot))
command_text (Unwatch name slot) = codes "unwatch " ++ (name ++ (codes " " ++ slot_path_text slot))
command_text Quit = codes "quit"

-- its parts are a slot's path, a member's number, a name; a value is any text
abbrev pub IsCommand : Command → Type 0
IsCommand (Set slot value) = IsSlotPath slot
IsCommand (Clear slot) = IsSlotPath slot
IsCommand (OpenList slot) = IsSlotPath slot
IsCommand (Add slot) = IsSlotPath slot
IsCommand (Remove slot member) = IsSlotPath slot × IsMemberNumber member
IsCommand (Override slot value) = IsSlotPath slot
IsCommand (Release slot) = IsSlotPath slot
IsCommand Undo = Unit {0}
IsCommand Redo = Unit {0}
IsCommand (Get slot) = IsSlotPath slot
IsCommand (Final slot) = IsSlotPath slot
IsCommand (Stamp slot) = IsSlotPath slot
IsCommand Touched = Unit {0}
IsCommand (Missing slot) = IsSlotPath slot
IsCommand (Watch name slot) = IsName name × IsSlotPath slot
IsCommand (Unwatch name slot) = IsName name × IsSlotPath slot
IsCommand Quit = Unit {0}

-- ---- lines

-- a line without its final byte 13, of which one is dropped
abbrev pub without_return : List ℕ → List ℕ
without_return line = if slice_index line (length line - 1) == 13 then take (length line - 1) line else line

-- an empty text has no reply, nor has one that begins with `#`, whatever follows
abbrev pub IsSilentText : List ℕ → Type 0
IsSilentText [] = Unit {0}
IsSilentText (b ∷ bytes) = b ≡ 35

-- the line has no reply
abbrev pub IsSilent : List ℕ → Type 0
IsSilent line = IsSilentText (without_return line)

-- the line spells the command: it is UTF-8, and it is the command's text
pub record SpellsCommand (line : List ℕ) (command : Command) : Type 0 where
  pub utf8 : IsUtf8 (without_return line)
  pub parts : IsCommand command
  pub text : without_return line ≡ command_text command

-- the line has no form at all
pub record IsBadLine (line : List ℕ) : Type 0 where
  pub reply : ¬ IsSilent line
  pub form : (command : Command) → ¬ (SpellsCommand line command)

-- what a line is read as; want of memory says nothing
abbrev pub ReadsLine : List ℕ → Result (Option Command) LineFault → Type 0
ReadsLine line (Ok None) = IsSilent line
ReadsLine line (Ok (Some command)) = SpellsCommand line command
ReadsLine line (Err BadLine) = IsBadLine line
ReadsLine line (Err NoMemory) = Unit {0}
