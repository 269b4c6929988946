-- What reading a line gives, part by part.
use Rattle.std.specs.Prelude.{◌≡◌, ℕ, ◌==◌, List, [], ◌∷◌, codes, Option, Some, None, option_map, Result, Ok, Err, if◌then◌else◌}
use Rattle.std.specs.Str.{bytes_eq, is_utf8}
use Rattle.fact_paths.specs.Cuts.{cut, after, at_slash}
use Rattle.fact_paths.specs.Parsing.{◌>>=◌, member_number_of, name_of, slot_path_from}
use Rattle.fact_paths.specs.declared.slot_path.SlotPath.{SlotPath}
use Rattle.script_lines.specs.Commands.{without_return, IsSilent, SpellsCommand, IsBadLine}
use Rattle.script_lines.specs.declared.fault.LineFault.{LineFault}
use Rattle.script_lines.specs.declared.fault.LineFault.TheVariants.{BadLine, NoMemory}
use Rattle.script_lines.specs.declared.verb.Verb.{Verb}
use Rattle.script_lines.specs.declared.verb.Verb.TheVariants as verbs
use Rattle.script_lines.specs.declared.command.Command.{Command}
use Rattle.script_lines.specs.declared.command.Command.TheVariants as commands

-- the answer is what reading gives, and BadLine where it gives nothing; want of memory says nothing
abbrev pub Gives : {P : Type 0} → Option P → Result P LineFault → Type 0
Gives read (Ok found) = read ≡ Some found
Gives read (Err BadLine) = read ≡ None
Gives read (Err NoMemory) = Unit {0}

-- what stands before the first blank, and what stands behind it
abbrev pub at_blank : List ℕ → Option (List ℕ × List ℕ)
at_blank text = cut 32 text

-- ---- the parts behind the first word

-- `SLOT`
abbrev pub slot_of : List ℕ → Option SlotPath
slot_of text = do
  rest ← after (codes "/") text
  slot_path_from rest (at_slash rest)

-- `SLOT VALUE`
abbrev pub slot_and_value_of : List ℕ → Option (SlotPath × List ℕ)
slot_and_value_of text = do
  parts ← at_blank text
  slot ← slot_of parts.0
  Some (slot, parts.1)

-- `#K`
abbrev pub member_of : List ℕ → Option ℕ
member_of text = do
  digits ← after (codes "#") text
  member_number_of digits

-- `SLOT #K`
abbrev pub slot_and_member_of : List ℕ → Option (SlotPath × ℕ)
slot_and_member_of text = do
  parts ← at_blank text
  member ← member_of parts.1
  slot ← slot_of parts.0
  Some (slot, member)

-- `NAME SLOT`
abbrev pub name_and_slot_of : List ℕ → Option (List ℕ × SlotPath)
name_and_slot_of text = do
  parts ← at_blank text
  name ← name_of parts.0
  slot ← slot_of parts.1
  Some (name, slot)

-- ---- words

-- the first word of a command that has more words
abbrev pub verb_of : List ℕ → Option Verb
verb_of word =
    if bytes_eq word (codes "set") then Some verbs.Set else (
    if bytes_eq word (codes "clear") then Some verbs.Clear else (
    if bytes_eq word (codes "open") then Some verbs.OpenList else (
    if bytes_eq word (codes "add") then Some verbs.Add else (
    if bytes_eq word (codes "remove") then Some verbs.Remove else (
    if bytes_eq word (codes "override") then Some verbs.Override else (
    if bytes_eq word (codes "release") then Some verbs.Release else (
    if bytes_eq word (codes "get") then Some verbs.Get else (
    if bytes_eq word (codes "final") then Some verbs.Final else (
    if bytes_eq word (codes "stamp") then Some verbs.Stamp else (
    if bytes_eq word (codes "missing") then Some verbs.Missing else (
    if bytes_eq word (codes "watch") then Some verbs.Watch else (
    if bytes_eq word (codes "unwatch") then Some verbs.Unwatch else None))))))))))))

-- a command of one word
abbrev pub command_alone : List ℕ → Option Command
command_alone word =
    if bytes_eq word (codes "undo") then Some commands.Undo else (
    if bytes_eq word (codes "redo") then Some commands.Redo else (
    if bytes_eq word (codes "touched") then Some commands.Touched else (
    if bytes_eq word (codes "quit") then Some commands.Quit else None)))

-- a command of more words
abbrev pub command_with : Verb → List ℕ → Option Command
command_with verbs.Set rest = option_map (λ p. commands.Set p.0 p.1) (slot_and_value_of rest)
command_with verbs.Clear rest = option_map commands.Clear (slot_of rest)
command_with verbs.OpenList rest = option_map commands.OpenList (slot_of rest)
command_with verbs.Add rest = option_map commands.Add (slot_of rest)
command_with verbs.Remove rest = option_map (λ p. commands.Remove p.0 p.1) (slot_and_member_of rest)
command_with verbs.Override rest = option_map (λ p. commands.Override p.0 p.1) (slot_and_value_of rest)
command_with verbs.Release rest = option_map commands.Release (slot_of rest)
command_with verbs.Get rest = option_map commands.Get (slot_of rest)
command_with verbs.Final rest = option_map commands.Final (slot_of rest)
command_with verbs.Stamp rest = option_map commands.Stamp (slot_of rest)
command_with verbs.Missing rest = option_map commands.Missing (slot_of rest)
command_with verbs.Watch rest = option_map (λ p. commands.Watch p.0 p.1) (name_and_slot_of rest)
command_with verbs.Unwatch rest = option_map (λ p. commands.Unwatch p.0 p.1) (name_and_slot_of rest)

abbrev pub command_of_verb : Option Verb → List ℕ → Option Command
command_of_verb None rest = None
command_of_verb (Some verb) rest = command_with verb rest

-- a text of one word, or of a first word and what stands behind the blank
abbrev pub command_of_cut : List ℕ → Option (List ℕ × List ℕ) → Option Command
command_of_cut text None = command_alone text
command_of_cut text (Some parts) = command_of_verb (verb_of parts.0) parts.1

abbrev pub command_of_text : List ℕ → Option Command
command_of_text text = command_of_cut text (at_blank text)

-- ---- lines

-- what a line says
pub data Heard : Type 0 where
  nothing : Heard
  bad_line : Heard
  command : Command → Heard

abbrev pub heard_of : Option Command → Heard
heard_of None = bad_line
heard_of (Some c) = command c

-- an empty text and one that begins with `#` say nothing, whatever follows; others are UTF-8
abbrev pub heard : List ℕ → Heard
heard [] = nothing
heard (b ∷ bytes) = if b == 35 then nothing else (if is_utf8 (b ∷ bytes) then heard_of (command_of_text (b ∷ bytes)) else bad_line)

-- what a line of a script says
abbrev pub heard_in : List ℕ → Heard
heard_in line = heard (without_return line)

-- what the line says is right for what it spells
abbrev pub SaysExactly : List ℕ → Heard → Type 0
SaysExactly line nothing = IsSilent line
SaysExactly line bad_line = IsBadLine line
SaysExactly line (command c) = SpellsCommand line c

-- the answer is what the line says; want of memory says nothing
abbrev pub GivesHeard : Heard → Result (Option Command) LineFault → Type 0
GivesHeard said (Ok None) = said ≡ nothing
GivesHeard said (Ok (Some c)) = said ≡ command c
GivesHeard said (Err BadLine) = said ≡ bad_line
GivesHeard said (Err NoMemory) = Unit {0}
