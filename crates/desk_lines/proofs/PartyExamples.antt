-- Worked examples: what is said in lines of several parties.
use Rattle.std.proofs.Common.{◌≡◌, [], ◌∷◌, ◌++◌, map, refl}
use Rattle.std.specs.Prelude.{codes}
use Rattle.std.specs.Fmt.{digits}
use Rattle.std.specs.Str.{is_utf8, chars}
use lib.Utf8.{encode}
use Rattle.fact_paths.specs.declared.slot_path.SlotPath.{SlotPath}
use Rattle.fact_paths.specs.declared.slot_path.SlotPath.TheVariants.{Global}
use Rattle.script_lines.specs.declared.command.Command.TheVariants.{Get, Quit, Set, Undo}
use Rattle.session_lines.specs.Marks.{party_mark}
use Rattle.desk_lines.specs.PartyLines.{party_said_in}
use Rattle.desk_lines.specs.declared.party_line.PartyLine.TheVariants.{Silent, NoParty, NoCommand, Asks}

abbrev a : SlotPath
a = Global (codes "a")

marks : map party_mark (1 ∷ 16 ∷ []) ≡ codes "@1 " ∷ codes "@16 " ∷ []
unfolding digits
marks = refl

-- no reply: an empty line, one with a byte 13 alone, and notes
silent_lines : map party_said_in ([] ∷ (13 ∷ []) ∷ codes "# @1 undo" ∷ (35 ∷ 255 ∷ []) ∷ []) ≡ Silent ∷ Silent ∷ Silent ∷ Silent ∷ []
silent_lines = refl

-- no mark of a party, whatever follows
unmarked_lines : map party_said_in (codes "undo" ∷ codes "@1" ∷ (codes "@1" ++ 13 ∷ []) ∷ codes "@0 undo" ∷ codes "@17 get /a" ∷ codes "@01 undo" ∷ codes " @1 undo" ∷ (64 ∷ 255 ∷ 32 ∷ []) ∷ [])
    ≡ NoParty ∷ NoParty ∷ NoParty ∷ NoParty ∷ NoParty ∷ NoParty ∷ NoParty ∷ NoParty ∷ []
unmarked_lines = refl

-- a mark, and no command that a desk knows
no_commands : map party_said_in (codes "@2 " ∷ (codes "@2 " ++ 13 ∷ []) ∷ codes "@2 # note" ∷ (codes "@2 undo" ++ 13 ∷ 13 ∷ []) ∷ codes "@2  undo" ∷ (codes "@2 get /a" ++ 255 ∷ []) ∷ codes "@2 watch changed /a" ∷ codes "@2 unwatch changed /a" ∷ [])
    ≡ NoCommand 2 ∷ NoCommand 2 ∷ NoCommand 2 ∷ NoCommand 2 ∷ NoCommand 2 ∷ NoCommand 2 ∷ NoCommand 2 ∷ NoCommand 2 ∷ []
unfolding is_utf8 chars encode
no_commands = refl

commands : map party_said_in (codes "@16 get /a" ∷ (codes "@1 undo" ++ 13 ∷ []) ∷ codes "@3 set /a @4 undo" ∷ codes "@9 quit" ∷ [])
    ≡ Asks 16 (Get a) ∷ Asks 1 Undo ∷ Asks 3 (Set a (codes "@4 undo")) ∷ Asks 9 Quit ∷ []
unfolding is_utf8 chars encode
commands = refl
