-- The lines of several parties: which party a line is of, and what it says.
use Rattle.std.specs.Prelude.{◌≡◌, ◌≢◌, ℕ, ◌<◌, ◌≤◌, ◌==◌, All, Bool, true, false, nat_le, List, [], ◌∷◌, ◌++◌, codes, length, slice_index, take, Option, Some, None, if◌then◌else◌}
use Rattle.fact_paths.specs.Cuts.{after}
use Rattle.fact_paths.specs.Parsing.{◌>>=◌, member_number_of}
use Rattle.script_lines.specs.Commands.{IsSilent, without_return}
use Rattle.script_lines.specs.Parsing.{Heard, nothing, bad_line, command, at_blank, heard}
use Rattle.script_lines.specs.declared.command.Command.{Command}
use Rattle.script_lines.specs.declared.command.Command.TheVariants as commands
use Rattle.session_lines.specs.Marks.{party_mark}
use Rattle.desk_lines.specs.declared.party_line.PartyLine.{PartyLine}
use Rattle.desk_lines.specs.declared.party_line.PartyLine.TheVariants.{Silent, NoParty, NoCommand, Asks}

-- ---- marks

abbrev pub IsParty : ℕ → Type 0
IsParty p = (1 ≤ p) × (p ≤ 16)

-- the party that these digits spell: the first of them isn't 0
abbrev pub party_number_of : List ℕ → Option ℕ
party_number_of digits = do
  p ← member_number_of digits
  if nat_le p 16 then Some p else None

-- the first blank is here
pub record IsBlankAt (text : List ℕ) (at : ℕ) : Type 0 where
  pub within : at < length text
  pub here : slice_index text at ≡ 32
  pub first : All (λ b. b ≢ 32) (take at text)

-- the party whose mark a text begins with, and what stands behind the mark
abbrev pub party_of : List ℕ → Option (ℕ × List ℕ)
party_of text = do
  behind ← after (codes "@") text
  parts ← at_blank behind
  p ← party_number_of parts.0
  Some (p, parts.1)

-- ---- what a line says

abbrev pub is_watching : Command → Bool
is_watching (commands.Watch name path) = true
is_watching (commands.Unwatch name path) = true
is_watching _ = false

-- a desk has no watches
abbrev pub said_by : ℕ → Heard → PartyLine
said_by p nothing = NoCommand p
said_by p bad_line = NoCommand p
said_by p (command asked) = if is_watching asked then NoCommand p else Asks p asked

-- what stands behind the mark has to be a command: no text, and a text that begins with `#`, are none
abbrev pub said_behind : Option (ℕ × List ℕ) → PartyLine
said_behind None = NoParty
said_behind (Some part) = said_by part.0 (heard part.1)

-- an empty text has no reply, nor has one that begins with `#`, whatever follows
abbrev pub is_silent : List ℕ → Bool
is_silent [] = true
is_silent (b ∷ bytes) = b == 35

abbrev pub party_said : List ℕ → PartyLine
party_said text = if is_silent text then Silent else said_behind (party_of text)

-- what a line of a script says: one final byte 13 is dropped before the party is read
abbrev pub party_said_in : List ℕ → PartyLine
party_said_in line = party_said (without_return line)

-- ---- the same by what a line spells

-- Each line is one of these: it has no reply; it begins with no party's mark; or it is a party's mark and a rest, which says what
-- it says as a line of its own, where nothing more is dropped of it.
pub record SaysByMark : Type 0 where
  pub silent : (line : List ℕ) → IsSilent line → party_said_in line ≡ Silent
  pub unmarked : (line : List ℕ) → ¬ IsSilent line → ((p : ℕ) (rest : List ℕ) → IsParty p → ¬ (without_return line ≡ party_mark p ++ rest)) → party_said_in line ≡ NoParty
  pub marked : (line : List ℕ) (p : ℕ) (rest : List ℕ) → IsParty p → without_return line ≡ party_mark p ++ rest → party_said_in line ≡ said_by p (heard rest)
