-- What stands before each line of a reply: nothing in a session, and at a desk the mark of the party that it is told to.
use Rattle.std.specs.Prelude.{ℕ, List, [], ◌++◌, codes, decimal, map}
use Rattle.session_lines.specs.declared.mark.PartyMark.{PartyMark}
use Rattle.session_lines.specs.declared.mark.PartyMark.TheVariants.{Unmarked, Party}

-- `@P `: it stands before each line of a party too
abbrev pub party_mark : ℕ → List ℕ
party_mark p = codes "@" ++ (decimal p ++ codes " ")

abbrev pub mark_text : PartyMark → List ℕ
mark_text Unmarked = []
mark_text (Party p) = party_mark p

abbrev pub marked : PartyMark → List ℕ → List ℕ
marked mark line = mark_text mark ++ line

abbrev pub marked_lines : PartyMark → List (List ℕ) → List (List ℕ)
marked_lines mark lines = map (marked mark) lines
