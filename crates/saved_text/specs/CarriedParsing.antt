-- What the lines of a carried text are read as.
use Rattle.std.specs.Prelude.{[], ◌≡◌, ◌≢◌, ℕ, ◌≤◌, ◌&&◌, Bool, true, nat_eq, nat_le, nat_lt, bytes_eq, IsTrue, List, ◌∷◌, ◌++◌, length, map, filter, string_bytes, Result, Ok, Err, ◌⊎◌}
use Rattle.std.specs.List.{AllByRecursion, list_all, list_any}
use Rattle.fact_paths.specs.Names.{IsName}
use Rattle.fact_paths.specs.Paths.{SpellsSlotPath}
use Rattle.fact_paths.specs.declared.slot_path.SlotPath.{SlotPath}
use Rattle.answers.specs.declared.edit.Side.{Side}
use Rattle.answers.specs.declared.edit.Side.TheVariants.{Answer, Override}
use Rattle.script_lines.specs.declared.fault.LineFault.{LineFault}
use Rattle.script_lines.specs.declared.fault.LineFault.TheVariants.{BadLine, NoMemory}
use Rattle.saved_text.specs.CarriedText.{CarriedLine, CarriedText, HasItsForm, IsBelowNext, IsCarried, IsInOrder, IsShort, NamesOther, SharesNone, carried_lines, collection, entry, has_its_member, key_text, is_collection, line_text, lists_member_of, members_in, rank}
use Rattle.saved_text.specs.EntryKeys.{has}
use Rattle.saved_text.specs.Parsing.{are_below, are_others}
use Rattle.saved_text.specs.SavedText.{next_line, opening_line}
use Rattle.saved_text.specs.declared.carried_line.TextLine.{TextLine}
use Rattle.saved_text.specs.declared.carried_line.TextLine.TheVariants.{Collection as list_line, Entry as entry_line}
use Rattle.saved_text.specs.declared.carried_read.CarriedRead.{CarriedRead}
use Rattle.saved_text.specs.declared.carried_stage.CarriedStage.{CarriedStage}
use Rattle.saved_text.specs.declared.carried_stage.CarriedStage.TheVariants.{Opening, Number, Lines, Whole}
use Rattle.saved_text.specs.declared.fault.LoadFault.{LoadFault}
use Rattle.saved_text.specs.declared.fault.LoadFault.TheVariants.{BadSaved}
use Rattle.saved_text.specs.declared.fault.LoadFault.TheVariants as faults

-- ---- one line by itself

abbrev pub line_of : TextLine → CarriedLine
line_of (list_line l) = collection l.name l.members
line_of (entry_line e) = entry e.side e.path (string_bytes e.text)

abbrev pub ReadsName : List ℕ → Result (List ℕ) LineFault → Type 0
ReadsName text (Ok name) = (name ≡ text) × IsName text
ReadsName text (Err BadLine) = ¬ IsName text
ReadsName text (Err NoMemory) = Unit {0}

abbrev pub ReadsPath : List ℕ → Result SlotPath LineFault → Type 0
ReadsPath text (Ok path) = SpellsSlotPath text path
ReadsPath text (Err BadLine) = (path : SlotPath) → ¬ SpellsSlotPath text path
ReadsPath text (Err NoMemory) = Unit {0}

-- the line whose text this is
abbrev pub ReadsLine : List ℕ → Result TextLine LineFault → Type 0
ReadsLine text (Ok l) = HasItsForm (line_of l) × (line_text (line_of l) ≡ text)
ReadsLine text (Err BadLine) = (line : CarriedLine) → HasItsForm line → line_text line ≢ text
ReadsLine text (Err NoMemory) = Unit {0}

-- ---- a line behind others

-- with the line behind them, the lines keep what they keep
pub record MayFollow (next : ℕ) (lines : List CarriedLine) (line : CarriedLine) : Type 0 where
  pub form : HasItsForm line
  pub short : IsShort line
  pub below : IsBelowNext next line
  pub order : AllByRecursion (λ earlier. IsInOrder earlier line) lines
  pub once : AllByRecursion (λ earlier. NamesOther earlier line) lines
  pub apart : AllByRecursion (λ earlier. SharesNone earlier line) lines
  pub few : length (filter is_collection (lines ++ line ∷ [])) ≤ 32
  pub member : IsTrue (has_its_member (lines ++ line ∷ []) line)

-- ---- the lines that were read

abbrev pub lines_of : CarriedRead → List CarriedLine
lines_of r = map line_of r.lines.items

abbrev pub text_of : CarriedRead → CarriedText
text_of r = record { next = r.next; lines = lines_of r }

abbrev pub side_rank : Side → ℕ
side_rank Answer = 1
side_rank Override = 2

-- they make a carried text; what they name is known, and the highest rank of them
pub record IsRead (r : CarriedRead) : Type 0 where
  pub text : IsCarried (text_of r)
  pub keys : (key : List ℕ) → has r.keys key ≡ list_any (bytes_eq key) (map key_text (lines_of r))
  pub high : AllByRecursion (λ line. rank line ≤ r.rank) (lines_of r)
  pub least : (n : ℕ) → AllByRecursion (λ line. rank line ≤ n) (lines_of r) → r.rank ≤ n

-- the line may come next, but for what others name
abbrev pub may_stand : CarriedRead → CarriedLine → Bool
may_stand r (collection name members) =
    nat_eq r.rank 0 && (nat_lt (length r.lines.items) 32 && (are_below r.next members && list_all (λ line. are_others members (members_in line)) (lines_of r)))
may_stand r (entry side path text) = nat_le r.rank (side_rank side) && lists_member_of (lines_of r) path

pub record IsWith (old : CarriedRead) (line : TextLine) (new : CarriedRead) : Type 0 where
  pub next : new.next ≡ old.next
  pub lines : new.lines.items ≡ old.lines.items ++ line ∷ []
  pub keys : new.keys ≡ old.keys
  pub rank : new.rank ≡ rank (line_of line)

-- what lines that are lent come to
abbrev pub new_or_fault : CarriedRead → Result (Unit {0}) LineFault → Result CarriedRead LineFault
new_or_fault new (Ok done) = Ok new
new_or_fault new (Err fault) = Err fault

-- the line was taken, or it may not stand there
abbrev pub Takes : CarriedRead → CarriedLine → Result CarriedRead LineFault → Type 0
Takes old line (Ok new) = IsRead new × (new.next ≡ old.next) × (lines_of new ≡ lines_of old ++ line ∷ [])
Takes old line (Err BadLine) = ¬ MayFollow old.next (lines_of old) line
Takes old line (Err NoMemory) = Unit {0}

-- the same of a line's text
abbrev pub TakesText : CarriedRead → List ℕ → Result CarriedRead LineFault → Type 0
TakesText old text (Ok new) = (line : CarriedLine) × (line_text line ≡ text) × Takes old line (Ok new)
TakesText old text (Err BadLine) = (line : CarriedLine) → line_text line ≡ text → ¬ MayFollow old.next (lines_of old) line
TakesText old text (Err NoMemory) = Unit {0}

-- ---- line by line

-- the line doesn't begin with the word
abbrev pub BeginsOther : List ℕ → List ℕ → Type 0
BeginsOther word line = (text : List ℕ) → line ≢ word ++ text

-- the lines behind the first two
abbrev pub stage_lines : CarriedStage → List CarriedLine
stage_lines Opening = []
stage_lines Number = []
stage_lines (Lines r) = lines_of r
stage_lines (Whole r) = lines_of r

-- the texts of all lines that were read
abbrev pub texts_of : CarriedStage → List (List ℕ)
texts_of Opening = []
texts_of Number = opening_line ∷ []
texts_of (Lines r) = opening_line ∷ next_line r.next ∷ map line_text (lines_of r)
texts_of (Whole r) = carried_lines (text_of r)

abbrev pub IsCarriedStage : CarriedStage → Type 0
IsCarriedStage Opening = Unit {0}
IsCarriedStage Number = Unit {0}
IsCarriedStage (Lines r) = IsRead r
IsCarriedStage (Whole r) = IsCarried (text_of r)

-- a line has come to those behind the first two, or one of these two or the last
abbrev pub Grows : CarriedStage → CarriedStage → Type 0
Grows old (Lines r) = ((lines_of r ≡ []) × (stage_lines old ≡ [])) ⊎ ((line : CarriedLine) × (lines_of r ≡ stage_lines old ++ line ∷ []))
Grows old new = stage_lines new ≡ stage_lines old

abbrev pub IsNext : CarriedStage → List ℕ → CarriedStage → Type 0
IsNext old line new = IsCarriedStage new × (texts_of new ≡ texts_of old ++ line ∷ []) × Grows old new

-- no carried text has these lines and then this one
abbrev pub EndsNone : CarriedStage → List ℕ → Type 0
EndsNone old line = (c : CarriedText) (more : List (List ℕ)) → IsCarried c → carried_lines c ≢ texts_of old ++ line ∷ more

abbrev pub JudgesCarried : CarriedStage → List ℕ → Result CarriedStage LineFault → Type 0
JudgesCarried old line (Ok new) = IsNext old line new
JudgesCarried old line (Err BadLine) = EndsNone old line
JudgesCarried old line (Err NoMemory) = Unit {0}

abbrev pub ReadsCarried : CarriedStage → List ℕ → ℕ → Result CarriedStage LoadFault → Type 0
ReadsCarried old line number (Ok new) = IsNext old line new
ReadsCarried old line number (Err (BadSaved n)) = (n ≡ number) × EndsNone old line
ReadsCarried old line number (Err faults.NoMemory) = Unit {0}

-- ---- the end

-- the lines of a whole text that ends in a newline
abbrev pub EndsCarried : CarriedStage → Bool → ℕ → Result CarriedRead LoadFault → Type 0
EndsCarried (Whole r) true number result = result ≡ Ok r
EndsCarried _ _ number result = result ≡ Err (BadSaved number)
