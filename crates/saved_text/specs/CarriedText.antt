-- Which bytes are a carried text, whatever the dictionary: lines as a saved text has them, in any order within a kind.
use Rattle.std.specs.Prelude.{◌≡◌, ◌≢◌, ℕ, ◌<◌, ◌≤◌, ◌&&◌, Bool, true, false, IsTrue, nat_eq, bytes_eq, List, [], ◌∷◌, ◌++◌, map, length, filter, codes, decimal, refl}
use Rattle.std.specs.List.{AllByRecursion, list_any}
use Rattle.std.specs.Str.{IsUtf8}
use Rattle.fact_paths.specs.Names.{IsName}
use Rattle.fact_paths.specs.Paths.{IsSlotPath, slot_path_text}
use Rattle.fact_paths.specs.declared.slot_path.SlotPath.{SlotPath}
use Rattle.fact_paths.specs.declared.slot_path.SlotPath.TheVariants.{Global, Member}
use Rattle.fact_values.specs.Members.{IsMemberList}
use Rattle.value_text.specs.MemberTexts.{printed_rest}
use Rattle.answers.specs.Lists.{IsIn, IsNotIn}
use Rattle.answers.specs.declared.edit.Side.{Side}
use Rattle.answers.specs.declared.edit.Side.TheVariants.{Answer, Override}
use Rattle.script_lines.specs.Joined.{joined}
use Rattle.script_lines.specs.Lines.{HasNoNewline}
use Rattle.saved_text.specs.Parsing.{IsNextNumber}
use Rattle.saved_text.specs.SavedText.{end_line, next_line, opening_line, side_word}

-- ---- lines

-- a line behind the first two and before the last: a collection's name with its members, or a slot's path with the text of a
-- value, on its side
pub data CarriedLine : Type 0 where
  collection : List ℕ → List ℕ → CarriedLine
  entry : Side → SlotPath → List ℕ → CarriedLine

-- its kind and what it names: `list /N`, `value SLOT` or `override SLOT`
abbrev pub key_text : CarriedLine → List ℕ
key_text (collection name members) = codes "list /" ++ name
key_text (entry side path text) = side_word side ++ slot_path_text path

-- what it says of that: ` #K` for each member, or a blank and the text
abbrev pub said_text : CarriedLine → List ℕ
said_text (collection name members) = printed_rest members
said_text (entry side path text) = 32 ∷ text

abbrev pub line_text : CarriedLine → List ℕ
line_text line = key_text line ++ said_text line

-- the number of the next member, and the lines
pub record CarriedText : Type 0 where
  pub next : ℕ
  pub lines : List CarriedLine

abbrev pub carried_lines : CarriedText → List (List ℕ)
carried_lines c = opening_line ∷ next_line c.next ∷ (map line_text c.lines ++ end_line ∷ [])

-- each line is ended by a newline
abbrev pub carried : CarriedText → List ℕ
carried c = joined (carried_lines c)

-- ---- what each line keeps

-- names are names, and members are at most 100, and each once; a text is UTF-8 without a newline
abbrev pub HasItsForm : CarriedLine → Type 0
HasItsForm (collection name members) = IsName name × IsMemberList members
HasItsForm (entry side path text) = IsSlotPath path × IsUtf8 text × HasNoNewline text

-- it has at most 4,096 bytes, without its newline
abbrev pub IsShort : CarriedLine → Type 0
IsShort line = length (line_text line) ≤ 4096

abbrev pub members_in : CarriedLine → List ℕ
members_in (collection name members) = members
members_in (entry side path text) = []

-- each of its members is below the next one
abbrev pub IsBelowNext : ℕ → CarriedLine → Type 0
IsBelowNext next line = AllByRecursion (λ m. m < next) (members_in line)

-- ---- what two lines keep

-- lists come first, then values, then overrides
abbrev pub rank : CarriedLine → ℕ
rank (collection name members) = 0
rank (entry Answer path text) = 1
rank (entry Override path text) = 2

abbrev pub IsInOrder : CarriedLine → CarriedLine → Type 0
IsInOrder line later = rank line ≤ rank later

-- no kind names one slot or collection twice
abbrev pub NamesOther : CarriedLine → CarriedLine → Type 0
NamesOther line later = key_text line ≢ key_text later

-- no member stands in two lists
abbrev pub SharesNone : CarriedLine → CarriedLine → Type 0
SharesNone line later = (m : ℕ) → IsIn m (members_in line) → IsNotIn m (members_in later)

-- of each two, the earlier and the later
abbrev pub Pairs : {X : Type 0} → (X → X → Type 0) → List X → Type 0
Pairs R [] = Unit {0}
Pairs R (x ∷ xs) = AllByRecursion (R x) xs × Pairs R xs

-- ---- what all lines keep

abbrev pub is_collection : CarriedLine → Bool
is_collection (collection name members) = true
is_collection (entry side path text) = false

-- the line lists the member in the collection of this name
abbrev pub lists_member : List ℕ → ℕ → CarriedLine → Bool
lists_member name k (collection other members) = bytes_eq other name && list_any (nat_eq k) members
lists_member name k (entry side path text) = false

-- the member in a slot's path is in the list of the path's collection
abbrev pub lists_member_of : List CarriedLine → SlotPath → Bool
lists_member_of lines (Global n) = true
lists_member_of lines (Member name k n) = list_any (lists_member name k) lines

abbrev pub has_its_member : List CarriedLine → CarriedLine → Bool
has_its_member lines (collection name members) = true
has_its_member lines (entry side path text) = lists_member_of lines path

pub record IsCarried (c : CarriedText) : Type 0 where
  pub number : IsNextNumber c.next
  pub forms : AllByRecursion HasItsForm c.lines
  pub short : AllByRecursion IsShort c.lines
  pub below : AllByRecursion (IsBelowNext c.next) c.lines
  pub order : Pairs IsInOrder c.lines
  pub once : Pairs NamesOther c.lines
  pub apart : Pairs SharesNone c.lines
  pub few : length (filter is_collection c.lines) ≤ 32
  pub members : AllByRecursion (λ line. IsTrue (has_its_member c.lines line)) c.lines

-- the bytes are such a text
abbrev pub IsCarriedText : List ℕ → Type 0
IsCarriedText bytes = (c : CarriedText) × IsCarried c × (bytes ≡ carried c)

-- ---- a law

-- a carried text is that of one number and of one list of lines alone
abbrev pub CarriedTextsTellLines : Type 0
CarriedTextsTellLines = (c e : CarriedText) → IsCarried c → IsCarried e → carried c ≡ carried e → c ≡ e

-- worked examples
line_text-list : line_text (collection (codes "c") (2 ∷ 31 ∷ [])) ≡ codes "list /c #" ++ (decimal 2 ++ (codes " #" ++ (decimal 31 ++ [])))
line_text-list = refl

line_text-no_members : line_text (collection (codes "c") []) ≡ codes "list /c"
line_text-no_members = refl

line_text-value : line_text (entry Answer (Global (codes "n")) (codes "7 a")) ≡ codes "value /n 7 a"
line_text-value = refl

line_text-override : line_text (entry Override (Global (codes "s")) []) ≡ codes "override /s "
line_text-override = refl

has_its_member-listed : has_its_member (collection (codes "c") (5 ∷ 2 ∷ []) ∷ []) (entry Answer (Member (codes "c") 2 (codes "v")) []) ≡ true
has_its_member-listed = refl

has_its_member-elsewhere : has_its_member (collection (codes "d") (2 ∷ []) ∷ collection (codes "c") (5 ∷ []) ∷ []) (entry Answer (Member (codes "c") 2 (codes "v")) []) ≡ false
has_its_member-elsewhere = refl
