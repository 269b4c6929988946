-- What reading a text gives, part by part.
use Rattle.std.specs.Prelude.{◌≡◌, ℕ, ◌&&◌, Bool, false, nat_le, nat_lt, codes, List, [], ◌∷◌, Option, Some, None, option_map, option_and_then, Result, Ok, Err, if◌then◌else◌}
use Rattle.std.specs.Str.{all_ascii_digits}
use Rattle.std.specs.Str.Parse.{digits_value}
use Rattle.fact_paths.specs.Cuts.{at_slash, after, cut}
use Rattle.fact_paths.specs.Names.{is_name}
use Rattle.fact_paths.specs.declared.fault.PathFault.{PathFault}
use Rattle.fact_paths.specs.declared.fault.PathFault.TheVariants.{BadPath, NoMemory}
use Rattle.fact_paths.specs.declared.fact_path.FactPath.{FactPath}
use Rattle.fact_paths.specs.declared.fact_path.FactPath.TheVariants as facts
use Rattle.fact_paths.specs.declared.slot_path.SlotPath.{SlotPath}
use Rattle.fact_paths.specs.declared.slot_path.SlotPath.TheVariants as slots
use Rattle.fact_paths.specs.declared.use_path.UsePath.{UsePath}
use Rattle.fact_paths.specs.declared.use_path.UsePath.TheVariants as uses

-- the next step, where the one before gave something
infixl 10 ◌>>=◌
abbrev pub ◌>>=◌ : {A B : Type 0} → Option A → (A → Option B) → Option B
o >>= f = option_and_then f o

-- the answer is what reading gives, and BadPath where it gives nothing
abbrev pub Gives : {P : Type 0} → Option P → Result P PathFault → Type 0
Gives read (Ok path) = read ≡ Some path
Gives read (Err BadPath) = read ≡ None
Gives read (Err NoMemory) = Unit {0}

-- ---- names

-- the text, where it is a name
abbrev pub name_of : List ℕ → Option (List ℕ)
name_of text = if is_name text then Some text else None

-- the path that these make of one name, or of two
abbrev pub of_name : {P : Type 0} → (List ℕ → P) → List ℕ → Option P
of_name path text = option_map path (name_of text)

abbrev pub of_names : {P : Type 0} → (List ℕ → List ℕ → P) → List ℕ → List ℕ → Option P
of_names path first second = do
  n ← name_of first
  m ← name_of second
  Some (path n m)

-- ---- paths of facts, behind the first slash

-- `N`, or the two parts of `N/*/M`
abbrev pub fact_path_from : List ℕ → Option (List ℕ × List ℕ) → Option FactPath
fact_path_from text None = of_name facts.Global text
fact_path_from text (Some parts) = do
  member ← after (codes "*/") parts.1
  of_names facts.Member parts.0 member

-- the path of a fact that a text spells
abbrev pub fact_path_of : List ℕ → Option FactPath
fact_path_of text = do
  rest ← after (codes "/") text
  fact_path_from rest (cut 47 rest)

-- ---- paths of uses

-- behind `../`: `N`, or the two parts of `N/M`
abbrev pub sibling_path_from : List ℕ → Option (List ℕ × List ℕ) → Option UsePath
sibling_path_from text None = of_name uses.Sibling text
sibling_path_from text (Some parts) = of_names uses.SiblingThrough parts.0 parts.1

-- `N/M`, or `N/*/M` where M stands behind a star
abbrev pub pair_path_from : List ℕ → List ℕ → Option (List ℕ) → Option UsePath
pair_path_from first second None = of_names uses.Through first second
pair_path_from first second (Some member) = of_names uses.Each first member

-- behind `/`: `N`, or the two parts of a pair
abbrev pub rooted_path_from : List ℕ → Option (List ℕ × List ℕ) → Option UsePath
rooted_path_from text None = of_name uses.Global text
rooted_path_from text (Some parts) = pair_path_from parts.0 parts.1 (after (codes "*/") parts.1)

-- the path of a use, by what stands behind `../` and what stands behind `/`
abbrev pub use_path_from : List ℕ → Option (List ℕ) → Option (List ℕ) → Option UsePath
use_path_from text (Some rest) root = sibling_path_from rest (cut 47 rest)
use_path_from text None (Some rest) = rooted_path_from rest (cut 47 rest)
use_path_from text None None = of_name uses.Inner text

-- the path of a use that a text spells
abbrev pub use_path_of : List ℕ → Option UsePath
use_path_of text = use_path_from text (after (codes "../") text) (after (codes "/") text)

-- ---- paths of slots, behind the first slash

-- digits, the first of them not 0
abbrev pub is_numeral : List ℕ → Bool
is_numeral [] = false
is_numeral (d ∷ ds) = nat_lt 48 d && all_ascii_digits (d ∷ ds)

-- the number of a member that these digits spell
abbrev pub member_number_of : List ℕ → Option ℕ
member_number_of text = if is_numeral text && nat_le (digits_value 10 text) 1000000 then Some (digits_value 10 text) else None

-- the two parts of `K/M`, behind the collection
abbrev pub slot_member_from : List ℕ → Option (List ℕ × List ℕ) → Option SlotPath
slot_member_from collection None = None
slot_member_from collection (Some parts) = do
  k ← member_number_of parts.0
  of_names (λ n m. slots.Member n k m) collection parts.1

-- `N`, or the two parts of `N/#K/M`
abbrev pub slot_path_from : List ℕ → Option (List ℕ × List ℕ) → Option SlotPath
slot_path_from text None = of_name slots.Global text
slot_path_from text (Some parts) = do
  member ← after (codes "#") parts.1
  slot_member_from parts.0 (at_slash member)

-- the path of a slot that a text spells
abbrev pub slot_path_of : List ℕ → Option SlotPath
slot_path_of text = do
  rest ← after (codes "/") text
  slot_path_from rest (cut 47 rest)
