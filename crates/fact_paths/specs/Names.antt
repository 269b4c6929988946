-- The grammar of a name.
use Rattle.std.specs.Prelude.{ℕ, ◌==◌, ◌||◌, ◌&&◌, Bool, false, nat_le, IsTrue, List, [], ◌∷◌, length}
use Rattle.std.specs.Char.{is_ascii_alphabetic, is_ascii_alphanumeric}
use Rattle.std.specs.List.{list_all}

-- a letter, a digit, `_` or `-`
abbrev pub is_name_byte : ℕ → Bool
is_name_byte b = is_ascii_alphanumeric b || b == 95 || b == 45

-- a letter, and then at most 63 of those bytes
abbrev pub is_name : List ℕ → Bool
is_name [] = false
is_name (b ∷ bs) = is_ascii_alphabetic b && nat_le (length bs) 63 && list_all is_name_byte bs

-- the text is a name
abbrev pub IsName : List ℕ → Type 0
IsName text = IsTrue (is_name text)
