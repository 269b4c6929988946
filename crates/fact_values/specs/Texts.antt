-- The texts that a value may hold, as their bytes in UTF-8.
use Rattle.std.specs.Prelude.{ℕ, Bool, IsTrue, not, ◌&&◌, List, length, nat_le}
use Rattle.std.specs.Char.{is_control}
use Rattle.std.specs.List.{list_any}
use Rattle.std.specs.Str.{chars, is_utf8}

-- one of the characters U+0000 to U+001F or U+007F to U+009F stands in the text
abbrev pub has_control : List ℕ → Bool
has_control bytes = list_any is_control (chars bytes)

-- at most 1,000 bytes, the UTF-8 of some characters, and no such character among them
abbrev pub is_plain_text : List ℕ → Bool
is_plain_text bytes = nat_le (length bytes) 1000 && (is_utf8 bytes && not (has_control bytes))

abbrev pub IsPlainText : List ℕ → Type 0
IsPlainText bytes = IsTrue (is_plain_text bytes)
