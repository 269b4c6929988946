-- Which places are in a set of bits.
use Rattle.std.specs.Prelude.{◌≡◌, ◌/◌, ◌%◌, ◌<◌, ◌≤◌, ◌^◌, ℕ, Bool, nat_eq, List, length, get_or}
use Rattle.std.specs.Int.{bit_at}
use Rattle.std.specs.List.{list_any}

abbrev pub Words : Type 0
Words = List ℕ

-- the place is in it: its bit is set, 64 of them in a word
abbrev pub has_place : Words → ℕ → Bool
has_place words i = nat_eq (bit_at (get_or words (i / 64) 0) (i % 64)) 1

-- the place is one of these
abbrev pub is_one : List ℕ → ℕ → Bool
is_one places i = list_any (nat_eq i) places

-- each word before this one is 0
pub record IsFromLeast (words : Words) (least : ℕ) : Type 0 where
  pub clear : (w : ℕ) → w < least → get_or words w 0 ≡ 0
  pub within : least ≤ length words
  pub few : length words ≤ 2 ^ 57
