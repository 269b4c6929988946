-- What each check says of a text, as its bytes.
use Rattle.std.specs.Prelude.{ℕ, ◌-◌, ◌≤◌, Bool, false, not, ◌&&◌, ◌==◌, nat_le, if◌then◌else◌, List, length, Option, Some, None, slice_get}
use Rattle.std.specs.Char.{is_ascii_digit}
use Rattle.std.specs.List.{list_all}

-- one or more bytes, all ASCII digits
abbrev pub has_digits : List ℕ → Bool
has_digits text = nat_le 1 (length text) && list_all is_ascii_digit text

-- exactly nine bytes, all ASCII digits
abbrev pub has_nine_digits : List ℕ → Bool
has_nine_digits text = (length text == 9) && list_all is_ascii_digit text

-- every byte is from 32 to 126
abbrev pub is_printable_ascii : List ℕ → Bool
is_printable_ascii text = list_all (λ b. nat_le 32 b && nat_le b 126) text

abbrev pub is_blank : Option ℕ → Bool
is_blank (Some b) = b == 32
is_blank None = false

-- empty, or neither the first nor the last byte is 32
abbrev pub is_trimmed : List ℕ → Bool
is_trimmed text = not (is_blank (slice_get text 0)) && not (is_blank (slice_get text (length text - 1)))

-- of the codes, 1 to 4
abbrev pub check_says : ℕ → List ℕ → Bool
check_says code text =
    if code == 1 then has_digits text
    else if code == 2 then has_nine_digits text
    else if code == 3 then is_printable_ascii text
    else if code == 4 then is_trimmed text
    else false

abbrev pub IsCode : ℕ → Type 0
IsCode code = (1 ≤ code) × (code ≤ 4)
