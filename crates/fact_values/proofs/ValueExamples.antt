-- What no run of the program shows.
use Rattle.std.proofs.Common.{◌≡◌, [], ◌∷◌, false, refl, arith, pos}
use Rattle.std.specs.Char.{encode_utf8}
use Rattle.std.specs.Str.{chars, is_utf8}
use Rattle.jiff_core.proofs.CalendarLemmas.{days_from_civil-day_count}
use Rattle.jiff_core.proofs.MarchLemmas.{day_count-late}
use Rattle.jiff_core.proofs.SignedLemmas.{signed_arith}
use Rattle.fact_values.specs.Days.{last_day, number_of}
use Rattle.fact_values.specs.Texts.{is_plain_text}

pub last_day_is_in_2199 : number_of (pos 2199) (pos 12) (pos 31) ≡ last_day
last_day_is_in_2199 =
    omega (arith, signed_arith, days_from_civil-day_count, day_count-late (pos 2199) 12199 12 31 refl (omega arith) (omega arith) (omega arith))

-- the byte 255 begins no character
byte_255_is_refused : is_plain_text (255 ∷ []) ≡ false
unfolding chars is_utf8 encode_utf8
byte_255_is_refused = refl
