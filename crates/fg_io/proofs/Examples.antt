-- Worked examples of devices, at small values.
use Rattle.std.proofs.Common.{◌≡◌, ◌-◌, ◌^◌, [], ◌∷◌, Some, refl}
use Rattle.fg_io.specs.Outside.{next_count}
use Rattle.fg_io.specs.Sent.{Sent}

count_stands_at_the_end : next_count (2 ^ 64 - 1) ≡ 2 ^ 64 - 1
count_stands_at_the_end = refl

-- two bytes of three were written behind what was there
a_part_sent : Sent (Some (9 ∷ [])) (Some (9 ∷ 1 ∷ 2 ∷ [])) (1 ∷ 2 ∷ 3 ∷ []) (3 ∷ [])
a_part_sent = record { front = 1 ∷ 2 ∷ []; took = refl; split = refl }
