-- How much room for a reply is taken before a line is answered.
use Rattle.std.specs.Prelude.{ℕ, ◌+◌, ◌*◌}

-- so many bytes, where so many slots are watched: the reply of a change, with a line of each watch, has fewer
abbrev pub room_for : ℕ → ℕ
room_for watches = 64 + 161 * watches

-- so many bytes at a desk: a line of a reply has fewer, and only the reply of `missing` has more than one
abbrev pub desk_room : ℕ
desk_room = 1100
