-- What a text has taken: its room, which stays, and the bytes.
use Rattle.std.proofs.Common.{◌≡◌, ℕ, List, [], ◌∷◌, ◌++◌, Some, ap, subst}
use Rattle.fg_io.specs.Outside.{Output, follows_any}
use Rattle.fg_io.specs.Sent.{Sent}
use Rattle.script_lines.specs.Joined.{joined}
use Rattle.session_lines.specs.Answering.{WrittenAs}
use Rattle.session_lines.specs.declared.progress.Progress.{Progress}
use Rattle.session_lines.specs.declared.progress.Progress.TheVariants.{More}
use Rattle.fact_graph_c.specs.declared.text.Text.{Text}
use Rattle.fg_io.proofs.SentLaws.{sent_whole}

abbrev behind : List ℕ → List ℕ
behind [] = []
behind (b ∷ bs) = bs

abbrev first_of : List ℕ → ℕ
first_of [] = 0
first_of (b ∷ bs) = b

-- what was put whole stands behind what was said
pub put_whole : (room room' : ℕ) (old new text : List ℕ) → Sent (Some (room ∷ old)) (Some (room' ∷ new)) text [] → new ≡ old ++ text
put_whole room room' old new text sent = ap behind (sent_whole (Some (room ∷ old)) (Some (room' ∷ new)) text sent)

-- what a text tells as a sink
abbrev shown : Text → Output
shown text = record { taken = Some (text.room ∷ text.bytes.items); faults = text.faults; follows = follows_any }

-- so do lines that were written whole
pub written_more : (old new : Text) (lines : List (List ℕ)) (progress : Progress) → WrittenAs (shown old) (shown new) lines progress → progress ≡ More → new.bytes.items ≡ old.bytes.items ++ joined lines
written_more old new lines progress wrote is = ap behind (subst (WrittenAs (shown old) (shown new) lines) is wrote).bytes

pub room_stays : (room room' : ℕ) (old new text rest : List ℕ) → Sent (Some (room ∷ old)) (Some (room' ∷ new)) text rest → room' ≡ room
room_stays room room' old new text rest sent = ap first_of sent.took

-- as much as was put stands behind what was said
pub put_behind : (room room' : ℕ) (old new text rest : List ℕ) (sent : Sent (Some (room ∷ old)) (Some (room' ∷ new)) text rest) → new ≡ old ++ sent.front
put_behind room room' old new text rest sent = ap behind sent.took
