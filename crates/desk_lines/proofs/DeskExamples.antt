-- Worked examples: what lines of several parties answer.
use Rattle.std.proofs.Common.{◌≡◌, [], ◌∷◌, refl}
use Rattle.std.specs.Prelude.{codes}
use Rattle.std.specs.Fmt.{digits}
use Rattle.std.specs.Str.{is_utf8, chars}
use lib.Utf8.{encode}
use Rattle.script_lines.specs.Lines.{whole, long}
use Rattle.graph_session.specs.Rules.{Rules}
use Rattle.shared_desk.specs.Desk.{Desk}
use Rattle.shared_desk.specs.declared.refusal.DeskRefusal.TheVariants.{Stale, NotYours}
use Rattle.desk_lines.specs.DeskStepping.{desk_open, desk_quit, desk_refusal_text, desk_replies, desk_state_after, marked_lines}

-- each line has the mark
marked_each : marked_lines 3 (codes "missing 1" ∷ codes "/a" ∷ []) ≡ codes "@3 missing 1" ∷ codes "@3 /a" ∷ []
unfolding digits
marked_each = refl

stale : marked_lines 2 (desk_refusal_text (Stale 1) ∷ []) ≡ codes "@2 refused 20 Stale 1" ∷ []
unfolding digits
stale = refl

not_yours : marked_lines 1 (desk_refusal_text (NotYours 2) ∷ []) ≡ codes "@1 refused 21 NotYours 2" ∷ []
unfolding digits
not_yours = refl

-- what isn't a command is told to the party, where there is one; behind `quit` nothing is answered
output : (r : Rules) (d : Desk) → desk_replies r (desk_open d) (whole (codes "# note") ∷ long ∷ whole (codes "quit") ∷ whole (codes "@3 stop") ∷ whole (codes "@4 quit") ∷ whole (codes "@3 stop") ∷ [])
    ≡ codes "refused 2 LongLine" ∷ codes "refused 1 BadLine" ∷ codes "@3 refused 1 BadLine" ∷ []
unfolding digits is_utf8 chars encode
output r d = refl

left : (r : Rules) (d : Desk) → desk_state_after r (desk_open d) (whole (codes "@3 stop") ∷ whole (codes "@4 quit") ∷ whole (codes "@3 undo") ∷ []) ≡ desk_quit d
unfolding is_utf8 chars encode
left r d = refl
