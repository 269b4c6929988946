-- What a party is told as final stays, since a session says it.
use Rattle.std.proofs.Common.{◌≡◌, ℕ, List, [], ◌∷◌, length, Option, Some, None, refl, sym, ap, ◌∙◌, arith}
use Rattle.std.specs.Prelude.{option_map}
use Rattle.std.proofs.lemmas.List.{append_cancel_left}
use Rattle.fact_paths.specs.declared.slot_path.SlotPath.{SlotPath}
use Rattle.script_lines.specs.declared.command.Command.TheVariants.{Final}
use Rattle.graph_session.specs.Refusals.{decided as session_decided}
use Rattle.graph_session.specs.Rules.{Rules}
use Rattle.graph_session.specs.Step.{refusal, reply}
use Rattle.graph_session.specs.declared.reply.Refusal.{Refusal}
use Rattle.session_lines.specs.Laws.{final_line}
use Rattle.session_lines.specs.Stepping.{LineState, step_answered, step_command}
use Rattle.session_lines.proofs.FinalLineLaws.{final_lines_stay}
use Rattle.shared_desk.specs.Desk.{Desk, desk_after}
use Rattle.shared_desk.specs.Refusals.{decided, first_of}
use Rattle.shared_desk.specs.declared.refusal.DeskRefusal.TheVariants.{Session}
use Rattle.desk_lines.specs.DeskLaws.{DeskFinalLinesStay}
use Rattle.desk_lines.specs.DeskStepping.{marked_lines, step_asked, step_decided}
use Rattle.session_lines.specs.Marks.{party_mark}

-- the desk's session, with no watches
abbrev session_of : Desk → LineState
session_of d = record { session_state = d.session_state; relations = []; watched = [] }

abbrev only_line : List (List ℕ) → List ℕ
only_line [] = []
only_line (line ∷ lines) = line

-- what is told to a party as one line is one
one_marked : (p : ℕ) (lines : List (List ℕ)) (line : List ℕ) → marked_lines p lines ≡ marked_lines p (line ∷ []) → lines ≡ line ∷ []
one_marked p [] line is = absurd (omega (arith, ap length is))
one_marked p (l ∷ []) line is = ap (λ (k : List ℕ). k ∷ []) (append_cancel_left (party_mark p) l line (ap only_line is))
one_marked p (l ∷ k ∷ ls) line is = absurd (omega (arith, ap length is))

-- a party that asks whether a result is final is told what the session says
output_final : (r : Rules) (d : Desk) (p : ℕ) (path : SlotPath) → (step_asked r d p (Final path)).lines ≡ marked_lines p (step_command r (session_of d) (Final path)).lines
output_final r d p path = by_cases (refusal r d.session_state (Final path))
  where
    by_cases : (o : Option Refusal)
        → (step_decided r d p (decided (first_of (option_map Session o ∷ [])) (reply r d.session_state (Final path), desk_after r d p (Final path)))).lines
        ≡ marked_lines p (step_answered r (session_of d) (Final path) (session_decided o (reply r d.session_state (Final path), d.session_state))).lines
    by_cases None = refl
    by_cases (Some why) = refl

pub desk_final_lines_stay : DeskFinalLinesStay
desk_final_lines_stay names r accepted d p path text is =
    let says = one_marked p (step_command r (session_of d) (Final path)).lines (final_line text) (sym (output_final r d p path) ∙ is) in
    let held = final_lines_stay names r accepted (session_of d) path text says in
    record {
      stays = held.stays;
      printed_so = held.printed_so;
      again = λ e q ext. output_final r e q path ∙ ap (marked_lines q) (held.again (session_of e) ext);
    }
