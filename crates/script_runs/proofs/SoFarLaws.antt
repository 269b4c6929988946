-- A script that goes on: its lines so far, and the pulls by which they came.
use Rattle.std.proofs.Common.{◌≡◌, ℕ, ◌<◌, ◌≤◌, false, List, [], ◌∷◌, ◌++◌, length, Option, inl, inr, refl, sym, ap, subst, ◌∙◌, arith}
use Rattle.std.proofs.lemmas.List.{append-nil}
use Rattle.std.proofs.lemmas.List.Elements.{All-nil, All-cons}
use Rattle.fg_io.specs.Outside.{ByPull, Output, Pulled, gave, faulted}
use Rattle.session_lines.specs.Writing.{WroteLines}
use Rattle.answers.specs.Answered.{Answered}
use Rattle.script_lines.specs.Lines.{ended_lines}
use Rattle.script_lines.proofs.EndedLaws.{ready_lines_are_ended}
use Rattle.script_runs.specs.declared.status.Status.{Status}
use Rattle.script_runs.specs.declared.status.Status.TheVariants.{ReadFault}
use Rattle.script_runs.specs.DefinedScript.{script_limit}
use Rattle.script_runs.specs.Meanings.{Meaning}
use Rattle.script_runs.specs.SoFar.{AnsweredSoFar, ExchangeSoFar}
use Rattle.script_runs.specs.Exchange.{bytes_of, IsToGoOn, Leaves, PiecesFollowReplies, PulledBehind, ExchangeLeaves, Told, asked_behind}

-- ---- its lines

module _ (m : Meaning) (left left_now : Option (List ℕ)) (sink sink_now : Output) (count : ℕ) (there : Meaning) (held : List ℕ) (so_far : AnsweredSoFar m left left_now sink sink_now count there held) where
  pub ended_so_far : so_far.output.lines ≡ ended_lines so_far.bytes
  ended_so_far = ready_lines_are_ended so_far.bytes held so_far.output.lines so_far.unended so_far.output.cut

  -- no `quit` ended
  pub unquit_so_far : m.over (ended_lines so_far.bytes) ≡ false
  unquit_so_far = ap m.over (sym ended_so_far ∙ sym (append-nil so_far.output.lines)) ∙ so_far.output.left.over [] ∙ so_far.unquit

  -- the replies were written whole
  pub replied_so_far : WroteLines sink sink_now (m.replies (ended_lines so_far.bytes))
  replied_so_far = subst (λ l. WroteLines sink sink_now (m.replies l)) ended_so_far so_far.output.wrote

-- ---- the pulls

module _ {S K : Type 0} (pulled : ByPull S K) (output : K → Output) (m : Meaning) (out : K) (script : S) where
  -- before the first
  pub exchange_unbegun : ExchangeSoFar pulled output m out script [] script
  exchange_unbegun = record { pieces = []; came = refl; same = refl; unended = All-nil _ }

  module _ (left left_now : Option (List ℕ)) (out_now : K) (count : ℕ) (there : Meaning) (held : List ℕ) (so_far : AnsweredSoFar m left left_now (output out) (output out_now) count there held)
      (script_now : S) (exchanged : ExchangeSoFar pulled output m out script so_far.bytes script_now) (short : count ≤ script_limit) where
    goes_on : IsToGoOn output m out exchanged.pieces out_now
    goes_on = record {
      unended = exchanged.unended;
      within = omega (arith, so_far.counted, ap length exchanged.same, short);
      unquit = ap (λ (bytes : List ℕ). m.over (ended_lines bytes)) exchanged.same ∙ unquit_so_far m left left_now (output out) (output out_now) count there held so_far;
      replied = subst (λ (bytes : List ℕ). WroteLines (output out) (output out_now) (m.replies (ended_lines bytes))) (sym exchanged.same)
          (replied_so_far m left left_now (output out) (output out_now) count there held so_far);
    }

    module _ (room : ℕ) (script_next : S) where
      behind : (came : Pulled) → pulled script_now out_now room came script_next → room ≡ asked_behind count → PulledBehind pulled output m out exchanged.pieces script_now script_next came
      behind came call asked = record {
        out_now = out_now;
        goes_on = goes_on;
        call = subst (λ (n : ℕ). pulled script_now out_now n came script_next) (asked ∙ ap asked_behind (so_far.counted ∙ ap length (sym exchanged.same))) call;
      }

      module _ (piece : List ℕ) (call : pulled script_now out_now room (gave piece) script_next) (asked : room ≡ asked_behind count) where
        -- one more, which wasn't the end
        pub exchange_goes_on : 0 < length piece → (bytes : List ℕ) → bytes ≡ so_far.bytes ++ piece → ExchangeSoFar pulled output m out script bytes script_next
        exchange_goes_on some bytes same = record {
          pieces = piece ∷ exchanged.pieces;
          came = (script_now, exchanged.came, behind (gave piece) call asked);
          same = ap (λ (earlier : List ℕ). earlier ++ piece) exchanged.same ∙ sym same;
          unended = All-cons (λ bytes. 0 < length bytes) piece exchanged.pieces some exchanged.unended;
        }

        -- the last
        pub exchange_ends : (status : Status) (out_end : K) (answers : Answered) → Told (output out) (output out_end) m (so_far.bytes ++ piece) status → Leaves m (so_far.bytes ++ piece) answers status
            → ExchangeLeaves pulled output m out out_end script script_next answers status
        exchange_ends status out_end answers told left = (
          record {
            exchange = record { pieces = piece ∷ exchanged.pieces; between = script_next; came = (script_now, exchanged.came, behind (gave piece) call asked); last = inl refl };
            told = subst (λ (bytes : List ℕ). Told (output out) (output out_end) m bytes status) (sym same_bytes) told;
          },
          subst (λ (bytes : List ℕ). Leaves m bytes answers status) (sym same_bytes) left,
        )
          where
            same_bytes : bytes_of exchanged.pieces ++ piece ≡ so_far.bytes ++ piece
            same_bytes = ap (λ (earlier : List ℕ). earlier ++ piece) exchanged.same

      -- it failed
      pub exchange_fails : pulled script_now out_now room faulted script_next → room ≡ asked_behind count → ((bytes : List ℕ) → bytes ≡ so_far.bytes → Told (output out) (output out_now) m bytes ReadFault)
          → (answers : Answered) → ExchangeLeaves pulled output m out out_now script script_next answers ReadFault
      exchange_fails call asked told answers = (
        record {
          exchange = record { pieces = exchanged.pieces; between = script_now; came = exchanged.came; last = inr (refl, behind faulted call asked) };
          told = told (bytes_of exchanged.pieces) exchanged.same;
        },
        tt,
      )

-- ---- each piece

pub pieces_follow_replies : {S K : Type 0} (pulled : ByPull S K) (output : K → Output) → PiecesFollowReplies pulled output
pieces_follow_replies pulled output m out script script_now [] piece earlier came = (came.2.out_now, came.2.goes_on)
pieces_follow_replies pulled output m out script script_now (last ∷ later) piece earlier came = pieces_follow_replies pulled output m out script came.0 later piece earlier came.1
