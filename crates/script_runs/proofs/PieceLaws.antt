-- Lines that end in a piece of a script, one behind another.
use Rattle.std.proofs.Common.{◌≡◌, ℕ, ◌+◌, ◌-◌, ◌≤◌, List, [], ◌∷◌, ◌++◌, length, take, drop, refl, sym, ap, subst, ◌∙◌, arith, append_assoc, length-drop}
use Rattle.std.proofs.lemmas.List.{append-nil, take_all}
use Rattle.fg_io.specs.Outside.{Output}
use Rattle.session_lines.specs.Writing.{WroteLines}
use Rattle.session_lines.proofs.WritingLaws.{lines_none}
use Rattle.script_lines.specs.Lines.{ScriptLine, ended_lines, ready_lines, script_lines}
use Rattle.script_lines.specs.declared.lines.Ready.{Ready}
use Rattle.script_lines.proofs.EndedLaws.{ended_follows}
use Rattle.answers.specs.Answered.{Answered}
use Rattle.dict_meaning.specs.Accepted.{Accepted}
use Rattle.script_runs.specs.Meanings.{Behind, IsBeginning, Meaning}
use Rattle.script_runs.specs.AnsweredLines.{LinesOutput, SomeOutput}
use Rattle.script_runs.proofs.MeaningLaws.{behind_none, behind_on}

-- what the slice behind n bytes is
pub behind_is : (bytes : List ℕ) (n m : ℕ) → length bytes - n ≤ m → take m (drop n bytes) ≡ drop n bytes
behind_is bytes n m all = take_all m (drop n bytes) (omega (arith, length-drop n bytes))

-- nothing is left of a piece
pub no_bytes : (bytes : List ℕ) → length bytes ≡ 0 → bytes ≡ []
no_bytes [] e = refl
no_bytes (b ∷ bytes) e = absurd (omega (arith, e))

-- no line was answered yet
pub output_none : (m : Meaning) → IsBeginning m → (sink : Output) (held bytes : List ℕ) → LinesOutput m (WroteLines sink sink) held bytes m held bytes
output_none m begins sink held bytes = record {
  lines = [];
  cut = λ more. refl;
  wrote = subst (WroteLines sink sink) (sym begins.replies) (lines_none sink);
  left = behind_none m begins;
}

-- one line was fed, or none, of what stands behind
module _ (there : Meaning) (held rest held_next next line line_now : List ℕ) (ready : Ready)
    (stream : (more : List ℕ) → script_lines (held ++ (rest ++ more)) ≡ ready_lines ready line ++ script_lines (held_next ++ (next ++ more))) (same_line : line_now ≡ line) where
  abbrev fed : List ScriptLine
  fed = ready_lines ready line_now

  stream_now : (more : List ℕ) → script_lines (held ++ (rest ++ more)) ≡ fed ++ script_lines (held_next ++ (next ++ more))
  stream_now more = stream more ∙ ap (λ l. ready_lines ready l ++ script_lines (held_next ++ (next ++ more))) (sym same_line)

  -- and its reply was written so
  module _ (m : Meaning) (a b : Output) (before bytes : List ℕ) (output : LinesOutput m (WroteLines a b) before bytes there held rest)
      (Next All : List (List ℕ) → Type 0) (compose : (xs ys : List (List ℕ)) → WroteLines a b xs → Next ys → All (xs ++ ys)) where
    pub output_fed : (after : Meaning) → Behind there fed after → Next (there.replies fed) → LinesOutput m All before bytes after held_next next
    output_fed after behind wrote = record {
      lines = output.lines ++ fed;
      cut = λ more. output.cut more ∙ ap (λ l. output.lines ++ l) (stream_now more) ∙ sym (append_assoc output.lines fed (script_lines (held_next ++ (next ++ more))));
      wrote = subst All (sym (output.left.replies fed)) (compose (m.replies output.lines) (there.replies fed) output.wrote wrote);
      left = behind_on m there after output.lines fed output.left behind;
    }

    abbrev pub some_fed : (after : Meaning) → Behind there fed after → Next (there.replies fed) → SomeOutput m All before bytes
    some_fed after behind wrote = record { there = after; held_now = held_next; behind = next; output = output_fed after behind wrote }

  -- of the lines that end in a piece it is the first
  fed_first : ended_lines (held ++ rest) ≡ fed ++ ended_lines (held_next ++ next)
  fed_first =
      ended_follows (held ++ rest) (held_next ++ next) fed
      (λ more. ap script_lines (append_assoc held rest more) ∙ stream_now more ∙ ap (λ l. fed ++ script_lines l) (sym (append_assoc held_next next more)))

  module _ (most : Accepted → Answered → Answered → ℕ) (steps steps_now bound : ℕ) (within : steps + there.steps most (ended_lines (held ++ rest)) ≤ bound) (took : steps_now ≤ steps + there.steps most fed) where
    -- what it took keeps within the bound, together with what is left
    pub steps_on : (after : Meaning) → Behind there fed after → steps_now + after.steps most (ended_lines (held_next ++ next)) ≤ bound
    steps_on after behind =
        let sum = ap (there.steps most) fed_first ∙ behind.steps most (ended_lines (held_next ++ next)) in
        omega (arith, within, took, sum)

    pub steps_within : IsBeginning there → steps_now ≤ bound
    steps_within begins =
        let on = begins.goes_on fed in
        let all = steps_on on.0 on.1 in
        omega (arith, all)

-- the answers behind `quit`
pub quit_answers : (m there : Meaning) (lines : List ScriptLine) (answers : Answered) → Behind m lines there → m.answers lines ≡ answers → there.answers [] ≡ answers
quit_answers m there lines answers behind is = sym (behind.answers []) ∙ ap m.answers (append-nil lines) ∙ is
