-- How many steps a script has taken on its way.
use Rattle.std.proofs.Common.{◌≡◌, ℕ, ◌+◌, ◌≤◌, List, [], ◌++◌, Option, refl, sym, ap, subst, ◌∙◌, arith, append_assoc}
use Rattle.std.proofs.lemmas.List.{append-nil}
use Rattle.std.specs.Io.KnownBytes.{Consumes, Keeps}
use Rattle.std.proofs.KnownBytes.{Consumes-kept}
use Rattle.fg_io.specs.Outside.{Output}
use Rattle.fg_io.proofs.ConsumedLaws.{consumes_more}
use Rattle.script_lines.specs.Lines.{ScriptLine, ended_lines, script_lines}
use Rattle.script_lines.proofs.EndedLaws.{ended_follows, lines_go_on}
use Rattle.answers.specs.Answered.{Answered}
use Rattle.dict_meaning.specs.Accepted.{Accepted}
use Rattle.script_runs.specs.Meanings.{IsBeginning, Meaning}
use Rattle.script_runs.specs.SoFar.{AnsweredSoFar}
use Rattle.script_runs.specs.StepsOfScript.{StepsWithin}
use Rattle.script_runs.proofs.SoFarLaws.{ended_so_far}

module _ (most : Accepted → Answered → Answered → ℕ) (m : Meaning) (begins : IsBeginning m) where
  -- the first lines take no more than all
  first_steps : (all first others : List ScriptLine) → all ≡ first ++ others → m.steps most first ≤ m.steps most all
  first_steps all first others is =
      let rest = begins.goes_on first in
      let sum = ap (m.steps most) is ∙ rest.1.steps most others in
      omega (arith, sum)

  module _ (left left_now : Option (List ℕ)) (sink sink_now : Output) (count : ℕ) (there : Meaning) (held : List ℕ) (so_far : AnsweredSoFar m left left_now sink sink_now count there held) where
    abbrev ended : so_far.output.lines ≡ ended_lines so_far.bytes
    ended = ended_so_far m left left_now sink sink_now count there held so_far

    -- lines behind those that ended so far
    steps_behind : (lines : List ScriptLine) → m.steps most (ended_lines so_far.bytes ++ lines) ≡ m.steps most (ended_lines so_far.bytes) + there.steps most lines
    steps_behind lines = subst (λ l. m.steps most (l ++ lines) ≡ m.steps most l + there.steps most lines) ended (so_far.output.left.steps most lines)

    -- the lines that end in a piece behind it
    ended_more : (chunk : List ℕ) → ended_lines (so_far.bytes ++ chunk) ≡ ended_lines so_far.bytes ++ ended_lines (held ++ chunk)
    ended_more chunk =
        ended_follows (so_far.bytes ++ chunk) (held ++ chunk) so_far.output.lines
        (λ more. ap script_lines (append_assoc so_far.bytes chunk more) ∙ so_far.output.cut (chunk ++ more) ∙ ap (λ l. so_far.output.lines ++ script_lines l) (sym (append_assoc held chunk more)))
        ∙ ap (λ l. l ++ ended_lines (held ++ chunk)) ended

    -- the last line
    lines_at_end : script_lines so_far.bytes ≡ ended_lines so_far.bytes ++ script_lines held
    lines_at_end =
        ap script_lines (sym (append-nil so_far.bytes))
        ∙ so_far.output.cut []
        ∙ ap (λ l. so_far.output.lines ++ script_lines l) (append-nil held)
        ∙ ap (λ l. l ++ script_lines held) ended

    module _ (before steps : ℕ) (counted : steps ≤ before + m.steps most (ended_lines so_far.bytes)) where
      -- a piece more
      pub steps_more : (chunk chunk_now : List ℕ) (steps_now : ℕ) → chunk_now ≡ chunk → steps_now ≤ steps + there.steps most (ended_lines (held ++ chunk_now))
          → steps_now ≤ before + m.steps most (ended_lines (so_far.bytes ++ chunk))
      steps_more chunk chunk_now steps_now same_chunk took =
          let here : there.steps most (ended_lines (held ++ chunk_now)) ≡ there.steps most (ended_lines (held ++ chunk)) = ap (λ l. there.steps most (ended_lines (held ++ l))) same_chunk in
          let sum = ap (m.steps most) (ended_more chunk) ∙ steps_behind (ended_lines (held ++ chunk)) in
          omega (arith, counted, took, here, sum)

      -- it ended in a piece
      pub within_piece : (left_next : Option (List ℕ)) (chunk chunk_now : List ℕ) (steps_now : ℕ) → Consumes left_now left_next chunk → chunk_now ≡ chunk
          → steps_now ≤ steps + there.steps most (ended_lines (held ++ chunk_now))
          → StepsWithin most m left left_next before steps_now
      within_piece left_next chunk chunk_now steps_now read same_chunk took =
          let all = lines_go_on (so_far.bytes ++ chunk) [] in
          let lines = ap script_lines (sym (append-nil (so_far.bytes ++ chunk))) ∙ all.1 in
          let first = first_steps (script_lines (so_far.bytes ++ chunk)) (ended_lines (so_far.bytes ++ chunk)) all.0 lines in
          let now = steps_more chunk chunk_now steps_now same_chunk took in
          (so_far.bytes ++ chunk, consumes_more left left_now left_next so_far.bytes chunk so_far.read read, omega (arith, first, now))

      -- no line was answered behind it, whatever was read
      pub within_so_far : (left_next : Option (List ℕ)) (chunk : List ℕ) → Consumes left_now left_next chunk
          → StepsWithin most m left left_next before steps
      within_so_far left_next chunk read = within_piece left_next chunk chunk steps read refl (omega arith)

      pub within_kept : (left_next : Option (List ℕ)) → Keeps left_now left_next
          → StepsWithin most m left left_next before steps
      within_kept left_next kept =
          let all = lines_go_on so_far.bytes [] in
          let lines = ap script_lines (sym (append-nil so_far.bytes)) ∙ all.1 in
          let first = first_steps (script_lines so_far.bytes) (ended_lines so_far.bytes) all.0 lines in
          (so_far.bytes, Consumes-kept left left_now left_next so_far.bytes so_far.read kept, omega (arith, first, counted))

      -- the last line was answered
      pub within_all : (left_next : Option (List ℕ)) (steps_now : ℕ) → Consumes left_now left_next []
          → steps_now ≤ steps + there.steps most (script_lines held)
          → StepsWithin most m left left_next before steps_now
      within_all left_next steps_now read took =
          let sum = ap (m.steps most) lines_at_end ∙ steps_behind (script_lines held) in
          let whole = subst (Consumes left left_next) (append-nil so_far.bytes) (consumes_more left left_now left_next so_far.bytes [] so_far.read read) in
          (so_far.bytes, whole, omega (arith, counted, took, sum))
