-- How a script ends, from how far it went.
use Rattle.std.proofs.Common.{◌≡◌, ◌≢◌, ℕ, ◌+◌, ◌<◌, ◌≤◌, false, List, [], ◌++◌, length, inl, inr, refl, sym, ap, subst, ◌∙◌, arith, append_assoc, length-append}
use Rattle.std.proofs.lemmas.List.{append-nil}
use Rattle.std.specs.Io.KnownBytes.{Appends, Consumes, Keeps, IsAtEnd}
use Rattle.std.proofs.KnownBytes.{Consumes-kept}
use Rattle.fg_io.specs.Outside.{Input, MayBe, Output, Rose}
use Rattle.session_lines.specs.Writing.{WroteLines, WroteSome}
use Rattle.session_lines.proofs.WritingLaws.{lines_on, some_before, some_on}
use Rattle.fg_io.proofs.ConsumedLaws.{consumes_more, may_be_whole, may_go_on}
use Rattle.script_lines.specs.Lines.{ScriptLine, script_lines, ended_lines}
use Rattle.session_lines.specs.declared.progress.Progress.{Progress}
use Rattle.session_lines.specs.declared.progress.Progress.TheVariants.{More, Over, Unwritten, OutOfMemory}
use Rattle.script_runs.specs.declared.status.Status.{Status}
use Rattle.script_runs.specs.declared.status.Status.TheVariants.{Done, ReadFault, WriteFault, ScriptTooLong, NoMemory}
use Rattle.answers.specs.Answered.{Answered}
use Rattle.script_runs.specs.Meanings.{IsQuit, Meaning, texts}
use Rattle.script_runs.specs.Exchange.{Leaves, Told}
use Rattle.script_runs.specs.DefinedScript.{script_limit, answered_lines, defined_script}
use Rattle.script_runs.specs.AnsweredLines.{LineOutputAs, LinesOutput, SomeOutput}
use Rattle.script_runs.specs.ScriptEnds.{LeavesAnswers, ScriptDid, ScriptEnds, ending_of, piece_limit}
use Rattle.script_runs.specs.SoFar.{AnsweredSoFar}
use Rattle.script_runs.specs.Devices.{SentPart}
use Rattle.script_runs.proofs.SoFarLaws.{ended_so_far, replied_so_far, unquit_so_far}
use Rattle.script_runs.proofs.ScriptLaws.{answers_behind, defined_text, done_behind, first_written, front_answered, long_is_too_long, long_lines, over_in_front, over_written, part_written, replied_first, short_is_done, short_lines, output_then}

module _ (m : Meaning) (did : ScriptDid) (source_now : Input) (sink_now : Output) (count : ℕ) (there : Meaning) (held : List ℕ)
    (so_far : AnsweredSoFar m did.input.before.left source_now.left did.output.before sink_now count there held) where
  abbrev lines_so_far : List ScriptLine
  lines_so_far = so_far.output.lines

  abbrev text_so_far : List ℕ
  text_so_far = texts m lines_so_far

  -- ---- at the end of the source

  all_read : Consumes source_now.left did.input.after.left [] → Consumes did.input.before.left did.input.after.left so_far.bytes
  all_read read =
      subst (Consumes did.input.before.left did.input.after.left) (append-nil so_far.bytes) (consumes_more did.input.before.left source_now.left did.input.after.left so_far.bytes [] so_far.read read)

  script_read : Consumes source_now.left did.input.after.left [] → IsAtEnd did.input.after.left → MayBe did.input.before.left so_far.bytes
  script_read read end = may_be_whole did.input.before.left did.input.after.left so_far.bytes (all_read read) end

  short_bytes : count ≤ script_limit → length so_far.bytes ≤ script_limit
  short_bytes short = omega (arith, so_far.counted)

  all_lines : count ≤ script_limit → answered_lines so_far.bytes ≡ lines_so_far ++ script_lines held
  all_lines short =
      short_lines so_far.bytes (short_bytes short)
      ∙ ap script_lines (sym (append-nil so_far.bytes))
      ∙ so_far.output.cut []
      ∙ ap (λ l. lines_so_far ++ script_lines l) (append-nil held)

  all_replies : count ≤ script_limit → m.replies (answered_lines so_far.bytes) ≡ m.replies lines_so_far ++ there.replies (script_lines held)
  all_replies short = ap m.replies (all_lines short) ∙ so_far.output.left.replies (script_lines held)

  -- the last line was answered whole, or in part
  last_whole : count ≤ script_limit → WroteLines sink_now did.output.after (there.replies (script_lines held)) → WroteLines did.output.before did.output.after (m.replies (answered_lines so_far.bytes))
  last_whole short wrote =
      subst (WroteLines did.output.before did.output.after) (sym (all_replies short))
      (lines_on did.output.before sink_now did.output.after (m.replies lines_so_far) (there.replies (script_lines held)) so_far.output.wrote wrote)

  last_part : count ≤ script_limit → WroteSome sink_now did.output.after (there.replies (script_lines held)) → WroteSome did.output.before did.output.after (m.replies (answered_lines so_far.bytes))
  last_part short wrote =
      subst (WroteSome did.output.before did.output.after) (sym (all_replies short))
      (some_on did.output.before sink_now did.output.after (m.replies lines_so_far) (there.replies (script_lines held)) so_far.output.wrote wrote)

  whole_sent : count ≤ script_limit → Consumes source_now.left did.input.after.left [] → IsAtEnd did.input.after.left → WroteLines sink_now did.output.after (there.replies (script_lines held)) → ScriptEnds m did Done
  whole_sent short read end wrote =
      let sent = subst (Appends did.output.before.taken did.output.after.taken) (sym (defined_text m so_far.bytes)) (last_whole short wrote).bytes in
      ((so_far.bytes, script_read read end, short_is_done m so_far.bytes (short_bytes short), sent), inl (so_far.bytes, all_read read, end))

  -- what was told in all
  told_by : (MeansNow : Meaning → Type 0) (answers : Answered) → count ≤ script_limit → (progress : Progress) → LineOutputAs MeansNow sink_now did.output.after there answers (script_lines held) progress
      → Told did.output.before did.output.after m so_far.bytes (ending_of progress)
  told_by MeansNow answers short More output = last_whole short output.0
  told_by MeansNow answers short Over output = last_whole short output.0
  told_by MeansNow answers short Unwritten output = last_part short output.0
  told_by MeansNow answers short OutOfMemory output =
      (m.replies lines_so_far, (there.replies (script_lines held), (all_replies short, subst (λ (now : Output). WroteLines did.output.before now (m.replies lines_so_far)) (sym output.0) so_far.output.wrote)))

  pub told_at_end : (MeansNow : Meaning → Type 0) (answers : Answered) → count ≤ script_limit → (progress : Progress) (status : Status) → status ≡ ending_of progress
      → LineOutputAs MeansNow sink_now did.output.after there answers (script_lines held) progress → (bytes : List ℕ) → bytes ≡ so_far.bytes → Told did.output.before did.output.after m bytes status
  told_at_end MeansNow answers short progress status is output bytes same =
      subst (Told did.output.before did.output.after m bytes) (sym is) (subst (λ (b : List ℕ). Told did.output.before did.output.after m b (ending_of progress)) (sym same) (told_by MeansNow answers short progress output))

  -- and what it leaves
  left_by : (MeansNow : Meaning → Type 0) (answers : Answered) → count ≤ script_limit → (progress : Progress) → LineOutputAs MeansNow sink_now did.output.after there answers (script_lines held) progress
      → Leaves m so_far.bytes answers (ending_of progress)
  left_by MeansNow answers short More output = ap m.answers (all_lines short) ∙ so_far.output.left.answers (script_lines held) ∙ output.1
  left_by MeansNow answers short Over output = ap m.answers (all_lines short) ∙ so_far.output.left.answers (script_lines held) ∙ output.1
  left_by MeansNow answers short Unwritten output = tt
  left_by MeansNow answers short OutOfMemory output = tt

  pub left_at_end : (MeansNow : Meaning → Type 0) (answers : Answered) → count ≤ script_limit → (progress : Progress) (status : Status) → status ≡ ending_of progress
      → LineOutputAs MeansNow sink_now did.output.after there answers (script_lines held) progress → (bytes : List ℕ) → bytes ≡ so_far.bytes → Leaves m bytes answers status
  left_at_end MeansNow answers short progress status is output bytes same =
      subst (Leaves m bytes answers) (sym is) (subst (λ (b : List ℕ). Leaves m b answers (ending_of progress)) (sym same) (left_by MeansNow answers short progress output))

  module _ (MeansNow : Meaning → Type 0) (answers : Answered) (short : count ≤ script_limit) (read : Consumes source_now.left did.input.after.left []) (end : IsAtEnd did.input.after.left) where
    ends_by : (progress : Progress) → LineOutputAs MeansNow sink_now did.output.after there answers (script_lines held) progress → ScriptEnds m did (ending_of progress)
    ends_by More output = whole_sent short read end output.0
    ends_by Over output = whole_sent short read end output.0
    ends_by Unwritten output =
        let part = last_part short output.0 in (
          omega (arith, part.puts.counted.0),
          (so_far.bytes, script_read read end, subst (SentPart did.output) (sym (defined_text m so_far.bytes)) part.bytes),
        )
    ends_by OutOfMemory output =
        replied_first m did so_far.bytes lines_so_far _ (script_read read end) (all_lines short) (subst (λ (now : Output). Appends did.output.before.taken now.taken text_so_far) (sym output.0) so_far.output.wrote.bytes)

    pub ends_at : (progress : Progress) (status : Status) → status ≡ ending_of progress
        → LineOutputAs MeansNow sink_now did.output.after there answers (script_lines held) progress → ScriptEnds m did status
    ends_at progress status is output = subst (ScriptEnds m did) (sym is) (ends_by progress output)

    -- the answers that the last line leaves
    left_whole : there.answers (script_lines held) ≡ answers → LeavesAnswers m did.input.before.left answers Done
    left_whole left = (
      so_far.bytes,
      script_read read end,
      short_is_done m so_far.bytes (short_bytes short),
      ap m.answers (all_lines short) ∙ so_far.output.left.answers (script_lines held) ∙ left,
    )

    leaves_by : (progress : Progress) → LineOutputAs MeansNow sink_now did.output.after there answers (script_lines held) progress → LeavesAnswers m did.input.before.left answers (ending_of progress)
    leaves_by More output = left_whole output.1
    leaves_by Over output = left_whole output.1
    leaves_by Unwritten output = tt
    leaves_by OutOfMemory output = tt

    pub leaves_at : (progress : Progress) (status : Status) → status ≡ ending_of progress
        → LineOutputAs MeansNow sink_now did.output.after there answers (script_lines held) progress → LeavesAnswers m did.input.before.left answers status
    leaves_at progress status is output = subst (LeavesAnswers m did.input.before.left answers) (sym is) (leaves_by progress output)

  -- ---- between pieces

  abbrev ended : lines_so_far ≡ ended_lines so_far.bytes
  ended = ended_so_far m did.input.before.left source_now.left did.output.before sink_now count there held so_far

  -- no `quit` ended so far
  abbrev open_still : m.over (ended_lines so_far.bytes) ≡ false
  open_still = unquit_so_far m did.input.before.left source_now.left did.output.before sink_now count there held so_far

  -- ---- in a piece

  module _ (chunk chunk_now : List ℕ) (n : ℕ) (read : Consumes source_now.left did.input.after.left chunk) (long : n ≡ length chunk) (same_chunk : chunk_now ≡ chunk) (short : count + n ≤ script_limit) where
    read_so_far : Consumes did.input.before.left did.input.after.left (so_far.bytes ++ chunk)
    read_so_far = consumes_more did.input.before.left source_now.left did.input.after.left so_far.bytes chunk so_far.read read

    short_so_far : length (so_far.bytes ++ chunk) ≤ script_limit
    short_so_far = omega (arith, so_far.counted, length-append so_far.bytes chunk)

    abbrev Whole : List (List ℕ) → Type 0
    Whole = WroteLines did.output.before did.output.after

    abbrev Part : List (List ℕ) → Type 0
    Part = WroteSome did.output.before did.output.after

    whole : (some : SomeOutput there (WroteLines sink_now did.output.after) held chunk_now) → LinesOutput m Whole [] (so_far.bytes ++ chunk) some.there some.held_now some.behind
    whole some =
        output_then m there some.there did.output.before sink_now (WroteLines sink_now did.output.after) Whole (lines_on did.output.before sink_now did.output.after) so_far.bytes held chunk chunk_now some.held_now some.behind so_far.output same_chunk some.output

    part : (some : SomeOutput there (WroteSome sink_now did.output.after) held chunk_now) → LinesOutput m Part [] (so_far.bytes ++ chunk) some.there some.held_now some.behind
    part some =
        output_then m there some.there did.output.before sink_now (WroteSome sink_now did.output.after) Part (some_on did.output.before sink_now did.output.after) so_far.bytes held chunk chunk_now some.held_now some.behind so_far.output same_chunk some.output

    -- the lines that are answered in all are those that were, and others
    replies_and_others : (Wrote : List (List ℕ) → Type 0) (next : Meaning) (held_next behind : List ℕ) (output : LinesOutput m Wrote [] (so_far.bytes ++ chunk) next held_next behind)
        → (others : List ScriptLine) × (m.replies (answered_lines (so_far.bytes ++ chunk)) ≡ m.replies output.lines ++ next.replies others)
    replies_and_others Wrote next held_next behind output =
        let answered = front_answered m did Wrote (so_far.bytes ++ chunk) next held_next behind output short_so_far [] in
        (answered.0, ap (λ (b : List ℕ). m.replies (answered_lines b)) (sym (append-nil (so_far.bytes ++ chunk))) ∙ ap m.replies answered.1 ∙ output.left.replies answered.0)

    -- what was told in all
    pub told_over : (some : SomeOutput there (WroteLines sink_now did.output.after) held chunk_now) → IsQuit some.there → Told did.output.before did.output.after m (so_far.bytes ++ chunk) Done
    told_over some quit =
        let output = whole some in
        let all = replies_and_others Whole some.there some.held_now some.behind output in
        subst Whole (sym (all.1 ∙ ap (λ (ls : List (List ℕ)). m.replies output.lines ++ ls) (quit.replies all.0) ∙ append-nil (m.replies output.lines))) output.wrote

    pub told_part : SomeOutput there (WroteSome sink_now did.output.after) held chunk_now → Told did.output.before did.output.after m (so_far.bytes ++ chunk) WriteFault
    told_part some =
        let output = part some in
        let all = replies_and_others Part some.there some.held_now some.behind output in
        subst Part (sym all.1) (some_before did.output.before did.output.after (m.replies output.lines) (some.there.replies all.0) output.wrote)

    pub told_first : SomeOutput there (WroteLines sink_now did.output.after) held chunk_now → Told did.output.before did.output.after m (so_far.bytes ++ chunk) NoMemory
    told_first some =
        let output = whole some in
        let all = replies_and_others Whole some.there some.held_now some.behind output in
        (m.replies output.lines, (some.there.replies all.0, (all.1, output.wrote)))

    module _ (some : SomeOutput there (WroteLines sink_now did.output.after) held chunk_now) (quit : IsQuit some.there) where
      pub ends_over : n ≤ piece_limit → ScriptEnds m did Done
      ends_over little =
          let more = may_go_on did.input.before.left did.input.after.left (so_far.bytes ++ chunk) read_so_far in
          let ended = over_written m did Whole (so_far.bytes ++ chunk) some.there some.held_now some.behind (whole some) short_so_far quit more.0 (whole some).wrote.bytes in (
            ((so_far.bytes ++ chunk) ++ more.0, more.1, ended.0, ended.1),
            inr (record {
              earlier = so_far.bytes;
              piece = chunk;
              read = read_so_far;
              short = omega (arith, long, little);
              unquit = open_still;
              quit = over_in_front m did Whole (so_far.bytes ++ chunk) some.there some.held_now some.behind (whole some) short_so_far quit;
            }),
          )

      pub leaves_over : (answers : Answered) → some.there.answers [] ≡ answers → LeavesAnswers m did.input.before.left answers Done
      leaves_over answers left =
          let more = may_go_on did.input.before.left did.input.after.left (so_far.bytes ++ chunk) read_so_far in (
            (so_far.bytes ++ chunk) ++ more.0,
            more.1,
            done_behind m did Whole (so_far.bytes ++ chunk) some.there some.held_now some.behind (whole some) short_so_far quit more.0,
            answers_behind m did Whole (so_far.bytes ++ chunk) some.there some.held_now some.behind (whole some) short_so_far quit more.0 ∙ left,
          )

      -- in the piece alone
      pub left_over : (answers : Answered) → some.there.answers [] ≡ answers → Leaves m (so_far.bytes ++ chunk) answers Done
      left_over answers left =
          ap (λ (b : List ℕ). m.answers (answered_lines b)) (sym (append-nil (so_far.bytes ++ chunk)))
          ∙ answers_behind m did Whole (so_far.bytes ++ chunk) some.there some.held_now some.behind (whole some) short_so_far quit []
          ∙ left

    pub ends_unwritten : SomeOutput there (WroteSome sink_now did.output.after) held chunk_now → ScriptEnds m did WriteFault
    ends_unwritten some =
        let more = may_go_on did.input.before.left did.input.after.left (so_far.bytes ++ chunk) read_so_far in
        let output = part some in
        (omega (arith, output.wrote.puts.counted.0), ((so_far.bytes ++ chunk) ++ more.0, more.1, part_written m did Part (so_far.bytes ++ chunk) some.there some.held_now some.behind output short_so_far more.0 output.wrote.bytes))

    pub ends_out_of_memory : SomeOutput there (WroteLines sink_now did.output.after) held chunk_now → ScriptEnds m did NoMemory
    ends_out_of_memory some =
        let more = may_go_on did.input.before.left did.input.after.left (so_far.bytes ++ chunk) read_so_far in
        first_written m did Whole (so_far.bytes ++ chunk) some.there some.held_now some.behind (whole some) short_so_far more.0 more.1 (whole some).wrote.bytes

  -- ---- at the end of a piece

  pub ends_unread : count ≤ script_limit → sink_now.taken ≡ did.output.after.taken → Keeps source_now.left did.input.after.left → Rose did.input.before.faults did.input.after.faults → ScriptEnds m did ReadFault
  ends_unread short same_taken kept rose = (
    rose,
    record {
      bytes = so_far.bytes;
      read = Consumes-kept did.input.before.left source_now.left did.input.after.left so_far.bytes so_far.read kept;
      within = short_bytes short;
      unquit = open_still;
      replied = subst (λ now. Appends did.output.before.taken now (texts m (ended_lines so_far.bytes))) same_taken
          (replied_so_far m did.input.before.left source_now.left did.output.before sink_now count there held so_far).bytes;
    },
  )

  pub ends_too_long : (chunk : List ℕ) → sink_now.taken ≡ did.output.after.taken → Consumes source_now.left did.input.after.left chunk → count ≡ script_limit → 0 < length chunk → ScriptEnds m did ScriptTooLong
  ends_too_long chunk same_taken read full some =
      let more = may_go_on did.input.before.left did.input.after.left (so_far.bytes ++ chunk) (consumes_more did.input.before.left source_now.left did.input.after.left so_far.bytes chunk so_far.read read) in
      let full_bytes : length so_far.bytes ≡ script_limit = omega (arith, so_far.counted, full) in
      let past : script_limit < length (so_far.bytes ++ (chunk ++ more.0)) = omega (arith, full_bytes, length-append so_far.bytes (chunk ++ more.0), length-append chunk more.0) in
      let joint = append_assoc so_far.bytes chunk more.0 in
      let same : answered_lines ((so_far.bytes ++ chunk) ++ more.0) ≡ ended_lines so_far.bytes = ap answered_lines joint ∙ long_lines so_far.bytes (chunk ++ more.0) full_bytes past in
      let past_all : script_limit < length ((so_far.bytes ++ chunk) ++ more.0) = omega (arith, past, ap length joint) in
      let text : texts m lines_so_far ≡ (defined_script m ((so_far.bytes ++ chunk) ++ more.0)).text =
      ap (texts m) (ended ∙ sym same) ∙ sym (defined_text m ((so_far.bytes ++ chunk) ++ more.0)) in (
        (so_far.bytes ++ chunk) ++ more.0,
        more.1,
        long_is_too_long m ((so_far.bytes ++ chunk) ++ more.0) past_all (ap m.over same ∙ open_still),
        subst (λ now. Appends did.output.before.taken now (defined_script m ((so_far.bytes ++ chunk) ++ more.0)).text) same_taken
            (subst (λ t. Appends did.output.before.taken sink_now.taken t) text so_far.output.wrote.bytes),
      )

  -- a failed read leaves the last line
  pub told_unread : (bytes : List ℕ) → bytes ≡ so_far.bytes → Told did.output.before sink_now m bytes ReadFault
  told_unread bytes same =
      subst (λ (b : List ℕ). WroteLines did.output.before sink_now (m.replies (ended_lines b))) (sym same) (replied_so_far m did.input.before.left source_now.left did.output.before sink_now count there held so_far)

  -- and so does the limit
  pub told_too_long : (chunk : List ℕ) → count ≡ script_limit → 0 < length chunk → Told did.output.before sink_now m (so_far.bytes ++ chunk) ScriptTooLong
  told_too_long chunk full some =
      let full_bytes : length so_far.bytes ≡ script_limit = omega (arith, so_far.counted, full) in
      let past : script_limit < length (so_far.bytes ++ chunk) = omega (arith, full_bytes, length-append so_far.bytes chunk) in
      subst (λ (ls : List ScriptLine). WroteLines did.output.before sink_now (m.replies ls)) (sym (long_lines so_far.bytes chunk full_bytes past))
      (replied_so_far m did.input.before.left source_now.left did.output.before sink_now count there held so_far)

-- where the last line was answered quietly, no write failed
pub quiet_at_end : (progress : Progress) (status : Status) → status ≡ ending_of progress → progress ≢ Unwritten → status ≢ WriteFault
quiet_at_end More status is quiet = λ e. cc
quiet_at_end Over status is quiet = λ e. cc
quiet_at_end Unwritten status is quiet = absurd (quiet refl)
quiet_at_end OutOfMemory status is quiet = λ e. cc
