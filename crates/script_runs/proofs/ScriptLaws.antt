-- A script at its end: what was written is what is defined.
use Rattle.std.proofs.Common.{◌≡◌, ℕ, ◌+◌, ◌-◌, ◌<◌, ◌≤◌, true, false, List, [], ◌++◌, length, take, Option, refl, sym, ap, subst, ◌∙◌, arith, append_assoc, length-append}
use Rattle.std.specs.Prelude.{nat_le, if◌then◌else◌}
use Rattle.std.proofs.lemmas.Bool.{le-leb, lt-leb}
use Rattle.std.proofs.lemmas.List.{append-nil}
use Rattle.std.proofs.Math.Seq.{take-append-add, take-append_seam}
use Rattle.std.specs.Io.KnownBytes.{Appends, Consumes}
use Rattle.fg_io.specs.Outside.{MayBe, Output}
use Rattle.std.proofs.KnownBytes.{Appends-kept}
use Rattle.fg_io.proofs.SentLaws.{appends_none}
use Rattle.script_lines.specs.Joined.{joined}
use Rattle.session_lines.specs.Writing.{WroteLines}
use Rattle.session_lines.proofs.WritingLaws.{lines_none, lines_on}
use Rattle.fg_io.proofs.ConsumedLaws.{consumes_more, consumes_none, may_go_on}
use Rattle.script_lines.specs.Lines.{ScriptLine, script_lines, ended_lines, HasNoNewline}
use Rattle.script_lines.proofs.EndedLaws.{ended_follows, ended_goes_on, lines_go_on}
use Rattle.script_runs.specs.declared.status.Status.TheVariants.{Done, ScriptTooLong, NoMemory}
use Rattle.script_runs.specs.Meanings.{Behind, IsBeginning, IsQuit, Meaning, texts}
use Rattle.script_runs.specs.AnsweredLines.{LinesOutput}
use Rattle.script_runs.specs.SoFar.{AnsweredSoFar}
use Rattle.script_runs.specs.Devices.{BeforeAfter, SentNothing, SentPart, SentWhole}
use Rattle.script_runs.specs.ScriptEnds.{ScriptDid, RepliedFirst, ScriptEnds}
use Rattle.script_runs.specs.DefinedScript.{script_limit, answered_lines, defined_script}
use Rattle.script_runs.proofs.MeaningLaws.{behind_none, behind_on, texts_behind}

-- ---- a script by the lines of its front

pub take_front : (xs ys : List ℕ) (n : ℕ) → length xs ≤ n → take n (xs ++ ys) ≡ xs ++ take (n - length xs) ys
take_front xs ys n short =
    let split : n ≡ length xs + (n - length xs) = omega arith in
    ap (λ m. take m (xs ++ ys)) split ∙ take-append-add xs ys (n - length xs)

-- the lines that ended in a front within the limit are answered, and then others
pub ended_are_answered : (front more : List ℕ) → length front ≤ script_limit → (others : List ScriptLine) × (answered_lines (front ++ more) ≡ ended_lines front ++ others)
unfolding answered_lines
ended_are_answered front more short =
    elim (nat_le (length (front ++ more)) script_limit) as (λ b. (others : List ScriptLine) × ((if b then script_lines (front ++ more) else ended_lines (take script_limit (front ++ more))) ≡ ended_lines front ++ others)) [
      | true ↦ lines_go_on front more
      | false ↦ subst (λ l. (others : List ScriptLine) × (ended_lines l ≡ ended_lines front ++ others)) (sym (take_front front more script_limit short)) (ended_goes_on front (take (script_limit - length front) more))
    ]

-- within the limit all lines are answered, and past it those that end within it
pub short_lines : (script : List ℕ) → length script ≤ script_limit → answered_lines script ≡ script_lines script
unfolding answered_lines
short_lines script short = ap (λ b. if b then script_lines script else ended_lines (take script_limit script)) (le-leb (length script) script_limit short)

pub long_lines : (front more : List ℕ) → length front ≡ script_limit → script_limit < length (front ++ more) → answered_lines (front ++ more) ≡ ended_lines front
unfolding answered_lines
long_lines front more full long =
    ap (λ b. if b then script_lines (front ++ more) else ended_lines (take script_limit (front ++ more))) (lt-leb (length (front ++ more)) script_limit long)
    ∙ ap ended_lines (ap (λ n. take n (front ++ more)) (sym full) ∙ take-append_seam front more)

module _ (m : Meaning) (script : List ℕ) where
  pub defined_text : (defined_script m script).text ≡ texts m (answered_lines script)
  unfolding defined_script
  defined_text = refl

  -- it is done within the limit, and where `quit` is among the lines
  pub short_is_done : length script ≤ script_limit → (defined_script m script).status ≡ Done
  unfolding defined_script
  short_is_done short = ap (λ b. if b then Done else if m.over (answered_lines script) then Done else ScriptTooLong) (le-leb (length script) script_limit short)

  pub over_is_done : m.over (answered_lines script) ≡ true → (defined_script m script).status ≡ Done
  unfolding defined_script
  over_is_done over =
      elim (nat_le (length script) script_limit) as (λ b. (if b then Done else if m.over (answered_lines script) then Done else ScriptTooLong) ≡ Done) [
        | true ↦ refl
        | false ↦ ap (λ b. if b then Done else ScriptTooLong) over
      ]

  -- and else too long
  pub long_is_too_long : script_limit < length script → m.over (answered_lines script) ≡ false → (defined_script m script).status ≡ ScriptTooLong
  unfolding defined_script
  long_is_too_long long open_still =
      ap (λ b. if b then Done else if m.over (answered_lines script) then Done else ScriptTooLong) (lt-leb (length script) script_limit long)
      ∙ ap (λ b. if b then Done else ScriptTooLong) open_still

-- ---- a piece behind the bytes that were answered

pub output_then : (m there next : Meaning) (a b : Output) (Next All : List (List ℕ) → Type 0) → ((xs ys : List (List ℕ)) → WroteLines a b xs → Next ys → All (xs ++ ys)) → (bytes held chunk chunk_now held_next behind : List ℕ)
    → LinesOutput m (WroteLines a b) [] bytes there held [] → chunk_now ≡ chunk → LinesOutput there Next held chunk_now next held_next behind
    → LinesOutput m All [] (bytes ++ chunk) next held_next behind
output_then m there next a b Next All compose bytes held chunk chunk_now held_next behind output same_chunk more = both (subst (λ l. LinesOutput there Next held l next held_next behind) same_chunk more)
  where
    both : LinesOutput there Next held chunk next held_next behind → LinesOutput m All [] (bytes ++ chunk) next held_next behind
    both piece = record {
      lines = output.lines ++ piece.lines;
      cut = λ l.
          ap script_lines (append_assoc bytes chunk l)
          ∙ output.cut (chunk ++ l)
          ∙ ap (λ k. output.lines ++ k) (piece.cut l)
          ∙ sym (append_assoc output.lines piece.lines (script_lines (held_next ++ (behind ++ l))));
      wrote = subst All (sym (output.left.replies piece.lines)) (compose (m.replies output.lines) (there.replies piece.lines) output.wrote piece.wrote);
      left = behind_on m there next output.lines piece.lines output.left piece.left;
    }

-- before the first byte
unfoldable pub none_so_far : (m : Meaning) → IsBeginning m → (left : Option (List ℕ)) (sink : Output) → AnsweredSoFar m left left sink sink 0 m []
none_so_far m begins left sink = record {
  bytes = [];
  read = consumes_none left;
  counted = refl;
  output = record { lines = []; cut = λ more. refl; wrote = subst (WroteLines sink sink) (sym begins.replies) (lines_none sink); left = behind_none m begins };
  unquit = begins.over;
  unended = λ k d h. absurd (omega (arith, h));
}

-- these bytes more
pub more_so_far : (m there next : Meaning) (a b c : Output) (left left_now left_next : Option (List ℕ)) (count n : ℕ) (held held_next chunk chunk_now : List ℕ)
    → (so_far : AnsweredSoFar m left left_now a b count there held) → Consumes left_now left_next chunk → n ≡ length chunk → chunk_now ≡ chunk
    → LinesOutput there (WroteLines b c) held chunk_now next held_next [] → next.over [] ≡ false → HasNoNewline held_next
    → (now : AnsweredSoFar m left left_next a c (count + n) next held_next) × (now.bytes ≡ so_far.bytes ++ chunk)
more_so_far m there next a b c left left_now left_next count n held held_next chunk chunk_now so_far read long same_chunk output unquit unended = (
  record {
    bytes = so_far.bytes ++ chunk;
    read = consumes_more left left_now left_next so_far.bytes chunk so_far.read read;
    counted = omega (arith, so_far.counted, long, length-append so_far.bytes chunk);
    output = output_then m there next a b (WroteLines b c) (WroteLines a c) (lines_on a b c) so_far.bytes held chunk chunk_now held_next [] so_far.output same_chunk output;
    unquit = unquit;
    unended = unended;
  },
  refl,
)

-- ---- ends

-- a text was written whole, and what is defined goes on behind it
pub part_of : (output : BeforeAfter Output) (text more defined : List ℕ) → defined ≡ text ++ more → SentWhole output text → SentPart output defined
part_of output text more defined split wrote = (more, record { front = text; took = wrote; split = split })

-- nothing is a part of every text
pub nothing_part : (output : BeforeAfter Output) (text : List ℕ) → SentNothing output → SentPart output text
nothing_part output text kept =
    part_of output [] text text refl (Appends-kept output.before.taken output.before.taken output.after.taken [] (appends_none output.before.taken) kept)

-- the replies to the first lines that are answered are a part of what is defined
module _ (m : Meaning) (script : List ℕ) (lines others : List ScriptLine) (rest : Meaning) (left : Behind m lines rest) (answers : answered_lines script ≡ lines ++ others) where
  pub first_lines : (defined_script m script).text ≡ texts m lines ++ texts rest others
  first_lines = defined_text m script ∙ ap (texts m) answers ∙ texts_behind m rest lines others left

  pub part_by_lines : (output : BeforeAfter Output) → SentWhole output (texts m lines) → SentPart output (defined_script m script).text
  part_by_lines output wrote = part_of output (texts m lines) (texts rest others) (defined_script m script).text first_lines wrote

-- the replies to the first lines of a script were written
pub replied_first : (m : Meaning) (did : ScriptDid) (script : List ℕ) (lines others : List ScriptLine) → MayBe did.input.before.left script → answered_lines script ≡ lines ++ others → SentWhole did.output (texts m lines) → RepliedFirst m did
replied_first m did script lines others read answers wrote = record {
  script = script;
  read = read;
  count = length lines;
  replied = rw (ap (take (length lines)) answers ∙ take-append_seam lines others) wrote;
}

-- what was written of a script whose front was answered
module _ (m : Meaning) (did : ScriptDid) (Wrote : List (List ℕ) → Type 0) (front : List ℕ) (there : Meaning) (held_now behind : List ℕ) (output : LinesOutput m Wrote [] front there held_now behind) (short : length front ≤ script_limit) where
  abbrev text : List ℕ
  text = texts m output.lines

  -- the lines that ended in the front are those that were answered, and those that stand behind
  front_ended : ended_lines front ≡ output.lines ++ ended_lines (held_now ++ behind)
  front_ended = ended_follows front (held_now ++ behind) output.lines (λ l. output.cut l ∙ ap (λ k. output.lines ++ script_lines k) (sym (append_assoc held_now behind l)))

  -- they are answered, and then others
  pub front_answered : (more : List ℕ) → (others : List ScriptLine) × (answered_lines (front ++ more) ≡ output.lines ++ others)
  front_answered more =
      let ended = ended_are_answered front more short in
      (ended_lines (held_now ++ behind) ++ ended.0, ended.1 ∙ ap (λ l. l ++ ended.0) front_ended ∙ append_assoc output.lines (ended_lines (held_now ++ behind)) ended.0)

  -- a part of it
  pub part_written : (more : List ℕ) → SentPart did.output text → SentPart did.output (defined_script m (front ++ more)).text
  part_written more (rest, sent) =
      let answered = front_answered more in
      let others = texts there answered.0 in (
        rest ++ others,
        record {
          front = sent.front;
          took = sent.took;
          split = first_lines m (front ++ more) output.lines answered.0 there output.left answered.1 ∙ ap (λ l. l ++ others) sent.split ∙ append_assoc sent.front rest others;
        },
      )

  -- all of it, where one of them was `quit`
  module _ (quit : IsQuit there) where
    over_behind : (others : List ScriptLine) → m.over (output.lines ++ others) ≡ true
    over_behind others = output.left.over others ∙ quit.over others

    over_now : (more : List ℕ) → m.over (answered_lines (front ++ more)) ≡ true
    over_now more = let answered = front_answered more in ap m.over answered.1 ∙ over_behind answered.0

    pub done_behind : (more : List ℕ) → (defined_script m (front ++ more)).status ≡ Done
    done_behind more = over_is_done m (front ++ more) (over_now more)

    -- the answers that it left
    pub answers_behind : (more : List ℕ) → m.answers (answered_lines (front ++ more)) ≡ there.answers []
    answers_behind more = let answered = front_answered more in ap m.answers answered.1 ∙ output.left.answers answered.0 ∙ quit.answers answered.0

    -- it ended in the front
    pub over_in_front : m.over (ended_lines front) ≡ true
    over_in_front = ap m.over front_ended ∙ over_behind (ended_lines (held_now ++ behind))

    pub over_written : (more : List ℕ) → SentWhole did.output text → ((defined_script m (front ++ more)).status ≡ Done) × SentWhole did.output (defined_script m (front ++ more)).text
    over_written more whole =
        let answered = front_answered more in
        let same : (defined_script m (front ++ more)).text ≡ text =
        first_lines m (front ++ more) output.lines answered.0 there output.left answered.1 ∙ ap (λ (ls : List (List ℕ)). text ++ joined ls) (quit.replies answered.0) ∙ append-nil text in
        (done_behind more, subst (λ t. Appends did.output.before.taken did.output.after.taken t) (sym same) whole)

  pub first_written : (more : List ℕ) → MayBe did.input.before.left (front ++ more) → SentWhole did.output text → RepliedFirst m did
  first_written more read whole =
      let answered = front_answered more in
      replied_first m did (front ++ more) output.lines answered.0 read answered.1 whole

-- ---- a script that isn't begun

pub not_begun : (m : Meaning) → IsBeginning m → (did : ScriptDid) → did.output.before.taken ≡ did.output.after.taken → ScriptEnds m did NoMemory
not_begun m begins did still =
    let some = may_go_on did.input.before.left did.input.before.left [] (consumes_none did.input.before.left) in
    record {
      script = some.0;
      read = some.1;
      count = 0;
      replied = subst (λ (ls : List (List ℕ)). Appends did.output.before.taken did.output.after.taken (joined ls)) (sym begins.replies) (subst (λ now. Appends did.output.before.taken now []) still (appends_none did.output.before.taken));
    }
