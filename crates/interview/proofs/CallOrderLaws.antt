-- Which calls of each device an interview makes, in which order: from the calls that it makes by its words.
use Rattle.std.proofs.Common.{◌≡◌, ◌≢◌, ◌⊎◌, ◌∙◌, ℕ, List, [], ◌∷◌, ◌++◌, map, length, drop, inl, inr, refl, sym, ap, subst, append_assoc}
use Rattle.std.proofs.lemmas.List.{append-nil}
use Rattle.std.specs.Prelude.{IsErrOf, IsTrue, Ok, Err, Vec}
use Rattle.std.specs.declared.alloc.Global.{Global}
use Rattle.fg_io.specs.Outside.{ByFetch, ByPull, Follows, Output, Pulled, Put, faulted, gave, put_failed, took}
use Rattle.fg_io.specs.Puts.{FailIn, PutAll, PutPart, Take, TakeAll}
use Rattle.fg_io.specs.declared.error.FetchFault.TheVariants.{Failed}
use Rattle.built_in.specs.declared.built_in.BuiltIn.{BuiltIn}
use Rattle.dict_tree.specs.DictParsing.{max_bytes}
use Rattle.dictionary.specs.AcceptedParts.{Named}
use Rattle.graph_session.specs.Rules.{Rules, tree_of}
use Rattle.saved_text.specs.SavedText.{saved_lines}
use Rattle.script_lines.specs.Lines.{ScriptLine, ended_lines}
use Rattle.session_lines.specs.Replies.{line_with}
use Rattle.session_lines.specs.Writing.{WroteLines, WroteSome, pieces_of}
use Rattle.session_lines.proofs.WritingLaws.{lines_on, some_before, some_on}
use Rattle.interview_ends.specs.Beginnings.{saved_limit}
use Rattle.interview.specs.CallOrder.{AreDue, AreOfRun, AreOfSave, AreOutput, CameByPulls, EachFollowsReplies, EachLineIsOnePiece, Fetch, FetchedInOrder, FollowsReplies, IsOneLine, NameNoFile, NameThenSaved, NoCallBehindAFailedOne, NoneBehindFailed, NothingIsFetched, Pull, PulledInOrder, PullsFollowReplies, PutEach, came_of}
use Rattle.interview_ends.specs.CallsFor.{Answer, ByStillFetch, CallsForAccepted, CallsForDictionary, CallsForRun, CallsForSave, CallsForSaved, CallsInVain, IsDictionary, MaySave, PutsSaved, PutsSummary, ExchangeFrom, beside}
use Rattle.interview.specs.Calls.{Calls}
use Rattle.interview_ends.specs.Given.{Given}
use Rattle.script_runs.specs.DefinedScript.{answered_lines}
use Rattle.interview_ends.specs.LastLines.{PutBy, PutsOneLine}
use Rattle.interview_ends.specs.Load.{IsOfLoad, gen_lines}
use Rattle.script_runs.specs.Meanings.{Meaning, meaning_of, silently}
use Rattle.interview_ends.specs.Save.{save_meaning}
use Rattle.script_runs.specs.Exchange.{Came, PulledBehind, Exchange, Told, asked_behind, bytes_of}
use Rattle.interview_ends.specs.Origins.{Beginning, Origin, beginning_of, by_carry, by_load, file, origin_of, program, unanswered}
use Rattle.interview.specs.Words.{IsCheck, IsForm, IsFrom, IsRun, IsSave}
use Rattle.script_runs.specs.declared.status.Status.{Status}
use Rattle.script_runs.specs.declared.status.Status.TheVariants.{Done, DictionaryRefused, FetchFault as FailedFetch, NoMemory, ReadFault, SavedRefused, ScriptTooLong, Usage, WriteFault}
use Rattle.interview.specs.declared.words.Form.{Form}
use Rattle.interview.specs.declared.words.Form.TheVariants.{Check, Gen, Run, Save, Unknown}
use Rattle.script_runs.specs.declared.mode.Mode.{Mode}

-- ---- what is fetched

module _ {H : Type 0} (fetched : ByStillFetch H) (given : Given) where
  abbrev Due : H → H → Type 0
  Due shelf shelf_now = FetchedInOrder fetched given shelf shelf_now

  none_due : (shelf shelf_now : H) → shelf_now ≡ shelf → Due shelf shelf_now
  none_due shelf shelf_now same = record { fetches = []; came = same; due = tt }

  module _ (shelf shelf_now : H) where
    -- that of a dictionary
    one_due : (name : List ℕ) (answer : Answer) → IsRun given.words (file name) ⊎ (IsCheck given.words name ⊎ IsSave given.words (file name)) → fetched shelf name max_bytes answer shelf_now → Due shelf shelf_now
    one_due name answer named called = record {
      fetches = record { name = name; at_most = max_bytes; answer = answer } ∷ [];
      came = (shelf_now, called, refl);
      due = inl (named, refl);
    }

    -- that of a saved text, for a dictionary of the program's own
    saved_due : (b : BuiltIn) (asked : IsRun given.words (program b)) (name : List ℕ) (answer : Answer) → IsFrom asked.beginning name → fetched shelf name saved_limit answer shelf_now → Due shelf shelf_now
    saved_due b asked name answer from called = record {
      fetches = record { name = name; at_most = saved_limit; answer = answer } ∷ [];
      came = (shelf_now, called, refl);
      due = inr (b, ((asked, from), refl));
    }

    -- that of a dictionary, and that of a saved text
    module _ (between : H) (name : List ℕ) (asked : IsRun given.words (file name)) (bytes : Vec ℕ Global) (called : fetched shelf name max_bytes (Ok bytes) between) (accepted : IsDictionary given.checks (Ok bytes)) where
      two_due : (saved : List ℕ) (answer : Answer) → IsFrom asked.beginning saved → fetched between saved saved_limit answer shelf_now → Due shelf shelf_now
      two_due saved answer from next = record {
        fetches = record { name = name; at_most = max_bytes; answer = Ok bytes } ∷ record { name = saved; at_most = saved_limit; answer = answer } ∷ [];
        came = (between, called, (shelf_now, next, refl));
        due = ((inl asked, refl), accepted, ((asked, from), refl));
      }

      behind_file : (ended : Type 0) (beginning : Beginning) → beginning ≡ asked.beginning → CallsForSaved fetched beginning ended between shelf_now → Due shelf shelf_now
      behind_file ended unanswered same (still, never) = one_due name (Ok bytes) (inl asked) (subst (λ (h : H). fetched shelf name max_bytes (Ok bytes) h) (sym still) called)
      behind_file ended (by_load saved) same (answer, next, tells) = two_due saved answer (subst (λ (from : Beginning). IsFrom from saved) same refl) next
      behind_file ended (by_carry saved) same (answer, next, tells) = two_due saved answer (subst (λ (from : Beginning). IsFrom from saved) same refl) next

    behind_program : (b : BuiltIn) (asked : IsRun given.words (program b)) (ended : Type 0) (beginning : Beginning) → beginning ≡ asked.beginning → CallsForSaved fetched beginning ended shelf shelf_now → Due shelf shelf_now
    behind_program b asked ended unanswered same (still, never) = none_due shelf shelf_now still
    behind_program b asked ended (by_load saved) same (answer, next, tells) = saved_due b asked saved answer (subst (λ (from : Beginning). IsFrom from saved) same refl) next
    behind_program b asked ended (by_carry saved) same (answer, next, tells) = saved_due b asked saved answer (subst (λ (from : Beginning). IsFrom from saved) same refl) next

    abbrev IsNamed : Origin → Type 0
    IsNamed (file name) = IsRun given.words (file name) ⊎ (IsCheck given.words name ⊎ IsSave given.words (file name))
    IsNamed (program b) = Unit {0}

    dictionary_due : (origin : Origin) → IsNamed origin → (ended : Type 0) → CallsForDictionary fetched origin ended shelf shelf_now → Due shelf shelf_now
    dictionary_due (file name) named ended (answer, called, tells) = one_due name answer named called
    dictionary_due (program b) named ended (still, never) = none_due shelf shelf_now still

    accepted_due : (origin : Origin) → IsNamed origin → (r : Rules) → CallsForAccepted fetched given.checks origin r shelf shelf_now → Due shelf shelf_now
    accepted_due (file name) named r (bytes, called, is) = one_due name (Ok bytes) named called
    accepted_due (program b) named r (still, is) = none_due shelf shelf_now still

    vain_due : (origin : Origin) → IsNamed origin → (status : Status) → CallsInVain fetched given.checks origin status shelf shelf_now → Due shelf shelf_now
    vain_due (file name) named status (inl (answer, called, none, tells)) = one_due name answer named called
    vain_due (program b) named status (inl none) = absurd none
    vain_due origin named status (inr (wanting, called)) = dictionary_due origin named (status ≡ FailedFetch) called

    run_due : (origin : Origin) (asked : IsRun given.words origin) (r : Rules) (between : H) (ended : Type 0) → CallsForAccepted fetched given.checks origin r shelf between → CallsForSaved fetched asked.beginning ended between shelf_now → Due shelf shelf_now
    run_due (file name) asked r between ended (bytes, called, is) next = behind_file between name asked bytes called (r.accepted, is.0) ended asked.beginning refl next
    run_due (program b) asked r between ended (still, is) next =
        behind_program b asked ended asked.beginning refl (subst (λ (h : H). CallsForSaved fetched asked.beginning ended h shelf_now) still next)

    run_named : (origin : Origin) → IsRun given.words origin → IsNamed origin
    run_named (file name) asked = inl asked
    run_named (program b) asked = tt

    save_named : (origin : Origin) → IsSave given.words origin → IsNamed origin
    save_named (file name) asked = inr (inr asked)
    save_named (program b) asked = tt

-- ---- what is put

module _ (sink sink_now : Output) where
  put_by : (pieces : List (List ℕ)) (status : Status) → PutBy sink sink_now pieces status → PutAll sink sink_now pieces ⊎ PutPart sink sink_now pieces
  put_by pieces WriteFault part = inr part
  put_by pieces Done all = inl all
  put_by pieces DictionaryRefused all = inl all
  put_by pieces Usage all = inl all
  put_by pieces SavedRefused all = inl all
  put_by pieces other put = absurd put

  -- where a fetch failed no line is put
  no_line : (status : Status) → status ≡ FailedFetch → PutsOneLine sink sink_now status → sink_now ≡ sink
  no_line status failed (inl same) = same
  no_line status failed (inr (line, put)) = absurd (subst (λ (s : Status). PutBy sink sink_now (line_with line ∷ []) s) failed put)

  put_all : (lines : List (List ℕ)) → PutAll sink sink_now (pieces_of lines) → PutEach sink sink_now lines
  put_all lines all = inl (lines, ([], (sym (append-nil lines), all)))

  put_first : (lines first rest : List (List ℕ)) → lines ≡ first ++ rest → PutAll sink sink_now (pieces_of first) → PutEach sink sink_now lines
  put_first lines first rest split all = inl (first, (rest, (split, all)))

  put_line : (line : List ℕ) → PutAll sink sink_now (line_with line ∷ []) ⊎ PutPart sink sink_now (line_with line ∷ []) → PutEach sink sink_now (line ∷ [])
  put_line line (inl all) = put_all (line ∷ []) all
  put_line line (inr part) = inr part

module _ {K : Type 0} (output : K → Output) (out out_now : K) where
  -- nothing was put, or lines of this kind
  abbrev MayPut : (List (List ℕ) → Type 0) → Type 0
  MayPut Are = (output out_now ≡ output out) ⊎ ((lines : List (List ℕ)) × Are lines × PutEach (output out) (output out_now) lines)

  one_line : (status : Status) → PutsOneLine (output out) (output out_now) status → MayPut IsOneLine
  one_line status (inl same) = inl same
  one_line status (inr (line, put)) =
      inr (line ∷ [], (line, refl), put_line (output out) (output out_now) line (put_by (output out) (output out_now) (line_with line ∷ []) status put))

  one_or : (Are : List (List ℕ) → Type 0) → MayPut IsOneLine → MayPut (λ lines. IsOneLine lines ⊎ Are lines)
  one_or Are (inl same) = inl same
  one_or Are (inr (lines, is, put)) = inr (lines, inl is, put)

  or_these : (Are : List (List ℕ) → Type 0) → MayPut Are → MayPut (λ lines. IsOneLine lines ⊎ Are lines)
  or_these Are (inl same) = inl same
  or_these Are (inr (lines, is, put)) = inr (lines, inr is, put)

  -- lines that stand before the replies, and next these
  module _ (front : List (List ℕ)) (begun : K) (wrote : WroteLines (output out) (output begun) front) where
    behind_front : (lines : List (List ℕ)) → WroteLines (output begun) (output out_now) lines → PutEach (output out) (output out_now) (front ++ lines)
    behind_front lines next = put_all (output out) (output out_now) (front ++ lines) (lines_on (output out) (output begun) (output out_now) front lines wrote next).puts

    some_behind_front : (lines : List (List ℕ)) → WroteSome (output begun) (output out_now) lines → PutEach (output out) (output out_now) (front ++ lines)
    some_behind_front lines next = inr (some_on (output out) (output begun) (output out_now) front lines wrote next).puts

    first_behind_front : (lines first rest : List (List ℕ)) → lines ≡ first ++ rest → WroteLines (output begun) (output out_now) first → PutEach (output out) (output out_now) (front ++ lines)
    first_behind_front lines first rest split next =
        put_first (output out) (output out_now) (front ++ lines) (front ++ first) rest (ap (λ (l : List (List ℕ)). front ++ l) split ∙ sym (append_assoc front first rest))
        (lines_on (output out) (output begun) (output out_now) front first wrote next).puts

    -- some lines of a script were answered
    told_lines : (m : Meaning) (bytes : List ℕ) (status : Status) → Told (output begun) (output out_now) m bytes status → (script : List ScriptLine) × PutEach (output out) (output out_now) (front ++ m.replies script)
    told_lines m bytes Done told = (answered_lines bytes, behind_front (m.replies (answered_lines bytes)) told)
    told_lines m bytes ScriptTooLong told = (answered_lines bytes, behind_front (m.replies (answered_lines bytes)) told)
    told_lines m bytes ReadFault told = (ended_lines bytes, behind_front (m.replies (ended_lines bytes)) told)
    told_lines m bytes WriteFault told = (answered_lines bytes, some_behind_front (m.replies (answered_lines bytes)) told)
    told_lines m bytes NoMemory (first, (rest, (split, some))) = (answered_lines bytes, first_behind_front (m.replies (answered_lines bytes)) first rest split some)
    told_lines m bytes other told = absurd told

  saved_puts : (given : Given) (r : Rules) (status : Status) (bytes : List ℕ) → PutsSaved output r (save_meaning r given.relations) bytes status out out_now → MayPut (AreOfSave given)
  saved_puts given r Done bytes wrote =
      let lines = saved_lines (tree_of r) ((save_meaning r given.relations).answers (answered_lines bytes)) in
      inr (lines, (r, answered_lines bytes, refl), put_all (output out) (output out_now) lines wrote.puts)
  saved_puts given r WriteFault bytes part =
      inr (saved_lines (tree_of r) ((save_meaning r given.relations).answers (answered_lines bytes)), (r, answered_lines bytes, refl), inr part.puts)
  saved_puts given r status bytes same = inl (ap output same)

  module _ {S : Type 0} (pulled : ByPull S K) (given : Given) (script script_now : S) where
    run_puts : (r : Rules) (mode : Mode) (beginning : Beginning) (status : Status) → ExchangeFrom pulled output given.contents beginning r mode given.relations status script script_now out out_now
        → MayPut (λ lines. IsOneLine lines ⊎ AreOfRun given mode beginning lines)
    run_puts r mode beginning status (inl (still, put)) = one_or (AreOfRun given mode beginning) (one_line status put)
    run_puts r mode beginning status (inr (basis, brought, (s, is, inl (still, inl same)))) = inl (ap output same)
    run_puts r mode beginning status (inr (basis, brought, (s, is, inl (still, inr (fault, part))))) =
        let m = meaning_of r mode given.relations s.answers in
        inr (s.front ++ m.replies [], inr (r, basis, s, [], brought, is, refl), inr (some_before (output out) (output out_now) s.front (m.replies []) part).puts)
    run_puts r mode beginning status (inr (basis, brought, (s, is, inr (begun, wrote, whole)))) =
        let m = meaning_of r mode given.relations s.answers in
        let told = told_lines s.front begun wrote m (bytes_of whole.exchange.pieces) status whole.told in
        inr (s.front ++ m.replies told.0, inr (r, basis, s, told.0, brought, is, refl), told.1)

    save_puts : (r : Rules) (status : Status) → MaySave pulled output r (save_meaning r given.relations) out out_now script script_now status → MayPut (λ lines. IsOneLine lines ⊎ AreOfSave given lines)
    save_puts r status (inl (still, same)) = inl (ap output same)
    save_puts r status (inr silent) = or_these (AreOfSave given) (saved_puts given r status (bytes_of silent.exchange.pieces) silent.puts)

  gen_puts : (given : Given) (n : ℕ) (status : Status) → PutsSummary output given.relations n status out out_now → MayPut (λ lines. (r : Rules) × IsOfLoad n r × (lines ≡ gen_lines r given.relations n))
  gen_puts given n Done (r, is, wrote) = inr (gen_lines r given.relations n, (r, is, refl), put_all (output out) (output out_now) (gen_lines r given.relations n) wrote.puts)
  gen_puts given n WriteFault (r, is, part) = inr (gen_lines r given.relations n, (r, is, refl), inr part.puts)
  gen_puts given n NoMemory same = inl (ap output same)
  gen_puts given n other put = absurd put

-- ---- what is pulled

-- the pulls by which these pieces came
pub record PulledPieces {S K : Type 0} (pulled : ByPull S K) (output : K → Output) (m : Meaning) (out : K) (script : S) (pieces : List (List ℕ)) (script_now : S) : Type 0 where
  pub pulls : List (Pull K)
  pub came : CameByPulls pulled pulls script script_now
  pub gave_each : came_of pulls ≡ map gave pieces
  pub each : EachFollowsReplies output m out pulls

module _ {S K : Type 0} (pulled : ByPull S K) (output : K → Output) (m : Meaning) (out : K) (script : S) where
  each_none : EachFollowsReplies output m out []
  each_none [] earlier call is = absurd cc
  each_none (last ∷ later) earlier call is = absurd cc

  -- one more behind them
  each_more : (calls : List (Pull K)) (call : Pull K) → EachFollowsReplies output m out calls → FollowsReplies output m out calls call.sink → EachFollowsReplies output m out (call ∷ calls)
  each_more calls call each newest [] earlier other is =
      let same : calls ≡ earlier = cc in
      let here : call ≡ other = cc in
      subst (λ (l : List (Pull K)). FollowsReplies output m out l other.sink) same (subst (λ (p : Pull K). FollowsReplies output m out calls p.sink) here newest)
  each_more calls call each newest (last ∷ later) earlier other is = each later earlier other cc

  module _ (earlier : List (List ℕ)) (between : S) (so_far : PulledPieces pulled output m out script earlier between) (script_now : S) (came : Pulled) (behind : PulledBehind pulled output m out earlier between script_now came) where
    abbrev next_pull : Pull K
    next_pull = record { sink = behind.out_now; at_most = asked_behind (length (bytes_of earlier)); came = came }

    each_next : EachFollowsReplies output m out (next_pull ∷ so_far.pulls)
    each_next = each_more so_far.pulls next_pull so_far.each (record { pieces = earlier; gave_each = so_far.gave_each; goes_on = behind.goes_on })

  pulled_pieces : (pieces : List (List ℕ)) (script_now : S) → Came pulled output m out script pieces script_now → PulledPieces pulled output m out script pieces script_now
  pulled_pieces [] script_now same = record { pulls = []; came = same; gave_each = refl; each = each_none }
  pulled_pieces (piece ∷ earlier) script_now (between, came, behind) =
      let so_far = pulled_pieces earlier between came in
      record {
        pulls = next_pull earlier between so_far script_now (gave piece) behind ∷ so_far.pulls;
        came = (between, so_far.came, behind.call);
        gave_each = ap (λ (l : List Pulled). gave piece ∷ l) so_far.gave_each;
        each = each_next earlier between so_far script_now (gave piece) behind;
      }

  module _ (script_now : S) (status : Status) (pieces : List (List ℕ)) (between : S) (so_far : PulledPieces pulled output m out script pieces between) where
    with_last : (script_now ≡ between) ⊎ ((status ≡ ReadFault) × PulledBehind pulled output m out pieces between script_now faulted) → PulledInOrder pulled output m out script script_now
    with_last (inl same) = record { pulls = so_far.pulls; came = subst (CameByPulls pulled so_far.pulls script) (sym same) so_far.came; each = so_far.each }
    with_last (inr (fault, behind)) = record {
      pulls = next_pull pieces between so_far script_now faulted behind ∷ so_far.pulls;
      came = (between, so_far.came, behind.call);
      each = each_next pieces between so_far script_now faulted behind;
    }

pub pulls_follow_replies : {S K : Type 0} (pulled : ByPull S K) (output : K → Output) → PullsFollowReplies pulled output
pulls_follow_replies pulled output m out script script_now status exchange =
    with_last pulled output m out script script_now status exchange.pieces exchange.between (pulled_pieces pulled output m out script exchange.pieces exchange.between exchange.came) exchange.last

-- ---- a device that failed

-- a fetch that failed gave no dictionary
no_dictionary : (checks : List Named) (answer : Answer) → IsDictionary checks answer → IsErrOf answer Failed → ⊥
no_dictionary checks (Ok bytes) is failed = cc
no_dictionary checks (Err fault) is failed = is

-- of the fetches that are due the last alone may have failed
last_due : (given : Given) (fetches : List Fetch) → AreDue given fetches → (before behind : List Fetch) (call : Fetch) → fetches ≡ before ++ (call ∷ behind) → IsErrOf call.answer Failed → behind ≡ []
last_due given [] due [] behind call is failed = absurd cc
last_due given [] due (first ∷ before) behind call is failed = absurd cc
last_due given (one ∷ []) due [] behind call is failed = cc
last_due given (one ∷ []) due (first ∷ []) behind call is failed = absurd cc
last_due given (one ∷ []) due (first ∷ second ∷ before) behind call is failed = absurd cc
last_due given (one ∷ two ∷ []) due [] behind call is failed = absurd (no_dictionary given.checks one.answer due.1 (ap (λ (c : Fetch). c.answer) (let same : one ≡ call = cc in same) ∙ failed))
last_due given (one ∷ two ∷ []) due (first ∷ []) behind call is failed = cc
last_due given (one ∷ two ∷ []) due (first ∷ second ∷ []) behind call is failed = absurd cc
last_due given (one ∷ two ∷ []) due (first ∷ second ∷ third ∷ before) behind call is failed = absurd cc
last_due given (one ∷ two ∷ three ∷ more) due before behind call is failed = absurd due

-- a pull that gave a piece didn't fail
none_faulted : {K : Type 0} (later : List (Pull K)) (call : Pull K) (earlier : List (Pull K)) (pieces : List (List ℕ)) → came_of (later ++ (call ∷ earlier)) ≡ map gave pieces → call.came ≡ faulted → ⊥
none_faulted [] call earlier [] is failed = cc
none_faulted [] call earlier (piece ∷ pieces) is failed = cc
none_faulted (last ∷ later) call earlier [] is failed = cc
none_faulted (last ∷ later) call earlier (piece ∷ pieces) is failed =
    let others : came_of (later ++ (call ∷ earlier)) ≡ map gave pieces = cc in
    none_faulted later call earlier pieces others failed

last_pulled : {K : Type 0} (output : K → Output) (m : Meaning) (out : K) (calls : List (Pull K)) → EachFollowsReplies output m out calls
    → (later earlier : List (Pull K)) (call : Pull K) → calls ≡ later ++ (call ∷ earlier) → call.came ≡ faulted → later ≡ []
last_pulled output m out calls each [] earlier call is failed = refl
last_pulled output m out calls each (last ∷ later) earlier call is failed =
    let behind = each [] (later ++ (call ∷ earlier)) last is in
    absurd (none_faulted later call earlier behind.pieces behind.gave_each failed)

-- none of these puts failed
abbrev AllTook : List Put → Type 0
AllTook [] = Unit {0}
AllTook (took piece count ∷ puts) = AllTook puts
AllTook (put_failed piece ∷ puts) = ⊥

took_on : (xs ys : List Put) → AllTook xs → AllTook ys → AllTook (xs ++ ys)
took_on [] ys first second = second
took_on (took piece count ∷ xs) ys first second = took_on xs ys first second
took_on (put_failed piece ∷ xs) ys first second = absurd first

take_took : (piece : List ℕ) (puts : List Put) (rest : List ℕ) → Take piece puts rest → AllTook puts
take_took piece [] rest taken = tt
take_took piece (took bytes count ∷ puts) rest taken = take_took (drop count piece) puts rest taken.1
take_took piece (put_failed bytes ∷ puts) rest taken = absurd taken

all_took : (pieces : List (List ℕ)) (puts : List Put) → TakeAll pieces puts → AllTook puts
all_took [] puts none = subst AllTook (sym none) tt
all_took (piece ∷ pieces) puts (first, (rest, (split, (one, others)))) =
    subst AllTook (sym split) (took_on first rest (take_took piece first [] one) (all_took pieces rest others))

none_failed : (puts : List Put) → AllTook puts → (before behind : List Put) (piece : List ℕ) → puts ≡ before ++ (put_failed piece ∷ behind) → ⊥
none_failed [] all [] behind piece is = cc
none_failed [] all (first ∷ before) behind piece is = cc
none_failed (took bytes count ∷ puts) all [] behind piece is = cc
none_failed (took bytes count ∷ puts) all (first ∷ before) behind piece is = none_failed puts all before behind piece cc
none_failed (put_failed bytes ∷ puts) all before behind piece is = all

last_failed : (puts : List Put) (last : Put) → AllTook puts → (before behind : List Put) (piece : List ℕ) → puts ++ (last ∷ []) ≡ before ++ (put_failed piece ∷ behind) → behind ≡ []
last_failed [] last all [] behind piece is = cc
last_failed [] last all (first ∷ before) behind piece is = absurd (none_failed [] tt before behind piece cc)
last_failed (took bytes count ∷ puts) last all [] behind piece is = absurd cc
last_failed (took bytes count ∷ puts) last all (first ∷ before) behind piece is = last_failed puts last all before behind piece cc
last_failed (put_failed bytes ∷ puts) last all before behind piece is = absurd all

abbrev LastPut : List Put → Type 0
LastPut puts = (before behind : List Put) (piece : List ℕ) → puts ≡ before ++ (put_failed piece ∷ behind) → behind ≡ []

all_last : (pieces : List (List ℕ)) (puts : List Put) → TakeAll pieces puts → LastPut puts
all_last pieces puts whole before behind piece is = absurd (none_failed puts (all_took pieces puts whole) before behind piece is)

part_last : (pieces : List (List ℕ)) (puts : List Put) → FailIn pieces puts → LastPut puts
part_last pieces puts part before behind piece is =
    let fail = part.fail in
    let whole = took_on part.first fail.first (all_took part.front part.first part.whole) (take_took part.piece fail.first fail.rest fail.take) in
    let split : puts ≡ (part.first ++ fail.first) ++ (put_failed fail.rest ∷ []) =
    part.all ∙ ap (λ (l : List Put). part.first ++ l) fail.last ∙ sym (append_assoc part.first fail.first (put_failed fail.rest ∷ [])) in
    last_failed (part.first ++ fail.first) (put_failed fail.rest) whole before behind piece (sym split ∙ is)

-- by the puts that were made
pub record PutInOrder (sink sink_now : Output) : Type 0 where
  pub puts : List Put
  pub made : Follows sink sink_now puts
  pub last : LastPut puts

each_in_order : (sink sink_now : Output) (lines : List (List ℕ)) → PutEach sink sink_now lines → PutInOrder sink sink_now
each_in_order sink sink_now lines (inl (first, (rest, (split, all)))) = record { puts = all.puts; made = all.made; last = all_last (pieces_of first) all.puts all.whole }
each_in_order sink sink_now lines (inr part) = record { puts = part.puts; made = part.made; last = part_last (pieces_of lines) part.puts part.part }

none_in_order : (sink sink_now : Output) → sink_now ≡ sink → PutInOrder sink sink_now
none_in_order sink sink_now same =
    subst (PutInOrder sink) (sym same) (record {
      puts = [];
      made = λ before so. subst (λ (l : List Put). IsTrue (sink.follows l)) (sym (append-nil before)) so;
      last = λ before behind piece is. absurd (none_failed [] tt before behind piece is);
    })

-- ---- by the form of the words

-- some pulls were made, of which the last alone may have failed
pub record PulledAtMost {S K : Type 0} (pulled : ByPull S K) (script script_now : S) : Type 0 where
  pub pulls : List (Pull K)
  pub came : CameByPulls pulled pulls script script_now
  pub last : (later earlier : List (Pull K)) (call : Pull K) → pulls ≡ later ++ (call ∷ earlier) → call.came ≡ faulted → later ≡ []

module _ {S K : Type 0} (pulled : ByPull S K) (output : K → Output) (script script_now : S) where
  not_pulled : script_now ≡ script → PulledAtMost pulled script script_now
  not_pulled same = record { pulls = []; came = same; last = none_last }
    where
      none_last : (later earlier : List (Pull K)) (call : Pull K) → [] ≡ later ++ (call ∷ earlier) → call.came ≡ faulted → later ≡ []
      none_last [] earlier call is failed = refl
      none_last (last ∷ later) earlier call is failed = absurd cc

  exchange_pulls : (m : Meaning) (out : K) (status : Status) → Exchange pulled output m out script script_now status → PulledAtMost pulled script script_now
  exchange_pulls m out status exchange =
      let all = pulls_follow_replies pulled output m out script script_now status exchange in
      record { pulls = all.pulls; came = all.came; last = last_pulled output m out all.pulls all.each }

  module _ (out out_now : K) (given : Given) (r : Rules) (status : Status) where
    run_pulls : (mode : Mode) (beginning : Beginning) → ExchangeFrom pulled output given.contents beginning r mode given.relations status script script_now out out_now → PulledAtMost pulled script script_now
    run_pulls mode beginning (inl (still, put)) = not_pulled still
    run_pulls mode beginning (inr (basis, brought, (s, is, inl (still, put)))) = not_pulled still
    run_pulls mode beginning (inr (basis, brought, (s, is, inr (begun, wrote, whole)))) = exchange_pulls (meaning_of r mode given.relations s.answers) begun status whole.exchange

    save_pulls : MaySave pulled output r (save_meaning r given.relations) out out_now script script_now status → PulledAtMost pulled script script_now
    save_pulls (inl (still, same)) = not_pulled still
    save_pulls (inr silent) = exchange_pulls (silently (save_meaning r given.relations)) out status silent.exchange

module _ {H S K : Type 0} (fetched : ByFetch H S K) (pulled : ByPull S K) (output : K → Output) (given : Given) (status : Status) (shelf shelf_now : H) (script script_now : S) (out out_now : K)
    (made : Calls fetched pulled output given status shelf shelf_now script script_now out out_now) where
  abbrev still_fetched : ByStillFetch H
  still_fetched = beside fetched script out

  -- ---- a run

  module _ (origin : Origin) (asked : IsRun given.words origin) where
    run_fetches : CallsForRun fetched pulled output given origin asked.beginning asked.mode status shelf shelf_now script script_now out out_now → FetchedInOrder still_fetched given shelf shelf_now
    run_fetches (inl (r, between, called, saved, exchanges)) = run_due still_fetched given shelf shelf_now origin asked r between (status ≡ FailedFetch) called saved
    run_fetches (inr (vain, still, put)) = vain_due still_fetched given shelf shelf_now origin (run_named still_fetched given shelf shelf_now origin asked) status vain

    run_lines : CallsForRun fetched pulled output given origin asked.beginning asked.mode status shelf shelf_now script script_now out out_now
        → MayPut output out out_now (λ lines. IsOneLine lines ⊎ AreOfRun given asked.mode asked.beginning lines)
    run_lines (inl (r, between, called, saved, exchanges)) = run_puts output out out_now pulled given script script_now r asked.mode asked.beginning status exchanges
    run_lines (inr (vain, still, put)) = one_or output out out_now (AreOfRun given asked.mode asked.beginning) (one_line output out out_now status put)

    run_reads : CallsForRun fetched pulled output given origin asked.beginning asked.mode status shelf shelf_now script script_now out out_now → PulledAtMost pulled script script_now
    run_reads (inl (r, between, called, saved, exchanges)) = run_pulls pulled output script script_now out out_now given r status asked.mode asked.beginning exchanges
    run_reads (inr (vain, still, put)) = not_pulled pulled output script script_now still

  -- ---- a save

  module _ (origin : Origin) (asked : IsSave given.words origin) where
    abbrev SaveMade : Type 0
    SaveMade = CallsForSave fetched pulled output given origin status shelf shelf_now script script_now out out_now

    save_fetches : SaveMade → FetchedInOrder still_fetched given shelf shelf_now
    save_fetches (inl (r, called, saves, never)) = accepted_due still_fetched given shelf shelf_now origin (save_named still_fetched given shelf shelf_now origin asked) r called
    save_fetches (inr (vain, still, put)) = vain_due still_fetched given shelf shelf_now origin (save_named still_fetched given shelf shelf_now origin asked) status vain

    save_lines : SaveMade → MayPut output out out_now (λ lines. IsOneLine lines ⊎ AreOfSave given lines)
    save_lines (inl (r, called, saves, never)) = save_puts output out out_now pulled given script script_now r status saves
    save_lines (inr (vain, still, put)) = one_or output out out_now (AreOfSave given) (one_line output out out_now status put)

    save_reads : SaveMade → PulledAtMost pulled script script_now
    save_reads (inl (r, called, saves, never)) = save_pulls pulled output script script_now out out_now given r status saves
    save_reads (inr (vain, still, put)) = not_pulled pulled output script script_now still

  -- ---- all forms

  fetches_made : (form : Form) → IsForm given.words form → FetchedInOrder still_fetched given shelf shelf_now
  fetches_made (Run mode origin beginning) is =
      let asked : IsRun given.words (origin_of origin) = record { beginning = beginning_of beginning; mode = mode; over = is } in
      run_fetches (origin_of origin) asked (made.run (origin_of origin) asked)
  fetches_made (Check name) is = dictionary_due still_fetched given shelf shelf_now (file name.now) (inr (inl is)) (status ≡ FailedFetch) (made.check name.now is).0
  fetches_made (Gen n) is = none_due still_fetched given shelf shelf_now (made.gen n is).0
  fetches_made (Save origin) is = save_fetches (origin_of origin) is (made.save (origin_of origin) is)
  fetches_made Unknown none = none_due still_fetched given shelf shelf_now (made.no_form none).0

  lines_put : (form : Form) → IsForm given.words form → MayPut output out out_now (AreOutput given form)
  lines_put (Run mode origin beginning) is =
      let asked : IsRun given.words (origin_of origin) = record { beginning = beginning_of beginning; mode = mode; over = is } in
      run_lines (origin_of origin) asked (made.run (origin_of origin) asked)
  lines_put (Check name) is = one_line output out out_now status (made.check name.now is).2
  lines_put (Gen n) is = gen_puts output out out_now given n status (made.gen n is).2
  lines_put (Save origin) is = save_lines (origin_of origin) is (made.save (origin_of origin) is)
  lines_put Unknown none = one_line output out out_now status (made.no_form none).2

  pulls_made : (form : Form) → IsForm given.words form → PulledAtMost pulled script script_now
  pulls_made (Run mode origin beginning) is =
      let asked : IsRun given.words (origin_of origin) = record { beginning = beginning_of beginning; mode = mode; over = is } in
      run_reads (origin_of origin) asked (made.run (origin_of origin) asked)
  pulls_made (Check name) is = not_pulled pulled output script script_now (made.check name.now is).1
  pulls_made (Gen n) is = not_pulled pulled output script script_now (made.gen n is).1
  pulls_made (Save origin) is = save_reads (origin_of origin) is (made.save (origin_of origin) is)
  pulls_made Unknown none = not_pulled pulled output script script_now (made.no_form none).1

  puts_made : (output out_now ≡ output out) ⊎ ((lines : List (List ℕ)) × PutEach (output out) (output out_now) lines) → PutInOrder (output out) (output out_now)
  puts_made (inl same) = none_in_order (output out) (output out_now) same
  puts_made (inr (lines, put)) = each_in_order (output out) (output out_now) lines put

  without_kind : (Are : List (List ℕ) → Type 0) → MayPut output out out_now Are → (output out_now ≡ output out) ⊎ ((lines : List (List ℕ)) × PutEach (output out) (output out_now) lines)
  without_kind Are (inl same) = inl same
  without_kind Are (inr (lines, is, put)) = inr (lines, put)

  -- where a fetch failed nothing was pulled, and nothing was put
  abbrev Untouched : Type 0
  Untouched = (script_now ≡ script) × (output out_now ≡ output out)

  untouched_by_exchange : (r : Rules) (mode : Mode) (beginning : Beginning) → status ≡ FailedFetch → ExchangeFrom pulled output given.contents beginning r mode given.relations status script script_now out out_now → Untouched
  untouched_by_exchange r mode beginning failed (inl (still, put)) = (still, no_line (output out) (output out_now) status failed put)
  untouched_by_exchange r mode beginning failed (inr (basis, brought, (s, is, inl (still, inl same)))) = (still, ap output same)
  untouched_by_exchange r mode beginning failed (inr (basis, brought, (s, is, inl (still, inr (fault, part))))) = absurd (let wrong : FailedFetch ≡ WriteFault = sym failed ∙ fault in cc)
  untouched_by_exchange r mode beginning failed (inr (basis, brought, (s, is, inr (begun, wrote, whole)))) =
      absurd (subst (Told (output begun) (output out_now) (meaning_of r mode given.relations s.answers) (bytes_of whole.exchange.pieces)) failed whole.told)

  untouched_by_run : (origin : Origin) (asked : IsRun given.words origin) → status ≡ FailedFetch
      → CallsForRun fetched pulled output given origin asked.beginning asked.mode status shelf shelf_now script script_now out out_now → Untouched
  untouched_by_run origin asked failed (inl (r, between, called, saved, exchanges)) = untouched_by_exchange r asked.mode asked.beginning failed exchanges
  untouched_by_run origin asked failed (inr (vain, still, put)) = (still, no_line (output out) (output out_now) status failed put)

  untouched_by_save : (origin : Origin) → status ≡ FailedFetch → CallsForSave fetched pulled output given origin status shelf shelf_now script script_now out out_now → Untouched
  untouched_by_save origin failed (inl (r, called, saves, never)) = absurd (never failed)
  untouched_by_save origin failed (inr (vain, still, put)) = (still, no_line (output out) (output out_now) status failed put)

  untouched : (form : Form) → IsForm given.words form → status ≡ FailedFetch → Untouched
  untouched (Run mode origin beginning) is failed =
      let asked : IsRun given.words (origin_of origin) = record { beginning = beginning_of beginning; mode = mode; over = is } in
      untouched_by_run (origin_of origin) asked failed (made.run (origin_of origin) asked)
  untouched (Check name) is failed = ((made.check name.now is).1, no_line (output out) (output out_now) status failed (made.check name.now is).2)
  untouched (Gen n) is failed = absurd (subst (λ (s : Status). PutsSummary output given.relations n s out out_now) failed (made.gen n is).2)
  untouched (Save origin) is failed = untouched_by_save (origin_of origin) failed (made.save (origin_of origin) is)
  untouched Unknown none failed = absurd ((made.no_form none).3 failed)

  none_behind_failed : (form : Form) → IsForm given.words form → NoneBehindFailed still_fetched pulled output status shelf shelf_now script script_now out out_now
  none_behind_failed form is =
      let fetches = fetches_made form is in
      let pulls = pulls_made form is in
      let puts = puts_made (without_kind (AreOutput given form) (lines_put form is)) in
      record {
        fetches = fetches.fetches;
        fetches_made = fetches.came;
        last_fetch = last_due given fetches.fetches fetches.due;
        pulls = pulls.pulls;
        pulls_made = pulls.came;
        last_pull = pulls.last;
        puts = puts.puts;
        puts_made = puts.made;
        last_put = puts.last;
        fetch_ends = untouched form is;
      }

  -- ---- words without a file

  program_run : (b : BuiltIn) (asked : IsRun given.words (program b)) → asked.beginning ≡ unanswered
      → CallsForRun fetched pulled output given (program b) asked.beginning asked.mode status shelf shelf_now script script_now out out_now → (shelf_now ≡ shelf) × (status ≢ FailedFetch)
  program_run b asked none (inl (r, between, (still, is), saved, exchanges)) =
      let unsaved : (shelf_now ≡ between) × ((status ≡ FailedFetch) → ⊥) = subst (λ (from : Beginning). CallsForSaved still_fetched from (status ≡ FailedFetch) between shelf_now) none saved in
      (unsaved.0 ∙ still, unsaved.1)
  program_run b asked none (inr (inl wrong, still, put)) = absurd wrong
  program_run b asked none (inr (inr (wanting, (still, never)), still_script, put)) = (still, never)

  program_save : (b : BuiltIn) → CallsForSave fetched pulled output given (program b) status shelf shelf_now script script_now out out_now → (shelf_now ≡ shelf) × (status ≢ FailedFetch)
  program_save b (inl (r, (still, is), saves, never)) = (still, never)
  program_save b (inr (inl wrong, still, put)) = absurd wrong
  program_save b (inr (inr (wanting, (still, never)), still_script, put)) = (still, never)

  summary_unfetched : (n : ℕ) (ends : Status) → PutsSummary output given.relations n ends out out_now → ends ≢ FailedFetch
  summary_unfetched n ends put = λ failed. subst (λ (s : Status). PutsSummary output given.relations n s out out_now) failed put

  nothing_fetched : NameNoFile given.words → (shelf_now ≡ shelf) × (status ≢ FailedFetch)
  nothing_fetched (inl (b, (asked, none))) = program_run b asked none (made.run (program b) asked)
  nothing_fetched (inr (inl (b, asked))) = program_save b (made.save (program b) asked)
  nothing_fetched (inr (inr (inl (n, asked)))) = ((made.gen n asked).0, summary_unfetched n status (made.gen n asked).2)
  nothing_fetched (inr (inr (inr none))) = ((made.no_form none).0, (made.no_form none).3)

-- ---- the laws

module _ {H S K : Type 0} (fetched : ByFetch H S K) (pulled : ByPull S K) (output : K → Output) where
  pub name_then_saved : NameThenSaved fetched pulled output
  name_then_saved given status shelf shelf_now script script_now out out_now made form is = fetches_made fetched pulled output given status shelf shelf_now script script_now out out_now made form is

  pub nothing_is_fetched : NothingIsFetched fetched pulled output
  nothing_is_fetched given status shelf shelf_now script script_now out out_now made none = nothing_fetched fetched pulled output given status shelf shelf_now script script_now out out_now made none

  pub each_line_is_one_piece : EachLineIsOnePiece fetched pulled output
  each_line_is_one_piece given status shelf shelf_now script script_now out out_now made form is = lines_put fetched pulled output given status shelf shelf_now script script_now out out_now made form is

  pub no_call_behind_a_failed_one : NoCallBehindAFailedOne fetched pulled output
  no_call_behind_a_failed_one given status shelf shelf_now script script_now out out_now made form is = none_behind_failed fetched pulled output given status shelf shelf_now script script_now out out_now made form is
