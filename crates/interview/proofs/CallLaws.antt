-- The calls that an interview makes: what is known of the one form that the words have is known of every form.
use Rattle.std.proofs.Common.{◌≡◌, ◌≢◌, ℕ, List, refl, subst}
use Rattle.fg_io.specs.Outside.{ByFetch, ByPull, Output}
use Rattle.interview.specs.Calls.{Calls}
use Rattle.interview_ends.specs.CallsFor.{CallsForDictionary, CallsForRun, CallsForSave, PutsSummary, beside}
use Rattle.script_runs.specs.declared.status.Status.{Status}
use Rattle.script_runs.specs.declared.status.Status.TheVariants.{FetchFault}
use Rattle.script_runs.specs.declared.mode.Mode.{Mode}
use Rattle.interview_ends.specs.Given.{Given}
use Rattle.interview_ends.specs.LastLines.{PutsOneLine}
use Rattle.interview_ends.specs.Origins.{Beginning, Origin, file}
use Rattle.interview.specs.Words.{HasNoForm, IsCheck, IsGen, IsRun, IsSave}
use Rattle.interview.proofs.GenWordLaws.{same_gen}
use Rattle.interview.proofs.WordLaws.{gen_is_no_check, gen_is_no_run, gen_is_no_save, not_both, same_beginning, same_check, same_mode, same_origin, same_save, save_is_no_check, save_is_no_run}

module _ {H S K : Type 0} (fetched : ByFetch H S K) (pulled : ByPull S K) (output : K → Output) (given : Given) (status : Status) (shelf shelf_now : H) (script script_now : S) (out out_now : K) where
  abbrev Made : Type 0
  Made = Calls fetched pulled output given status shelf shelf_now script script_now out out_now

  abbrev RunMade : Origin → Beginning → Mode → Type 0
  RunMade origin beginning mode = CallsForRun fetched pulled output given origin beginning mode status shelf shelf_now script script_now out out_now

  pub calls_of_run : (origin : Origin) (asked : IsRun given.words origin) → RunMade origin asked.beginning asked.mode → Made
  calls_of_run origin asked made = record {
    run = λ o run.
        subst (λ p. RunMade p run.beginning run.mode) (same_origin given.words origin o asked run)
        (subst (λ b. RunMade origin b run.mode) (same_beginning given.words origin o asked run)
        (subst (λ m. RunMade origin asked.beginning m) (same_mode given.words origin o asked run) made));
    check = λ name check. absurd (not_both given.words origin name asked check);
    save = λ o save. absurd (save_is_no_run given.words o origin save asked);
    gen = λ n gen. absurd (gen_is_no_run given.words n origin gen asked);
    no_form = λ none. absurd (none.0 origin asked);
  }

  pub calls_of_check : (name : List ℕ) → IsCheck given.words name → CallsForDictionary (beside fetched script out) (file name) (status ≡ FetchFault) shelf shelf_now → script_now ≡ script → PutsOneLine (output out) (output out_now) status → Made
  calls_of_check name asked made still put = record {
    run = λ o run. absurd (not_both given.words o name run asked);
    check = λ other check. (subst (λ n. CallsForDictionary (beside fetched script out) (file n) (status ≡ FetchFault) shelf shelf_now) (same_check given.words name other asked check) made, still, put);
    save = λ o save. absurd (save_is_no_check given.words o name save asked);
    gen = λ n gen. absurd (gen_is_no_check given.words n name gen asked);
    no_form = λ none. absurd (none.1 name asked);
  }

  pub calls_of_save : (origin : Origin) → IsSave given.words origin → CallsForSave fetched pulled output given origin status shelf shelf_now script script_now out out_now → Made
  calls_of_save origin asked made = record {
    run = λ o run. absurd (save_is_no_run given.words origin o asked run);
    check = λ name check. absurd (save_is_no_check given.words origin name asked check);
    save = λ o save. subst (λ p. CallsForSave fetched pulled output given p status shelf shelf_now script script_now out out_now) (same_save given.words origin o asked save) made;
    gen = λ n gen. absurd (gen_is_no_save given.words n origin gen asked);
    no_form = λ none. absurd (none.3 origin asked);
  }

module _ {H S K : Type 0} (fetched : ByFetch H S K) (pulled : ByPull S K) (output : K → Output) (given : Given) (status : Status) (shelf : H) (script : S) (out out_now : K) where
  abbrev NoneMade : Type 0
  NoneMade = Calls fetched pulled output given status shelf shelf script script out out_now

  pub calls_of_gen : (n : ℕ) → IsGen given.words n → PutsSummary output given.relations n status out out_now → NoneMade
  calls_of_gen n asked put = record {
    run = λ o run. absurd (gen_is_no_run given.words n o asked run);
    check = λ name check. absurd (gen_is_no_check given.words n name asked check);
    save = λ o save. absurd (gen_is_no_save given.words n o asked save);
    gen = λ m gen. (refl, refl, subst (λ k. PutsSummary output given.relations k status out out_now) (same_gen given.words n m asked gen) put);
    no_form = λ none. absurd (none.2 n asked);
  }

  pub calls_of_none : HasNoForm given.words → PutsOneLine (output out) (output out_now) status → status ≢ FetchFault → NoneMade
  calls_of_none none put never = record {
    run = λ o run. absurd (none.0 o run);
    check = λ name check. absurd (none.1 name check);
    save = λ o save. absurd (none.3 o save);
    gen = λ n gen. absurd (none.2 n gen);
    no_form = λ none. (refl, refl, put, never);
  }
