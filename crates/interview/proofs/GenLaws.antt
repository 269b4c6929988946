-- How an interview ends for the word `gen`.
use Rattle.std.proofs.Common.{◌≡◌, ℕ, List, [], ◌∷◌, inl, inr, refl, sym, ap, subst}
use Rattle.std.specs.Prelude.{◌⊎◌}
use Rattle.std.proofs.lemmas.List.{append-nil}
use Rattle.script_runs.specs.declared.status.Status.{Status}
use Rattle.script_runs.specs.declared.status.Status.TheVariants.{Done, DictionaryRefused, Usage, FetchFault, ReadFault, WriteFault, ScriptTooLong, NoMemory, SavedRefused}
use Rattle.interview.specs.Words.{IsCheck, IsGen, IsRun}
use Rattle.interview_ends.specs.Origins.{Origin}
use Rattle.script_runs.specs.Devices.{SentPart, SinkFailed}
use Rattle.interview_ends.specs.Given.{Did, Given, IsOneOf, Unread}
use Rattle.interview.specs.Ends.{Ends, EndsByWord, Interviewed, IsFetched, LinePart}
use Rattle.interview.specs.GenEnds.{EndedByGen, GenEnds, GenInterviewed}
use Rattle.script_runs.specs.DefinedScript.{Defined}
use Rattle.interview_ends.specs.Load.{GeneratedAs, GensTo}
use Rattle.interview.proofs.ExactLaws.{final_figures, finals, interviewed, tables}
use Rattle.interview_ends.proofs.LoadLaws.{one_gen}
use Rattle.interview.proofs.GenWordLaws.{same_gen}
use Rattle.interview.proofs.SaveEndLaws.{known_saving, of_save, to_save}
use Rattle.script_runs.proofs.ScriptLaws.{nothing_part, part_of}
use Rattle.interview.proofs.WordLaws.{gen_fetches_nothing, gen_is_no_check, gen_is_no_run, gen_is_no_save}

-- ---- what is known of it

module _ (given : Given) (n : ℕ) (did : Did) where
  abbrev Generates : Status → Type 0
  Generates status = GeneratedAs given.relations n did.script.output status

  done_is : (d : Defined) → GensTo given.relations n d → Done ≡ d.status
  done_is d (r, is, to) = sym (ap (λ (e : Defined). e.status) to)

  exact : (status : Status) → Generates status → EndedByGen given n did status ⊎ IsOneOf status (WriteFault ∷ NoMemory ∷ [])
  exact Done (d, comes, wrote) = inl (d, comes, (done_is d comes, wrote))
  exact WriteFault ends = inr (inl refl)
  exact NoMemory ends = inr (inr (inl refl))
  exact status ends = absurd ends

  complete : (status : Status) → Generates status → (SinkFailed did.script.output → ⊥) → EndedByGen given n did status ⊎ (status ≡ NoMemory)
  complete Done (d, comes, wrote) write = inl (d, comes, (done_is d comes, wrote))
  complete WriteFault ends write = absurd (write ends.0)
  complete NoMemory ends write = inr refl
  complete status ends write = absurd ends

  -- a part of one text is a part of the text that is defined
  same_part : (d e : Defined) → GensTo given.relations n d → GensTo given.relations n e → SentPart did.script.output e.text → SentPart did.script.output d.text
  same_part d e comes other part = subst (λ (f : Defined). SentPart did.script.output f.text) (one_gen given.relations n e d other comes) part

  prefix : (status : Status) → Generates status → (d : Defined) → GensTo given.relations n d → SentPart did.script.output d.text
  prefix Done (e, other, wrote) d comes = same_part d e comes other (part_of did.script.output e.text [] e.text (sym (append-nil e.text)) wrote)
  prefix WriteFault (rose, (e, other, part)) d comes = same_part d e comes other part
  prefix NoMemory kept d comes = nothing_part did.script.output d.text kept
  prefix status ends d comes = absurd ends

-- ---- by the tables of ends

module _ (given : Given) (did : Did) where
  -- by the table of the other words it ends for want of memory alone
  module _ (n : ℕ) (asked : IsGen given.words n) where
    abbrev Generated : Status → Type 0
    Generated status = Generates given n did status × Unread did

    -- its words are those of no run
    no_run : (o : Origin) → IsRun given.words o → ⊥
    no_run o run = gen_is_no_run given.words n o asked run

    no_check : (name : List ℕ) → IsCheck given.words name → ⊥
    no_check name check = gen_is_no_check given.words n name asked check

    no_fetch : (name : List ℕ) → IsFetched given name → ⊥
    no_fetch name (inl fetched) = gen_fetches_nothing given.words n name asked fetched
    no_fetch name (inr (over, from)) = no_run over.origin over.asked

    no_part : LinePart given did → ⊥
    no_part (inl part) = part.0.2 n asked
    no_part (inr (inl part)) = no_run part.0.origin part.0.asked
    no_part (inr (inr (inl part))) = no_check part.0.name part.0.asked
    no_part (inr (inr (inr (inl part)))) = no_run part.0.over.origin part.0.over.asked
    no_part (inr (inr (inr (inr part)))) = no_run part.0.over.origin part.0.over.asked

    ended : (status : Status) → Ends given did status → Generated status
    ended Done (inl ends) = absurd (no_run ends.0.over.origin ends.0.over.asked)
    ended Done (inr ends) = absurd (no_check ends.0.name ends.0.asked)
    ended DictionaryRefused (inl ends) = absurd (no_run ends.0.origin ends.0.asked)
    ended DictionaryRefused (inr ends) = absurd (no_check ends.0.name ends.0.asked)
    ended Usage ends = absurd (ends.0.2 n asked)
    ended FetchFault ends = absurd (no_fetch did.files.after.failed_name ends.1)
    ended ReadFault ends = absurd (no_run ends.0.over.origin ends.0.over.asked)
    ended WriteFault (inl ends) = absurd (no_run ends.0.over.origin ends.0.over.asked)
    ended WriteFault (inr (rose, part)) = absurd (no_part part)
    ended ScriptTooLong ends = absurd (no_run ends.0.over.origin ends.0.over.asked)
    ended NoMemory (inl ends) = ends
    ended NoMemory (inr ends) = absurd (no_run ends.0.over.origin ends.0.over.asked)
    ended SavedRefused ends = absurd (no_run ends.0.over.origin ends.0.over.asked)

    generated : (status : Status) → EndsByWord given did status → Generated status
    generated status (inl ends) = ended status ends
    generated status (inr (inr ends)) = absurd (gen_is_no_save given.words n (to_save given did status ends).0 asked (to_save given did status ends).1)
    generated status (inr (inl (m, other, ends, unread))) = (subst (λ k. GeneratedAs given.relations k did.script.output status) (same_gen given.words m n other asked) ends, unread)

  known : (status : Status) → EndsByWord given did status → GenInterviewed given did status
  known status ends = record {
    unread = λ n asked. (generated n asked status ends).1;
    exact = λ n asked. exact given n did status (generated n asked status ends).0;
    complete = λ n asked. complete given n did status (generated n asked status ends).0;
    prefix = λ n asked. prefix given n did status (generated n asked status ends).0;
  }

  module _ (same_left : did.script.input.before.left ≡ given.left) where
    -- what is known of other words holds for `gen`, since it has none of theirs
    of_gen : (status : Status) → GenEnds given did status → Interviewed given did status
    of_gen status ends =
        let n = ends.0 in
        let asked = ends.1 in
        record {
          ends = inr (inl ends);
          no_form = λ none. absurd (none.2 n asked);
          missing = λ name fetches is. absurd (gen_fetches_nothing given.words n name asked fetches);
          refused = λ o content fault run gives is. absurd (gen_is_no_run given.words n o asked run);
          refused_unread = λ o content fault run gives is. ends.3;
          saved_missing = λ dict name from is. absurd (gen_is_no_run given.words n dict.origin asked dict.asked);
          saved_refused = λ dict basis line brings is. absurd (gen_is_no_run given.words n dict.origin asked dict.asked);
          saved_refused_unread = λ dict basis line brings is. ends.3;
          built_in = λ b run none. absurd (gen_is_no_run given.words n _ asked run);
          built_in_carried = λ b run. absurd (gen_is_no_run given.words n _ asked run);
          exact = λ run. absurd (gen_is_no_run given.words n run.origin asked run.asked);
          complete = λ run fetch read write. absurd (gen_is_no_run given.words n run.origin asked run.asked);
          prefix = λ run d comes. absurd (gen_is_no_run given.words n run.origin asked run.asked);
          read_through = λ run is. absurd (gen_is_no_run given.words n run.origin asked run.asked);
          finals = finals given did same_left;
          tables = tables given did same_left;
          final_figures = final_figures given did same_left;
          check_unread = λ name check. ends.3;
          check_refused = λ check fault is. absurd (gen_is_no_check given.words n check.name asked check.asked);
          check_exact = λ check. absurd (gen_is_no_check given.words n check.name asked check.asked);
          check_prefix = λ check d comes. absurd (gen_is_no_check given.words n check.name asked check.asked);
          check_complete = λ check fetch write. absurd (gen_is_no_check given.words n check.name asked check.asked);
          gen = known status (inr (inl ends));
          saving = known_saving given did same_left status (inr (inl ends));
        }

    pub interviewed_by_word : (status : Status) → EndsByWord given did status → Interviewed given did status
    interviewed_by_word status (inl ends) = interviewed given did same_left status ends (known status (inl ends)) (known_saving given did same_left status (inl ends))
    interviewed_by_word status (inr (inl ends)) = of_gen status ends
    interviewed_by_word status (inr (inr ends)) = of_save given did same_left status ends (known status (inr (inr ends)))
