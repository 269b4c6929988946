-- How a saved text is judged, and what is written of it.
use Rattle.std.proofs.Common.{◌≡◌, ℕ, ◌≤◌, List, [], length, Result, Ok, Err, IfErr, IfOk, inr, refl, sym, subst, arith}
use Rattle.std.specs.Prelude.{Vec}
use Rattle.std.specs.declared.alloc.Global.{Global}
use Rattle.fg_io.specs.Outside.{Contents, Output}
use Rattle.answers.specs.Answered.{start}
use Rattle.answers.specs.Meaning.{answered}
use Rattle.answers.specs.declared.parts.Parts.{Parts}
use Rattle.dict_meaning.specs.Fits.{AnswersFit}
use Rattle.dict_meaning.proofs.FitStart.{start_fits}
use Rattle.graph_session.specs.Rules.{Rules, tree_of}
use Rattle.save_file.specs.Carrying.{IsCarry, RefusesCarried}
use Rattle.save_file.specs.Dropped.{dropped_keys}
use Rattle.save_file.specs.Loading.{RefusesText}
use Rattle.saved_text.proofs.LinesLeft.{wrote_none}
use Rattle.saved_text.specs.SavedText.{saved}
use Rattle.saved_text.specs.Writing.{WroteAs}
use Rattle.save_file.proofs.DroppedLaws.{lines_of_carry}
use Rattle.saved_text.specs.declared.fault.LoadFault.{LoadFault}
use Rattle.saved_text.specs.declared.fault.LoadFault.TheVariants as loads
use Rattle.interview_ends.specs.declared.resuming.Dropped.TheVariants as dropped
use Rattle.interview_ends.specs.declared.resuming.Resumed.{Resumed}
use Rattle.interview_ends.specs.declared.resuming.Resumed.TheVariants as resumed
use Rattle.script_runs.specs.declared.status.Status.{Status}
use Rattle.script_runs.specs.declared.status.Status.TheVariants.{NoMemory}
use Rattle.interview_ends.specs.Beginnings.{Basis, MayBring, saved_limit, start_of_none, to_carry, to_load, no_text}
use Rattle.interview_ends.specs.StepEnds.{RefusedFor, ResumedAs, ResumesAs}
use Rattle.interview_ends.specs.Origins.{Beginning, unanswered}

-- ---- what is written before the replies

pub nothing_put : {T E : Type 0} (sink : Output) (front : List (List ℕ)) (done : T) → front ≡ [] → WroteAs {T = T} {E = E} sink sink front (Ok done)
nothing_put sink front done is = rw is (wrote_none sink done)

-- ---- a text that is loaded

module _ (r : Rules) (bytes : List ℕ) (short : length bytes ≤ saved_limit) where
  pub load_begins : (b : Parts) → AnswersFit (tree_of r) (answered b) × (bytes ≡ saved (tree_of r) (answered b)) → ResumesAs r (to_load bytes) (resumed.Begins (record { answers = b; dropped = dropped.Nothing }))
  load_begins b is = (
    record { answers = answered b; front = [] },
    (short, record { fit = is.0; spelled = is.1; front = refl }),
    record { fit = is.0; answers = refl; front = refl },
  )

  -- what a fault comes to
  refused_as : (basis : Basis) (result : Result Resumed Status) (fault : LoadFault) → ((n : ℕ) → fault ≡ loads.BadSaved n → ResumesAs r basis (resumed.Refused n)) → RefusedFor fault result
      → IfOk result (ResumesAs r basis) × IfErr result (λ status. status ≡ NoMemory)
  refused_as basis result (loads.BadSaved n) refused is = subst (λ q. IfOk q (ResumesAs r basis) × IfErr q (λ status. status ≡ NoMemory)) (sym is) (refused n refl, tt)
  refused_as basis result loads.NoMemory refused is = subst (λ q. IfOk q (ResumesAs r basis) × IfErr q (λ status. status ≡ NoMemory)) (sym is) (tt, refl)

  pub load_refused : (result : Result Resumed Status) (fault : LoadFault) → RefusesText (tree_of r) bytes fault → RefusedFor fault result → IfOk result (ResumesAs r (to_load bytes)) × IfErr result (λ status. status ≡ NoMemory)
  load_refused result fault why is = refused_as (to_load bytes) result fault (λ n same. inr (short, subst (RefusesText (tree_of r) bytes) same why)) is

  pub carry_refused : (result : Result Resumed Status) (fault : LoadFault) → RefusesCarried bytes fault → RefusedFor fault result → IfOk result (ResumesAs r (to_carry bytes)) × IfErr result (λ status. status ≡ NoMemory)
  carry_refused result fault why is = refused_as (to_carry bytes) result fault (λ n same. inr (short, subst (RefusesCarried bytes) same why)) is

-- ---- a text that is carried

pub carry_begins : (r : Rules) (text numbers : Vec ℕ Global) (b : Parts) → length text.items ≤ saved_limit → IsCarry r text.items (answered b) numbers.items
    → ResumesAs r (to_carry text.items) (resumed.Begins (record { answers = b; dropped = dropped.Lines text numbers }))
carry_begins r text numbers b short carry = (
  record { answers = answered b; front = dropped_keys r carry.0.lines },
  (short, record { text = carry.0; is_carried = carry.1; spelled = carry.2; kept = carry.3.kept; fit = carry.3.fit; front = refl }),
  record { fit = carry.3.fit; answers = refl; front = (lines_of_carry r text.items (answered b) numbers.items carry, omega (arith, short)) },
)

-- ---- no answers

pub none_begins : (contents : List ℕ → Contents) (r : Rules) (b : Parts) → answered b ≡ start → ResumedAs contents unanswered r (resumed.Begins (record { answers = b; dropped = dropped.Nothing }))
none_begins contents r b is = (
  no_text,
  tt,
  (start_of_none, refl, record { fit = subst (AnswersFit (tree_of r)) (sym is) (start_fits (tree_of r)); answers = is; front = refl }),
)

-- ---- what was fetched

module _ (contents : List ℕ → Contents) (beginning : Beginning) (r : Rules) (basis : Basis) (brought : MayBring contents beginning basis) where
  pub resumed_by : (result : Result Resumed Status) → IfOk result (ResumesAs r basis) → IfOk result (ResumedAs contents beginning r)
  resumed_by (Ok found) is = (basis, brought, is)
  resumed_by (Err status) is = tt

-- want of memory is one of the reasons
pub wants_memory : (NotHad : Status → Type 0) → NotHad NoMemory → (result : Result Resumed Status) → IfErr result (λ status. status ≡ NoMemory) → IfErr result NotHad
wants_memory NotHad none (Ok found) is = tt
wants_memory NotHad none (Err status) is = subst NotHad (sym is) none
