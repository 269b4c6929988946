-- How sessions are begun over the dictionaries that hosts bring, and why they aren't.
use Rattle.std.proofs.Common.{◌≡◌, ℕ, List, [], Result, Ok, Err, IfErr, IfOk, sym, subst}
use Rattle.answers.specs.Answered.{Answered, start}
use Rattle.dictionary.specs.AcceptedParts.{names_of}
use Rattle.dictionary.specs.Faults.{IsFault, Refuses}
use Rattle.graph_session.specs.Rules.{Rules, tree_of}
use Rattle.saved_text.specs.CarriedText.{IsCarriedText}
use Rattle.save_file.specs.Loading.{IsSavedText}
use Rattle.session_lines.specs.Tables.{standard_checks}
use Rattle.fact_graph_c.specs.Openings.{Accepts, IsBegun, NotOpened, NotResumed, RefusesOver}
use Rattle.fact_graph_c.specs.Starts.{NotStarted, NotStartedOver, Starts, StartsOver}
use Rattle.fact_graph_c.specs.declared.fault.NotBegun.{NotBegun}
use Rattle.fact_graph_c.specs.declared.fault.NotBegun.TheVariants.{Dictionary, Saved, Unknown}
use Rattle.fact_graph_c.specs.declared.start.Start.{Start}
use Rattle.fact_graph_c.specs.declared.start.Start.TheVariants.{Fresh, Loaded, Carried, Resumed}
use Rattle.fact_graph_c.proofs.OpeningLaws.{Begins, Boxed}

-- ---- over an accepted dictionary

pub not_over : (IsText : Rules → List ℕ → Type 0) (bytes text : List ℕ) (r : Rules) (why : NotBegun) → Accepts bytes r → RefusesOver (IsText r) text why → NotResumed IsText bytes text why
not_over IsText bytes text r (Dictionary fault) accepts is = subst (Refuses (IsFault bytes (names_of standard_checks))) (sym is) tt
not_over IsText bytes text r (Saved line) accepts is = (r, accepts, is)
not_over IsText bytes text r Unknown accepts is = is

-- with no answers
pub starts_fresh : (how : Start) (r : Rules) (text : List ℕ) (a : Answered) (result : Result Boxed NotBegun) → how ≡ Fresh → a ≡ start → Begins r a [] result
    → IfOk result (λ x. StartsOver how r text x.value) × IfErr result (NotStartedOver how r text)
starts_fresh how r text a result is none begins =
    subst (λ (h : Start). IfOk result (λ x. StartsOver h r text x.value) × IfErr result (NotStartedOver h r text)) (sym is)
    (subst (λ (b : Answered). IfOk result (λ x. IsBegun r b [] x.value)) none begins.0, begins.1)

pub starts : (how : Start) (bytes text : List ℕ) (r : Rules) (result : Result Boxed NotBegun) → Accepts bytes r → IfOk result (λ x. StartsOver how r text x.value) → IfErr result (NotStartedOver how r text)
    → IfOk result (λ x. Starts how bytes text x.value) × IfErr result (NotStarted how bytes text)
starts how bytes text r (Ok x) accepts started refused = ((r, accepts, started), tt)
starts Fresh bytes text r (Err why) accepts started refused = (tt, subst (NotOpened bytes) (sym refused) tt)
starts Loaded bytes text r (Err why) accepts started refused = (tt, not_over (λ s. IsSavedText (tree_of s)) bytes text r why accepts refused)
starts Carried bytes text r (Err why) accepts started refused = (tt, not_over (λ _. IsCarriedText) bytes text r why accepts refused)
starts Resumed bytes text r (Err why) accepts started refused = (tt, not_over (λ _. IsCarriedText) bytes text r why accepts refused)

-- ---- over one that isn't accepted

pub not_accepted : (IsText : Rules → List ℕ → Type 0) (bytes text : List ℕ) (why : NotBegun) → NotOpened bytes why → NotResumed IsText bytes text why
not_accepted IsText bytes text (Dictionary fault) refused = refused
not_accepted IsText bytes text (Saved line) refused = absurd refused
not_accepted IsText bytes text Unknown refused = absurd refused

pub not_started : (how : Start) (bytes text : List ℕ) (why : NotBegun) → NotOpened bytes why → NotStarted how bytes text why
not_started Fresh bytes text why refused = refused
not_started Loaded bytes text why refused = not_accepted (λ s. IsSavedText (tree_of s)) bytes text why refused
not_started Carried bytes text why refused = not_accepted (λ _. IsCarriedText) bytes text why refused
not_started Resumed bytes text why refused = not_accepted (λ _. IsCarriedText) bytes text why refused
