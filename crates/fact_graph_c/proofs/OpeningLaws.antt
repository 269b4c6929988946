-- How sessions are begun, and why they aren't.
use Rattle.std.proofs.Common.{Box, ◌≡◌, ℕ, true, false, List, [], Result, Ok, Err, IfErr, IfOk, refl, sym, ap, subst}
use Rattle.std.specs.declared.alloc.Global.{Global}
use Rattle.answers.specs.Answered.{Answered, start}
use Rattle.dictionary.specs.AcceptedParts.{AcceptedParts}
use Rattle.dict_meaning.specs.Fits.{AnswersFit}
use Rattle.dictionary.specs.declared.fault.DictFault.TheVariants.{NoMemory}
use Rattle.graph_session.specs.Rules.{Rules, rules, tree_of}
use Rattle.graph_session.specs.SessionView.{SessionView, session_state, start_at}
use Rattle.fact_watch.specs.Watching.{nothing_watched}
use Rattle.save_file.specs.Carrying.{IsCarry}
use Rattle.save_file.specs.Dropped.{dropped_text}
use Rattle.save_file.specs.Resuming.{IsResume, DroppedLine}
use Rattle.saved_text.specs.SavedText.{saved}
use Rattle.saved_text.specs.declared.fault.LoadFault.{LoadFault}
use Rattle.saved_text.specs.declared.fault.LoadFault.TheVariants as loads
use Rattle.fact_graph_c.specs.Answering.{said}
use Rattle.fact_graph_c.specs.DroppedLines.{dropped_lines_text}
use Rattle.fact_graph_c.specs.Openings.{Brings, CarriesOver, IsBadText, IsBegun, IsFaultOfText, LoadsOver, NotBrought, OpensBuiltIn, RefusesOver, ResumesOver}
use Rattle.session_lines.specs.Tables.{standard_relations}
use Rattle.fact_graph_c.specs.declared.engine.Engine.{Engine}
use Rattle.fact_graph_c.specs.declared.fault.NotBegun.{NotBegun}
use Rattle.fact_graph_c.specs.declared.fault.NotBegun.TheVariants.{Dictionary}

-- ---- begun

pub is_begun : (k : AcceptedParts) (a : Answered) (front : List ℕ) (e : Engine) → e.session ≡ start_at k a true → e.watches ≡ nothing_watched → e.over ≡ false → said e ≡ front → IsBegun (rules k) a front e
is_begun k a front e session watches over text = record {
  by = ap (λ (s : SessionView). rules s.dict) session;
  state = λ i. record { standing = record { session_state = session_state (session i); relations = standard_relations; watched = (watches i).watched }; over = over i };
  text = text;
}

-- an engine in its box
abbrev pub Boxed : Type 0
Boxed = Box Engine Global

-- nothing but want of memory hinders it
abbrev pub Begins : Rules → Answered → List ℕ → Result Boxed NotBegun → Type 0
Begins r a front result = IfOk result (λ x. IsBegun r a front x.value) × IfErr result (λ why. why ≡ Dictionary NoMemory)

-- what holds of an engine holds of it in its box
pub begins : (r : Rules) (a : Answered) (front : List ℕ) (e : Engine) (result : Result Boxed NotBegun) → IsBegun r a front e → IfOk result (λ x. x.value ≡ e) → IfOk result (λ x. IsBegun r a front x.value)
begins r a front e (Ok x) begun same = subst (IsBegun r a front) (sym same) begun
begins r a front e (Err why) begun same = tt

-- whatever was said
pub begins_with : (r : Rules) (a : Answered) (front text : List ℕ) (result : Result Boxed NotBegun) → front ≡ text → IfOk result (λ x. IsBegun r a front x.value) → IfOk result (λ x. IsBegun r a text x.value)
begins_with r a front text result same begun = subst (λ (t : List ℕ). IfOk result (λ x. IsBegun r a t x.value)) same begun

-- a text that is loaded
pub loads_over : (IsText : List ℕ → Type 0) (r : Rules) (text : List ℕ) (a : Answered) (result : Result Boxed NotBegun) → AnswersFit (tree_of r) a × (text ≡ saved (tree_of r) a) → Begins r a [] result
    → IfOk result (λ x. LoadsOver r text x.value) × IfErr result (RefusesOver IsText text)
loads_over IsText r text a (Ok x) is begins = ((a, is.0, is.1, begins.0), tt)
loads_over IsText r text a (Err why) is begins = (tt, subst (RefusesOver IsText text) (sym begins.1) refl)

-- a text that is carried
pub carries_over : (r : Rules) (text : List ℕ) (a : Answered) (dropped front : List ℕ) (c : IsCarry r text a dropped) (result : Result Boxed NotBegun) → front ≡ dropped_text r c.0.lines
    → IfOk result (λ x. IsBegun r a front x.value) → IfOk result (λ x. CarriesOver r text x.value)
carries_over r text a dropped front c (Ok x) is begun = (a, (dropped, (c, subst (λ (t : List ℕ). IsBegun r a t x.value) is begun)))
carries_over r text a dropped front c (Err why) is begun = tt

-- a text that came from outside
pub resumes_over : (r : Rules) (text : List ℕ) (a : Answered) (others : List DroppedLine) (front : List ℕ) → IsResume r text a others → (result : Result Boxed NotBegun) → front ≡ dropped_lines_text others
    → IfOk result (λ x. IsBegun r a front x.value) → IfOk result (λ x. ResumesOver r text x.value)
resumes_over r text a others front resume (Ok x) is begun = (a, (others, (resume, subst (λ (t : List ℕ). IsBegun r a t x.value) is begun)))
resumes_over r text a others front resume (Err why) is begun = tt

-- ---- or not

-- a fault of a saved text
pub refuses_over : (IsText : List ℕ → Type 0) (text : List ℕ) (fault : LoadFault) (why : NotBegun) → ((n : ℕ) → fault ≡ loads.BadSaved n → IsBadText IsText text n) → IsFaultOfText fault why → RefusesOver IsText text why
refuses_over IsText text (loads.BadSaved n) why bad is = subst (RefusesOver IsText text) (sym is) (bad n refl)
refuses_over IsText text loads.NoMemory why bad is = subst (RefusesOver IsText text) (sym is) refl

-- want of memory is one of the reasons
pub memory_refuses : {X : Type 0} (IsText : List ℕ → Type 0) (text : List ℕ) (result : Result X NotBegun) → IfErr result (λ why. why ≡ Dictionary NoMemory) → IfErr result (RefusesOver IsText text)
memory_refuses IsText text (Ok x) memory = tt
memory_refuses IsText text (Err why) memory = subst (RefusesOver IsText text) (sym memory) refl

-- ---- over what comes with the library

pub opens_built_in : (words : List ℕ) (r : Rules) (a : Answered) (result : Result Boxed NotBegun) → Brings words r → a ≡ start → Begins r a [] result
    → IfOk result (λ x. OpensBuiltIn words x.value) × IfErr result (NotBrought words)
opens_built_in words r a (Ok x) brings none begun = ((r, brings, subst (λ (b : Answered). IsBegun r b [] x.value) none begun.0), tt)
opens_built_in words r a (Err why) brings none begun = (tt, subst (NotBrought words) (sym begun.1) refl)
