-- How desks are begun, and why they aren't.
use Rattle.std.proofs.Common.{Box, ◌≡◌, ℕ, false, List, [], Result, Ok, Err, IfErr, IfOk, refl, sym, ap, subst, ◌∙◌}
use Rattle.std.specs.declared.alloc.Global.{Global}
use Rattle.answers.specs.Answered.{Answered, start}
use Rattle.dictionary.specs.AcceptedParts.{AcceptedParts}
use Rattle.dict_meaning.specs.Fits.{AnswersFit}
use Rattle.dictionary.specs.declared.fault.DictFault.TheVariants.{NoMemory}
use Rattle.graph_session.specs.Rules.{Rules, rules, tree_of}
use Rattle.save_file.specs.Loading.{IsSavedText}
use Rattle.saved_text.specs.SavedText.{saved}
use Rattle.shared_desk.specs.Desk.{desk_begun}
use Rattle.shared_desk.specs.DeskView.{DeskView, StandsFor}
use Rattle.fact_graph_c.specs.DeskAnswers.{desk_said}
use Rattle.fact_graph_c.specs.DeskOpenings.{IsDeskBegun, LoadsDesk, LoadsDeskOver, OpensDesk, OpensDeskBuiltIn}
use Rattle.fact_graph_c.specs.Openings.{Accepts, Brings, NotBrought, NotLoaded, NotOpened, RefusesOver}
use Rattle.fact_graph_c.specs.declared.desk_engine.DeskEngine.{DeskEngine}
use Rattle.fact_graph_c.specs.declared.fault.NotBegun.{NotBegun}
use Rattle.fact_graph_c.specs.declared.fault.NotBegun.TheVariants.{Dictionary}
use Rattle.fact_graph_c.proofs.StartLaws.{not_over}

-- a desk in its box
abbrev pub BoxedDesk : Type 0
BoxedDesk = Box DeskEngine Global

-- nothing but want of memory hinders it
abbrev pub BeginsDesk : Rules → Answered → Result BoxedDesk NotBegun → Type 0
BeginsDesk r a result = IfOk result (λ x. IsDeskBegun r a x.value) × IfErr result (λ why. why ≡ Dictionary NoMemory)

pub is_desk_begun : (k : AcceptedParts) (a : Answered) (v : DeskView) (e : DeskEngine) → v.session.dict ≡ k → StandsFor v (desk_begun (rules k) a) → e.desk ≡ v → e.over ≡ false → desk_said e ≡ [] → IsDeskBegun (rules k) a e
is_desk_begun k a v e dict stands same over text = record {
  by = ap (λ (w : DeskView). rules w.session.dict) same ∙ ap rules dict;
  stands = subst (λ (w : DeskView). StandsFor w (desk_begun (rules k) a)) (sym same) stands;
  goes_on = over;
  text = text;
}

-- what holds of a desk holds of it in its box
pub begins_desk : (r : Rules) (a : Answered) (e : DeskEngine) (result : Result BoxedDesk NotBegun) → IsDeskBegun r a e → IfOk result (λ x. x.value ≡ e) → IfOk result (λ x. IsDeskBegun r a x.value)
begins_desk r a e (Ok x) begun same = subst (IsDeskBegun r a) (sym same) begun
begins_desk r a e (Err why) begun same = tt

-- a text that is loaded
pub loads_desk_over : (IsText : List ℕ → Type 0) (r : Rules) (text : List ℕ) (a : Answered) (result : Result BoxedDesk NotBegun) → AnswersFit (tree_of r) a × (text ≡ saved (tree_of r) a) → BeginsDesk r a result
    → IfOk result (λ x. LoadsDeskOver r text x.value) × IfErr result (RefusesOver IsText text)
loads_desk_over IsText r text a (Ok x) is begins = ((a, is.0, is.1, begins.0), tt)
loads_desk_over IsText r text a (Err why) is begins = (tt, subst (RefusesOver IsText text) (sym begins.1) refl)

-- ---- over dictionaries

pub opens_desk : (bytes : List ℕ) (r : Rules) (a : Answered) (result : Result BoxedDesk NotBegun) → Accepts bytes r → a ≡ start → BeginsDesk r a result
    → IfOk result (λ x. OpensDesk bytes x.value) × IfErr result (NotOpened bytes)
opens_desk bytes r a (Ok x) accepts none begun = ((r, accepts, subst (λ (b : Answered). IsDeskBegun r b x.value) none begun.0), tt)
opens_desk bytes r a (Err why) accepts none begun = (tt, subst (NotOpened bytes) (sym begun.1) tt)

pub opens_desk_built_in : (words : List ℕ) (r : Rules) (a : Answered) (result : Result BoxedDesk NotBegun) → Brings words r → a ≡ start → BeginsDesk r a result
    → IfOk result (λ x. OpensDeskBuiltIn words x.value) × IfErr result (NotBrought words)
opens_desk_built_in words r a (Ok x) brings none begun = ((r, brings, subst (λ (b : Answered). IsDeskBegun r b x.value) none begun.0), tt)
opens_desk_built_in words r a (Err why) brings none begun = (tt, subst (NotBrought words) (sym begun.1) refl)

pub loads_desk : (bytes text : List ℕ) (r : Rules) (result : Result BoxedDesk NotBegun) → Accepts bytes r → IfOk result (λ x. LoadsDeskOver r text x.value) → IfErr result (RefusesOver (IsSavedText (tree_of r)) text)
    → IfOk result (λ x. LoadsDesk bytes text x.value) × IfErr result (NotLoaded bytes text)
loads_desk bytes text r (Ok x) accepts loaded refused = ((r, accepts, loaded), tt)
loads_desk bytes text r (Err why) accepts loaded refused = (tt, not_over (λ s. IsSavedText (tree_of s)) bytes text r why accepts refused)
