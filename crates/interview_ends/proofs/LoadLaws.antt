-- The rules of a load, and the text that it gives.
use Rattle.std.proofs.Common.{◌≡◌, ℕ, List, [], length, Option, Some, Result, Ok, Err, inl, inr, refl, sym, ap, subst, ◌∙◌}
use Rattle.std.specs.Prelude.{IfOk, Vec}
use Rattle.std.specs.declared.alloc.Global.{Global}
use Rattle.fact_values.specs.declared.memory.NoMemory.{NoMemory}
use Rattle.std.specs.Io.KnownBytes.{Appends}
use Rattle.fg_io.specs.Outside.{MayBe, Output}
use Rattle.script_lines.specs.Joined.{joined}
use Rattle.script_lines.specs.Lines.{lines_of}
use Rattle.session_lines.specs.Writing.{pieces_of}
use Rattle.answers.specs.Answered.{start}
use Rattle.dictionary.specs.AcceptedParts.{Named}
use Rattle.dictionary.specs.Keeping.{node_count}
use Rattle.dict_gen.specs.Script.{script}
use Rattle.graph_session.specs.Rules.{Rules, tree_of}
use Rattle.script_runs.specs.declared.status.Status.{Status}
use Rattle.script_runs.specs.declared.status.Status.TheVariants.{Done}
use Rattle.script_runs.specs.declared.mode.Mode.TheVariants.{Incremental}
use Rattle.script_runs.specs.Devices.{BeforeAfter}
use Rattle.script_runs.specs.DefinedScript.{defined_script}
use Rattle.script_runs.specs.Meanings.{Meaning, meaning_of}
use Rattle.interview_ends.specs.StepEnds.{EndedBy}
use Rattle.interview_ends.specs.Summary.{summary, texts_in}
use Rattle.dict_meaning.proofs.AcceptedLaws.{one_accepted}
use Rattle.interview_ends.specs.CallsFor.{PutsSummary}
use Rattle.interview_ends.specs.LastLines.{PutLinesAtEnd}
use Rattle.interview_ends.specs.Load.{GeneratedAs, IsOfLoad, OneEndOfGen, defined_gen, gen_lines}

-- ---- one dictionary

pub one_of_load : (n : ℕ) (r s : Rules) → IsOfLoad n r → IsOfLoad n s → r ≡ s
one_of_load n r s h k =
    let same = one_accepted [] r.accepted s.accepted (h.facts ∙ sym k.facts) h.is_accepted k.is_accepted in
    let checks = h.checks ∙ sym k.checks in
    λ i. record { accepted = same i; checks = checks i }

pub one_gen : OneEndOfGen
one_gen relations n d e (r, is, to) (s, is_other, to_other) = to ∙ ap (λ q. defined_gen q relations n) (one_of_load n r s is is_other) ∙ sym to_other

-- ---- what it comes to

-- a script that is known was answered whole into a sink that is known
pub output_replies : (m : Meaning) (left before after : Option (List ℕ)) (script taken : List ℕ) → left ≡ Some script → before ≡ Some [] → after ≡ Some taken
    → (given : List ℕ) × MayBe left given × ((defined_script m given).status ≡ Done) × Appends before after (defined_script m given).text → taken ≡ (defined_script m script).text
output_replies m left before after script taken contents none took ends =
    let text = (defined_script m ends.0).text in
    let same : script ≡ ends.0 = subst (λ (o : Option (List ℕ)). MayBe o ends.0) contents ends.1 in
    let wrote : taken ≡ text = subst (λ (o : Option (List ℕ)). Appends (Some []) o text) took (subst (λ (o : Option (List ℕ)). Appends o after text) none ends.3) in
    wrote ∙ ap (λ s. (defined_script m s).text) (sym same)

pub summed : (r : Rules) (relations : List Named) (n facts nodes lines : ℕ) (made_script replies : List ℕ) (texts : List (List ℕ))
    → facts ≡ length (tree_of r).facts → nodes ≡ node_count (tree_of r) → lines ≡ length (lines_of made_script) → made_script ≡ script n → replies ≡ (defined_script (meaning_of r Incremental relations start) made_script).text
    → texts ≡ pieces_of (summary n facts nodes lines (lines_of replies)) → texts ≡ pieces_of (gen_lines r relations n)
summed r relations n facts nodes lines made_script replies texts a b c same replied is =
    let count = c ∙ ap (λ (s : List ℕ). length (lines_of s)) same in
    let whole = replied ∙ ap (λ (s : List ℕ). (defined_script (meaning_of r Incremental relations start) s).text) same in
    is ∙ (λ i. pieces_of (summary n (a i) (b i) (count i) (lines_of (whole i))))

pub summed_of_load : (r : Rules) (relations : List Named) (n facts nodes lines : ℕ) (made_script replies : List ℕ) → IsOfLoad n r
    → facts ≡ length (tree_of r).facts → nodes ≡ node_count (tree_of r) → lines ≡ length (lines_of made_script) → made_script ≡ script n → replies ≡ (defined_script (meaning_of r Incremental relations start) made_script).text
    → (result : Result (Vec (Vec ℕ Global) Global) NoMemory) → IfOk result (λ texts. texts_in texts.items ≡ pieces_of (summary n facts nodes lines (lines_of replies)))
    → IfOk result (λ texts. (q : Rules) × IsOfLoad n q × (texts_in texts.items ≡ pieces_of (gen_lines q relations n)))
summed_of_load r relations n facts nodes lines made_script replies is a b c same replied (Ok texts) sum = (r, is, summed r relations n facts nodes lines made_script replies (texts_in texts.items) a b c same replied sum)
summed_of_load r relations n facts nodes lines made_script replies is a b c same replied (Err fault) sum = tt

module _ (relations : List Named) (n : ℕ) (r : Rules) (is : IsOfLoad n r) where
  pub generated_by : (output : BeforeAfter Output) (status : Status) → EndedBy output.before output.after (joined (gen_lines r relations n)) Done status → GeneratedAs relations n output status
  generated_by output status (inl (ended, wrote)) = subst (GeneratedAs relations n output) (sym ended) (defined_gen r relations n, (r, is, refl), wrote)
  generated_by output status (inr (ended, rose, part)) = subst (GeneratedAs relations n output) (sym ended) (rose, (defined_gen r relations n, (r, is, refl), part))

  -- and by which puts
  pub summary_put : {K : Type 0} (output : K → Output) (out out_now : K) (status : Status) → PutLinesAtEnd (output out) (output out_now) (gen_lines r relations n) Done status → PutsSummary output relations n status out out_now
  summary_put output out out_now status (inl (ended, wrote)) = subst (λ s. PutsSummary output relations n s out out_now) (sym ended) (r, is, wrote)
  summary_put output out out_now status (inr (ended, part)) = subst (λ s. PutsSummary output relations n s out out_now) (sym ended) (r, is, part)
