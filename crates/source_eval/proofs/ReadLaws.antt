-- What is left to read of a list of operands, of cases or of members, before and behind the next one.
use Rattle.std.proofs.Common.{◌≡◌, ℕ, ◌+◌, ◌<◌, Bool, true, false, if◌then◌else◌, List, [], ◌∷◌, ◌++◌, map, flat_map, length, get_or, drop, add-one, append_assoc, Some, refl, sym, ap, ◌∙◌}
use Rattle.fact_values.specs.declared.slot.Slot.{Slot}
use Rattle.fact_values.specs.declared.value.Value.{Value}
use Rattle.fact_values.specs.declared.value.Value.TheVariants.{Item}
use Rattle.dict_source.specs.Tree.{Literal, Reading, Source, Use}
use Rattle.dict_source.specs.View.{case_view, cases_of, trees_of, view}
use Rattle.dict_source.specs.declared.expr.Expr.{Expr}
use Rattle.dict_source.specs.declared.expr.Case.{Case}
use Rattle.dict_source.proofs.FindingLaws.{drop-view}
use Rattle.evaluation.specs.Over.{Env, over}
use Rattle.evaluation.specs.SlotsRead.{ReadBy, after_condition, member_named, member_read as member_read_of, slots_read, slots_read_of_all, slots_read_of_cases, up_to_decider}
use Rattle.operations.specs.CaseSteps.{case_step, truth_step}
use Rattle.operations.specs.declared.cases.CaseStep.{CaseStep}
use Rattle.operations.specs.declared.cases.CaseStep.TheVariants.{Next, Take, End}
use Rattle.operations.specs.ItemSteps.{item_step, value_step}
use Rattle.operations.specs.declared.reads.ItemStep.TheVariants.{Member}
use Rattle.operations.specs.declared.reads.ItemStep.TheVariants as item_end
use Rattle.operations.proofs.StepLaws.{next_member}
use Rattle.three_state.specs.Results.{truth}
use Rattle.three_state.specs.declared.res.Res.{Res}
use Rattle.three_state.specs.declared.res.Res.TheVariants.{Complete, Placeholder, Incomplete, Fault}
use Rattle.dict_meaning.specs.Plain.{conditional_body}
use Rattle.dict_meaning.specs.Dependencies.{EvalPosition}
use Rattle.source_eval.specs.Context.{Context, env_of, reads_of}

-- one more part is read: what is left was that part and what is left now
pub moved_on : {X : Type 0} (old new part rest left : List X) → new ≡ old ++ part → left ≡ part ++ rest → new ++ rest ≡ old ++ left
moved_on old new part rest left e f = ap (λ l. l ++ rest) e ∙ append_assoc old part rest ∙ ap (λ l. old ++ l) (sym f)

-- what is read behind a condition, by what it says of its case
abbrev pub reads_after : {X : Type 0} → CaseStep → List X → List X → List X
reads_after (Next complete) given rest = rest
reads_after (Take complete) given rest = given
reads_after (End r) given rest = []

by_truth : {X : Type 0} (complete b : Bool) (given rest : List X) → (if b then given else rest) ≡ reads_after (truth_step complete b) given rest
by_truth complete true given rest = refl
by_truth complete false given rest = refl

after_step : {X : Type 0} (complete : Bool) (r : Res) (given rest : List X) → after_condition r given rest ≡ reads_after (case_step complete r) given rest
unfolding case_step
after_step complete (Complete v) given rest = by_truth complete (truth v) given rest
after_step complete (Placeholder v) given rest = by_truth false (truth v) given rest
after_step complete Incomplete given rest = refl
after_step complete (Fault fault) given rest = refl

pub after_this_step : {X : Type 0} (complete : Bool) (condition : Res) (step : CaseStep) (given rest : List X) → step ≡ case_step complete condition → after_condition condition given rest ≡ reads_after step given rest
after_this_step complete condition step given rest h = after_step complete condition given rest ∙ ap (λ (s : CaseStep). reads_after s given rest) (sym h)

module _ (env : Env Literal Reading Use EvalPosition) (by : ReadBy Reading Use EvalPosition Slot) (at : EvalPosition) where
  -- ---- operands

  pub operand_read : (es : List Expr) (i : ℕ) (t : Expr) → i < length es → t ≡ get_or es i t → (old new : List Slot) → new ≡ old ++ slots_read env by at (view t)
      → new ++ slots_read_of_all env by at (trees_of (drop (i + 1) (map view es))) ≡ old ++ slots_read_of_all env by at (trees_of (drop i (map view es)))
  operand_read es i t low is old new e =
      moved_on old new (slots_read env by at (view t)) (slots_read_of_all env by at (trees_of (drop (i + 1) (map view es)))) (slots_read_of_all env by at (trees_of (drop i (map view es)))) e
      (ap (λ l. slots_read_of_all env by at (trees_of l)) (drop-view view es i (i + 1) t low is (add-one i)))

  -- ---- cases

  module _ (cs : List Case) (i : ℕ) (c : Case) (low : i < length cs) (is : c ≡ get_or cs i c) where
    pub case_read : (complete : Bool) (step : CaseStep) → step ≡ case_step complete (over env at (view c.test)) → (old new : List Slot) → new ≡ old ++ slots_read env by at (view c.test)
        → new ++ reads_after step (slots_read env by at (view c.outcome)) (slots_read_of_cases env by at (cases_of (drop (i + 1) (map case_view cs)))) ≡ old ++ slots_read_of_cases env by at (cases_of (drop i (map case_view cs)))
    case_read complete step h old new e =
        let given = slots_read env by at (view c.outcome) in
        let rest = slots_read_of_cases env by at (cases_of (drop (i + 1) (map case_view cs))) in
        moved_on old new (slots_read env by at (view c.test)) (reads_after step given rest) (slots_read_of_cases env by at (cases_of (drop i (map case_view cs)))) e
        (ap (λ l. slots_read_of_cases env by at (cases_of l)) (drop-view case_view cs i (i + 1) c low is (add-one i))
        ∙ ap (λ l. slots_read env by at (view c.test) ++ l) (after_this_step complete (over env at (view c.test)) step given rest h))

-- ---- members

module _ {X : Type 0} (f : ℕ → List X) (ms : List ℕ) (i : ℕ) (low : i < length ms) (old new : List X) (e : new ≡ old ++ f (get_or ms i 0)) where
  pub member_read : new ++ flat_map f (drop (i + 1) ms) ≡ old ++ flat_map f (drop i ms)
  member_read = moved_on old new (f (get_or ms i 0)) (flat_map f (drop (i + 1) ms)) (flat_map f (drop i ms)) e (ap (flat_map f) (next_member ms i low))

  pub judged_read : (condition : ℕ → Res) (complete : Bool) (step : CaseStep) → step ≡ case_step complete (condition (get_or ms i 0))
      → new ++ flat_map f (reads_after step [] (up_to_decider condition (drop (i + 1) ms))) ≡ old ++ flat_map f (up_to_decider condition (drop i ms))
  judged_read condition complete step h =
      let rest = up_to_decider condition (drop (i + 1) ms) in
      moved_on old new (f (get_or ms i 0)) (flat_map f (reads_after step [] rest)) (flat_map f (up_to_decider condition (drop i ms))) e
      (ap (λ l. flat_map f (up_to_decider condition l)) (next_member ms i low)
      ∙ ap (λ l. f (get_or ms i 0) ++ flat_map f l) (after_this_step complete (condition (get_or ms i 0)) step [] rest h))

-- ---- a body with a conditional

-- two parts that were read
pub joined : {X : Type 0} (old mid new a b : List X) → new ≡ mid ++ b → mid ≡ old ++ a → new ≡ old ++ (a ++ b)
joined old mid new a b e f = e ∙ ap (λ l. l ++ b) f ∙ append_assoc old a b

-- its value is read where the condition is true, else the main expression
pub conditional_read : (k : Context) (at : EvalPosition) (test value main : Source) (step : CaseStep) → step ≡ case_step true (over (env_of k) at test)
    → (old new : List Slot) → new ≡ old ++ slots_read (env_of k) (reads_of k) at test
    → new ++ reads_after step (slots_read (env_of k) (reads_of k) at value) (slots_read (env_of k) (reads_of k) at main)
    ≡ old ++ slots_read (env_of k) (reads_of k) at (conditional_body (Some (test, value)) main)
conditional_read k at test value main step h old new e =
    let env = env_of k in
    let by = reads_of k in
    moved_on old new (slots_read env by at test) (reads_after step (slots_read env by at value) (slots_read env by at main)) (slots_read env by at (conditional_body (Some (test, value)) main)) e
    (ap (λ l. slots_read env by at test ++ l) (after_this_step true (over env at test) step (slots_read env by at value) (slots_read env by at main) h))

-- ---- the field of the member that an item names

value_named : (complete still : Bool) (v : Value) (m : ℕ) → value_step complete v ≡ Member m still → member_named v ≡ m ∷ []
value_named complete still (Item n) m e = let same : n ≡ m = cc in ap (λ (k : ℕ). k ∷ []) same
value_named complete still _ m e = absurd (cc)

value_ended : (complete : Bool) (v : Value) (r : Res) → value_step complete v ≡ item_end.End r → member_named v ≡ []
value_ended complete (Item n) r e = absurd (cc)
value_ended complete _ r e = refl

pub item_named : (item : Res) (m : ℕ) (still : Bool) → item_step item ≡ Member m still → member_read_of item ≡ m ∷ []
unfolding item_step
item_named (Complete v) m still e = value_named true still v m e
item_named (Placeholder v) m still e = value_named false still v m e
item_named Incomplete m still e = absurd (cc)
item_named (Fault fault) m still e = absurd (cc)

pub item_ended : (item : Res) (r : Res) → item_step item ≡ item_end.End r → member_read_of item ≡ []
unfolding item_step
item_ended (Complete v) r e = value_ended true v r e
item_ended (Placeholder v) r e = value_ended false v r e
item_ended Incomplete r e = refl
item_ended (Fault fault) r e = refl
