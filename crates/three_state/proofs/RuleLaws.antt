-- Complete operands, and the forms in which loops take Switch and Filter.
use Rattle.std.proofs.Common.{◌≡◌, ℕ, Bool, true, false, not, if◌then◌else◌, List, [], ◌∷◌, ◌++◌, map, None, Result, Ok, IsTrue, refl, sym, ap, ◌∙◌}
use Rattle.std.proofs.lemmas.List.{append-nil}
use Rattle.common_lemmas.proofs.Lists.{kept_one}
use Rattle.std.specs.List.{list_any, list_all}
use Rattle.fact_values.specs.declared.fault.ValueFault.{ValueFault}
use Rattle.fact_values.specs.declared.value.Value.{Value}
use Rattle.fact_values.specs.declared.value.Value.TheVariants.{Boolean, Members}
use Rattle.three_state.specs.declared.res.Res.{Res}
use Rattle.three_state.specs.declared.res.Res.TheVariants.{Complete, Placeholder, Incomplete, Fault}
use Rattle.three_state.specs.declared.strict.Verdict.{Verdict}
use Rattle.three_state.specs.declared.strict.Verdict.TheVariants as verdict
use Rattle.three_state.specs.Results.{after_verdict, down, filter_members, first_fault, is_complete, is_complete_at, is_incomplete, is_placeholder, is_placeholder_at, is_true, junction, kept, strict, switch_of, truth, values_of}
use Rattle.three_state.specs.Folds.{down_unless, filter_on, kept_next, switch_on, verdict_next, verdict_on}
use Rattle.three_state.specs.Laws.{AreComplete, switch_next}
use Rattle.three_state.proofs.FoldLaws.{verdict_on-start}
use Rattle.three_state.proofs.OrderLaws.{down-down, not_complete}

-- ---- complete operands

-- no test that a complete result fails holds of one
none_of : (p : Res → Bool) → ((v : Value) → p (Complete v) ≡ false) → (rs : List Res) → list_all is_complete rs ≡ true → list_any p rs ≡ false
none_of p fails [] h = refl
none_of p fails (Complete v ∷ rs) h = rw (fails v) (none_of p fails rs h)
none_of p fails (_ ∷ rs) h = cc

no_fault : (rs : List Res) → list_all is_complete rs ≡ true → first_fault rs ≡ None
no_fault [] h = refl
no_fault (Complete v ∷ rs) h = no_fault rs h
no_fault (_ ∷ rs) h = cc

either_complete : (b : Bool) (v w : Value) → is_complete (if b then Complete v else Complete w) ≡ true
either_complete true v w = refl
either_complete false v w = refl

pub junction-complete : (d : Bool) (rs : List Res) → AreComplete rs → IsTrue (is_complete (junction d rs))
junction-complete d rs all =
    rw (none_of is_incomplete (λ v. refl) rs all, no_fault rs all, none_of (is_placeholder_at d) (λ v. refl) rs all, none_of is_placeholder (λ v. refl) rs all) (either_complete (list_any (is_complete_at d) rs) (Boolean d) (Boolean (not d)))

pub strict-complete : (op : List Value → Result Value ValueFault) (rs : List Res) (v : Value) → AreComplete rs → op (values_of rs) ≡ Ok v → strict op rs ≡ Complete v
strict-complete op rs v all e = rw (none_of is_incomplete (λ v. refl) rs all, no_fault rs all, all, e) refl

complete_by : (op : List Value → Result Value ValueFault) (rs : List Res) (v : Value) (b : Bool) → list_all is_complete rs ≡ b → strict op rs ≡ Complete v → AreComplete rs
complete_by op rs v true h e = h
complete_by op rs v false h e = absurd (not_complete (list_any is_incomplete rs) (first_fault rs) (op (values_of rs)) v (rw h at e))

pub complete-strict : (op : List Value → Result Value ValueFault) (rs : List Res) (v : Value) → strict op rs ≡ Complete v → AreComplete rs
complete-strict op rs v e = complete_by op rs v (list_all is_complete rs) refl e

-- ---- loops

pub incomplete-stays : (rs : List Res) → verdict_on verdict.Incomplete rs ≡ verdict.Incomplete
incomplete-stays [] = refl
incomplete-stays (r ∷ rs) = incomplete-stays rs

down_unless-if : (c b : Bool) (x y : Res) → down_unless c (if b then x else y) ≡ (if b then down_unless c x else down_unless c y)
down_unless-if c true x y = refl
down_unless-if c false x y = refl

if-down : (b : Bool) (x y : Res) → down (if b then x else y) ≡ (if b then down x else down y)
if-down true x y = refl
if-down false x y = refl

pub switch_on-next : (c : Bool) (t g : Res) (cs : List (Res × Res)) → switch_on c ((t, g) ∷ cs) ≡ switch_next c t g cs
switch_on-next c (Complete v) g cs = down_unless-if c (truth v) g (switch_of cs)
switch_on-next true (Placeholder v) g cs = if-down (truth v) g (switch_of cs)
switch_on-next false (Placeholder v) g cs = down-down _ ∙ if-down (truth v) g (switch_of cs)
switch_on-next true Incomplete g cs = refl
switch_on-next false Incomplete g cs = refl
switch_on-next true (Fault fault) g cs = refl
switch_on-next false (Fault fault) g cs = refl

pub filter_on-found : (condition : ℕ → Res) (found : List ℕ) (so_far : Verdict) (ms : List ℕ)
    → filter_on condition found so_far ms ≡ after_verdict (verdict_on so_far (map condition ms)) (Ok (Members (found ++ kept condition ms)))
filter_on-found condition found so_far [] = ap (λ ms. after_verdict so_far (Ok (Members ms))) (sym (append-nil found))
filter_on-found condition found so_far (m ∷ ms) =
    filter_on-found condition (kept_next found m (condition m)) (verdict_next so_far (condition m)) ms
    ∙ ap (λ all. after_verdict (verdict_on (verdict_next so_far (condition m)) (map condition ms)) (Ok (Members all))) (kept_one (is_true (condition m)) found m (kept condition ms))

pub filter_on-start : (condition : ℕ → Res) (ms : List ℕ) → filter_on condition [] (verdict.Go true) ms ≡ filter_members condition ms
filter_on-start condition ms =
    filter_on-found condition [] (verdict.Go true) ms
    ∙ ap (λ v. after_verdict v (Ok (Members (kept condition ms)))) (verdict_on-start (map condition ms))
