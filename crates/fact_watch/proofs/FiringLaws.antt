-- Which watches fire.
use Rattle.std.proofs.Common.{◌≡◌, ℕ, ◌<◌, zero, suc, Bool, List, [], ◌∷◌, length, slice_get, map, Option, Some, None, unwrap_or, refl, ap, ◌∙◌, arith}
use Rattle.std.specs.Prelude.{IfSome, option_map}
use Rattle.three_state.specs.declared.res.Res.{Res}
use Rattle.common_lemmas.proofs.Lists.{one_at}
use Rattle.evaluation.specs.Results.{Results}
use Rattle.fact_watch.specs.Says.{slot_says, watch_says}
use Rattle.fact_watch.specs.Watching.{Watch, Watching, code_at, fires_between, fires_now, noted, says_of_watch}

said_of : {R : Type 0} (code : R → ℕ) (o : Option R) (r : R) → o ≡ Some r → (old new : Res) (answer : Bool) → IfSome o (λ x. answer ≡ watch_says (code x) old new) → answer ≡ watch_says (unwrap_or (option_map code o) 0) old new
said_of code None r e old new answer h = absurd (cc)
said_of code (Some x) r e old new answer h = h

-- what the relation at a place that is there answers
pub said_at : {R : Type 0} (code : R → ℕ) (relations : List R) (place : ℕ) → place < length relations → (old new : Res) (answer : Bool) → IfSome (slice_get relations place) (λ x. answer ≡ watch_says (code x) old new)
    → answer ≡ watch_says (code_at code relations place) old new
said_at code relations place low old new answer h = let there = one_at relations place (omega arith) in said_of code (slice_get relations place) there.0 there.1 old new answer h

-- ---- what was noted

-- of the watch at n, what was noted is its slot's result then
pub noted_at : (watched : List Watch) (before : Results) (n : ℕ) (p : Watch) → slice_get watched n ≡ Some p → unwrap_or (slice_get (map (λ (q : Watch). before q.1) watched) n) None ≡ before p.1
noted_at [] before n p e = absurd (cc)
noted_at (q ∷ qs) before zero p e = let same : q ≡ p = cc in ap (λ (x : Watch). before x.1) same
noted_at (q ∷ qs) before (suc n) p e = noted_at qs before n p e

since_by : (codes : ℕ → ℕ) (watched : List Watch) (before now : Results) (n : ℕ) (o : Option Watch) → slice_get watched n ≡ o
    → says_of_watch codes o (λ s. unwrap_or (slice_get (map (λ (q : Watch). before q.1) watched) n) None) now ≡ says_of_watch codes o before now
since_by codes watched before now n None e = refl
since_by codes watched before now n (Some p) e = ap (λ (r : Option Res). slot_says (codes p.0) r (now p.1)) (noted_at watched before n p e)

-- so it fires as its relation says of the results then and now
pub fires_since : (codes : ℕ → ℕ) (w : Watching) (before now : Results) (n : ℕ) (answer : Bool) → answer ≡ fires_now codes w now n → w ≡ noted w.watched before → answer ≡ fires_between codes w.watched before now n
fires_since codes w before now n answer h e =
    h ∙ ap (λ (v : Watching). fires_now codes v now n) e ∙ since_by codes w.watched before now n (slice_get w.watched n) refl

-- ---- what the relation of the watch at n says

pub fires_some : (codes : ℕ → ℕ) (w : Watching) (now : Results) (n : ℕ) (p : Watch) (old new : Option Res) (answer : Bool) → Some p ≡ slice_get w.watched n → old ≡ unwrap_or (slice_get w.notes n) None → new ≡ now p.1
    → answer ≡ slot_says (codes p.0) old new → answer ≡ fires_now codes w now n
fires_some codes w now n p old new answer e f g h =
    h
    ∙ ap (λ (r : Option Res). slot_says (codes p.0) r new) f
    ∙ ap (λ (r : Option Res). slot_says (codes p.0) (unwrap_or (slice_get w.notes n) None) r) g
    ∙ ap (λ (o : Option Watch). says_of_watch codes o (λ s. unwrap_or (slice_get w.notes n) None) now) e
