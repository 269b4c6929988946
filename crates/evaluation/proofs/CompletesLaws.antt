-- A complete result of a node rests on complete operands.
use Rattle.std.proofs.Common.{◌≡◌, ◌⊎◌, inl, inr, ℕ, pos, Bool, true, false, not, ◌&&◌, if◌then◌else◌, IsTrue, List, [], ◌∷◌, map, count_by, Option, Some, None, Result, Ok, refl}
use Rattle.std.specs.List.{list_any}
use Rattle.fact_values.specs.declared.fact_type.FactType.{FactType}
use Rattle.fact_values.specs.declared.fact_type.FactType.TheVariants as types
use Rattle.fact_values.specs.declared.fault.ValueFault.{ValueFault}
use Rattle.fact_values.specs.declared.value.Value.{Value}
use Rattle.fact_values.specs.declared.value.Value.TheVariants.{Boolean, Int, Item, Members}
use Rattle.dict_source.specs.Tree.{Tree, Trees, Cases, switch, many, one, two, pick}
use Rattle.dict_source.specs.declared.operators.ManyOp.{ManyOp}
use Rattle.dict_source.specs.declared.operators.ManyOp.TheVariants.{All, Any, Add, Subtract, GreaterOf, LesserOf}
use Rattle.dict_source.specs.declared.operators.OneOp.{OneOp}
use Rattle.dict_source.specs.declared.operators.TwoOp.{TwoOp}
use Rattle.dict_source.specs.declared.operators.PickOp.{PickOp}
use Rattle.dict_source.specs.declared.operators.PickOp.TheVariants.{Filter, Find}
use Rattle.three_state.specs.declared.res.Res.{Res}
use Rattle.three_state.specs.declared.res.Res.TheVariants.{Complete, Placeholder, Incomplete, Fault}
use Rattle.three_state.specs.Laws.{AreComplete}
use Rattle.three_state.specs.Results.{count_of, down, fault_else, field_operands, fields_in, find_cases, first_fault, is_complete, is_complete_at, is_incomplete, is_placeholder, is_placeholder_at, junction, kept, members_in, members_of, strict, switch_of, through, truth}
use Rattle.three_state.proofs.RuleLaws.{complete-strict}
use Rattle.common_lemmas.proofs.Bools.{both}
use Rattle.evaluation.specs.Completes.{IsComplete, ManyRests, PickRests, is_taken_complete}
use Rattle.evaluation.specs.Operations.{many_value, on_one, on_two, one_value, size_value, sum_of_dollars, sum_of_ints, two_value}
use Rattle.evaluation.specs.Over.{Env, over, over_all, over_cases}
use Rattle.evaluation.specs.Reads.{collection_size, field_at, sum_over, through_item}

down_never : (r : Res) → IsComplete (down r) → ⊥
down_never (Complete v) h = cc
down_never (Placeholder v) h = cc
down_never Incomplete h = cc
down_never (Fault fault) h = cc

pub down-never-completes : {C R P S : Type 0} (env : Env C R P S) (at : S) (t : Tree C R P) → IsComplete (down (over env at t)) → ⊥
down-never-completes env at t h = down_never (over env at t) h

its_value : (r : Res) → IsComplete r → (v : Value) × (r ≡ Complete v)
its_value (Complete v) h = (v, refl)
its_value (Placeholder v) h = absurd (cc)
its_value Incomplete h = absurd (cc)
its_value (Fault fault) h = absurd (cc)

strict_complete : (op : List Value → Result Value ValueFault) (rs : List Res) → IsComplete (strict op rs) → AreComplete rs
strict_complete op rs h = let known = its_value (strict op rs) h in complete-strict op rs known.0 known.1

-- what is read through a result
through_complete : (source : Res) (read : Value → Res) → IsComplete (through source read) → (v : Value) × (source ≡ Complete v) × IsComplete (read v)
through_complete (Complete v) read h = (v, refl, h)
through_complete (Placeholder v) read h = absurd (down_never (read v) h)
through_complete Incomplete read h = absurd (cc)
through_complete (Fault fault) read h = absurd (cc)

-- ---- All and Any

-- neither incomplete, nor at fault, nor a placeholder
all_complete : (rs : List Res) → list_any is_incomplete rs ≡ false → first_fault rs ≡ None → list_any is_placeholder rs ≡ false → AreComplete rs
all_complete [] i f p = refl
all_complete (Complete v ∷ rs) i f p = all_complete rs i f p
all_complete (Placeholder v ∷ rs) i f p = absurd (cc)
all_complete (Incomplete ∷ rs) i f p = absurd (cc)
all_complete (Fault fault ∷ rs) i f p = absurd (cc)

junction_complete : (decider : Bool) (rs : List Res) → IsComplete (junction decider rs) → IsTrue (list_any (is_complete_at decider) rs) ⊎ AreComplete rs
junction_complete decider rs h =
    at (list_any (is_complete_at decider) rs) (list_any is_incomplete rs) (first_fault rs) (list_any (is_placeholder_at decider) rs) (list_any is_placeholder rs) refl refl refl refl h
  where
    at : (decided incomplete : Bool) (fault : Option ValueFault) (deciding placeholder : Bool) → list_any (is_complete_at decider) rs ≡ decided → list_any is_incomplete rs ≡ incomplete → first_fault rs ≡ fault → list_any is_placeholder rs ≡ placeholder
        → IsComplete (if decided then Complete (Boolean decider)
        else if incomplete then Incomplete
        else fault_else fault (if deciding then Placeholder (Boolean decider) else if placeholder then Placeholder (Boolean (not decider)) else Complete (Boolean (not decider))))
        → IsTrue (list_any (is_complete_at decider) rs) ⊎ AreComplete rs
    at true i f q p d e g k h = inl d
    at false true f q p d e g k h = absurd (cc)
    at false false (Some fault) q p d e g k h = absurd (cc)
    at false false None true p d e g k h = absurd (cc)
    at false false None false true d e g k h = absurd (cc)
    at false false None false false d e g k h = inr (all_complete rs e g k)

pub complete-many : {C R P S : Type 0} (env : Env C R P S) (at : S) (op : ManyOp) (ts : Trees C R P) → IsComplete (over env at (many op ts)) → ManyRests op (over_all env at ts)
complete-many env at All ts h = junction_complete false (over_all env at ts) h
complete-many env at Any ts h = junction_complete true (over_all env at ts) h
complete-many env at Add ts h = strict_complete (many_value Add) (over_all env at ts) h
complete-many env at Subtract ts h = strict_complete (many_value Subtract) (over_all env at ts) h
complete-many env at GreaterOf ts h = strict_complete (many_value GreaterOf) (over_all env at ts) h
complete-many env at LesserOf ts h = strict_complete (many_value LesserOf) (over_all env at ts) h

-- ---- one operand and two

pub complete-one : {C R P S : Type 0} (env : Env C R P S) (at : S) (op : OneOp) (t : Tree C R P) → IsComplete (over env at (one op t)) → IsComplete (over env at t)
complete-one env at op t h = (both (is_complete (over env at t)) true (strict_complete (on_one (one_value op)) (over env at t ∷ []) h)).0

pub complete-two : {C R P S : Type 0} (env : Env C R P S) (at : S) (op : TwoOp) (a b : Tree C R P) → IsComplete (over env at (two op a b)) → IsComplete (over env at a) × IsComplete (over env at b)
complete-two env at op a b h =
    let first = both (is_complete (over env at a)) (is_complete (over env at b) && true) (strict_complete (on_two (two_value op)) (over env at a ∷ over env at b ∷ []) h) in
    (first.0, (both (is_complete (over env at b)) true first.1).0)

-- ---- Switch, and what is stated by it

if_complete : (b : Bool) (x y : Res) (taken : Bool) → (IsComplete y → IsTrue taken) → IsComplete (if b then x else y) → IsTrue (if b then is_complete x else taken)
if_complete true x y taken rest h = h
if_complete false x y taken rest h = rest h

switch_complete : (cs : List (Res × Res)) → IsComplete (switch_of cs) → IsTrue (is_taken_complete cs)
switch_complete [] h = absurd (cc)
switch_complete ((Complete v, given) ∷ cs) h = if_complete (truth v) given (switch_of cs) (is_taken_complete cs) (switch_complete cs) h
switch_complete ((Placeholder v, given) ∷ cs) h = absurd (down_never (if truth v then given else switch_of cs) h)
switch_complete ((Incomplete, given) ∷ cs) h = absurd (cc)
switch_complete ((Fault fault, given) ∷ cs) h = absurd (cc)

pub complete-switch : {C R P S : Type 0} (env : Env C R P S) (at : S) (cs : Cases C R P) → IsComplete (over env at (switch cs)) → IsTrue (is_taken_complete (over_cases env at cs))
complete-switch env at cs h = switch_complete (over_cases env at cs) h

-- what holds of the members of a complete collection
at_members : (P : List ℕ → Type 0) (source : Res) → ((v : Value) × (source ≡ Complete v) × P (members_in v)) → IsComplete source × P (members_of source)
at_members P source (v, is, holds) = rw is (refl, holds)

pub complete-pick : {C R P S : Type 0} (env : Env C R P S) (at : S) (op : PickOp) (p : P) (t : Tree C R P) → IsComplete (over env at (pick op p t))
    → IsComplete (env.source at p) × PickRests op (λ m. over env (env.enter at p m) t) (members_of (env.source at p))
complete-pick env at Filter p t h =
    let condition : ℕ → Res = λ m. over env (env.enter at p m) t in
    let found = through_complete (env.source at p) _ h in
    at_members (PickRests Filter condition) (env.source at p) (found.0, found.1, strict_complete (λ _. Ok (Members (kept condition (members_in found.0)))) (map condition (members_in found.0)) found.2)
complete-pick env at Find p t h =
    let condition : ℕ → Res = λ m. over env (env.enter at p m) t in
    let found = through_complete (env.source at p) _ h in
    at_members (PickRests Find condition) (env.source at p) (found.0, found.1, switch_complete (find_cases condition (members_in found.0)) found.2)

-- ---- nodes that read

pub complete-through-item : (item : Res) (field : ℕ → Res) → IsComplete (through_item item field) → (m : ℕ) × (item ≡ Complete (Item m)) × IsComplete (field m)
complete-through-item item field h = let found = through_complete item (field_at field) h in at found.0 found.1 found.2
  where
    at : (v : Value) → item ≡ Complete v → IsComplete (field_at field v) → (m : ℕ) × (item ≡ Complete (Item m)) × IsComplete (field m)
    at (Item m) e k = (m, e, k)
    at _ e k = absurd (cc)

pub complete-size : (source : Res) → IsComplete (collection_size source) → IsComplete source
complete-size source h = (both (is_complete source) true (strict_complete (on_one size_value) (source ∷ []) h)).0

pub complete-sum : (t : FactType) (source : Res) (field : ℕ → Res) → IsComplete (sum_over t source field) → AreComplete (field_operands source field)
complete-sum types.Dollar source field h = strict_complete (λ vs. sum_of_dollars (fields_in vs)) (field_operands source field) h
complete-sum _ source field h = strict_complete (λ vs. sum_of_ints (fields_in vs)) (field_operands source field) h

pub complete-count : (source : Res) (field : ℕ → Res) → IsComplete (count_of source field) → AreComplete (field_operands source field)
complete-count source field h = strict_complete (λ vs. Ok (Int (pos (count_by truth (fields_in vs))))) (field_operands source field) h
