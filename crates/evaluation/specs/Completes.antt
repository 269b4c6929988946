-- What a complete result rests on: results that are complete. Only IsComplete, which asks for this, is complete over others.
use Rattle.std.specs.Prelude.{◌≡◌, ◌⊎◌, ℕ, Bool, true, false, ◌&&◌, if◌then◌else◌, IsTrue, List, [], ◌∷◌, map}
use Rattle.std.specs.List.{list_any}
use Rattle.fact_values.specs.declared.fact_type.FactType.{FactType}
use Rattle.fact_values.specs.declared.value.Value.TheVariants.{Item}
use Rattle.dict_source.specs.Tree.{Tree, Trees, Cases, switch, many, one, two, pick}
use Rattle.dict_source.specs.declared.operators.ManyOp.{ManyOp}
use Rattle.dict_source.specs.declared.operators.ManyOp.TheVariants as many_op
use Rattle.dict_source.specs.declared.operators.OneOp.{OneOp}
use Rattle.dict_source.specs.declared.operators.TwoOp.{TwoOp}
use Rattle.dict_source.specs.declared.operators.PickOp.{PickOp}
use Rattle.dict_source.specs.declared.operators.PickOp.TheVariants as pick_op
use Rattle.three_state.specs.declared.res.Res.{Res}
use Rattle.three_state.specs.declared.res.Res.TheVariants.{Complete}
use Rattle.three_state.specs.Laws.{AreComplete}
use Rattle.three_state.specs.Results.{count_of, down, field_operands, find_cases, is_complete, is_complete_at, is_true, members_of}
use Rattle.evaluation.specs.Over.{Env, over, over_all, over_cases}
use Rattle.evaluation.specs.Reads.{collection_size, sum_over, through_item}

abbrev pub IsComplete : Res → Type 0
IsComplete r = IsTrue (is_complete r)

-- ---- laws

-- so what an expression gives in place of an answer is never complete
abbrev pub DownNeverCompletes : (C R P S : Type 0) → Type 0
DownNeverCompletes C R P S =
    (env : Env C R P S) (at : S) (t : Tree C R P) → IsComplete (down (over env at t)) → ⊥

-- of All and Any a complete operand that decides it, or else all operands; of another operation all
abbrev pub ManyRests : ManyOp → List Res → Type 0
ManyRests many_op.All rs = IsTrue (list_any (is_complete_at false) rs) ⊎ AreComplete rs
ManyRests many_op.Any rs = IsTrue (list_any (is_complete_at true) rs) ⊎ AreComplete rs
ManyRests op rs = AreComplete rs

abbrev pub CompleteMany : (C R P S : Type 0) → Type 0
CompleteMany C R P S =
    (env : Env C R P S) (at : S) (op : ManyOp) (ts : Trees C R P) → IsComplete (over env at (many op ts)) → ManyRests op (over_all env at ts)

abbrev pub CompleteOne : (C R P S : Type 0) → Type 0
CompleteOne C R P S =
    (env : Env C R P S) (at : S) (op : OneOp) (t : Tree C R P) → IsComplete (over env at (one op t)) → IsComplete (over env at t)

abbrev pub CompleteTwo : (C R P S : Type 0) → Type 0
CompleteTwo C R P S =
    (env : Env C R P S) (at : S) (op : TwoOp) (a b : Tree C R P) → IsComplete (over env at (two op a b))
    → IsComplete (over env at a) × IsComplete (over env at b)

-- the conditions up to the first true one are complete, and so is the outcome that it takes
abbrev pub is_taken_complete : List (Res × Res) → Bool
is_taken_complete [] = false
is_taken_complete (c ∷ cs) = is_complete c.0 && (if is_true c.0 then is_complete c.1 else is_taken_complete cs)

abbrev pub CompleteSwitch : (C R P S : Type 0) → Type 0
CompleteSwitch C R P S =
    (env : Env C R P S) (at : S) (cs : Cases C R P) → IsComplete (over env at (switch cs)) → IsTrue (is_taken_complete (over_cases env at cs))

-- of a Filter the conditions at all members, of a Find those up to the member that it finds
abbrev pub PickRests : PickOp → (ℕ → Res) → List ℕ → Type 0
PickRests pick_op.Filter condition ms = AreComplete (map condition ms)
PickRests pick_op.Find condition ms = IsTrue (is_taken_complete (find_cases condition ms))

abbrev pub CompletePick : (C R P S : Type 0) → Type 0
CompletePick C R P S =
    (env : Env C R P S) (at : S) (op : PickOp) (p : P) (t : Tree C R P) → IsComplete (over env at (pick op p t))
    → IsComplete (env.source at p) × PickRests op (λ m. over env (env.enter at p m) t) (members_of (env.source at p))

-- the item, and the field of the member that it names
abbrev pub CompleteThroughItem : Type 0
CompleteThroughItem = (item : Res) (field : ℕ → Res) → IsComplete (through_item item field) → (m : ℕ) × (item ≡ Complete (Item m)) × IsComplete (field m)

abbrev pub CompleteSize : Type 0
CompleteSize = (source : Res) → IsComplete (collection_size source) → IsComplete source

abbrev pub CompleteSum : Type 0
CompleteSum = (t : FactType) (source : Res) (field : ℕ → Res) → IsComplete (sum_over t source field) → AreComplete (field_operands source field)

abbrev pub CompleteCount : Type 0
CompleteCount = (source : Res) (field : ℕ → Res) → IsComplete (count_of source field) → AreComplete (field_operands source field)
