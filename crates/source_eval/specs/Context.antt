-- What an expression gives by what is known where it stands, and what its evaluation reads.
use Rattle.std.specs.Prelude.{ℕ, List, Option, Some, None, ◌++◌, flat_map, sum_by}
use Rattle.fact_values.specs.declared.slot.Slot.{Slot}
use Rattle.dict_source.specs.Dictionary.{Dictionary as Tree}
use Rattle.dict_source.specs.Tree.{Literal, Reading, Source, Use}
use Rattle.dict_source.specs.declared.operators.PickOp.{PickOp}
use Rattle.three_state.specs.declared.res.Res.{Res}
use Rattle.evaluation.specs.Over.{Env, over, weight}
use Rattle.evaluation.specs.SlotsRead.{ReadBy, members_visited, slots_read}
use Rattle.evaluation.specs.Visits.{visits}
use Rattle.dict_meaning.specs.Dependencies.{EvalPosition, outermost, source_env}
use Rattle.evaluation.specs.Results.{Results}
use Rattle.source_eval.specs.NodeReads.{reads_by}

-- the dictionary, the results of slots, and the number of the fact whose expression it is
pub record Context : Type 0 where
  pub tree : Tree
  pub results : Results
  pub fact : ℕ

abbrev pub env_of : Context → Env Literal Reading Use EvalPosition
env_of k = source_env k.tree k.results k.fact

abbrev pub reads_of : Context → ReadBy Reading Use EvalPosition Slot
reads_of k = reads_by k.tree k.results k.fact

-- under the same condition, at another member
abbrev pub at_member : EvalPosition → ℕ → EvalPosition
at_member at m = record { base = at.base; own = at.own; inner = m }

-- what an expression under the condition of a Filter or a Find with this path gives at a member
abbrev pub picked_at : Context → EvalPosition → Use → Source → ℕ → Res
picked_at k at u t m = over (env_of k) ((env_of k).enter at u m) t

-- what a Filter or a Find with this path reads: its path, and its condition at each member that it visits
abbrev pub picked_reads : Context → EvalPosition → PickOp → Use → Source → List Slot
picked_reads k at op u t = (reads_of k).source at u
    ++ flat_map (λ m. slots_read (env_of k) (reads_of k) ((env_of k).enter at u m) t) (members_visited op (picked_at k at u t) ((env_of k).source at u))

-- the nodes that are visited under the condition of a Filter or a Find with this path
abbrev pub visits_under : Context → EvalPosition → PickOp → Use → Source → ℕ
visits_under k at op u t = sum_by (λ m. visits (env_of k) ((env_of k).enter at u m) t) (members_visited op (picked_at k at u t) ((env_of k).source at u))

-- the condition of a Filter or a Find at a member, what it reads there, how much work it is at most, and the nodes that are visited
abbrev pub condition_on : Context → EvalPosition → Source → ℕ → Res
condition_on k under t m = over (env_of k) (at_member under m) t

abbrev pub condition_reads : Context → EvalPosition → Source → ℕ → List Slot
condition_reads k under t m = slots_read (env_of k) (reads_of k) (at_member under m) t

abbrev pub work_on : Context → EvalPosition → Source → ℕ → ℕ
work_on k under t m = weight (env_of k) (at_member under m) t

abbrev pub visits_on : Context → EvalPosition → Source → ℕ → ℕ
visits_on k under t m = visits (env_of k) (at_member under m) t

-- the weight of an expression outside of all conditions; an absent one weighs nothing
abbrev pub option_weight : Context → ℕ → Option Source → ℕ
option_weight k member None = 0
option_weight k member (Some t) = weight (env_of k) (outermost member) t
