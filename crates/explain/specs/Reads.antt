-- Which slots the evaluation of a slot reads, by the results of then.
use Rattle.std.specs.Prelude.{ℕ, zero, suc, Bool, false, ◌||◌, if◌then◌else◌, List, [], ◌∷◌, ◌++◌, filter, flat_map, Option, Some, None, is_some}
use Rattle.std.specs.List.{list_any}
use Rattle.fact_values.specs.declared.slot.Slot.{Slot}
use Rattle.dict_source.specs.Dictionary.{Dictionary as Tree}
use Rattle.dict_source.specs.Facts.{Fact}
use Rattle.dict_source.specs.Finding.{fact_at}
use Rattle.dict_source.specs.Tree.{Source}
use Rattle.three_state.specs.Results.{is_incomplete}
use Rattle.evaluation.specs.SlotsRead.{slots_read}
use Rattle.answers.specs.Answered.{Answered, value_of}
use Rattle.answers.specs.declared.edit.Side.TheVariants.{Override}
use Rattle.dict_meaning.specs.Accepted.{Accepted}
use Rattle.dict_meaning.specs.Plain.{at_fact, body, main_result, plain, rank}
use Rattle.dict_meaning.specs.Dependencies.{outermost, source_env}
use Rattle.evaluation.specs.Results.{Results}
use Rattle.dict_meaning.specs.Slots.{slot_same, stands}
use Rattle.source_eval.specs.NodeReads.{reads_by}

-- ---- what a slot reads

-- what an expression of the slot's fact reads
abbrev pub expression_reads : Tree → Results → Slot → Source → List Slot
expression_reads d results s t = slots_read (source_env d results s.fact) (reads_by d results s.fact) (outermost s.member) t

-- a derived slot reads what its body reads, and nothing where it is overridden
abbrev pub main_reads : Tree → Answered → Results → Slot → Option Source → List Slot
main_reads d a results s None = []
main_reads d a results s (Some t) = if is_some (value_of Override a s) then [] else expression_reads d results s t

-- a slot whose main result is incomplete reads what its placeholder reads
abbrev pub placeholder_reads : Tree → Results → Slot → Option Source → Bool → List Slot
placeholder_reads d results s None incomplete = []
placeholder_reads d results s (Some t) incomplete = if incomplete then expression_reads d results s t else []

abbrev pub fact_reads : Tree → Answered → Results → Slot → Fact → List Slot
fact_reads d a results s f = main_reads d a results s (body f) ++ placeholder_reads d results s f.placeholder (is_incomplete (main_result d a results s f.stated (body f)))

-- in the order in which the evaluation meets them, each as often as it is met
abbrev pub slot_reads : Accepted → Answered → Slot → List Slot
slot_reads d a s = at_fact (fact_at d.tree.facts s.fact) [] (fact_reads d.tree a (plain d a) s)

-- of those, the ones that stand: a slot that doesn't has no result
abbrev pub standing_reads : Accepted → Answered → Slot → List Slot
standing_reads d a s = filter (stands d.tree a) (slot_reads d a s)

-- ---- what is read by way of other slots

-- those that aren't known: each once, in the order in which they are met
abbrev pub new_among : (Slot → Bool) → List Slot → List Slot
new_among known [] = []
new_among known (s ∷ ss) = if known s then new_among known ss else s ∷ new_among (λ t. known t || slot_same t s) ss

-- the slots that a slot reads, without those that these read: each once, in the order in which it first reads them
abbrev pub reads : Accepted → Answered → Slot → List Slot
reads d a s = new_among (λ t. false) (standing_reads d a s)

-- a slot reads itself and what each slot that it reads reads, over so many steps from one to the next
unfoldable pub reads_within : Accepted → Answered → ℕ → Slot → List Slot
reads_within d a zero s = []
reads_within d a (suc n) s = s ∷ flat_map (reads_within d a n) (standing_reads d a s)

-- ranks fall from step to step, so there are no more than the rank of the slot
unfoldable pub all_reads : Accepted → Answered → Slot → List Slot
all_reads d a s = reads_within d a (suc (rank d s.fact)) s

abbrev pub is_in : Slot → List Slot → Bool
is_in t ts = list_any (slot_same t) ts

-- the evaluation of s reads t
abbrev pub is_read : Accepted → Answered → Slot → Slot → Bool
is_read d a s t = is_in t (all_reads d a s)
