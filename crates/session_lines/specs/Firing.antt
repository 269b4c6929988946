-- Which watches fire at a change, and the lines of those that do.
use Rattle.std.specs.Prelude.{ℕ, List, [], ◌∷◌, ◌++◌, Option, Some, None, codes, filter, map, option_map, slice_get, unwrap_or}
use Rattle.dict_source.specs.Dictionary.{Dictionary as Tree}
use Rattle.dictionary.specs.AcceptedParts.{Named}
use Rattle.evaluation.specs.Results.{Results}
use Rattle.dict_meaning.specs.SlotText.{slot_text}
use Rattle.fact_watch.specs.Says.{slot_says}
use Rattle.fact_watch.specs.Watching.{Watch, code_at}

-- the name of the relation at a place: none where there is no such place
abbrev pub name_at : List Named → ℕ → List ℕ
name_at relations place = unwrap_or (option_map (λ (r : Named). r.0) (slice_get relations place)) []

-- `watch NAME SLOT`
abbrev pub watch_line : Tree → List Named → Watch → List ℕ
watch_line d relations p = codes "watch " ++ (name_at relations p.0 ++ (codes " " ++ slot_text d p.1))

-- the watches whose slot stands before and after, and whose relation says yes of the results: in the order in which they were put
abbrev pub firing : List Named → Results → Results → List Watch → List Watch
firing relations before after watched = filter (λ (p : Watch). slot_says (code_at (λ (r : Named). r.1) relations p.0) (before p.1) (after p.1)) watched

abbrev pub firing_lines : Tree → List Named → Results → Results → List Watch → List (List ℕ)
firing_lines d relations before after watched = map (watch_line d relations) (firing relations before after watched)

-- of one watch, or of none
abbrev pub firing_lines_at : Tree → List Named → Results → Results → Option Watch → List (List ℕ)
firing_lines_at d relations before after None = []
firing_lines_at d relations before after (Some p) = firing_lines d relations before after (p ∷ [])
