-- Which watches fire, by their places in a table and in the list.
use Rattle.std.proofs.Common.{◌≡◌, ℕ, ◌+◌, ◌<◌, ◌≤◌, zero, suc, Bool, true, false, cond, List, [], ◌∷◌, ◌++◌, length, map, drop, slice_get, Option, Some, None, refl, ap, ◌∙◌, arith}
use Rattle.std.specs.Prelude.{unwrap_or, option_map}
use Rattle.dict_source.specs.Dictionary.{Dictionary as Tree}
use Rattle.dictionary.specs.AcceptedParts.{Named}
use Rattle.evaluation.specs.Results.{Results}
use Rattle.three_state.specs.declared.res.Res.{Res}
use Rattle.fact_watch.specs.Says.{slot_says}
use Rattle.fact_watch.specs.Watching.{Watch, code_at, says_of_watch}
use Rattle.session_lines.specs.Firing.{firing, firing_lines, firing_lines_at, name_at, watch_line}

-- ---- a table as its list of names and codes

module _ {R : Type 0} (name : R → List ℕ) (code : R → ℕ) where
  abbrev named : List R → List Named
  named rs = map {B = List ℕ × ℕ} (λ r. (name r, code r)) rs

  code_same : (rs : List R) (place : ℕ) → code_at (λ (r : Named). r.1) (named rs) place ≡ code_at code rs place
  code_same [] place = refl
  code_same (r ∷ rs) zero = refl
  code_same (r ∷ rs) (suc place) = code_same rs place

  name_same : (rs : List R) (place : ℕ) → name_at (named rs) place ≡ unwrap_or (option_map name (slice_get rs place)) []
  name_same [] place = refl
  name_same (r ∷ rs) zero = refl
  name_same (r ∷ rs) (suc place) = name_same rs place

  -- where there is no such place, nothing has a code
  no_code : (rs : List R) (place : ℕ) → length rs ≤ place → code_at code rs place ≡ 0
  no_code [] place past = refl
  no_code (r ∷ rs) zero past = absurd (omega (arith, past))
  no_code (r ∷ rs) (suc place) past = no_code rs place (omega (arith, past))

  -- and no relation says yes
  nothing_says : (rs : List R) (place : ℕ) (old new : Option Res) → length rs ≤ place → slot_says (code_at code rs place) old new ≡ false
  nothing_says rs place old new past = ap (λ (n : ℕ). slot_says n old new) (no_code rs place past) ∙ none old new
    where
      none : (old new : Option Res) → slot_says 0 old new ≡ false
      none None new = refl
      none (Some r) None = refl
      none (Some r) (Some s) = refl

  -- of a watch
  says_same : (rs : List R) (o : Option Watch) (before after : Results) → says_of_watch (code_at (λ (r : Named). r.1) (named rs)) o before after ≡ says_of_watch (code_at code rs) o before after
  says_same rs None before after = refl
  says_same rs (Some p) before after = ap (λ (n : ℕ). slot_says n (before p.1) (after p.1)) (code_same rs p.0)

-- the same, of the list that comes first
pub says_by_names : {R : Type 0} (rs : List R) (name : R → List ℕ) (code : R → ℕ) (o : Option Watch) (before after : Results)
    → says_of_watch (code_at (λ (r : Named). r.1) (map {B = List ℕ × ℕ} (λ r. (name r, code r)) rs)) o before after ≡ says_of_watch (code_at code rs) o before after
says_by_names rs name code o before after = says_same name code rs o before after

-- a watch by no place of the table says nothing
pub unplaced : {R : Type 0} (rs : List R) (name : R → List ℕ) (code : R → ℕ) (o : Option Watch) (p : Watch) → o ≡ Some p → length rs ≤ p.0 → (before after : Results)
    → says_of_watch (code_at (λ (r : Named). r.1) (map {B = List ℕ × ℕ} (λ r. (name r, code r)) rs)) o before after ≡ false
unplaced rs name code o p e past before after =
    says_same name code rs o before after
    ∙ ap (λ (q : Option Watch). says_of_watch (code_at code rs) q before after) e
    ∙ nothing_says name code rs p.0 (before p.1) (after p.1) past

-- ---- the lines one behind another

module _ (d : Tree) (relations : List Named) (before after : Results) where
  abbrev text : List Watch → List (List ℕ)
  text watched = firing_lines d relations before after watched

  lines_cons : (p : Watch) (ps : List Watch) → text (p ∷ ps) ≡ text (p ∷ []) ++ text ps
  lines_cons p ps = by (slot_says (code_at (λ (r : Named). r.1) relations p.0) (before p.1) (after p.1))
    where
      by : (b : Bool) → map (watch_line d relations) (cond b (p ∷ firing relations before after ps) (firing relations before after ps))
          ≡ map (watch_line d relations) (cond b (p ∷ []) []) ++ text ps
      by true = refl
      by false = refl

  at_place : (n : ℕ) (watched : List Watch) → n < length watched → text (drop n watched) ≡ firing_lines_at d relations before after (slice_get watched n) ++ text (drop (suc n) watched)
  at_place n [] low = absurd (omega (arith, low))
  at_place zero (p ∷ ps) low = lines_cons p ps
  at_place (suc n) (p ∷ ps) low = at_place n ps (omega (arith, low))

  -- the one at n, and those behind it
  pub lines_at : (n : ℕ) (watched : List Watch) → n < length watched → text (drop n watched) ≡ firing_lines_at d relations before after (slice_get watched n) ++ text (drop (n + 1) watched)
  lines_at n watched low =
      let next : suc n ≡ n + 1 = omega arith in
      at_place n watched low ∙ ap (λ (k : ℕ). firing_lines_at d relations before after (slice_get watched n) ++ text (drop k watched)) next

  pub lines_end : (n : ℕ) (watched : List Watch) → length watched ≤ n → text (drop n watched) ≡ []
  lines_end n [] past = at n
    where
      at : (n : ℕ) → text (drop n []) ≡ []
      at zero = refl
      at (suc n) = refl
  lines_end zero (p ∷ ps) past = absurd (omega (arith, past))
  lines_end (suc n) (p ∷ ps) past = lines_end n ps (omega (arith, past))

  -- of one watch: its line where its relation says yes, and else none
  pub line_said : (o : Option Watch) (p : Watch) → o ≡ Some p → says_of_watch (code_at (λ (r : Named). r.1) relations) o before after ≡ true → firing_lines_at d relations before after o ≡ watch_line d relations p ∷ []
  line_said None p e says = absurd cc
  line_said (Some q) p e says =
      ap (λ (b : Bool). map (watch_line d relations) (cond b (q ∷ []) [])) says
      ∙ ap (λ (o : Option Watch). watch_line d relations (unwrap_or o q) ∷ []) e

  -- and a slot of which it says yes has a result
  pub said_stands : (p : Watch) → says_of_watch (code_at (λ (r : Named). r.1) relations) (Some p) before after ≡ true → (r : Res) × (after p.1 ≡ Some r)
  said_stands p says = at (before p.1) (after p.1) refl says
    where
      at : (old new : Option Res) → after p.1 ≡ new → slot_says (code_at (λ (r : Named). r.1) relations p.0) old new ≡ true → (r : Res) × (after p.1 ≡ Some r)
      at None new e h = absurd cc
      at (Some old) None e h = absurd cc
      at (Some old) (Some new) e h = (new, e)
