-- A change to answers, as a loop makes it over the results before.
use Rattle.std.specs.Prelude.{◌≡◌, Bool, false, not, ◌&&◌, ◌||◌, IsTrue, if◌then◌else◌, List, Option, None, is_some}
use Rattle.fact_values.specs.declared.slot.Slot.{Slot}
use Rattle.three_state.specs.declared.res.Res.{Res}
use Rattle.three_state.specs.Equality.{res_same}
use Rattle.answers.specs.Answered.{Answered, value_of}
use Rattle.answers.specs.declared.edit.Side.TheVariants.{Override}
use Rattle.dict_meaning.specs.Accepted.{Accepted}
use Rattle.dict_meaning.specs.Extension.{both_same}
use Rattle.dict_meaning.specs.Feeds.{feeds}
use Rattle.dict_meaning.specs.Final.{is_complete_in}
use Rattle.dict_meaning.specs.Plain.{plain, rank}
use Rattle.evaluation.specs.Results.{Results}
use Rattle.dict_meaning.specs.Slots.{stands}
use Rattle.dict_meaning.specs.Steady.{steady}
use Rattle.recalc.specs.Spread.{Spread, is_in, is_touched, IsSpread, NoTwice}

-- a slot that had a result has another one
abbrev pub moves : Option Res → Option Res → Bool
moves old new = is_some old && not (both_same res_same old new)

-- the answers extend those before, and the result that the slot had is final
abbrev pub is_shielded : Bool → Accepted → Answered → Results → Slot → Bool
is_shielded extended d b old s = extended && (is_complete_in (old s) && (is_some (value_of Override b s) || steady d s.fact))

-- the change leads to the answers b, which extend those before or not; these were the results of the slots that stand after it
pub record IsTransition (d : Accepted) (b : Answered) (extended : Bool) (old : Results) (c : Spread) : Type 0 where
  pub spreads : IsSpread c
  pub once : NoTwice c.standing
  pub there : (s : Slot) → c.stands s ≡ stands d.tree b s
  pub ranks : (s : Slot) → c.rank s ≡ rank d s.fact
  -- a shielded slot is fed by none
  pub fed : (t s : Slot) → IsTrue (stands d.tree b s) → c.feeds t s ≡ (feeds d.tree t s && not (is_shielded extended d b old s))
  pub moved : (s : Slot) → c.moved s ≡ moves (old s) (plain d b s)
  -- a slot that isn't touched keeps its result
  pub keeps : (s : Slot) → IsTrue (stands d.tree b s) → is_touched c s ≡ false → old s ≡ plain d b s
  pub others : (s : Slot) → stands d.tree b s ≡ false → old s ≡ None

-- the results so far: those done have their new one, the others the one before
abbrev pub AreResults : Accepted → Answered → Results → List Slot → Results → Type 0
AreResults d b old done results = (s : Slot) → results s ≡ (if is_in done s then plain d b s else old s)
