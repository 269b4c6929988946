-- What an `Update` stands for.
use Rattle.std.specs.Prelude.{◌≡◌, ℕ, IsTrue}
use Rattle.fact_values.specs.declared.slot.Slot.{Slot}
use Rattle.answers.specs.Answered.{Answered}
use Rattle.answers.specs.Change.{Change, applied}
use Rattle.answers.specs.Meaning.{answered, change}
use Rattle.cell_store.specs.Contents.{Cells}
use Rattle.dict_meaning.specs.Accepted.{Accepted}
use Rattle.dict_meaning.specs.Slots.{stands}
use Rattle.dict_meaning.specs.Touched.{stamped}
use Rattle.dictionary.specs.AcceptedParts.{accepted}
use Rattle.dict_meaning.specs.Undone.{IsUndone, went}
use Rattle.recalc.specs.BetweenAnswers.{between}
use Rattle.recalc.specs.EngineInvariant.{setting_from, stamp_in}
use Rattle.recalc.specs.Running.{ChangeSetting, is_that}
use Rattle.recalc.specs.Spread.{Spread}
use Rattle.recalc.specs.declared.update.Update.{Update}

abbrev pub dict_of : Update → Accepted
dict_of u = accepted u.dict.now

-- the change that gives the answers before
abbrev pub undo_of : Update → Change
undo_of u = change u.undo.now

abbrev pub answers_after : Update → Answered
answers_after u = answered u.answers.now

abbrev pub answers_before : Update → Answered
answers_before u = applied (undo_of u) (answers_after u)

-- the change can be undone, and this is the member that went
pub record IsUpdate (u : Update) : Type 0 where
  pub undone : IsUndone (dict_of u) (undo_of u) (answers_after u)
  pub gone : (m : ℕ) → is_that u.gone m ≡ went (undo_of u) (answers_after u) m

abbrev pub update_setting : Update → ChangeSetting
update_setting u = setting_from (dict_of u) (undo_of u) (answers_after u) u.gone u.stamp

abbrev pub update_spread : Update → Spread
update_spread u = between (dict_of u) (answers_before u) (answers_after u)

-- Each slot that stands afterwards has the number of the change where that touched it, and else its old stamp.
abbrev pub AreStamped : Update → Cells → Cells → Type 0
AreStamped u before after = (s : Slot) → IsTrue (stands (dict_of u).tree (answers_after u) s)
    → stamp_in after s ≡ stamped (dict_of u) (answers_before u) (answers_after u) u.stamp (stamp_in before) s
