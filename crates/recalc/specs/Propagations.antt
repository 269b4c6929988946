-- What a `Propagation` stands for.
use Rattle.answers.specs.Change.{applied}
use Rattle.answers.specs.Meaning.{answered, change}
use Rattle.dictionary.specs.AcceptedParts.{accepted}
use Rattle.recalc.specs.BetweenAnswers.{between}
use Rattle.recalc.specs.Running.{ChangeSetting}
use Rattle.recalc.specs.Spread.{Spread}
use Rattle.recalc.specs.declared.propagation.Propagation.{Propagation}

abbrev pub setting_of : Propagation → ChangeSetting
setting_of k = record {
  dict = accepted k.dict.now;
  now = answered k.answers.now;
  extended = k.extended;
  gone = k.gone;
  stamp = k.stamp;
}

-- from the answers that the edit gives
abbrev pub spread_of : Propagation → Spread
spread_of k = between (accepted k.dict.now) (applied (change k.undo.now) (answered k.answers.now)) (answered k.answers.now)
