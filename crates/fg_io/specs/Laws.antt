-- Laws of devices: a count rises where it grew or is at its greatest; known contents alone are answered; a missing name is a
-- fault; a text is written whole exactly where no rest is left.
use Rattle.std.specs.Prelude.{◌≡◌, ◌⊎◌, ℕ, ◌-◌, ◌^◌, ◌<◌, ◌≤◌, ◌↔◌, List, [], length, Vec, Result, Option, IfOk, IsErrOf}
use Rattle.std.specs.Io.KnownBytes.{Appends}
use Rattle.std.specs.declared.alloc.Global.{Global}
use Rattle.fg_io.specs.Outside.{Rose, Fetches, missing, holds}
use Rattle.fg_io.specs.Sent.{Sent}
use Rattle.fg_io.specs.declared.error.FetchFault.{FetchFault}
use Rattle.fg_io.specs.declared.error.FetchFault.TheVariants.{Failed, TooLong, NoMemory}

-- a count rose where it grew, or stands at the greatest u64 now
abbrev pub RoseWhereItGrew : Type 0
RoseWhereItGrew = (before now : ℕ) → Rose before now ↔ ((before < now) ⊎ (2 ^ 64 - 1 ≤ now))

-- a fetch of known contents answers these and no others, and that they are too long exactly where it is so
pub record AnswersContents (bytes : List ℕ) (at_most : ℕ) (result : Result (Vec ℕ Global) FetchFault) : Type 0 where
  pub contents : IfOk result (λ v. (v.items ≡ bytes) × (length bytes ≤ at_most))
  pub too_long : IsErrOf result TooLong → at_most < length bytes
  pub longer : at_most < length bytes → IsErrOf result TooLong ⊎ IsErrOf result Failed ⊎ IsErrOf result NoMemory

abbrev pub ContentsAreAnswered : Type 0
ContentsAreAnswered = (bytes : List ℕ) (at_most : ℕ) (result : Result (Vec ℕ Global) FetchFault) → Fetches (holds bytes) at_most result → AnswersContents bytes at_most result

-- a name that isn't there is a fault, unless memory runs out
abbrev pub MissingIsFault : Type 0
MissingIsFault = (at_most : ℕ) (result : Result (Vec ℕ Global) FetchFault) → Fetches missing at_most result → IsErrOf result Failed ⊎ IsErrOf result NoMemory

-- a text with no rest was written whole
abbrev pub SentWithoutRestIsWhole : Type 0
SentWithoutRestIsWhole = (before now : Option (List ℕ)) (text : List ℕ) → Sent before now text [] ↔ Appends before now text
