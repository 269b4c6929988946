-- What the outside tells of itself, and when it may say that it failed.
use Rattle.std.specs.Prelude.{◌≡◌, ℕ, ◌+◌, ◌-◌, ◌^◌, ◌<◌, ◌≤◌, min, Bool, true, IsTrue, List, ◌++◌, length, take, Vec, Result, Ok, Err, OnErr, IfOk, IsErrOf, Option, None, Some}
use Rattle.std.specs.declared.alloc.Global.{Global}
use Rattle.fg_io.specs.declared.error.FetchFault.{FetchFault}
use Rattle.fg_io.specs.declared.error.FetchFault.TheVariants.{Failed, TooLong}

-- ---- what each tells of itself

-- one put: of this piece the first so many bytes were taken, or it failed
pub data Put : Type 0 where
  took : List ℕ → ℕ → Put
  put_failed : List ℕ → Put

-- a stream to write: the bytes taken, where it tells them, how often it has failed, and whether it may stand so behind these puts, in
-- their order
pub record Output : Type 0 where
  pub taken : Option (List ℕ)
  pub faults : ℕ
  pub follows : List Put → Bool

-- a stream to read: the bytes left, where it tells them, and how often it has failed
pub record Input : Type 0 where
  pub left : Option (List ℕ)
  pub faults : ℕ

-- what a shelf shows of a name: nothing, that it isn't there, or its contents
pub data Contents : Type 0 where
  hidden : Contents
  missing : Contents
  holds : List ℕ → Contents

-- files by name: what is shown of each, how often a fetch has failed, and the name of the last that did, empty at first
pub record Files : Type 0 where
  pub contents : List ℕ → Contents
  pub faults : ℕ
  pub failed_name : List ℕ

-- ---- when it may say that it failed

-- a count rose in a call: it grew, or stands at the greatest u64 after it
abbrev pub Rose : ℕ → ℕ → Type 0
Rose before now = min (before + 1) (2 ^ 64 - 1) ≤ now

-- a count, one higher; it stands still at the greatest u64
abbrev pub next_count : ℕ → ℕ
next_count count = min (count + 1) (2 ^ 64 - 1)

-- a count rose by one, or stands still at the greatest u64
abbrev pub RoseByOne : ℕ → ℕ → Type 0
RoseByOne before now = (now ≡ next_count before) × (before ≤ now)

-- a call that fails counts one fault, and any other none
abbrev pub Counts : {T E : Type 0} → ℕ → ℕ → Result T E → Type 0
Counts before now (Ok done) = now ≡ before
Counts before now (Err fault) = RoseByOne before now

-- a call fails only where the count rose, and the count never falls
pub record HasCause {T E : Type 0} (before now : ℕ) (result : Result T E) : Type 0 where
  pub later : before ≤ now
  pub failed : OnErr result (Rose before now)

-- the bytes may be these: where they are known, these they are
abbrev pub MayBe : Option (List ℕ) → List ℕ → Type 0
MayBe None bytes = Unit {0}
MayBe (Some known) bytes = known ≡ bytes

-- the name may have these contents: where they are known, these they are
abbrev pub MayHold : Contents → List ℕ → Type 0
MayHold hidden bytes = Unit {0}
MayHold missing bytes = ⊥
MayHold (holds known) bytes = known ≡ bytes

-- a fetch answers the contents where they are at most so long, and that they are too long only where they are
pub record Fetches (contents : Contents) (at_most : ℕ) (result : Result (Vec ℕ Global) FetchFault) : Type 0 where
  pub content : IfOk result (λ v. MayHold contents v.items)
  pub fits : IfOk result (λ v. length v.items ≤ at_most)
  pub too_long : IsErrOf result TooLong → (bytes : List ℕ) × MayHold contents bytes × (at_most < length bytes)

-- a fetch that says that it failed counts one fault, and the failed name is then this one; any other answer leaves both
pub record FetchCause {T : Type 0} (name : List ℕ) (files files_now : Files) (result : Result T FetchFault) : Type 0 where
  pub failed : IsErrOf result Failed → RoseByOne files.faults files_now.faults × (files_now.failed_name ≡ name)
  pub others : (IsErrOf result Failed → ⊥) → (files_now.faults ≡ files.faults) × (files_now.failed_name ≡ files.failed_name)

-- ---- what a call makes of a device

-- Whoever calls devices of any kind, and says that one came to this, has made these calls, and no other. A state of a device that is
-- handed in is the one in which it stood.

-- A shelf before a fetch, the source and the sink as they stood, the name, the most bytes, the answer, and the shelf after it.
abbrev pub ByFetch : Type 0 → Type 0 → Type 0 → Type 1
ByFetch H S K = H → S → K → List ℕ → ℕ → Result (Vec ℕ Global) FetchFault → H → Type 0

-- what a pull came to: these bytes, which are none at the end, or a fault
pub data Pulled : Type 0 where
  gave : List ℕ → Pulled
  faulted : Pulled

abbrev pub pulled_as : {E : Type 0} → Result ℕ E → List ℕ → Pulled
pulled_as (Ok count) buf = gave (take count buf)
pulled_as (Err failed) buf = faulted

-- These puts were made between the one state of a sink and the other: behind whatever puts it may have stood before, it may stand behind
-- these too. A sink may say so of one list of puts alone.
abbrev pub Follows : Output → Output → List Put → Type 0
Follows sink sink_now puts = (before : List Put) → IsTrue (sink.follows before) → IsTrue (sink_now.follows (before ++ puts))

abbrev pub put_as : {E : Type 0} → Result ℕ E → List ℕ → Put
put_as (Ok count) piece = took piece count
put_as (Err fault) piece = put_failed piece

-- one that tells nothing of them
abbrev pub follows_any : List Put → Bool
follows_any puts = true

-- A source before a pull, the sink as it stood, the most bytes, what it came to, and the source after it.
abbrev pub ByPull : Type 0 → Type 0 → Type 1
ByPull S K = S → K → ℕ → Pulled → S → Type 0
