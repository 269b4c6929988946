-- An option that is there only under a test: where it is some, the test holds.
use Rattle.std.proofs.Common.{◌≡◌, Bool, true, false, cond, Option, Some, None, refl}

pub guarded : {A : Type 0} (b : Bool) (o : Option A) (y : A) → cond b o None ≡ Some y → (b ≡ true) × (o ≡ Some y)
guarded true o y e = (refl, e)
guarded false o y e = absurd cc
