-- What an option has, and steps that may have nothing.
use Rattle.std.proofs.Common.{◌≡◌, false, Option, Some, None, refl}
use Rattle.std.specs.Prelude.{is_some, IsSome}
use Rattle.std.specs.Option.{option_and_then, option_map}

pub nothing : {A : Type 0} (o : Option A) → is_some o ≡ false → o ≡ None
nothing None e = refl
nothing (Some a) e = cc

pub something : {A : Type 0} (o : Option A) → IsSome o → (x : A) × (o ≡ Some x)
something None h = absurd (cc)
something (Some x) h = (x, refl)

-- the first of two steps that both gave something
pub both_some : {A B : Type 0} (f : A → Option B) (o : Option A) (y : B) → option_and_then f o ≡ Some y → (x : A) × (o ≡ Some x) × (f x ≡ Some y)
both_some f None y e = absurd cc
both_some f (Some x) y e = (x, refl, e)

-- what a map was applied to
pub mapped : {A B : Type 0} (f : A → B) (o : Option A) (y : B) → option_map f o ≡ Some y → (x : A) × (o ≡ Some x) × (y ≡ f x)
mapped f None y e = absurd cc
mapped f (Some x) y e = (x, refl, cc)
