-- The plain numbers of live cells.
use Rattle.std.proofs.Common.{◌≡◌, ◌≢◌, ℤ, Option, Some, None, refl, sym, ap}
use Rattle.std.specs.Prelude.{unwrap_or, IfSome, IsNone}
use Rattle.fact_values.specs.declared.value.Value.TheVariants.{Dollar, Int}
use Rattle.three_state.specs.declared.res.Res.{Res}
use Rattle.three_state.specs.declared.res.Res.TheVariants.{Complete, Incomplete}
use Rattle.node_eval.specs.Globals.{amount_of, whole_of}

pub amount_live : (o : Option Res) (r : Option ℤ) → IfSome r (λ n. o ≡ Some (Complete (Dollar n))) → (IsNone r → (n : ℤ) → o ≢ Some (Complete (Dollar n))) → r ≡ amount_of (unwrap_or o Incomplete)
amount_live o (Some n) some none = sym (ap (λ o. amount_of (unwrap_or o Incomplete)) some)
amount_live None None some none = refl
amount_live (Some (Complete (Dollar n))) None some none = absurd (none refl n refl)
amount_live (Some _) None some none = refl

pub whole_live : (o : Option Res) (r : Option ℤ) → IfSome r (λ n. o ≡ Some (Complete (Int n))) → (IsNone r → (n : ℤ) → o ≢ Some (Complete (Int n))) → r ≡ whole_of (unwrap_or o Incomplete)
whole_live o (Some n) some none = sym (ap (λ o. whole_of (unwrap_or o Incomplete)) some)
whole_live None None some none = refl
whole_live (Some (Complete (Int n))) None some none = absurd (none refl n refl)
whole_live (Some _) None some none = refl

pub ruleset numbers = (amount_live, whole_live)
