-- When a value has a type, and laws on the types of results.
use Rattle.std.specs.Prelude.{◌≡◌, ℕ, ◌<◌, Bool, IsTrue, Some}
use Rattle.std.specs.List.{All, list_all}
use Rattle.fact_values.specs.Days.{IsDay}
use Rattle.fact_values.specs.declared.fact_type.FactType.{FactType}
use Rattle.fact_values.specs.declared.fact_type.FactType.TheVariants as types
use Rattle.fact_values.specs.declared.value.Value.{Value}
use Rattle.fact_values.specs.declared.value.Value.TheVariants.{Boolean, Int, Dollar, Rational, Day, Text, Choice, Members, Item}
use Rattle.fact_values.specs.Members.{IsMemberList, is_member}
use Rattle.fact_values.specs.Range.{IsInRange}
use Rattle.fact_values.specs.Rationals.{IsRational}
use Rattle.fact_values.specs.Texts.{IsPlainText}
use Rattle.dict_source.specs.Tables.{LookupTable, table_values}
use Rattle.dict_source.specs.Tree.{Tree}
use Rattle.dict_source.specs.Typing.{HasType, IsSummed, Types}
use Rattle.three_state.specs.declared.res.Res.{Res}
use Rattle.three_state.specs.declared.res.Res.TheVariants.{Complete, Placeholder, Incomplete, Fault}
use Rattle.three_state.specs.Results.{count_of}
use Rattle.evaluation.specs.Over.{Env, over}
use Rattle.evaluation.specs.Reads.{collection_size, complete_test, sum_over, through_item}

-- what there is to choose from
pub record Domains : Type 0 where
  -- how many options a list of options has
  pub options : ℕ → ℕ
  -- whether a member is one of a collection, by the number of the collection's fact
  pub has_member : ℕ → ℕ → Bool

-- the value is one of the type
abbrev pub IsOfType : Domains → Value → FactType → Type 0
IsOfType d (Boolean b) types.Boolean = Unit {0}
IsOfType d (Int n) types.Int = IsInRange n
IsOfType d (Dollar cents) types.Dollar = IsInRange cents
IsOfType d (Rational q) types.Rational = IsRational q
IsOfType d (Day n) types.Day = IsDay n
IsOfType d (Text s) types.Text = IsPlainText s
IsOfType d (Choice list place) (types.Enum n) = (list ≡ n) × (place < d.options n)
IsOfType d (Members ms) (types.Collection c) = IsMemberList ms × IsTrue (list_all (d.has_member c) ms)
IsOfType d (Item m) (types.Item c) = IsTrue (is_member m) × IsTrue (d.has_member c m)
IsOfType d v t = ⊥

-- the result has no value, or one of the type
abbrev pub IsResOfType : Domains → Res → FactType → Type 0
IsResOfType d (Complete v) t = IsOfType d v t
IsResOfType d (Placeholder v) t = IsOfType d v t
IsResOfType d Incomplete t = Unit {0}
IsResOfType d (Fault fault) t = Unit {0}

-- a table that fits has values of its type
abbrev pub TablesAreTyped : Domains → (LookupTable → Bool) → Type 0
TablesAreTyped d fits = (table : LookupTable) → IsTrue (fits table) → All (λ v. IsOfType d v table.to) (table_values table)

-- under a base and at a place, what an expression is made of has the types said
pub record IsTypedAt {C R P S : Type 0} (d : Domains) (ty : Types C R P) (e : Env C R P S) (b : ℕ) (at : S) : Type 0 where
  pub constant : (c : C) (t : FactType) → ty.constant c ≡ Some t → IsOfType d (e.constant c) t
  pub reads : (r : R) (t : FactType) → ty.reads b r ≡ Some t → IsResOfType d (e.reads at r) t
  pub source : (p : P) (c : ℕ) → ty.source b p ≡ Some c → IsResOfType d (e.source at p) (types.Collection c)
  pub tables : TablesAreTyped d ty.fits

-- ---- laws

-- a typed expression gives a value of its type
abbrev pub Typed : (C R P S : Type 0) → Type 0
Typed C R P S =
    (d : Domains) (ty : Types C R P) (e : Env C R P S) (b : ℕ) (at : S) → IsTypedAt d ty e b at → (t : Tree C R P) (u : FactType)
    → HasType ty b t u → IsResOfType d (over e at t) u

-- what the nodes that read give

abbrev pub ItemTyped : Type 0
ItemTyped =
    (d : Domains) (item : Res) (field : ℕ → Res) (c : ℕ) (t : FactType) → IsResOfType d item (types.Item c)
    → ((m : ℕ) → IsTrue (d.has_member c m) → IsResOfType d (field m) t) → IsResOfType d (through_item item field) t

abbrev pub TestTyped : Type 0
TestTyped = (d : Domains) (r : Res) → IsResOfType d (complete_test r) types.Boolean

abbrev pub SizeTyped : Type 0
SizeTyped =
    (d : Domains) (source : Res) (c : ℕ) → IsResOfType d source (types.Collection c) → IsResOfType d (collection_size source) types.Int

abbrev pub SumTyped : Type 0
SumTyped =
    (d : Domains) (t : FactType) (source : Res) (field : ℕ → Res) → IsSummed t → IsResOfType d (sum_over t source field) t

abbrev pub CountTyped : Type 0
CountTyped =
    (d : Domains) (source : Res) (field : ℕ → Res) (c : ℕ) → IsResOfType d source (types.Collection c)
    → IsResOfType d (count_of source field) types.Int
