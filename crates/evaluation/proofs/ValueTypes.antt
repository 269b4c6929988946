-- Operations on values of the right types give values of the right type.
use Rattle.std.proofs.Common.{◌≡◌, ℕ, zero, suc, ◌*◌, ◌<◌, ℤ, pos, negsuc, neg_ℤ, ◌-ℤ◌, ◌*ℤ◌, ◌+ℤ◌, Bool, true, false, IsTrue, ◌&&◌, if◌then◌else◌, List, [], ◌∷◌, length, Option, Some, None, Result, Ok, Err, refl, sym, ap, subst, ◌∙◌, arith}
use Rattle.std.specs.Prelude.{◌==◌, nat_lt, option_and_then}
use Rattle.common_lemmas.proofs.Bools.{both, both_left, chosen}
use Rattle.common_lemmas.proofs.Numbers.{same_number}
use Rattle.common_lemmas.proofs.Options.{both_some}
use Rattle.std.specs.List.{list_all}
use Rattle.std.specs.Ordering.{is_gt, is_lt}
use Rattle.std.proofs.Math.Nat.{mul-pos}
use Rattle.fact_values.specs.Days.{IsDay, day_after}
use Rattle.fact_values.specs.declared.fact_type.FactType.{FactType}
use Rattle.fact_values.specs.declared.fact_type.FactType.TheVariants as types
use Rattle.fact_values.specs.declared.fault.ValueFault.{ValueFault}
use Rattle.fact_values.specs.declared.num.Num.{Num}
use Rattle.fact_values.specs.declared.num.Num.TheVariants as num
use Rattle.fact_values.specs.declared.value.Value.{Value}
use Rattle.fact_values.specs.declared.value.Value.TheVariants.{Boolean, Int, Dollar, Rational, Day, Members, Item}
use Rattle.fact_values.specs.Members.{IsMemberList}
use Rattle.fact_values.specs.Numbers.{as_rational, checked_dollar, checked_int, checked_rational, product, quotient, rounded_quotient}
use Rattle.fact_values.specs.Range.{IsInRange, is_in_range}
use Rattle.fact_values.specs.Rationals.{IsRational, Ratio, checked_lowest, checked_ratio, difference_of_ratios, sum_of_ratios}
use Rattle.fact_values.specs.Rounding.{rounded}
use Rattle.fact_values.specs.Totals.{checked}
use Rattle.fact_values.specs.Values.{order_of}
use Rattle.law_arithmetic.specs.Ages.{age_on}
use Rattle.law_arithmetic.specs.Months.{months_after, years_after}
use Rattle.law_arithmetic.specs.Multiples.{cents_of, multiple_above, multiple_below, multiple_near, rounded_down, rounded_nearest, rounded_up}
use Rattle.dict_source.specs.declared.operators.ManyOp.{ManyOp}
use Rattle.dict_source.specs.declared.operators.ManyOp.TheVariants as many_op
use Rattle.dict_source.specs.declared.operators.OneOp.{OneOp}
use Rattle.dict_source.specs.declared.operators.OneOp.TheVariants as one_op
use Rattle.dict_source.specs.declared.operators.TwoOp.{TwoOp}
use Rattle.dict_source.specs.declared.operators.TwoOp.TheVariants as two_op
use Rattle.dict_source.specs.Tables.{LookupTable, value_for}
use Rattle.dict_source.specs.OperandTypes.{between_type, common_type, is_compared, is_ordered, later_day_type, many_type, multiple_type, one_type, product_type, quotient_type, same_type, two_type, type_of_many}
use Rattle.dict_source.proofs.TypeLaws.{same_is}
use Rattle.evaluation.specs.Extremes.{AreOfType}
use Rattle.evaluation.specs.Operations.{day_in, difference_of, dollar_in, greater, greatest, greatest_of, increment_of, int_in, least, least_of, lesser, many_value, number_in, number_value, one_value, rounded_by, sum_of, to_multiple, total, two_value, value_as}
use Rattle.evaluation.specs.Typed.{Domains, IsOfType, TablesAreTyped}
use Rattle.evaluation.proofs.LawRanges.{age-in-range, day-in-range, days_between-in-range, month-in-range, months_after-is-day, years_after-is-day}
use Rattle.evaluation.proofs.RangeLaws.{checked-in-range, checked_lowest-is-rational, checked_ratio-is-rational, day_after-is-day, difference-is-rational, sum-is-rational, year-in-range}
use Rattle.evaluation.proofs.TableLaws.{value_for-among}

-- values, one by one, of these types
abbrev pub AreOfTypes : Domains → List Value → List FactType → Type 0
AreOfTypes d [] [] = Unit {0}
AreOfTypes d (v ∷ vs) (u ∷ us) = IsOfType d v u × AreOfTypes d vs us
AreOfTypes d _ _ = ⊥

-- ---- what stands in a value of a type

pub int_value : (d : Domains) (v : Value) → IsOfType d v types.Int → (n : ℤ) × (v ≡ Int n)
int_value d (Int n) h = (n, refl)
int_value d _ h = absurd h

pub dollar_value : (d : Domains) (v : Value) → IsOfType d v types.Dollar → (n : ℤ) × (v ≡ Dollar n)
dollar_value d (Dollar n) h = (n, refl)
dollar_value d _ h = absurd h

pub day_value : (d : Domains) (v : Value) → IsOfType d v types.Day → (n : ℤ) × (v ≡ Day n)
day_value d (Day n) h = (n, refl)
day_value d _ h = absurd h

day_is : (d : Domains) (v : Value) → IsOfType d v types.Day → IsDay (day_in v)
day_is d (Day n) h = h
day_is d _ h = absurd h

pub rational_value : (d : Domains) (v : Value) → IsOfType d v types.Rational → (q : Ratio) × (v ≡ Rational q) × IsRational q
rational_value d (Rational q) h = (q, refl, h)
rational_value d _ h = absurd h

pub members_value : (d : Domains) (v : Value) (c : ℕ) → IsOfType d v (types.Collection c) → (ms : List ℕ) × (v ≡ Members ms) × IsMemberList ms × IsTrue (list_all (d.has_member c) ms)
members_value d (Members ms) c h = (ms, refl, h.0, h.1)
members_value d _ c h = absurd h

pub item_value : (d : Domains) (v : Value) (c : ℕ) → IsOfType d v (types.Item c) → (m : ℕ) × (v ≡ Item m) × IsTrue (d.has_member c m)
item_value d (Item m) c h = (m, refl, h.1)
item_value d _ c h = absurd h

-- ---- outcomes as values

-- what an operation gives, where it gives a value
abbrev pub GivesType : Domains → Result Value ValueFault → FactType → Type 0
GivesType d r t = (w : Value) → r ≡ Ok w → IsOfType d w t

pub gives_ok : (d : Domains) (v : Value) (t : FactType) → IsOfType d v t → GivesType d (Ok v) t
gives_ok d v t h w e = let same : v ≡ w = cc in subst (λ x. IsOfType d x t) same h

gives_as : {A : Type 0} (d : Domains) (value : A → Value) (r : Result A ValueFault) (t : FactType) → ((x : A) → r ≡ Ok x → IsOfType d (value x) t) → GivesType d (value_as value r) t
gives_as d value (Ok x) t h = gives_ok d (value x) t (h x refl)
gives_as d value (Err fault) t h = λ w e. absurd (cc)

pub ints_give : (d : Domains) (z : ℤ) → GivesType d (value_as Int (checked z)) types.Int
ints_give d z = gives_as d Int (checked z) types.Int (λ x e. checked-in-range z x e)

pub dollars_give : (d : Domains) (z : ℤ) → GivesType d (value_as Dollar (checked z)) types.Dollar
dollars_give d z = gives_as d Dollar (checked z) types.Dollar (λ x e. checked-in-range z x e)

-- ---- values of one type

-- one value or more
abbrev pub AreSomeOf : Domains → FactType → List Value → Type 0
AreSomeOf d u [] = ⊥
AreSomeOf d u (v ∷ vs) = IsOfType d v u × AreOfType d u vs

all_of : (d : Domains) (u : FactType) (vs : List Value) (us : List FactType) → list_all (same_type u) us ≡ true → AreOfTypes d vs us → AreOfType d u vs
all_of d u [] [] e h = tt
all_of d u [] (w ∷ us) e h = absurd h
all_of d u (v ∷ vs) [] e h = absurd h
all_of d u (v ∷ vs) (w ∷ us) e h =
    let p = both (same_type u w) (list_all (same_type u) us) e in
    (subst (IsOfType d v) (sym (same_is u w p.0)) h.0, all_of d u vs us p.1 h.1)

some_of : (d : Domains) (vs : List Value) (us : List FactType) (u : FactType) → common_type us ≡ Some u → AreOfTypes d vs us → AreSomeOf d u vs
some_of d vs [] u e h = absurd cc
some_of d [] (w ∷ us) u e h = absurd h
some_of d (v ∷ vs) (w ∷ us) u e h =
    let p = chosen (list_all (same_type w) us) w u e in
    subst (λ t. AreSomeOf d t (v ∷ vs)) p.1 (h.0, all_of d w vs us p.0 h.1)

as_many : (d : Domains) (vs : List Value) (us : List FactType) → AreOfTypes d vs us → length us ≡ length vs
as_many d [] [] h = refl
as_many d [] (u ∷ us) h = absurd h
as_many d (v ∷ vs) [] h = absurd h
as_many d (v ∷ vs) (u ∷ us) h = ap suc (as_many d vs us h.1)

-- what a row of the table says
abbrev row : FactType → Option FactType
row u = Some u

row_is : (u t : FactType) → row u ≡ Some t → t ≡ u
row_is u t e = cc

row_where : (b : Bool) (u t : FactType) → (if b then row u else None) ≡ Some t → t ≡ u
row_where b u t e = sym (chosen b u t e).1

row_unless : (b : Bool) (u t : FactType) → (if b then None else row u) ≡ Some t → t ≡ u
row_unless true u t e = absurd cc
row_unless false u t e = cc

-- ---- Add and Subtract

int_sum : (d : Domains) (vs : List Value) → AreSomeOf d types.Int vs → GivesType d (sum_of vs) types.Int
int_sum d [] h = absurd h
int_sum d (v ∷ vs) h = let x = int_value d v h.0 in rw x.1 (ints_give d (x.0 +ℤ total int_in vs))

dollar_sum : (d : Domains) (vs : List Value) → AreSomeOf d types.Dollar vs → GivesType d (sum_of vs) types.Dollar
dollar_sum d [] h = absurd h
dollar_sum d (v ∷ vs) h = let x = dollar_value d v h.0 in rw x.1 (dollars_give d (x.0 +ℤ total dollar_in vs))

int_difference : (d : Domains) (vs : List Value) → AreSomeOf d types.Int vs → GivesType d (difference_of vs) types.Int
int_difference d [] h = absurd h
int_difference d (v ∷ vs) h = let x = int_value d v h.0 in rw x.1 (ints_give d (x.0 -ℤ total int_in vs))

dollar_difference : (d : Domains) (vs : List Value) → AreSomeOf d types.Dollar vs → GivesType d (difference_of vs) types.Dollar
dollar_difference d [] h = absurd h
dollar_difference d (v ∷ vs) h = let x = dollar_value d v h.0 in rw x.1 (dollars_give d (x.0 -ℤ total dollar_in vs))

-- two fractions
rational_pair : (d : Domains) (op : List Value → Result Value ValueFault)
    → ((p q : Ratio) → IsRational p → IsRational q → GivesType d (op (Rational p ∷ Rational q ∷ [])) types.Rational)
    → (vs : List Value) (t : FactType) → (if length vs == 2 then row types.Rational else None) ≡ Some t → AreSomeOf d types.Rational vs → GivesType d (op vs) t
rational_pair d op k [] t e h = absurd h
rational_pair d op k (v ∷ []) t e h = absurd cc
rational_pair d op k (v ∷ w ∷ []) t e h =
    let p = rational_value d v h.0 in
    let q = rational_value d w h.1.0 in
    rw (row_is types.Rational t e, p.1, q.1) (k p.0 q.0 p.2 q.2)
rational_pair d op k (v ∷ w ∷ x ∷ vs) t e h =
    let n : length (v ∷ w ∷ x ∷ vs) ≡ 2 = same_number (length (v ∷ w ∷ x ∷ vs)) 2 (chosen (length (v ∷ w ∷ x ∷ vs) == 2) types.Rational t e).0 in
    absurd (omega (arith, n))

pair_sums : (d : Domains) (p q : Ratio) → IsRational p → IsRational q → GivesType d (sum_of (Rational p ∷ Rational q ∷ [])) types.Rational
pair_sums d p q h k = gives_as d Rational (sum_of_ratios p q) types.Rational (λ x e. sum-is-rational p q h k x e)

pair_differences : (d : Domains) (p q : Ratio) → IsRational p → IsRational q → GivesType d (difference_of (Rational p ∷ Rational q ∷ [])) types.Rational
pair_differences d p q h k = gives_as d Rational (difference_of_ratios p q) types.Rational (λ x e. difference-is-rational p q h k x e)

-- ---- GreaterOf and LesserOf

either : (d : Domains) (b : Bool) (v w : Value) (t : FactType) → IsOfType d v t → IsOfType d w t → IsOfType d (if b then v else w) t
either d true v w t h k = h
either d false v w t h k = k

greatest-type : (d : Domains) (v : Value) (vs : List Value) (t : FactType) → IsOfType d v t → AreOfType d t vs → IsOfType d (greatest v vs) t
greatest-type d v [] t h hs = h
greatest-type d v (w ∷ ws) t h hs = greatest-type d (greater v w) ws t (either d (is_lt (order_of v w)) w v t hs.0 h) hs.1

least-type : (d : Domains) (v : Value) (vs : List Value) (t : FactType) → IsOfType d v t → AreOfType d t vs → IsOfType d (least v vs) t
least-type d v [] t h hs = h
least-type d v (w ∷ ws) t h hs = least-type d (lesser v w) ws t (either d (is_gt (order_of v w)) w v t hs.0 h) hs.1

-- the greatest or the least of some of a type with an order
extreme : (d : Domains) (best : List Value → Value) → ((v : Value) (vs : List Value) (u : FactType) → IsOfType d v u → AreOfType d u vs → IsOfType d (best (v ∷ vs)) u)
    → (vs : List Value) (u t : FactType) → (if is_ordered u then row u else None) ≡ Some t → AreSomeOf d u vs → GivesType d (Ok (best vs)) t
extreme d best k [] u t e h = absurd h
extreme d best k (v ∷ vs) u t e h = rw (row_where (is_ordered u) u t e) (gives_ok d (best (v ∷ vs)) u (k v vs u h.0 h.1))

many_by : (d : Domains) (op : ManyOp) (vs : List Value) (u t : FactType) → type_of_many op (length vs) u ≡ Some t → AreSomeOf d u vs → GivesType d (many_value op vs) t
many_by d many_op.All vs types.Boolean t e h = rw (row_is types.Boolean t e) (gives_ok d _ types.Boolean tt)
many_by d many_op.Any vs types.Boolean t e h = rw (row_is types.Boolean t e) (gives_ok d _ types.Boolean tt)
many_by d many_op.Add vs types.Int t e h = rw (row_is types.Int t e) (int_sum d vs h)
many_by d many_op.Add vs types.Dollar t e h = rw (row_is types.Dollar t e) (dollar_sum d vs h)
many_by d many_op.Add vs types.Rational t e h = rational_pair d sum_of (pair_sums d) vs t e h
many_by d many_op.Subtract vs types.Int t e h = rw (row_unless (nat_lt (length vs) 2) types.Int t e) (int_difference d vs h)
many_by d many_op.Subtract vs types.Dollar t e h = rw (row_unless (nat_lt (length vs) 2) types.Dollar t e) (dollar_difference d vs h)
many_by d many_op.Subtract vs types.Rational t e h = rational_pair d difference_of (pair_differences d) vs t e h
many_by d many_op.GreaterOf vs u t e h = extreme d greatest_of (greatest-type d) vs u t e h
many_by d many_op.LesserOf vs u t e h = extreme d least_of (least-type d) vs u t e h
many_by d _ vs _ t e h = absurd cc

pub many-gives : (d : Domains) (op : ManyOp) (vs : List Value) (us : List FactType) (t : FactType) → many_type op us ≡ Some t → AreOfTypes d vs us → GivesType d (many_value op vs) t
many-gives d op vs us t m h =
    let p = both_some (type_of_many op (length us)) (common_type us) t m in
    many_by d op vs p.0 t (ap (λ n. type_of_many op n p.0) (sym (as_many d vs us h)) ∙ p.2) (some_of d vs us p.0 p.1 h)

junction_row : (op : ManyOp) (n : ℕ) (o : Option FactType) (t : FactType) → ((u v : FactType) → type_of_many op n u ≡ Some v → v ≡ types.Boolean) → option_and_then (type_of_many op n) o ≡ Some t → t ≡ types.Boolean
junction_row op n None t k e = absurd cc
junction_row op n (Some u) t k e = k u t e

all_row : (n : ℕ) (u t : FactType) → type_of_many many_op.All n u ≡ Some t → t ≡ types.Boolean
all_row n types.Boolean t e = row_is types.Boolean t e
all_row n _ t e = absurd cc

any_row : (n : ℕ) (u t : FactType) → type_of_many many_op.Any n u ≡ Some t → t ≡ types.Boolean
any_row n types.Boolean t e = row_is types.Boolean t e
any_row n _ t e = absurd cc

pub all_is : (us : List FactType) (t : FactType) → many_type many_op.All us ≡ Some t → t ≡ types.Boolean
all_is us t m = junction_row many_op.All (length us) (common_type us) t (all_row (length us)) m

pub any_is : (us : List FactType) (t : FactType) → many_type many_op.Any us ≡ Some t → t ≡ types.Boolean
any_is us t m = junction_row many_op.Any (length us) (common_type us) t (any_row (length us)) m

-- ---- one operand

pub one-gives : (d : Domains) (fits : LookupTable → Bool) → TablesAreTyped d fits → (op : OneOp) (v : Value) (u t : FactType) → one_type fits op u ≡ Some t → IsOfType d v u → GivesType d (one_value op v) t
one-gives d fits tables one_op.Not v types.Boolean t m h = rw (row_is types.Boolean t m) (gives_ok d _ types.Boolean tt)
one-gives d fits tables one_op.Round v types.Dollar t m h = rw (row_is types.Dollar t m) (dollars_give d (rounded (dollar_in v) 100 *ℤ pos 100))
one-gives d fits tables one_op.YearOf v types.Day t m h = rw (row_is types.Int t m) (gives_ok d _ types.Int (year-in-range _))
one-gives d fits tables one_op.MonthOf v types.Day t m h = rw (row_is types.Int t m) (gives_ok d _ types.Int (month-in-range _))
one-gives d fits tables one_op.DayOf v types.Day t m h =
    rw (row_is types.Int t m) (gives_ok d _ types.Int (day-in-range _ (day_is d v h)))
one-gives d fits tables (one_op.Lookup table) v u t m h =
    let p = chosen (fits table && same_type u table.from) table.to t m in
    subst (GivesType d (Ok (value_for table v))) p.1
    (gives_ok d (value_for table v) table.to (value_for-among (λ w. IsOfType d w table.to) table v (tables table (both_left (fits table) (same_type u table.from) p.0))))
one-gives d fits tables _ v _ t m h = absurd cc

-- ---- Multiply and Divide

abbrev NumGives : Domains → Result Num ValueFault → FactType → Type 0
NumGives d r t = (x : Num) → r ≡ Ok x → IsOfType d (number_value x) t

num_by : (d : Domains) (z : ℤ) (b : Bool) → is_in_range z ≡ b → NumGives d (checked_int z) types.Int
num_by d z true h x e = let same : num.Int z ≡ x = cc in subst (λ y. IsOfType d (number_value y) types.Int) same h
num_by d z false h x e = absurd (cc)

int_number : (d : Domains) (z : ℤ) → NumGives d (checked_int z) types.Int
int_number d z = num_by d z (is_in_range z) refl

amount_by : (d : Domains) (z : ℤ) (b : Bool) → is_in_range z ≡ b → NumGives d (checked_dollar z) types.Dollar
amount_by d z true h x e = let same : num.Dollar z ≡ x = cc in subst (λ y. IsOfType d (number_value y) types.Dollar) same h
amount_by d z false h x e = absurd (cc)

dollar_number : (d : Domains) (z : ℤ) → NumGives d (checked_dollar z) types.Dollar
dollar_number d z = amount_by d z (is_in_range z) refl

as_rational_number : (d : Domains) (r : Result Ratio ValueFault) → ((q : Ratio) → r ≡ Ok q → IsRational q) → NumGives d (as_rational r) types.Rational
as_rational_number d (Ok q) h x e = let same : num.Rational q ≡ x = cc in subst (λ y. IsOfType d (number_value y) types.Rational) same (h q refl)
as_rational_number d (Err fault) h x e = absurd (cc)

rational_number : (d : Domains) (n : ℤ) (m : ℕ) → 0 < m → NumGives d (checked_rational n m) types.Rational
rational_number d n m some = as_rational_number d (checked_lowest n m) (checked_lowest-is-rational n m some)

ratio_number : (d : Domains) (n m : ℤ) → NumGives d (as_rational (checked_ratio n m)) types.Rational
ratio_number d n m = as_rational_number d (checked_ratio n m) (checked_ratio-is-rational n m)

rounded_number : (d : Domains) (n m : ℤ) → NumGives d (rounded_quotient n m) types.Dollar
rounded_number d n (pos zero) = λ x e. absurd (cc)
rounded_number d n (pos (suc m)) = dollar_number d (rounded n (suc m))
rounded_number d n (negsuc m) = dollar_number d (rounded (neg_ℤ n) (suc m))

gives_number : (d : Domains) (r : Result Num ValueFault) (t u : FactType) → row t ≡ Some u → NumGives d r t → GivesType d (value_as number_value r) u
gives_number d r t u e h = rw (row_is t u e) (gives_as d number_value r t h)

product-gives : (d : Domains) (v w : Value) (a b t : FactType) → product_type a b ≡ Some t → IsOfType d v a → IsOfType d w b → GivesType d (value_as number_value (product (number_in v) (number_in w))) t
product-gives d v w types.Int types.Int t m h k = let x = int_value d v h in let y = int_value d w k in
    rw (x.1, y.1) (gives_number d (checked_int (x.0 *ℤ y.0)) types.Int t m (int_number d (x.0 *ℤ y.0)))
product-gives d v w types.Int types.Dollar t m h k = let x = int_value d v h in let y = dollar_value d w k in
    rw (x.1, y.1) (gives_number d (checked_dollar (x.0 *ℤ y.0)) types.Dollar t m (dollar_number d (x.0 *ℤ y.0)))
product-gives d v w types.Dollar types.Int t m h k = let x = dollar_value d v h in let y = int_value d w k in
    rw (x.1, y.1) (gives_number d (checked_dollar (x.0 *ℤ y.0)) types.Dollar t m (dollar_number d (x.0 *ℤ y.0)))
product-gives d v w types.Dollar types.Rational t m h k = let x = dollar_value d v h in let y = rational_value d w k in
    rw (x.1, y.1) (gives_number d (checked_dollar (rounded (x.0 *ℤ y.0.num) y.0.den)) types.Dollar t m (dollar_number d (rounded (x.0 *ℤ y.0.num) y.0.den)))
product-gives d v w types.Rational types.Dollar t m h k = let x = rational_value d v h in let y = dollar_value d w k in
    rw (x.1, y.1) (gives_number d (checked_dollar (rounded (x.0.num *ℤ y.0) x.0.den)) types.Dollar t m (dollar_number d (rounded (x.0.num *ℤ y.0) x.0.den)))
product-gives d v w types.Int types.Rational t m h k = let x = int_value d v h in let y = rational_value d w k in
    rw (x.1, y.1) (gives_number d (checked_rational (x.0 *ℤ y.0.num) y.0.den) types.Rational t m (rational_number d (x.0 *ℤ y.0.num) y.0.den y.2.0))
product-gives d v w types.Rational types.Int t m h k = let x = rational_value d v h in let y = int_value d w k in
    rw (x.1, y.1) (gives_number d (checked_rational (x.0.num *ℤ y.0) x.0.den) types.Rational t m (rational_number d (x.0.num *ℤ y.0) x.0.den x.2.0))
product-gives d v w types.Rational types.Rational t m h k = let x = rational_value d v h in let y = rational_value d w k in
    rw (x.1, y.1) (gives_number d (checked_rational (x.0.num *ℤ y.0.num) (x.0.den * y.0.den)) types.Rational t m (rational_number d (x.0.num *ℤ y.0.num) (x.0.den * y.0.den) (mul-pos x.2.0 y.2.0)))
product-gives d v w _ _ t m h k = absurd cc

quotient-gives : (d : Domains) (v w : Value) (a b t : FactType) → quotient_type a b ≡ Some t → IsOfType d v a → IsOfType d w b → GivesType d (value_as number_value (quotient (number_in v) (number_in w))) t
quotient-gives d v w types.Int types.Int t m h k = let x = int_value d v h in let y = int_value d w k in
    rw (x.1, y.1) (gives_number d (as_rational (checked_ratio x.0 y.0)) types.Rational t m (ratio_number d x.0 y.0))
quotient-gives d v w types.Rational types.Rational t m h k = let x = rational_value d v h in let y = rational_value d w k in
    rw (x.1, y.1) (gives_number d (as_rational (checked_ratio (x.0.num *ℤ pos y.0.den) (y.0.num *ℤ pos x.0.den))) types.Rational t m (ratio_number d (x.0.num *ℤ pos y.0.den) (y.0.num *ℤ pos x.0.den)))
quotient-gives d v w types.Dollar types.Int t m h k = let x = dollar_value d v h in let y = int_value d w k in
    rw (x.1, y.1) (gives_number d (rounded_quotient x.0 y.0) types.Dollar t m (rounded_number d x.0 y.0))
quotient-gives d v w types.Dollar types.Rational t m h k = let x = dollar_value d v h in let y = rational_value d w k in
    rw (x.1, y.1) (gives_number d (rounded_quotient (x.0 *ℤ pos y.0.den) y.0.num) types.Dollar t m (rounded_number d (x.0 *ℤ pos y.0.den) y.0.num))
quotient-gives d v w types.Dollar types.Dollar t m h k = let x = dollar_value d v h in let y = dollar_value d w k in
    rw (x.1, y.1) (gives_number d (as_rational (checked_ratio x.0 y.0)) types.Rational t m (ratio_number d x.0 y.0))
quotient-gives d v w _ _ t m h k = absurd cc

compared-gives : (d : Domains) (b holds : Bool) (t : FactType) → (if b then row types.Boolean else None) ≡ Some t → GivesType d (Ok (Boolean holds)) t
compared-gives d b holds t m = rw (row_where b types.Boolean t m) (gives_ok d (Boolean holds) types.Boolean tt)

-- ---- days and multiples

later_day-gives : (d : Domains) (r : Result ℤ ValueFault) (a b t : FactType) → later_day_type a b ≡ Some t → ((x : ℤ) → r ≡ Ok x → IsDay x) → GivesType d (value_as Day r) t
later_day-gives d r types.Day types.Int t m k = rw (row_is types.Day t m) (gives_as d Day r types.Day k)
later_day-gives d r _ _ t m k = absurd cc

between-gives : (d : Domains) (v w : Value) (n : ℤ) (a b t : FactType) → between_type a b ≡ Some t → IsOfType d v a → IsOfType d w b → (IsDay (day_in v) → IsDay (day_in w) → IsInRange n) → GivesType d (Ok (Int n)) t
between-gives d v w n types.Day types.Day t m h k range = rw (row_is types.Int t m) (gives_ok d (Int n) types.Int (range (day_is d v h) (day_is d w k)))
between-gives d v w n _ _ t m h k range = absurd cc

-- an amount that is checked, of any increment
multiple_by : (d : Domains) (round : ℕ → Num → Result ℤ ValueFault) (n : Num) (r : Result ℕ ValueFault) → ((unit : ℕ) → GivesType d (value_as Dollar (round unit n)) types.Dollar) → GivesType d (value_as Dollar (rounded_by round n r)) types.Dollar
multiple_by d round n (Ok unit) k = k unit
multiple_by d round n (Err fault) k = λ w e. absurd cc

multiple-gives : (d : Domains) (round : ℕ → Num → Result ℤ ValueFault) (n : Num) (unit : ℤ) (a b t : FactType) → multiple_type a b ≡ Some t
    → ((u : ℕ) → GivesType d (value_as Dollar (round u n)) types.Dollar) → GivesType d (value_as Dollar (to_multiple round n unit)) t
multiple-gives d round n unit types.Dollar types.Dollar t m k = rw (row_is types.Dollar t m) (multiple_by d round n (increment_of unit) k)
multiple-gives d round n unit types.Rational types.Dollar t m k = rw (row_is types.Dollar t m) (multiple_by d round n (increment_of unit) k)
multiple-gives d round n unit _ _ t m k = absurd cc

pub two-gives : (d : Domains) (op : TwoOp) (v w : Value) (a b t : FactType) → two_type op a b ≡ Some t → IsOfType d v a → IsOfType d w b → GivesType d (two_value op v w) t
two-gives d two_op.Multiply v w a b t m h k = product-gives d v w a b t m h k
two-gives d two_op.Divide v w a b t m h k = quotient-gives d v w a b t m h k
two-gives d two_op.AddDays v w a b t m h k = later_day-gives d (day_after (day_in v) (int_in w)) a b t m (day_after-is-day (day_in v) (int_in w))
two-gives d two_op.AddMonths v w a b t m h k = later_day-gives d (months_after (day_in v) (int_in w)) a b t m (months_after-is-day (day_in v) (int_in w))
two-gives d two_op.AddYears v w a b t m h k = later_day-gives d (years_after (day_in v) (int_in w)) a b t m (years_after-is-day (day_in v) (int_in w))
two-gives d two_op.DaysBetween v w a b t m h k = between-gives d v w (day_in w -ℤ day_in v) a b t m h k (days_between-in-range (day_in v) (day_in w))
two-gives d two_op.AgeOn v w a b t m h k = between-gives d v w (age_on (day_in v) (day_in w)) a b t m h k (λ x y. age-in-range (day_in v) (day_in w))
two-gives d two_op.RoundUp v w a b t m h k = multiple-gives d rounded_up (number_in v) (dollar_in w) a b t m (λ u. dollars_give d (multiple_above u (cents_of (number_in v))))
two-gives d two_op.RoundDown v w a b t m h k = multiple-gives d rounded_down (number_in v) (dollar_in w) a b t m (λ u. dollars_give d (multiple_below u (cents_of (number_in v))))
two-gives d two_op.RoundNearest v w a b t m h k = multiple-gives d rounded_nearest (number_in v) (dollar_in w) a b t m (λ u. dollars_give d (multiple_near u (cents_of (number_in v))))
two-gives d two_op.Equal v w a b t m h k = compared-gives d (is_compared a && same_type a b) _ t m
two-gives d two_op.NotEqual v w a b t m h k = compared-gives d (is_compared a && same_type a b) _ t m
two-gives d two_op.GreaterThan v w a b t m h k = compared-gives d (is_ordered a && same_type a b) _ t m
two-gives d two_op.LessThan v w a b t m h k = compared-gives d (is_ordered a && same_type a b) _ t m
two-gives d two_op.GreaterThanOrEqual v w a b t m h k = compared-gives d (is_ordered a && same_type a b) _ t m
two-gives d two_op.LessThanOrEqual v w a b t m h k = compared-gives d (is_ordered a && same_type a b) _ t m
