-- The order of values, and the greatest and the least of a list.
use Rattle.std.proofs.Common.{◌≡◌, ℕ, suc, ◌*◌, ◌<◌, ℤ, pos, negsuc, neg_ℤ, ◌*ℤ◌, ◌<ℤ◌, Bool, true, false, if◌then◌else◌, List, [], ◌∷◌, ◌⊎◌, inl, inr, refl, sym, ap, ◌∙◌, arith}
use Rattle.std.proofs.lemmas.Cmp.{int_cmp_total, upto}
use Rattle.std.proofs.lemmas.Int.{ints}
use Rattle.std.proofs.Math.IntN.{negsuc-*ℤ-pos}
use Rattle.std.proofs.Math.Nat.{mul-lt-mul_of_pos_right, mul-pos, mul_assoc, mul_comm}
use Rattle.std.specs.Cmp.{int_cmp_is, int_ranks}
use Rattle.std.specs.declared.cmp.Ordering.{Ordering}
use Rattle.std.specs.declared.cmp.Ordering.TheVariants.{Less, Equal, Greater}
use Rattle.std.specs.Ordering.{MatchOrdering, int_cmp, is_gt, is_lt, ordering_reverse}
use Rattle.common_lemmas.proofs.Numbers.{neg_times}
use Rattle.fact_values.specs.declared.fact_type.FactType.{FactType}
use Rattle.fact_values.specs.declared.fact_type.FactType.TheVariants as types
use Rattle.fact_values.specs.declared.value.Value.{Value}
use Rattle.fact_values.specs.Rationals.{IsRational, Ratio}
use Rattle.fact_values.specs.Values.{order_of, ratio_cmp}
use Rattle.dict_source.specs.Typing.{IsOrdered}
use Rattle.evaluation.specs.Extremes.{AreOfType, IsAmong, IsNotGreater, IsNotLess}
use Rattle.evaluation.specs.Mentioned.{AllOf}
use Rattle.evaluation.specs.Operations.{greater, greatest, least, lesser}
use Rattle.evaluation.specs.Typed.{Domains, IsOfType}
use Rattle.evaluation.proofs.ValueTypes.{day_value, dollar_value, int_value, rational_value}

-- ---- fractions, over one denominator

nat_swap : (n p q : ℕ) → n * p * q ≡ n * q * p
nat_swap n p q = mul_assoc n p q ∙ ap (λ m. n * m) (mul_comm p q) ∙ sym (mul_assoc n q p)

times_swap : (z : ℤ) (p q : ℕ) → (z *ℤ pos p) *ℤ pos q ≡ (z *ℤ pos q) *ℤ pos p
times_swap (pos n) p q = ap pos (nat_swap n p q)
times_swap (negsuc n) p q =
    ap (λ z. z *ℤ pos q) (negsuc-*ℤ-pos n p) ∙ (neg_times (suc n * p) q ∙ (ap (λ m. neg_ℤ (pos m)) (nat_swap (suc n) p q)
    ∙ (sym (neg_times (suc n * q) p) ∙ ap (λ z. z *ℤ pos p) (sym (negsuc-*ℤ-pos n q)))))

times_lt : (x y : ℤ) (k : ℕ) → 0 < k → x <ℤ y → (x *ℤ pos k) <ℤ (y *ℤ pos k)
times_lt (pos m) (pos n) k some h =
    let more = mul-lt-mul_of_pos_right {m = m} {n = n} {k = k} (omega (arith, ints)) some in
    omega (arith, ints)
times_lt (pos m) (negsuc n) k some h = absurd (omega (arith, ints))
times_lt (negsuc m) (pos n) k some h =
    let more = mul-pos {m = suc m} {n = k} (omega arith) some in
    rw (negsuc-*ℤ-pos m k) (omega (arith, ints))
times_lt (negsuc m) (negsuc n) k some h =
    let more = mul-lt-mul_of_pos_right {m = suc n} {n = suc m} {k = k} (omega (arith, ints)) some in
    rw (negsuc-*ℤ-pos m k, negsuc-*ℤ-pos n k) (omega (arith, ints))

ranks_times : (x y : ℤ) (k : ℕ) → 0 < k → (r : Ordering) → MatchOrdering r (x <ℤ y) (x ≡ y) (y <ℤ x) → MatchOrdering r ((x *ℤ pos k) <ℤ (y *ℤ pos k)) (x *ℤ pos k ≡ y *ℤ pos k) ((y *ℤ pos k) <ℤ (x *ℤ pos k))
ranks_times x y k some Less h = times_lt x y k some h
ranks_times x y k some Equal h = ap (λ z. z *ℤ pos k) h
ranks_times x y k some Greater h = times_lt y x k some h

cmp_times : (x y : ℤ) (k : ℕ) → 0 < k → int_cmp x y ≡ int_cmp (x *ℤ pos k) (y *ℤ pos k)
cmp_times x y k some = int_cmp_is (x *ℤ pos k) (y *ℤ pos k) (int_cmp x y) (ranks_times x y k some (int_cmp x y) (int_ranks x y))

-- the numerator of a over its own, b's and c's denominators
abbrev over_all_three : Ratio → Ratio → Ratio → ℤ
over_all_three a b c = (a.num *ℤ pos b.den) *ℤ pos c.den

ratio-upto : (a b c : Ratio) → IsRational a → IsRational b → IsRational c → is_gt (ratio_cmp a b) ≡ false → is_gt (ratio_cmp b c) ≡ false → is_gt (ratio_cmp a c) ≡ false
ratio-upto a b c ha hb hc h k =
    let x = over_all_three a b c in
    let y = over_all_three b a c in
    let z = over_all_three c a b in
    let ab : ratio_cmp a b ≡ int_cmp x y = cmp_times (a.num *ℤ pos b.den) (b.num *ℤ pos a.den) c.den hc.0 in
    let bc : ratio_cmp b c ≡ int_cmp y z =
    cmp_times (b.num *ℤ pos c.den) (c.num *ℤ pos b.den) a.den ha.0 ∙ ap (λ l. int_cmp l ((c.num *ℤ pos b.den) *ℤ pos a.den)) (times_swap b.num c.den a.den)
    ∙ ap (int_cmp y) (times_swap c.num b.den a.den) in
    let ac : ratio_cmp a c ≡ int_cmp x z = cmp_times (a.num *ℤ pos c.den) (c.num *ℤ pos a.den) b.den hb.0 ∙ ap (λ l. int_cmp l z) (times_swap a.num c.den b.den) in
    ap is_gt ac ∙ upto int_cmp_total x y z (sym (ap is_gt ab) ∙ h) (sym (ap is_gt bc) ∙ k)

-- ---- values of one type

order-reverse : (d : Domains) (t : FactType) (v w : Value) → IsOrdered t → IsOfType d v t → IsOfType d w t → order_of v w ≡ ordering_reverse (order_of w v)
order-reverse d types.Int v w s h k = let a = int_value d v h in let b = int_value d w k in rw (a.1, b.1) (int_cmp_total.antisymm a.0 b.0)
order-reverse d types.Dollar v w s h k = let a = dollar_value d v h in let b = dollar_value d w k in rw (a.1, b.1) (int_cmp_total.antisymm a.0 b.0)
order-reverse d types.Day v w s h k = let a = day_value d v h in let b = day_value d w k in rw (a.1, b.1) (int_cmp_total.antisymm a.0 b.0)
order-reverse d types.Rational v w s h k =
    let a = rational_value d v h in
    let b = rational_value d w k in
    rw (a.1, b.1) (int_cmp_total.antisymm (a.0.num *ℤ pos b.0.den) (b.0.num *ℤ pos a.0.den))
order-reverse d _ v w s h k = absurd cc

not_greater-upto : (d : Domains) (t : FactType) (u v w : Value) → IsOrdered t → IsOfType d u t → IsOfType d v t → IsOfType d w t → IsNotGreater u v → IsNotGreater v w → IsNotGreater u w
not_greater-upto d types.Int u v w s h k l =
    let a = int_value d u h in
    let b = int_value d v k in
    let c = int_value d w l in
    rw (a.1, b.1, c.1) (upto int_cmp_total a.0 b.0 c.0)
not_greater-upto d types.Dollar u v w s h k l =
    let a = dollar_value d u h in
    let b = dollar_value d v k in
    let c = dollar_value d w l in
    rw (a.1, b.1, c.1) (upto int_cmp_total a.0 b.0 c.0)
not_greater-upto d types.Day u v w s h k l =
    let a = day_value d u h in
    let b = day_value d v k in
    let c = day_value d w l in
    rw (a.1, b.1, c.1) (upto int_cmp_total a.0 b.0 c.0)
not_greater-upto d types.Rational u v w s h k l =
    let a = rational_value d u h in
    let b = rational_value d v k in
    let c = rational_value d w l in
    rw (a.1, b.1, c.1) (ratio-upto a.0 b.0 c.0 a.2 b.2 c.2)
not_greater-upto d _ u v w s h k l = absurd cc

reversed_gt : (r : Ordering) → is_gt (ordering_reverse r) ≡ is_lt r
reversed_gt Less = refl
reversed_gt Equal = refl
reversed_gt Greater = refl

lt_not_gt : (r : Ordering) → is_lt r ≡ true → is_gt r ≡ false
lt_not_gt Less h = refl
lt_not_gt Equal h = refl
lt_not_gt Greater h = cc

gt_not_lt : (r : Ordering) → is_gt r ≡ true → is_lt r ≡ false
gt_not_lt Less h = cc
gt_not_lt Equal h = refl
gt_not_lt Greater h = refl

own_reverse : (r : Ordering) → r ≡ ordering_reverse r → is_gt r ≡ false
own_reverse Less h = refl
own_reverse Equal h = refl
own_reverse Greater h = sym (ap is_lt h) ∙ refl

not_greater-itself : (d : Domains) (t : FactType) (v : Value) → IsOrdered t → IsOfType d v t → IsNotGreater v v
not_greater-itself d t v s h = own_reverse (order_of v v) (order-reverse d t v v s h h)

-- not greater one way is not less the other way
other_way : (d : Domains) (t : FactType) (v w : Value) → IsOrdered t → IsOfType d v t → IsOfType d w t → is_gt (order_of v w) ≡ is_lt (order_of w v)
other_way d t v w s h k = ap is_gt (order-reverse d t v w s h k) ∙ reversed_gt (order_of w v)

-- ---- the greatest

abbrev Between : Domains → FactType → Value → Value → Value → Type 0
Between d t v w g = IsOfType d g t × IsNotGreater v g × IsNotGreater w g × ((g ≡ v) ⊎ (g ≡ w))

greater_by : (d : Domains) (t : FactType) (v w : Value) → IsOrdered t → IsOfType d v t → IsOfType d w t → (b : Bool) → is_lt (order_of v w) ≡ b → Between d t v w (if b then w else v)
greater_by d t v w s h k true e = (k, lt_not_gt (order_of v w) e, not_greater-itself d t w s k, inr refl)
greater_by d t v w s h k false e = (h, not_greater-itself d t v s h, other_way d t w v s k h ∙ e, inl refl)

greater-between : (d : Domains) (t : FactType) (v w : Value) → IsOrdered t → IsOfType d v t → IsOfType d w t → Between d t v w (greater v w)
greater-between d t v w s h k = greater_by d t v w s h k (is_lt (order_of v w)) refl

-- of a value and those of a list: it is of the type, among them, and none is greater
abbrev Tops : Domains → FactType → Value → List Value → Value → Type 0
Tops d t v vs g = IsOfType d g t × IsNotGreater v g × AllOf (λ w. IsNotGreater w g) vs × IsAmong g (v ∷ vs)

among_more : (g h v w : Value) (ws : List Value) → IsAmong g (h ∷ ws) → (h ≡ v) ⊎ (h ≡ w) → IsAmong g (v ∷ w ∷ ws)
among_more g h v w ws (inl e) (inl f) = inl (e ∙ f)
among_more g h v w ws (inl e) (inr f) = inr (inl (e ∙ f))
among_more g h v w ws (inr i) f = inr (inr i)

greatest-tops : (d : Domains) (t : FactType) (v : Value) (vs : List Value) → IsOrdered t → IsOfType d v t → AreOfType d t vs → Tops d t v vs (greatest v vs)
greatest-tops d t v [] s h hs = (h, not_greater-itself d t v s h, tt, inl refl)
greatest-tops d t v (w ∷ ws) s h hs =
    let b = greater-between d t v w s h hs.0 in
    let g = greater v w in
    let rest = greatest-tops d t g ws s b.0 hs.1 in
    let top = greatest g ws in (
      rest.0,
      not_greater-upto d t v g top s h b.0 rest.0 b.1 rest.1,
      (not_greater-upto d t w g top s hs.0 b.0 rest.0 b.2 rest.1, rest.2),
      among_more top g v w ws rest.3 b.3,
    )

pub greatest-is-greatest : (d : Domains) (t : FactType) (v : Value) (vs : List Value) → IsOrdered t → AreOfType d t (v ∷ vs) → IsAmong (greatest v vs) (v ∷ vs) × AllOf (λ w. IsNotGreater w (greatest v vs)) (v ∷ vs)
greatest-is-greatest d t v vs s h = let tops = greatest-tops d t v vs s h.0 h.1 in (tops.3, (tops.1, tops.2))

-- ---- the least

abbrev Below : Domains → FactType → Value → Value → Value → Type 0
Below d t v w g = IsOfType d g t × IsNotGreater g v × IsNotGreater g w × ((g ≡ v) ⊎ (g ≡ w))

gt_reversed : (d : Domains) (t : FactType) (v w : Value) → IsOrdered t → IsOfType d v t → IsOfType d w t → is_gt (order_of v w) ≡ true → IsNotGreater w v
gt_reversed d t v w s h k e = other_way d t w v s k h ∙ gt_not_lt (order_of v w) e

lesser_by : (d : Domains) (t : FactType) (v w : Value) → IsOrdered t → IsOfType d v t → IsOfType d w t → (b : Bool) → is_gt (order_of v w) ≡ b → Below d t v w (if b then w else v)
lesser_by d t v w s h k true e = (k, gt_reversed d t v w s h k e, not_greater-itself d t w s k, inr refl)
lesser_by d t v w s h k false e = (h, not_greater-itself d t v s h, e, inl refl)

lesser-below : (d : Domains) (t : FactType) (v w : Value) → IsOrdered t → IsOfType d v t → IsOfType d w t → Below d t v w (lesser v w)
lesser-below d t v w s h k = lesser_by d t v w s h k (is_gt (order_of v w)) refl

abbrev Bottoms : Domains → FactType → Value → List Value → Value → Type 0
Bottoms d t v vs g = IsOfType d g t × IsNotGreater g v × AllOf (λ w. IsNotGreater g w) vs × IsAmong g (v ∷ vs)

least-bottoms : (d : Domains) (t : FactType) (v : Value) (vs : List Value) → IsOrdered t → IsOfType d v t → AreOfType d t vs → Bottoms d t v vs (least v vs)
least-bottoms d t v [] s h hs = (h, not_greater-itself d t v s h, tt, inl refl)
least-bottoms d t v (w ∷ ws) s h hs =
    let b = lesser-below d t v w s h hs.0 in
    let g = lesser v w in
    let rest = least-bottoms d t g ws s b.0 hs.1 in
    let bottom = least g ws in (
      rest.0,
      not_greater-upto d t bottom g v s rest.0 b.0 h rest.1 b.1,
      (not_greater-upto d t bottom g w s rest.0 b.0 hs.0 rest.1 b.2, rest.2),
      among_more bottom g v w ws rest.3 b.3,
    )

none_less : (d : Domains) (t : FactType) (g : Value) (vs : List Value) → IsOrdered t → IsOfType d g t → AreOfType d t vs → AllOf (λ w. IsNotGreater g w) vs → AllOf (λ w. IsNotLess w g) vs
none_less d t g [] s h hs k = tt
none_less d t g (w ∷ ws) s h hs k = (sym (other_way d t g w s h hs.0) ∙ k.0, none_less d t g ws s h hs.1 k.1)

pub least-is-least : (d : Domains) (t : FactType) (v : Value) (vs : List Value) → IsOrdered t → AreOfType d t (v ∷ vs) → IsAmong (least v vs) (v ∷ vs) × AllOf (λ w. IsNotLess w (least v vs)) (v ∷ vs)
least-is-least d t v vs s h =
    let bottoms = least-bottoms d t v vs s h.0 h.1 in
    (bottoms.3, none_less d t (least v vs) (v ∷ vs) s bottoms.0 h (bottoms.1, bottoms.2))
