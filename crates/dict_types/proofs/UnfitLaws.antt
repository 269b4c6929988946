-- A fact has no limits just where one doesn't fit it, or one stands twice.
use Rattle.std.proofs.Common.{◌≡◌, ◌≤◌, ℕ, pos, negsuc, Bool, true, false, ◌||◌, List, [], ◌∷◌, Option, Some, None, refl, ap, ◌∙◌, arith}
use Rattle.std.specs.Prelude.{is_none, nat_le, option_and_then, option_map, unwrap_or, if◌then◌else◌}
use Rattle.std.specs.Bool.{Decides}
use Rattle.std.specs.List.{Any, list_any}
use Rattle.std.proofs.lemmas.Bool.Decides.{Decides-at, Decides-or, nat_tests}
use Rattle.common_lemmas.proofs.Bools.{chosen}
use Rattle.common_lemmas.proofs.Options.{both_some, mapped}
use Rattle.fact_values.specs.declared.fact_type.FactType.{FactType}
use Rattle.fact_values.specs.declared.fact_type.FactType.TheVariants as types
use Rattle.fact_values.specs.declared.value.Value.{Value}
use Rattle.fact_values.specs.declared.value.Value.TheVariants as values
use Rattle.value_text.specs.Enums.{Listed}
use Rattle.value_text.specs.Values.{value_at}
use Rattle.dict_source.specs.Facts.{Fact, Stated, scalar, Bound, least, greatest, max_length, check}
use Rattle.dict_source.specs.Typing.{IsOrdered}
use Rattle.dict_source.proofs.Guards.{guarded}
use Rattle.dict_types.specs.declared.limit.Limit.{Limit}
use Rattle.dict_types.specs.declared.limit.Limit.TheVariants as limits
use Rattle.dict_types.specs.BadLimit.{Fits, HasBadLimit, IsBoundOf, bound_value, fact_limits, has_twice, length_at, limit_at, limits_at, ordered_value, takes_text, value_length}
use Rattle.dict_rules.specs.UnknownCheck.{check_place}
use Rattle.dict_rules.proofs.UseLaws.{Decides-any}

-- ---- a limit that fits

bound_is : (enums : List Listed) (s : Stated) (text : List ℕ) (v : Value) → bound_value enums s text ≡ Some v → IsBoundOf enums s text
bound_is enums (scalar types.Int) text v e = (types.Int, v, refl, refl, e)
bound_is enums (scalar types.Dollar) text v e = (types.Dollar, v, refl, refl, e)
bound_is enums (scalar types.Rational) text v e = (types.Rational, v, refl, refl, e)
bound_is enums (scalar types.Day) text v e = (types.Day, v, refl, refl, e)
bound_is enums _ text v e = absurd cc

ordered_at : (enums : List Listed) (t : FactType) (text : List ℕ) (v : Value) → IsOrdered t → value_at enums t text ≡ Some v → ordered_value enums t text ≡ Some v
ordered_at enums types.Int text v o e = e
ordered_at enums types.Dollar text v o e = e
ordered_at enums types.Rational text v o e = e
ordered_at enums types.Day text v o e = e
ordered_at enums _ text v o e = absurd cc

bound_at : (enums : List Listed) (s : Stated) (text : List ℕ) → IsBoundOf enums s text → (v : Value) × (bound_value enums s text ≡ Some v)
bound_at enums s text h = (h.1, ap (λ (x : Stated). bound_value enums x text) h.2 ∙ ordered_at enums h.0 text h.1 h.3 h.4)

low : (n : ℕ) → nat_le n 1000 ≡ true → n ≤ 1000
low n h = grind (arith, nat_tests)

is_low : (n : ℕ) → n ≤ 1000 → nat_le n 1000 ≡ true
is_low n h = grind (arith, nat_tests)

value_is : (v : Value) (n : ℕ) → value_length v ≡ Some n → (v ≡ values.Int (pos n)) × (n ≤ 1000)
value_is (values.Int (pos m)) n e = let p = chosen (nat_le m 1000) m n e in (ap (λ k. values.Int (pos k)) p.1, omega (arith, p.1, low m p.0))
value_is (values.Int (negsuc m)) n e = absurd cc
value_is _ n e = absurd cc

is_of_text : (s : Stated) → takes_text s ≡ true → s ≡ scalar types.Text
is_of_text (scalar types.Text) e = refl
is_of_text _ e = absurd cc

module _ (names : List (List ℕ)) (enums : List Listed) (s : Stated) where
  limit_fits : (b : Bound) (l : Limit) → limit_at names enums s b ≡ Some l → Fits enums s b
  limit_fits (least text) l e = let m = mapped (λ (v : Value). limits.Min v) (bound_value enums s text) l e in bound_is enums s text m.0 m.1
  limit_fits (greatest text) l e = let m = mapped (λ (v : Value). limits.Max v) (bound_value enums s text) l e in bound_is enums s text m.0 m.1
  limit_fits (max_length text) l e =
      let p = guarded (takes_text s) (option_map (λ n. limits.MaxLength n) (length_at enums text)) l e in
      let m = mapped (λ (n : ℕ). limits.MaxLength n) (length_at enums text) l p.1 in
      let k = both_some value_length (value_at enums types.Int text) m.0 m.1 in
      let v = value_is k.0 m.0 k.2 in
      (m.0, is_of_text s p.0, k.1 ∙ ap (λ (x : Value). Some x) v.0, v.1)
  limit_fits (check name) l e = is_of_text s (guarded (takes_text s) (Some _) l e).0

  fit_gives : (b : Bound) → Fits enums s b → (l : Limit) × (limit_at names enums s b ≡ Some l)
  fit_gives (least text) h = let m = bound_at enums s text h in (limits.Min m.0, ap (λ (o : Option Value). option_map (λ v. limits.Min v) o) m.1)
  fit_gives (greatest text) h = let m = bound_at enums s text h in (limits.Max m.0, ap (λ (o : Option Value). option_map (λ v. limits.Max v) o) m.1)
  fit_gives (max_length text) h = (limits.MaxLength h.0, rw (h.1, h.2, is_low h.0 h.3) refl)
  fit_gives (check name) h = (limits.Check (unwrap_or (check_place names name) 0), rw h refl)

  unfit_by : (b : Bound) (o : Option Limit) → limit_at names enums s b ≡ o → Decides (is_none o) (¬ Fits enums s b)
  unfit_by b None e = ((λ h f. let k = fit_gives b f in let z = k.1 in cc), (λ h. refl))
  unfit_by b (Some l) e = ((λ h. absurd cc), (λ h. absurd (h (limit_fits b l e))))

  -- ---- all limits

  none_of_both : (o : Option Limit) (rest : Option (List Limit)) → is_none (option_and_then (λ l. option_map (λ ls. l ∷ ls) rest) o) ≡ (is_none o || is_none rest)
  none_of_both None rest = refl
  none_of_both (Some l) None = refl
  none_of_both (Some l) (Some ls) = refl

  any_unfit : (bs : List Bound) → is_none (limits_at names enums s bs) ≡ list_any (λ b. is_none (limit_at names enums s b)) bs
  any_unfit [] = refl
  any_unfit (b ∷ bs) = none_of_both (limit_at names enums s b) (limits_at names enums s bs) ∙ ap (λ (x : Bool). is_none (limit_at names enums s b) || x) (any_unfit bs)

  limits_decide : (bs : List Bound) → Decides (is_none (limits_at names enums s bs)) (Any (λ b. ¬ Fits enums s b) bs)
  limits_decide bs =
      Decides-at (is_none (limits_at names enums s bs)) (list_any (λ b. is_none (limit_at names enums s b)) bs) (any_unfit bs)
      (Decides-any (λ b. is_none (limit_at names enums s b)) (λ b. ¬ Fits enums s b) (λ b. unfit_by b (limit_at names enums s b) refl) bs)

none_or : (b : Bool) (o : Option (List Limit)) → is_none (if b then None else o) ≡ (b || is_none o)
none_or true o = refl
none_or false o = refl

pub bad_limit_decides : (names : List (List ℕ)) (enums : List Listed) (f : Fact) → Decides (is_none (fact_limits names enums f)) (HasBadLimit enums f)
bad_limit_decides names enums f =
    let all = limits_at names enums f.stated f.limits in
    Decides-at (is_none (fact_limits names enums f)) (has_twice f.limits || is_none all) (none_or (has_twice f.limits) all)
    (Decides-or (has_twice f.limits) (is_none all) ((λ e. e), (λ e. e)) (limits_decide names enums f.stated f.limits))
