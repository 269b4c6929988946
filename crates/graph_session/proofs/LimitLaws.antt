-- The limits of a fact, as they are kept: they measure the values of the fact's type, and their checks are in the table.
use Rattle.std.proofs.Common.{◌≡◌, ℕ, zero, suc, ◌<◌, ◌≤◌, Bool, true, false, List, [], ◌∷◌, length, slice_get, map, Option, Some, None, option_map, unwrap_or, is_none, inl, inr, refl, sym, ap, ◌∙◌, subst, arith, if◌then◌else◌}
use Rattle.std.specs.Prelude.{nat_lt}
use Rattle.std.specs.List.{All, list_any}
use Rattle.std.proofs.lemmas.Bool.{false_from_ne_true, ltb-false}
use Rattle.std.proofs.lemmas.List.Elements.{All-cons, All-head, All-nil, All-tail}
use Rattle.std.proofs.lemmas.Option.{slice_get_within}
use Rattle.std.proofs.lemmas.List.{length-map}
use Rattle.common_lemmas.proofs.Bools.{or_neither}
use Rattle.common_lemmas.proofs.Options.{both_some, mapped}
use Rattle.fact_values.specs.Values.{AreOrdered}
use Rattle.fact_values.specs.declared.fact_type.FactType.{FactType}
use Rattle.fact_values.specs.declared.fact_type.FactType.TheVariants as types
use Rattle.fact_values.specs.declared.value.Value.{Value}
use Rattle.fact_values.specs.declared.value.Value.TheVariants as values
use Rattle.value_text.specs.Enums.{Listed}
use Rattle.value_text.specs.Values.{value_at}
use Rattle.value_text.specs.Dates.{day_at}
use Rattle.value_text.specs.Dollars.{dollar_at}
use Rattle.value_text.specs.Fractions.{rational_at}
use Rattle.value_text.specs.Wholes.{whole_at}
use Rattle.text_checks.proofs.PlaceLaws.{place-name}
use Rattle.dict_source.specs.Facts.{Bound, Fact, Stated, check, greatest, least, max_length, scalar}
use Rattle.dict_source.specs.Dictionary.{Dictionary as Tree, number_from, passed}
use Rattle.dict_source.specs.Finding.{IsNumber, fact_at}
use Rattle.dict_types.specs.BadLimit.{bound_value, fact_limits, has_twice, length_at, limit_at, limits_at, ordered_value, takes_text}
use Rattle.dict_types.specs.DictFaults.{AreLimits}
use Rattle.node_types.specs.StatedTypes.{stated_type, type_at, type_stated}
use Rattle.dict_rules.specs.UnknownCheck.{check_place, has_unknown_check, is_unknown_check}
use Rattle.dict_types.specs.declared.limit.Limit.{Limit}
use Rattle.dict_types.specs.declared.limit.Limit.TheVariants.{Min, Max, MaxLength, Check}
use Rattle.dict_meaning.proofs.NumberLaws.{fact_there}
use Rattle.dict_meaning.specs.Accepted.{Accepted, IsAccepted}
use Rattle.dictionary.specs.AcceptedParts.{Named, names_of}
use Rattle.dictionary.specs.Checks.{fact_has_check, has_check, is_check}
use Rattle.graph_session.specs.Judging.{HasCheck, IsLimitBy, IsMeasured, fails, limits_of, value_spelled}
use Rattle.graph_session.specs.Refusals.{SameChecks}
use Rattle.graph_session.specs.Rules.{Rules}

-- ---- what the bounds of a fact make

given_if : {X : Type 0} (b : Bool) (o : Option X) (x : X) → (if b then o else None) ≡ Some x → o ≡ Some x
given_if true o x e = e
given_if false o x e = absurd cc

given_unless : {X : Type 0} (b : Bool) (o : Option X) (x : X) → (if b then None else o) ≡ Some x → o ≡ Some x
given_unless true o x e = absurd cc
given_unless false o x e = e

-- what holds of each bound without the mark holds of the limits that are made of them, where none has the mark
module _ (names : List (List ℕ)) (lists : List Listed) (stated : Stated) (mark : Bound → Bool) (P : Value → Type 0) (C : ℕ → Type 0)
    (bound : (text : List ℕ) (v : Value) → bound_value lists stated text ≡ Some v → P v)
    (place : (name : List ℕ) → mark (check name) ≡ false → C (unwrap_or (check_place names name) 0)) where
  limit_by : (b : Bound) (l : Limit) → mark b ≡ false → limit_at names lists stated b ≡ Some l → IsLimitBy P C l
  limit_by (least text) l q e = let m = mapped (λ v. Min v) (bound_value lists stated text) l e in subst (IsLimitBy P C) (sym m.2) (bound text m.0 m.1)
  limit_by (greatest text) l q e = let m = mapped (λ v. Max v) (bound_value lists stated text) l e in subst (IsLimitBy P C) (sym m.2) (bound text m.0 m.1)
  limit_by (max_length text) l q e =
      let m = mapped (λ n. MaxLength n) (length_at lists text) l (given_if (takes_text stated) (option_map (λ n. MaxLength n) (length_at lists text)) l e) in
      subst (IsLimitBy P C) (sym m.2) tt
  limit_by (check name) l q e =
      let made = given_if (takes_text stated) (Some (Check (unwrap_or (check_place names name) 0))) l e in
      let same : Check (unwrap_or (check_place names name) 0) ≡ l = cc in
      subst (IsLimitBy P C) same (place name q)

  limits_by : (bs : List Bound) (ls : List Limit) → list_any mark bs ≡ false → limits_at names lists stated bs ≡ Some ls → All (IsLimitBy P C) ls
  limits_by [] ls q e = let same : [] ≡ ls = cc in subst (All (IsLimitBy P C)) same (All-nil (IsLimitBy P C))
  limits_by (b ∷ bs) ls q e =
      let parts = or_neither (mark b) (list_any mark bs) q in
      let one = both_some (λ l. option_map (λ ms. l ∷ ms) (limits_at names lists stated bs)) (limit_at names lists stated b) ls e in
      let rest = mapped (λ ms. one.0 ∷ ms) (limits_at names lists stated bs) ls one.2 in
      subst (All (IsLimitBy P C)) (sym rest.2) (All-cons (IsLimitBy P C) one.0 rest.0 (limit_by b one.0 parts.0 one.1) (limits_by bs rest.0 parts.1 rest.1))

count_made : (names : List (List ℕ)) (lists : List Listed) (stated : Stated) (bs : List Bound) (ls : List Limit) → limits_at names lists stated bs ≡ Some ls → length ls ≡ length bs
count_made names lists stated [] ls e = let same : [] ≡ ls = cc in ap length (sym same)
count_made names lists stated (b ∷ bs) ls e =
    let one = both_some (λ l. option_map (λ ms. l ∷ ms) (limits_at names lists stated bs)) (limit_at names lists stated b) ls e in
    let rest = mapped (λ ms. one.0 ∷ ms) (limits_at names lists stated bs) ls one.2 in
    ap length rest.2 ∙ ap suc (count_made names lists stated bs rest.0 rest.1)

-- ---- of the fact with a number

made_in : (names : List (List ℕ)) (d : Tree) (fs : List Fact) (ls : List (List Limit)) → AreLimits names d fs ls → (i : ℕ) (f : Fact) → slice_get fs i ≡ Some f → (l : List Limit) × (slice_get ls i ≡ Some l) × (fact_limits names d.enums f ≡ Some l)
made_in names d [] ls h i f e = absurd cc
made_in names d (g ∷ fs) [] h i f e = absurd h
made_in names d (g ∷ fs) (l ∷ ls) h zero f e = let same : g ≡ f = cc in (l, refl, ap (fact_limits names d.enums) (sym same) ∙ h.0)
made_in names d (g ∷ fs) (l ∷ ls) h (suc i) f e = made_in names d fs ls h.1 i f e

-- what holds of none of a list holds of none at a place of it
none_at : {X : Type 0} (p : X → Bool) (xs : List X) (i : ℕ) (x : X) → list_any p xs ≡ false → slice_get xs i ≡ Some x → p x ≡ false
none_at p [] i x h e = absurd cc
none_at p (y ∷ ys) zero x h e = let same : y ≡ x = cc in ap p (sym same) ∙ (or_neither (p y) (list_any p ys) h).0
none_at p (y ∷ ys) (suc i) x h e = none_at p ys i x (or_neither (p y) (list_any p ys) h).1 e

none_of_facts : (p : Fact → Bool) (fs : List Fact) (n : ℕ) (f : Fact) → list_any p fs ≡ false → fact_at fs n ≡ Some f → p f ≡ false
none_of_facts p fs zero f h e = absurd cc
none_of_facts p fs (suc i) f h e = none_at p fs i f h e

last_passes : (bs : List Bool) (n : ℕ) → number_from (λ b. b) n bs ≡ None → list_any (λ b. b) bs ≡ false
last_passes [] n h = refl
last_passes (true ∷ bs) n h = absurd cc
last_passes (false ∷ bs) n h = last_passes bs (suc n) h

module _ (names : List (List ℕ)) (d : Accepted) (is : IsAccepted names d) (n : ℕ) where
  made : (f : Fact) → fact_at d.tree.facts n ≡ Some f → (l : List Limit) × (limits_of d.typed n ≡ l) × (limits_at names d.tree.enums f.stated f.limits ≡ Some l)
  made f e = at n e
    where
      at : (n : ℕ) → fact_at d.tree.facts n ≡ Some f → (l : List Limit) × (limits_of d.typed n ≡ l) × (limits_at names d.tree.enums f.stated f.limits ≡ Some l)
      at zero e = absurd cc
      at (suc i) e =
          let h = made_in names d.tree d.tree.facts d.typed.limits is.typed.2 i f e in
          (h.0, ap (λ (o : Option (List Limit)). unwrap_or o []) h.1, given_unless (has_twice f.limits) (limits_at names d.tree.enums f.stated f.limits) h.0 h.2)

  all_by : (f : Fact) → fact_at d.tree.facts n ≡ Some f → (mark : Bound → Bool) (P : Value → Type 0) (C : ℕ → Type 0) → list_any mark f.limits ≡ false
      → ((text : List ℕ) (v : Value) → bound_value d.tree.enums f.stated text ≡ Some v → P v) → ((name : List ℕ) → mark (check name) ≡ false → C (unwrap_or (check_place names name) 0))
      → All (IsLimitBy P C) (limits_of d.typed n)
  all_by f e mark P C none bound place =
      let m = made f e in
      subst (All (IsLimitBy P C)) (sym m.1) (limits_by names d.tree.enums f.stated mark P C bound place f.limits m.0 none m.2)

  -- the check of each is known
  checks_known : IsNumber d.tree.facts n → All (HasCheck (length names)) (limits_of d.typed n)
  checks_known h =
      let f = fact_there d.tree.facts n (omega (arith, h.0)) h.1 in
      let known = false_from_ne_true (has_unknown_check names f.0) (λ k. is.typed.0.1.1.1.1.1.0 n (record { fact = f.0; is_there = f.1; passes = k })) in
      all_by f.0 f.1 (is_unknown_check names) (λ v. Unit {0}) (λ place. place < length names) known (λ text v k. tt) (λ name q. there name (check_place names name) refl q)
    where
      there : (name : List ℕ) (o : Option ℕ) → check_place names name ≡ o → is_none o ≡ false → unwrap_or o 0 < length names
      there name None e q = absurd cc
      there name (Some place) e q = slice_get_within names place name (place-name names name place e)

  -- none has a check, where the dictionary has none
  unchecked : IsNumber d.tree.facts n → has_check d.tree ≡ false → (C : ℕ → Type 0) → All (IsLimitBy (λ v. Unit {0}) C) (limits_of d.typed n)
  unchecked h none C =
      let f = fact_there d.tree.facts n (omega (arith, h.0)) h.1 in
      all_by f.0 f.1 is_check (λ v. Unit {0}) C (none_of_facts fact_has_check d.tree.facts n f.0 none f.1) (λ text v k. tt) (λ name q. absurd cc)

  pub limits_few : IsNumber d.tree.facts n → length (limits_of d.typed n) ≤ 8
  limits_few h =
      let f = fact_there d.tree.facts n (omega (arith, h.0)) h.1 in
      let m = made f.0 f.1 in
      let over : list_any (λ (g : Fact). nat_lt 8 (length g.limits)) d.tree.facts ≡ false = none_at (λ b. b) (passed d.tree) 5 _ (last_passes (passed d.tree) 1 is.valid.limits.many) refl in
      let few = ltb-false 8 (length f.0.limits) (none_of_facts (λ (g : Fact). nat_lt 8 (length g.limits)) d.tree.facts n f.0 over f.1) in
      omega (arith, few, ap length m.1 ∙ count_made names d.tree.enums f.0.stated f.0.limits m.0 m.2)

-- ---- what they say of a value

-- two values of a type whose values have an order
both_ordered : (lists : List Listed) (t : FactType) (text bound : List ℕ) (v w : Value) → value_at lists t text ≡ Some v → ordered_value lists t bound ≡ Some w → AreOrdered v w
both_ordered lists types.Int text bound v w h k =
    let a = mapped (λ n. values.Int n) (whole_at text) v h in
    let b = mapped (λ n. values.Int n) (whole_at bound) w k in
    rw (a.2, b.2) tt
both_ordered lists types.Dollar text bound v w h k =
    let a = mapped (λ n. values.Dollar n) (dollar_at text) v h in
    let b = mapped (λ n. values.Dollar n) (dollar_at bound) w k in
    rw (a.2, b.2) tt
both_ordered lists types.Rational text bound v w h k =
    let a = mapped (λ q. values.Rational q) (rational_at text) v h in
    let b = mapped (λ q. values.Rational q) (rational_at bound) w k in
    rw (a.2, b.2) tt
both_ordered lists types.Day text bound v w h k =
    let a = mapped (λ n. values.Day n) (day_at text) v h in
    let b = mapped (λ n. values.Day n) (day_at bound) w k in
    rw (a.2, b.2) tt
both_ordered lists t text bound v w h k = absurd cc

bound_ordered : (d : Tree) (f : Fact) (stated : Stated) (t : FactType) → type_stated d f.path stated ≡ Some t → (text bound : List ℕ) (v w : Value) → value_at d.enums t text ≡ Some v → bound_value d.enums stated bound ≡ Some w → AreOrdered v w
bound_ordered d f (scalar u) t e text bound v w h k = let same : t ≡ u = cc in both_ordered d.enums u text bound v w (rw (← same) h) k
bound_ordered d f stated t e text bound v w h k = absurd cc

-- the limits of a fact measure the value that a text spells for it
pub value_measured : (names : List (List ℕ)) (d : Accepted) → IsAccepted names d → (n : ℕ) (text : List ℕ) (v : Value) → value_spelled d.tree n text ≡ Some v → All (IsMeasured v) (limits_of d.typed n)
value_measured names d is n text v h =
    let t = both_some (λ t. value_at d.tree.enums t text) (type_at d.tree n) v h in
    let f = both_some (stated_type d.tree) (fact_at d.tree.facts n) t.0 t.1 in
    all_by names d is n f.0 f.1 (λ b. false) (AreOrdered v) (λ place. Unit {0}) (no_mark f.0.limits)
    (λ bound w k. bound_ordered d.tree f.0 f.0.stated t.0 f.2 text bound v w t.2 k) (λ name q. tt)
  where
    no_mark : (bs : List Bound) → list_any (λ b. false) bs ≡ false
    no_mark [] = refl
    no_mark (b ∷ bs) = no_mark bs

-- ---- with a table that has the dictionary's checks, or of a dictionary without any

none_fails : (checks : List Named) (v : Value) (n : ℕ) (ls : List Limit) → All (IsLimitBy (λ w. Unit {0}) (λ place. ⊥)) ls → number_from (fails checks v) n ls ≡ None
none_fails checks v n [] all = refl
none_fails checks v n (Check place ∷ ls) all = absurd (All-head (IsLimitBy (λ w. Unit {0}) (λ place. ⊥)) (Check place) ls all)
none_fails checks v n (l ∷ ls) all = none_fails checks v (suc n) ls (All-tail (IsLimitBy (λ w. Unit {0}) (λ place. ⊥)) l ls all)

module _ (k : Rules) (is : IsAccepted (names_of k.checks) k.accepted) (n : ℕ) (there : IsNumber k.accepted.tree.facts n) where
  -- it says of them what the dictionary's checks say
  pub checks_agree : (table : List Named) → SameChecks k table → (v : Value) → number_from (fails table v) 1 (limits_of k.accepted.typed n) ≡ number_from (fails k.checks v) 1 (limits_of k.accepted.typed n)
  checks_agree table (inl same) v = ap (λ (c : List Named). number_from (fails c v) 1 (limits_of k.accepted.typed n)) (sym same)
  checks_agree table (inr none) v =
      let no = unchecked (names_of k.checks) k.accepted is n there none (λ place. ⊥) in
      none_fails table v 1 (limits_of k.accepted.typed n) no ∙ sym (none_fails k.checks v 1 (limits_of k.accepted.typed n) no)

  -- each check of a limit is in the table
  pub table_there : {C : Type 0} (name : C → List ℕ) (code : C → ℕ) (items : List C) → SameChecks k (map (λ c. (name c, code c)) items) → All (HasCheck (length items)) (limits_of k.accepted.typed n)
  table_there {C = C} name code items (inl same) =
      let entry : C → Named = λ c. (name c, code c) in
      let count : length (names_of k.checks) ≡ length items = length-map k.checks (λ (c : Named). c.0) ∙ ap length same ∙ length-map items entry in
      subst (λ (count : ℕ). All (HasCheck count) (limits_of k.accepted.typed n)) count (checks_known (names_of k.checks) k.accepted is n there)
  table_there name code items (inr none) = unchecked (names_of k.checks) k.accepted is n there none (λ place. place < length items)
