-- Each rule keeps a complete result where its operands keep theirs.
-- A rule that needs all its operands: either all are complete, and then the operands stay as they are, or the result isn't complete.
use Rattle.std.proofs.Common.{◌≡◌, ℕ, Bool, true, false, ◌||◌, not, if◌then◌else◌, List, [], ◌∷◌, map, Option, None, Result, Ok, refl}
use Rattle.std.specs.List.{list_any, list_all}
use Rattle.common_lemmas.proofs.Bools.{or_right}
use Rattle.fact_values.specs.declared.fault.ValueFault.{ValueFault}
use Rattle.fact_values.specs.declared.value.Value.{Value}
use Rattle.fact_values.specs.declared.value.Value.TheVariants.{Boolean, Item}
use Rattle.three_state.specs.declared.res.Res.{Res}
use Rattle.three_state.specs.declared.res.Res.TheVariants.{Complete, Placeholder, Incomplete}
use Rattle.three_state.specs.declared.strict.Verdict.TheVariants as verdict
use Rattle.three_state.specs.Results.{after_verdict, down, fault_else, fault_or_go, fields_in, filter_members, filter_of, find_cases, find_member, find_of, first_fault, is_complete, is_complete_at, is_incomplete, is_placeholder, is_placeholder_at, is_truth, junction, kept, members_in, strict, strict_over_fields, switch_case, switch_of, through, truth, values_of}
use Rattle.three_state.specs.Order.{Keeps, KeepsAll, KeepsCases}

pub kept_itself : (a : Res) → Keeps a a
kept_itself a = record { keeps = λ v e. e }

-- where all are complete, the others are the same
pub all_same : (xs ys : List Res) → KeepsAll xs ys → list_all is_complete xs ≡ true → ys ≡ xs
all_same [] [] k h = refl
all_same [] (b ∷ ys) k h = absurd k
all_same (a ∷ xs) [] k h = absurd k
all_same (Complete v ∷ xs) (b ∷ ys) k h = rw (k.0.keeps v refl, all_same xs ys k.1 h) refl
all_same (_ ∷ xs) (b ∷ ys) k h = cc

-- ---- strict operations

pub not_complete : (x : Bool) (y : Option ValueFault) (done : Result Value ValueFault) (v : Value) → after_verdict (if x then verdict.Incomplete else fault_or_go y false) done ≡ Complete v → ⊥
not_complete false None (Ok w) v e = cc
not_complete _ _ _ v e = cc

strict_by : (op : List Value → Result Value ValueFault) (xs ys : List Res) → KeepsAll xs ys → (b : Bool) → list_all is_complete xs ≡ b → (v : Value) → strict op xs ≡ Complete v → strict op ys ≡ Complete v
strict_by op xs ys k true h v e = rw (all_same xs ys k h) e
strict_by op xs ys k false h v e = absurd (not_complete (list_any is_incomplete xs) (first_fault xs) (op (values_of xs)) v (rw h at e))

pub strict_keeps : (op : List Value → Result Value ValueFault) (xs ys : List Res) → KeepsAll xs ys → Keeps (strict op xs) (strict op ys)
strict_keeps op xs ys k = record { keeps = strict_by op xs ys k (list_all is_complete xs) refl }

-- ---- All and Any

decided_or : (a b c : Bool) → (a || b) ≡ true → (b ≡ true → c ≡ true) → (a || c) ≡ true
decided_or true b c h k = refl
decided_or false b c h k = k h

decided_keeps : (d : Bool) (xs ys : List Res) → KeepsAll xs ys → list_any (is_complete_at d) xs ≡ true → list_any (is_complete_at d) ys ≡ true
decided_keeps d [] ys k h = cc
decided_keeps d (a ∷ xs) [] k h = absurd k
decided_keeps d (Complete v ∷ xs) (b ∷ ys) k h = rw (k.0.keeps v refl) (decided_or (is_truth d v) (list_any (is_complete_at d) xs) (list_any (is_complete_at d) ys) h (decided_keeps d xs ys k.1))
decided_keeps d (_ ∷ xs) (b ∷ ys) k h = or_right (is_complete_at d b) _ (decided_keeps d xs ys k.1 h)

-- one that isn't complete is incomplete, a fault or a placeholder
some_placeholder : (xs : List Res) → list_all is_complete xs ≡ false → list_any is_incomplete xs ≡ false → first_fault xs ≡ None → list_any is_placeholder xs ≡ true
some_placeholder [] a b c = cc
some_placeholder (Complete v ∷ xs) a b c = some_placeholder xs a b c
some_placeholder (Placeholder v ∷ xs) a b c = refl
some_placeholder (_ ∷ xs) a b c = cc

undecided : (d n : Bool) (x : Bool) (y : Option ValueFault) (p q : Bool) → (x ≡ false → y ≡ None → q ≡ true) → (v : Value)
    → (if x then Incomplete else fault_else y (if p then Placeholder (Boolean d) else if q then Placeholder (Boolean n) else Complete (Boolean n))) ≡ Complete v → ⊥
undecided d n false None false false h v e = let k : false ≡ true = h refl refl in cc
undecided d n _ _ _ _ h v e = cc

junction_by : (d : Bool) (xs ys : List Res) → KeepsAll xs ys → (x y : Bool) → list_all is_complete xs ≡ x → list_any (is_complete_at d) xs ≡ y → (v : Value) → junction d xs ≡ Complete v → junction d ys ≡ Complete v
junction_by d xs ys k true y h g v e = rw (all_same xs ys k h) e
junction_by d xs ys k false true h g v e = rw (decided_keeps d xs ys k g) (rw g at e)
junction_by d xs ys k false false h g v e = absurd (undecided d (not d) (list_any is_incomplete xs) (first_fault xs) (list_any (is_placeholder_at d) xs) (list_any is_placeholder xs) (some_placeholder xs h) v (rw g at e))

pub junction_keeps : (d : Bool) (xs ys : List Res) → KeepsAll xs ys → Keeps (junction d xs) (junction d ys)
junction_keeps d xs ys k = record { keeps = junction_by d xs ys k (list_all is_complete xs) (list_any (is_complete_at d) xs) refl refl }

-- ---- what is read through a result

pub down-never-complete : (r : Res) (v : Value) → down r ≡ Complete v → ⊥
down-never-complete (Complete w) v e = cc
down-never-complete _ v e = cc

pub down-down : (r : Res) → down (down r) ≡ down r
down-down (Complete v) = refl
down-down _ = refl

pub through_keeps : (s s' : Res) (read read' : Value → Res) → Keeps s s' → ((v : Value) → Keeps (read v) (read' v)) → Keeps (through s read) (through s' read')
through_keeps (Complete w) s' read read' k h = rw (k.keeps w refl) (h w)
through_keeps (Placeholder w) s' read read' k h = record { keeps = λ v e. absurd (down-never-complete _ v e) }
through_keeps _ s' read read' k h = record { keeps = λ v e. cc }

-- ---- Switch

if_keeps : (b : Bool) (x y x' y' : Res) → Keeps x x' → Keeps y y' → Keeps (if b then x else y) (if b then x' else y')
if_keeps true x y x' y' h k = h
if_keeps false x y x' y' h k = k

pub case_keeps : (t t' g g' r r' : Res) → Keeps t t' → Keeps g g' → Keeps r r' → Keeps (switch_case t g r) (switch_case t' g' r')
case_keeps t t' g g' r r' kt kg kr = through_keeps t t' (λ v. if truth v then g else r) (λ v. if truth v then g' else r') kt (λ v. if_keeps (truth v) g r g' r' kg kr)

pub switch_keeps : (cs ds : List (Res × Res)) → KeepsCases cs ds → Keeps (switch_of cs) (switch_of ds)
switch_keeps [] [] k = kept_itself Incomplete
switch_keeps [] (d ∷ ds) k = absurd k
switch_keeps (c ∷ cs) [] k = absurd k
switch_keeps (c ∷ cs) (d ∷ ds) k = case_keeps c.0 d.0 c.1 d.1 (switch_of cs) (switch_of ds) k.0 k.1.0 (switch_keeps cs ds k.1.1)

-- ---- Filter and Find

-- results at members
pub map_keeps : (f g : ℕ → Res) → ((m : ℕ) → Keeps (f m) (g m)) → (ms : List ℕ) → KeepsAll (map f ms) (map g ms)
map_keeps f g h [] = tt
map_keeps f g h (m ∷ ms) = (h m, map_keeps f g h ms)

kept_same : (f g : ℕ → Res) (ms : List ℕ) → map g ms ≡ map f ms → kept g ms ≡ kept f ms
kept_same f g [] e = refl
kept_same f g (m ∷ ms) e = let h : g m ≡ f m = cc in let t : map g ms ≡ map f ms = cc in rw (h, kept_same f g ms t) refl

filter_by : (f g : ℕ → Res) → ((m : ℕ) → Keeps (f m) (g m)) → (ms : List ℕ) → (b : Bool) → list_all is_complete (map f ms) ≡ b → (v : Value) → filter_members f ms ≡ Complete v → filter_members g ms ≡ Complete v
filter_by f g h ms true k v e =
    let same = all_same (map f ms) (map g ms) (map_keeps f g h ms) k in
    rw (same, kept_same f g ms same) e
filter_by f g h ms false k v e = absurd (not_complete (list_any is_incomplete (map f ms)) (first_fault (map f ms)) _ v (rw k at e))

pub filter_keeps : (s s' : Res) (f g : ℕ → Res) → Keeps s s' → ((m : ℕ) → Keeps (f m) (g m)) → Keeps (filter_of s f) (filter_of s' g)
filter_keeps s s' f g k h = through_keeps s s' (λ v. filter_members f (members_in v)) (λ v. filter_members g (members_in v)) k
    (λ v. record { keeps = filter_by f g h (members_in v) (list_all is_complete (map f (members_in v))) refl })

find_cases_keep : (f g : ℕ → Res) → ((m : ℕ) → Keeps (f m) (g m)) → (ms : List ℕ) → KeepsCases (find_cases f ms) (find_cases g ms)
find_cases_keep f g h [] = tt
find_cases_keep f g h (m ∷ ms) = (h m, (kept_itself (Complete (Item m)), find_cases_keep f g h ms))

pub find_keeps : (s s' : Res) (f g : ℕ → Res) → Keeps s s' → ((m : ℕ) → Keeps (f m) (g m)) → Keeps (find_of s f) (find_of s' g)
find_keeps s s' f g k h = through_keeps s s' (λ v. find_member f (members_in v)) (λ v. find_member g (members_in v)) k
    (λ v. switch_keeps (find_cases f (members_in v)) (find_cases g (members_in v)) (find_cases_keep f g h (members_in v)))

-- ---- CollectionSum and Count

fields_keep_by : (op : List Value → Result Value ValueFault) (s s' : Res) (f g : ℕ → Res) → Keeps s s' → ((m : ℕ) → Keeps (f m) (g m)) → (v : Value)
    → strict_over_fields op s f ≡ Complete v → strict_over_fields op s' g ≡ Complete v
fields_keep_by op (Complete w) s' f g k h v e =
    let ops = λ (vs : List Value). op (fields_in vs) in
    let both : KeepsAll (Complete w ∷ map f (members_in w)) (Complete w ∷ map g (members_in w)) = (kept_itself (Complete w), map_keeps f g h (members_in w)) in
    rw (k.keeps w refl) ((strict_keeps ops (Complete w ∷ map f (members_in w)) (Complete w ∷ map g (members_in w)) both).keeps v e)
fields_keep_by op (Placeholder w) s' f g k h v e = absurd (not_complete (list_any is_incomplete (map f (members_in w))) (first_fault (map f (members_in w))) _ v e)
fields_keep_by op _ s' f g k h v e = cc

pub fields_keep : (op : List Value → Result Value ValueFault) (s s' : Res) (f g : ℕ → Res) → Keeps s s' → ((m : ℕ) → Keeps (f m) (g m)) → Keeps (strict_over_fields op s f) (strict_over_fields op s' g)
fields_keep op s s' f g k h = record { keeps = fields_keep_by op s s' f g k h }
