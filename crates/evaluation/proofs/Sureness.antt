-- Where an expression is sure, its result is Complete with what it is worth.
use Rattle.std.proofs.Common.{◌≡◌, ℕ, Bool, true, false, not, ◌&&◌, ◌||◌, if◌then◌else◌, IsTrue, List, [], ◌∷◌, map, filter, Result, Ok, Err, None, is_ok, refl, sym, ap, ◌∙◌}
use Rattle.std.specs.List.{list_any, list_all}
use Rattle.fact_values.specs.declared.fault.ValueFault.{ValueFault}
use Rattle.fact_values.specs.declared.value.Value.{Value}
use Rattle.fact_values.specs.declared.value.Value.TheVariants.{Boolean, Members, Item}
use Rattle.dict_source.specs.Tree.{Tree, literal, read, switch, many, one, two, pick, Trees, no_trees, tree, Cases, no_cases, a_case}
use Rattle.dict_source.specs.declared.operators.ManyOp.{ManyOp}
use Rattle.dict_source.specs.declared.operators.ManyOp.TheVariants.{All, Any, Add, Subtract, GreaterOf, LesserOf}
use Rattle.dict_source.specs.declared.operators.PickOp.{PickOp}
use Rattle.dict_source.specs.declared.operators.PickOp.TheVariants.{Filter, Find}
use Rattle.three_state.specs.declared.res.Res.{Res}
use Rattle.three_state.specs.declared.res.Res.TheVariants.{Complete}
use Rattle.three_state.specs.declared.strict.Verdict.TheVariants as verdict
use Rattle.three_state.specs.Results.{filter_members, find_member, find_of, first_fault, is_complete, is_complete_at, is_incomplete, is_placeholder, is_placeholder_at, junction, kept, outcome, strict, switch_case, switch_of, truth, values_of, verdict_of}
use Rattle.evaluation.specs.Operations.{all_from, all_true, any_from, any_true, many_value, on_one, on_two, one_value, two_value}
use Rattle.evaluation.specs.Over.{over, over_all, over_cases, many_of, one_of, pick_of}
use Rattle.evaluation.specs.Sure.{KnownValues, IsKnown, value_of, first_found, first_member, picked, worth, worth_of_all, worth_of_cases, has_pick, is_sure, is_sure_of_all, is_sure_of_cases}
use Rattle.common_lemmas.proofs.Bools.{and_assoc, and_true, both_left, both_right, or_assoc, or_false}

-- ---- rules on complete operands

no_incomplete : (vs : List Value) → list_any is_incomplete (map Complete vs) ≡ false
no_incomplete [] = refl
no_incomplete (v ∷ vs) = no_incomplete vs

no_fault : (vs : List Value) → first_fault (map Complete vs) ≡ None
no_fault [] = refl
no_fault (v ∷ vs) = no_fault vs

all_complete : (vs : List Value) → list_all is_complete (map Complete vs) ≡ true
all_complete [] = refl
all_complete (v ∷ vs) = all_complete vs

no_placeholder : (vs : List Value) → list_any is_placeholder (map Complete vs) ≡ false
no_placeholder [] = refl
no_placeholder (v ∷ vs) = no_placeholder vs

no_placeholder_at : (b : Bool) (vs : List Value) → list_any (is_placeholder_at b) (map Complete vs) ≡ false
no_placeholder_at b [] = refl
no_placeholder_at b (v ∷ vs) = no_placeholder_at b vs

their_values : (vs : List Value) → values_of (map Complete vs) ≡ vs
their_values [] = refl
their_values (v ∷ vs) = ap (λ ws. v ∷ ws) (their_values vs)

go : (vs : List Value) → verdict_of (map Complete vs) ≡ verdict.Go true
go vs = rw (no_incomplete vs, no_fault vs, all_complete vs) refl

done : (r : Result Value ValueFault) → IsTrue (is_ok r) → outcome true r ≡ Complete (value_of r)
done (Ok v) h = refl
done (Err fault) h = absurd (cc)

pub strict_sure : (op : List Value → Result Value ValueFault) (vs : List Value) → IsTrue (is_ok (op vs)) → strict op (map Complete vs) ≡ Complete (value_of (op vs))
strict_sure op vs h = rw (go vs, their_values vs) (done (op vs) h)

-- ---- All and Any

any_decided : (vs : List Value) → list_any (is_complete_at true) (map Complete vs) ≡ list_any truth vs
any_decided [] = refl
any_decided (v ∷ vs) = ap (λ b. truth v || b) (any_decided vs)

not_both : (a b : Bool) → (not a || not b) ≡ not (a && b)
not_both true b = refl
not_both false b = refl

all_decided : (vs : List Value) → list_any (is_complete_at false) (map Complete vs) ≡ not (list_all truth vs)
all_decided [] = refl
all_decided (v ∷ vs) = rw (all_decided vs) (not_both (truth v) (list_all truth vs))

ended : (b : Bool) → (if b then Complete (Boolean true) else Complete (Boolean false)) ≡ Complete (Boolean b)
ended true = refl
ended false = refl

ended_all : (b : Bool) → (if not b then Complete (Boolean false) else Complete (Boolean true)) ≡ Complete (Boolean b)
ended_all true = refl
ended_all false = refl

all_from-is : (b : Bool) (vs : List Value) → all_from b vs ≡ (b && list_all truth vs)
all_from-is b [] = sym (and_true b)
all_from-is b (v ∷ vs) = all_from-is (b && truth v) vs ∙ and_assoc b (truth v) (list_all truth vs)

any_from-is : (b : Bool) (vs : List Value) → any_from b vs ≡ (b || list_any truth vs)
any_from-is b [] = sym (or_false b)
any_from-is b (v ∷ vs) = any_from-is (b || truth v) vs ∙ or_assoc b (truth v) (list_any truth vs)

all_true-is : (vs : List Value) → all_true vs ≡ list_all truth vs
all_true-is [] = refl
all_true-is (v ∷ vs) = all_from-is (truth v) vs

any_true-is : (vs : List Value) → any_true vs ≡ list_any truth vs
any_true-is [] = refl
any_true-is (v ∷ vs) = any_from-is (truth v) vs

pub any_sure : (vs : List Value) → junction true (map Complete vs) ≡ Complete (Boolean (any_true vs))
any_sure vs = rw (any_decided vs, no_incomplete vs, no_fault vs, no_placeholder_at true vs, no_placeholder vs, any_true-is vs) (ended (list_any truth vs))

pub all_sure : (vs : List Value) → junction false (map Complete vs) ≡ Complete (Boolean (all_true vs))
all_sure vs = rw (all_decided vs, no_incomplete vs, no_fault vs, no_placeholder_at false vs, no_placeholder vs, all_true-is vs) (ended_all (list_all truth vs))

many_sure : (op : ManyOp) (vs : List Value) → IsTrue (is_ok (many_value op vs)) → many_of op (map Complete vs) ≡ Complete (value_of (many_value op vs))
many_sure All vs h = all_sure vs
many_sure Any vs h = any_sure vs
many_sure Add vs h = strict_sure (many_value Add) vs h
many_sure Subtract vs h = strict_sure (many_value Subtract) vs h
many_sure GreaterOf vs h = strict_sure (many_value GreaterOf) vs h
many_sure LesserOf vs h = strict_sure (many_value LesserOf) vs h

-- ---- Switch

chosen : (b rest_sure : Bool) (given rest : Res) (v w : Value) → given ≡ Complete v → (IsTrue rest_sure → rest ≡ Complete w) → IsTrue (rest_sure || b) → (if b then given else rest) ≡ Complete (if b then v else w)
chosen true s given rest v w p q h = p
chosen false s given rest v w p q h = q (rw or_false at h)

case_sure : (condition given rest : Res) (c v w : Value) (rest_sure : Bool) → condition ≡ Complete c → given ≡ Complete v → (IsTrue rest_sure → rest ≡ Complete w) → IsTrue (rest_sure || truth c) → switch_case condition given rest ≡ Complete (if truth c then v else w)
case_sure condition given rest c v w s e p q h = rw e (chosen (truth c) s given rest v w p q h)

-- ---- Filter and Find

-- where the condition f is sure, it is Complete with the value of g
abbrev pub SureBy : (ℕ → Res) → (ℕ → Value) → (ℕ → Bool) → Type 0
SureBy f g sure = (m : ℕ) → IsTrue (sure m) → f m ≡ Complete (g m)

kept_sure : (f : ℕ → Res) (g : ℕ → Value) (sure : ℕ → Bool) → SureBy f g sure → (ms : List ℕ) → IsTrue (list_all sure ms) → kept f ms ≡ filter (λ m. truth (g m)) ms
kept_sure f g sure h [] k = refl
kept_sure f g sure h (m ∷ ms) k = rw (h m (both_left (sure m) (list_all sure ms) k), kept_sure f g sure h ms (both_right (sure m) (list_all sure ms) k)) refl

pub map_sure : (f : ℕ → Res) (g : ℕ → Value) (sure : ℕ → Bool) → SureBy f g sure → (ms : List ℕ) → IsTrue (list_all sure ms) → map f ms ≡ map Complete (map g ms)
map_sure f g sure h [] k = refl
map_sure f g sure h (m ∷ ms) k = rw (h m (both_left (sure m) (list_all sure ms) k), map_sure f g sure h ms (both_right (sure m) (list_all sure ms) k)) refl

pub filter_sure : (f : ℕ → Res) (g : ℕ → Value) (sure : ℕ → Bool) → SureBy f g sure → (ms : List ℕ) → IsTrue (list_all sure ms) → filter_members f ms ≡ Complete (Members (filter (λ m. truth (g m)) ms))
filter_sure f g sure h ms k = rw (map_sure f g sure h ms k, kept_sure f g sure h ms k) (strict_sure (λ _. Ok (Members (filter (λ m. truth (g m)) ms))) (map g ms) refl)

found_first : (b : Bool) (m : ℕ) (ms : List ℕ) → (if b then Complete (Item m) else first_found ms) ≡ first_found (if b then m ∷ ms else ms)
found_first true m ms = refl
found_first false m ms = refl

pub find_sure : (f : ℕ → Res) (g : ℕ → Value) (sure : ℕ → Bool) → SureBy f g sure → (ms : List ℕ) → IsTrue (list_all sure ms) → find_member f ms ≡ first_found (filter (λ m. truth (g m)) ms)
find_sure f g sure h [] k = refl
find_sure f g sure h (m ∷ ms) k =
    rw (h m (both_left (sure m) (list_all sure ms) k), find_sure f g sure h ms (both_right (sure m) (list_all sure ms) k)) (found_first (truth (g m)) m (filter (λ n. truth (g n)) ms))

found_one : (ms : List ℕ) → IsTrue (has_pick Find ms) → first_found ms ≡ Complete (Item (first_member ms))
found_one [] h = absurd (cc)
found_one (m ∷ ms) h = refl

pick_sure : (op : PickOp) (source : Res) (ms : List ℕ) (f : ℕ → Res) (g : ℕ → Value) (sure : ℕ → Bool) → source ≡ Complete (Members ms) → SureBy f g sure → IsTrue (list_all sure ms)
    → IsTrue (has_pick op (filter (λ m. truth (g m)) ms)) → pick_of op source f ≡ Complete (picked op (filter (λ m. truth (g m)) ms))
pick_sure Filter source ms f g sure e h k p = rw e (filter_sure f g sure h ms k)
pick_sure Find source ms f g sure e h k p = rw e (find_sure f g sure h ms k ∙ found_one (filter (λ m. truth (g m)) ms) p)

-- ---- expressions

mutual
  pub sure : {C R P S : Type 0} (k : KnownValues C R P S) → IsKnown k → (t : Tree C R P) (at : S) → IsTrue (is_sure k at t) → over k.env at t ≡ Complete (worth k at t)
  sure k h (literal c) at s = refl
  sure k h (read r) at s = h.reads at r s
  sure k h (switch cs) at s = sure_cases k h cs at s
  sure k h (many op ts) at s =
      ap (many_of op) (sure_all k h ts at (both_left (is_sure_of_all k at ts) (is_ok (many_value op (worth_of_all k at ts))) s))
      ∙ many_sure op (worth_of_all k at ts) (both_right (is_sure_of_all k at ts) (is_ok (many_value op (worth_of_all k at ts))) s)
  sure k h (one op t) at s =
      let ok = is_ok (one_value op (worth k at t)) in
      ap (one_of op) (sure k h t at (both_left (is_sure k at t) ok s)) ∙ strict_sure (on_one (one_value op)) (worth k at t ∷ []) (both_right (is_sure k at t) ok s)
  sure k h (two op a b) at s =
      let ok = is_ok (two_value op (worth k at a) (worth k at b)) in
      let rest = both_right (is_sure k at a) (is_sure k at b && ok) s in
      rw (sure k h a at (both_left (is_sure k at a) (is_sure k at b && ok) s), sure k h b at (both_left (is_sure k at b) ok rest))
      (strict_sure (on_two (two_value op)) (worth k at a ∷ worth k at b ∷ []) (both_right (is_sure k at b) ok rest))
  sure k h (pick op p t) at s =
      let each = list_all (λ m. is_sure k (k.env.enter at p m) t) (k.members at p) in
      let some = has_pick op (filter (λ m. truth (worth k (k.env.enter at p m) t)) (k.members at p)) in
      let rest = both_right (k.has_members at p) (each && some) s in
      pick_sure op (k.env.source at p) (k.members at p) (λ m. over k.env (k.env.enter at p m) t) (λ m. worth k (k.env.enter at p m) t) (λ m. is_sure k (k.env.enter at p m) t)
      (h.source at p (both_left (k.has_members at p) (each && some) s)) (λ m. sure k h t (k.env.enter at p m)) (both_left each some rest) (both_right each some rest)

  pub sure_all : {C R P S : Type 0} (k : KnownValues C R P S) → IsKnown k → (ts : Trees C R P) (at : S) → IsTrue (is_sure_of_all k at ts) → over_all k.env at ts ≡ map Complete (worth_of_all k at ts)
  sure_all k h no_trees at s = refl
  sure_all k h (tree t ts) at s = rw (sure k h t at (both_left (is_sure k at t) (is_sure_of_all k at ts) s), sure_all k h ts at (both_right (is_sure k at t) (is_sure_of_all k at ts) s)) refl

  pub sure_cases : {C R P S : Type 0} (k : KnownValues C R P S) → IsKnown k → (cs : Cases C R P) (at : S) → IsTrue (is_sure_of_cases k at cs) → switch_of (over_cases k.env at cs) ≡ Complete (worth_of_cases k at cs)
  sure_cases k h no_cases at s = absurd (cc)
  sure_cases k h (a_case t o cs) at s =
      let last = is_sure_of_cases k at cs || truth (worth k at t) in
      let rest = both_right (is_sure k at t) (is_sure k at o && last) s in
      case_sure (over k.env at t) (over k.env at o) (switch_of (over_cases k.env at cs)) (worth k at t) (worth k at o) (worth_of_cases k at cs) (is_sure_of_cases k at cs)
      (sure k h t at (both_left (is_sure k at t) (is_sure k at o && last) s)) (sure k h o at (both_left (is_sure k at o) last rest)) (sure_cases k h cs at) (both_right (is_sure k at o) last rest)

pub sure-find : {C R P S : Type 0} (k : KnownValues C R P S) → IsKnown k → (p : P) (t : Tree C R P) (at : S) → IsTrue (k.has_members at p) → IsTrue (list_all (λ m. is_sure k (k.env.enter at p m) t) (k.members at p))
    → over k.env at (pick Find p t) ≡ first_found (filter (λ m. truth (worth k (k.env.enter at p m) t)) (k.members at p))
sure-find k h p t at has each =
    ap (λ source. find_of source (λ m. over k.env (k.env.enter at p m) t)) (h.source at p has)
    ∙ find_sure (λ m. over k.env (k.env.enter at p m) t) (λ m. worth k (k.env.enter at p m) t) (λ m. is_sure k (k.env.enter at p m) t) (λ m. sure k h t (k.env.enter at p m)) (k.members at p) each
