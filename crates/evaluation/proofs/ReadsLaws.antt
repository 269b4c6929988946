-- What is read decides the result.
use Rattle.std.proofs.Common.{◌≡◌, ℕ, Bool, true, false, ◌||◌, nat_eq, IsTrue, if◌then◌else◌, List, [], ◌∷◌, flat_map, refl, ap, ◌∙◌}
use Rattle.std.specs.List.{list_any, list_all}
use Rattle.std.proofs.lemmas.Bool.{eqb-true}
use Rattle.fact_values.specs.declared.value.Value.TheVariants.{Item}
use Rattle.dict_source.specs.Tree.{Tree, literal, read, switch, many, one, two, pick, Trees, no_trees, tree, Cases, no_cases, a_case}
use Rattle.dict_source.specs.declared.operators.PickOp.{PickOp}
use Rattle.dict_source.specs.declared.operators.PickOp.TheVariants.{Filter, Find}
use Rattle.three_state.specs.declared.res.Res.{Res}
use Rattle.three_state.specs.declared.res.Res.TheVariants.{Complete, Placeholder, Incomplete, Fault}
use Rattle.three_state.specs.Results.{down, find_member, members_of, switch_case, switch_of, truth}
use Rattle.evaluation.specs.Agreement.{IsIn}
use Rattle.evaluation.specs.Over.{Env, over, over_all, over_cases, many_of, one_of, pick_of}
use Rattle.evaluation.specs.SlotsRead.{AnswerAlike, ReadBy, after_condition, members_visited, slots_read, slots_read_of_all, slots_read_of_cases, up_to_decider}
use Rattle.evaluation.proofs.Coincide.{pick_same, through_same}
use Rattle.common_lemmas.proofs.Lists.{all_parts}

-- of what is read at each member
all_at_member_by : {X : Type 0} (test : X → Bool) (g : ℕ → List X) (m k : ℕ) (ms : List ℕ) (b : Bool) → nat_eq m k ≡ b → IsTrue (b || list_any (nat_eq m) ms)
    → IsTrue (list_all test (g k)) → (IsIn ms m → IsTrue (list_all test (g m))) → IsTrue (list_all test (g m))
all_at_member_by test g m k ms true e i h rest = rw (eqb-true m k e) h
all_at_member_by test g m k ms false e i h rest = rest i

pub all_at_member : {X : Type 0} (test : X → Bool) (g : ℕ → List X) (ms : List ℕ) → IsTrue (list_all test (flat_map g ms)) → (m : ℕ) → IsIn ms m → IsTrue (list_all test (g m))
all_at_member test g [] h m i = cc
all_at_member test g (k ∷ ms) h m i =
    let parts = all_parts test (g k) (flat_map g ms) h in
    all_at_member_by test g m k ms (nat_eq m k) refl i parts.0 (all_at_member test g ms parts.1 m)

-- ---- Switch

chosen : {X : Type 0} (test : X → Bool) (b : Bool) (given given' rest rest' : Res) (xs ys : List X) → (IsTrue (list_all test xs) → given ≡ given') → (IsTrue (list_all test ys) → rest ≡ rest')
    → IsTrue (list_all test (if b then xs else ys)) → (if b then given else rest) ≡ (if b then given' else rest')
chosen test true given given' rest rest' xs ys h k all = h all
chosen test false given given' rest rest' xs ys h k all = k all

case-decides : {X : Type 0} (test : X → Bool) (condition given given' rest rest' : Res) (xs ys : List X) → (IsTrue (list_all test xs) → given ≡ given') → (IsTrue (list_all test ys) → rest ≡ rest')
    → IsTrue (list_all test (after_condition condition xs ys)) → switch_case condition given rest ≡ switch_case condition given' rest'
case-decides test (Complete v) given given' rest rest' xs ys h k all = chosen test (truth v) given given' rest rest' xs ys h k all
case-decides test (Placeholder v) given given' rest rest' xs ys h k all = ap down (chosen test (truth v) given given' rest rest' xs ys h k all)
case-decides test Incomplete given given' rest rest' xs ys h k all = refl
case-decides test (Fault fault) given given' rest rest' xs ys h k all = refl

-- ---- Find

go_on : {X : Type 0} (test : X → Bool) (g : ℕ → List X) (b : Bool) (given rest rest' : Res) (ms : List ℕ) → (IsTrue (list_all test (flat_map g ms)) → rest ≡ rest')
    → IsTrue (list_all test (flat_map g (if b then [] else ms))) → (if b then given else rest) ≡ (if b then given else rest')
go_on test g true given rest rest' ms h all = refl
go_on test g false given rest rest' ms h all = h all

member-decides : {X : Type 0} (test : X → Bool) (g : ℕ → List X) (condition given rest rest' : Res) (ms : List ℕ) → (IsTrue (list_all test (flat_map g ms)) → rest ≡ rest')
    → IsTrue (list_all test (flat_map g (after_condition condition [] ms))) → switch_case condition given rest ≡ switch_case condition given rest'
member-decides test g (Complete v) given rest rest' ms h all = go_on test g (truth v) given rest rest' ms h all
member-decides test g (Placeholder v) given rest rest' ms h all = ap down (go_on test g (truth v) given rest rest' ms h all)
member-decides test g Incomplete given rest rest' ms h all = refl
member-decides test g (Fault fault) given rest rest' ms h all = refl

find-decides : {X : Type 0} (test : X → Bool) (g : ℕ → List X) (c c' : ℕ → Res) → ((m : ℕ) → IsTrue (list_all test (g m)) → c m ≡ c' m) → (ms : List ℕ)
    → IsTrue (list_all test (flat_map g (up_to_decider c ms))) → find_member c ms ≡ find_member c' ms
find-decides test g c c' h [] all = refl
find-decides test g c c' h (m ∷ ms) all =
    let next = after_condition (c m) [] (up_to_decider c ms) in
    let parts = all_parts test (g m) (flat_map g next) all in
    member-decides test g (c m) (Complete (Item m)) (find_member c ms) (find_member c' ms) (up_to_decider c ms) (find-decides test g c c' h ms) parts.1
    ∙ ap (λ r. switch_case r (Complete (Item m)) (find_member c' ms)) (h m parts.0)

pick-decides : {X : Type 0} (test : X → Bool) (g : ℕ → List X) (op : PickOp) (source : Res) (c c' : ℕ → Res) → ((m : ℕ) → IsTrue (list_all test (g m)) → c m ≡ c' m)
    → IsTrue (list_all test (flat_map g (members_visited op c source))) → pick_of op source c ≡ pick_of op source c'
pick-decides test g Filter source c c' h all = pick_same Filter source c c' (λ m i. h m (all_at_member test g (members_of source) all m i))
pick-decides test g Find source c c' h all = through_same source (find_member c) (find_member c') (find-decides test g c c' h (members_of source) all)

-- ---- expressions

mutual
  pub reads-decide : {C R P S X : Type 0} (by : ReadBy R P S X) (test : X → Bool) (e f : Env C R P S) → AnswerAlike by test e f → (t : Tree C R P) (at : S) → IsTrue (list_all test (slots_read e by at t)) → over e at t ≡ over f at t
  reads-decide by test e f h (literal c) at all = ap Complete (h.constant c)
  reads-decide by test e f h (read r) at all = h.reads at r all
  reads-decide by test e f h (switch cs) at all = decide-cases by test e f h cs at all
  reads-decide by test e f h (many op ts) at all = ap (many_of op) (decide-all by test e f h ts at all)
  reads-decide by test e f h (one op t) at all = ap (one_of op) (reads-decide by test e f h t at all)
  reads-decide by test e f h (two op a b) at all =
      let parts = all_parts test (slots_read e by at a) (slots_read e by at b) all in
      rw (reads-decide by test e f h a at parts.0, reads-decide by test e f h b at parts.1) refl
  reads-decide by test e f h (pick op p t) at all =
      let c = λ (m : ℕ). over e (e.enter at p m) t in
      let c' = λ (m : ℕ). over f (f.enter at p m) t in
      let g = λ (m : ℕ). slots_read e by (e.enter at p m) t in
      let parts = all_parts test (by.source at p) (flat_map g (members_visited op c (e.source at p))) all in
      pick-decides test g op (e.source at p) c c' (λ m here. reads-decide by test e f h t (e.enter at p m) here ∙ ap (λ to. over f to t) (h.enter at p m)) parts.1
      ∙ ap (λ source. pick_of op source c') (h.source at p parts.0)

  decide-all : {C R P S X : Type 0} (by : ReadBy R P S X) (test : X → Bool) (e f : Env C R P S) → AnswerAlike by test e f → (ts : Trees C R P) (at : S) → IsTrue (list_all test (slots_read_of_all e by at ts)) → over_all e at ts ≡ over_all f at ts
  decide-all by test e f h no_trees at all = refl
  decide-all by test e f h (tree t ts) at all =
      let parts = all_parts test (slots_read e by at t) (slots_read_of_all e by at ts) all in
      rw (reads-decide by test e f h t at parts.0, decide-all by test e f h ts at parts.1) refl

  decide-cases : {C R P S X : Type 0} (by : ReadBy R P S X) (test : X → Bool) (e f : Env C R P S) → AnswerAlike by test e f → (cs : Cases C R P) (at : S) → IsTrue (list_all test (slots_read_of_cases e by at cs))
      → switch_of (over_cases e at cs) ≡ switch_of (over_cases f at cs)
  decide-cases by test e f h no_cases at all = refl
  decide-cases by test e f h (a_case t o cs) at all =
      let xs = slots_read e by at o in
      let ys = slots_read_of_cases e by at cs in
      let parts = all_parts test (slots_read e by at t) (after_condition (over e at t) xs ys) all in
      case-decides test (over e at t) (over e at o) (over f at o) (switch_of (over_cases e at cs)) (switch_of (over_cases f at cs)) xs ys
      (reads-decide by test e f h o at) (decide-cases by test e f h cs at) parts.1
      ∙ ap (λ r. switch_case r (over f at o) (switch_of (over_cases f at cs))) (reads-decide by test e f h t at parts.0)
