-- Where each fact has what is stated of it, over values of lower rank, plain evaluation has all of it.
use Rattle.std.proofs.Common.{◌≡◌, ◌⊎◌, inl, inr, ℕ, zero, suc, ◌+◌, ◌<◌, Bool, true, false, ◌&&◌, IsTrue, nat_lt, pos, List, [], ◌∷◌, ◌++◌, length, map, Option, Some, None, Ok, slice_get, refl, sym, ap, ◌∙◌, subst, arith}
use Rattle.std.specs.Prelude.{count_by, is_some, unwrap_or, if◌then◌else◌}
use Rattle.std.specs.List.{list_all}
use Rattle.std.specs.Option.{option_or}
use Rattle.std.proofs.lemmas.Bool.Decides.{nat_tests}
use Rattle.common_lemmas.proofs.Bools.{both}
use Rattle.fact_paths.specs.declared.use_path.UsePath.{UsePath}
use Rattle.fact_paths.specs.declared.use_path.UsePath.TheVariants.{Global, Sibling, Inner, Each, Through, SiblingThrough}
use Rattle.fact_values.specs.declared.slot.Slot.{Slot}
use Rattle.fact_values.specs.declared.value.Value.{Value}
use Rattle.fact_values.specs.declared.value.Value.TheVariants.{Int, Members}
use Rattle.dict_source.specs.declared.operators.ReadOp.{ReadOp}
use Rattle.dict_source.specs.declared.operators.ReadOp.TheVariants as read_op
use Rattle.dict_source.specs.declared.targets.Targets.{Targets}
use Rattle.dict_source.specs.Tree.{Source}
use Rattle.dict_source.specs.Targets.{targets}
use Rattle.dict_source.specs.Facts.{Fact}
use Rattle.dict_source.specs.Finding.{fact_at}
use Rattle.three_state.specs.declared.res.Res.{Res}
use Rattle.three_state.specs.declared.res.Res.TheVariants.{Complete, Incomplete}
use Rattle.three_state.specs.Results.{count_of, fields_in, members_in, truth}
use Rattle.evaluation.specs.Sure.{IsKnown}
use Rattle.evaluation.proofs.Sureness.{map_sure, strict_sure, sure}
use Rattle.answers.specs.Answered.{Answered}
use Rattle.dict_meaning.specs.Accepted.{Accepted, IsAccepted}
use Rattle.dict_meaning.specs.Plain.{HasKnown, answer_result, at_fact, body, expression, main_result, or_override, or_placeholder, plain, plain_step, rank, slot_result}
use Rattle.dict_meaning.specs.Dependencies.{EvalPosition, dependency, outermost, read_by, read_result, source_result}
use Rattle.evaluation.specs.Results.{Results, result_at, slot}
use Rattle.dict_meaning.specs.Slots.{stands}
use Rattle.dict_meaning.proofs.PlainLaws.{joined_by_rank}
use Rattle.dict_meaning.proofs.SlotLaws.{fact_of_standing}
use Rattle.tax_2023.proofs.Stated.{AllHaveStated, HasBody, HasStated, Stated, both_stated, is_members, known, knows_by, knows_member, knows_path, knows_slot, knows_source, list_of_path, list_stated, member_read, member_stated, stated_at, value_by, value_in, value_of_path}

-- ---- the slots of which something is stated

abbrev value_if : Bool → Option (ℕ → Value) → ℕ → Option Value
value_if false o m = None
value_if true None m = None
value_if true (Some f) m = Some (f m)

abbrev pub stated_slot : Accepted → Answered → Stated → Slot → Option Value
stated_slot d a stated s = value_if (stands d.tree a s) (stated s.fact) s.member

stated_if : (b : Bool) (o : Option (ℕ → Value)) (m : ℕ) → IsTrue (is_some o) → IsTrue b → value_if b o m ≡ Some (value_in o m)
stated_if true (Some f) m h k = refl
stated_if true None m h k = absurd cc
stated_if false o m h k = absurd cc

under : (r n : ℕ) → IsTrue (nat_lt r n) → r < n
under r n h = grind (arith, nat_tests)

module _ (d : Accepted) (a : Answered) (stated : Stated) (n : ℕ) (results : Results) (has : HasKnown d (stated_slot d a stated) n results) where
  read_stated : (o : Option ℕ) (m : ℕ) → IsTrue (knows_slot d a stated n o m) → result_at results o m ≡ Complete (stated_at stated o m)
  read_stated None m h = absurd cc
  read_stated (Some f) m h =
      let p = both (is_some (stated f)) (nat_lt (rank d f) n && stands d.tree a (slot f m)) h in
      let q = both (nat_lt (rank d f) n) (stands d.tree a (slot f m)) p.1 in
      ap (λ r. unwrap_or r Incomplete) (has (slot f m) (value_in (stated f) m) (stated_if (stands d.tree a (slot f m)) (stated f) m p.0 q.1) (under (rank d f) n q.0))

  read_list : (o : Option ℕ) → IsTrue (knows_slot d a stated n o 0 && is_members (stated_at stated o 0)) → result_at results o 0 ≡ Complete (Members (members_in (stated_at stated o 0)))
  read_list o h =
      let p = both (knows_slot d a stated n o 0) (is_members (stated_at stated o 0)) h in
      read_stated o 0 p.0 ∙ ap Complete (members (stated_at stated o 0) p.1)
    where
      members : (v : Value) → IsTrue (is_members v) → v ≡ Members (members_in v)
      members (Members ms) k = refl
      members _ k = absurd cc

  counted : (source : Res) (v : Value) (f : ℕ → Res) (g : ℕ → Value) (sure : ℕ → Bool) → source ≡ Complete v → ((m : ℕ) → IsTrue (sure m) → f m ≡ Complete (g m)) → IsTrue (list_all sure (members_in v))
      → count_of source f ≡ Complete (Int (pos (count_by truth (map g (members_in v)))))
  counted source v f g sure e h k =
      rw (e, map_sure f g sure h (members_in v) k) (strict_sure (λ vs. Ok (Int (pos (count_by truth (fields_in vs))))) (v ∷ map g (members_in v)) refl)

  read_member : (t : Targets) (at : EvalPosition) (path : UsePath) → IsTrue (knows_member d a stated n t (member_read at path)) → dependency results t at path ≡ Complete (member_stated stated t (member_read at path))
  read_member t at (Global k) h = read_stated t.first 0 h
  read_member t at (Sibling k) h = read_stated t.first at.own h
  read_member t at (Inner k) h = read_stated t.first at.inner h
  read_member t at (Each k l) h = absurd cc
  read_member t at (Through k l) h = absurd cc
  read_member t at (SiblingThrough k l) h = absurd cc

  read_is : (op : ReadOp) (t : Targets) (at : EvalPosition) (path : UsePath) → IsTrue (knows_by op d a stated n t at path) → read_by op d.tree results t at path ≡ Complete (value_by op stated t at path)
  read_is read_op.Dependency t at path h = read_member t at path h
  read_is read_op.Count t at path h =
      let p = both (knows_slot d a stated n t.first 0) (list_all (knows_slot d a stated n t.second) (list_stated stated t)) h in
      counted (result_at results t.first 0) (stated_at stated t.first 0) (result_at results t.second) (stated_at stated t.second) (knows_slot d a stated n t.second) (read_stated t.first 0 p.0) (read_stated t.second) p.1
  read_is read_op.IsComplete t at path h = absurd cc
  read_is read_op.CollectionSize t at path h = absurd cc
  read_is read_op.CollectionSum t at path h = absurd cc

  path_is : (fact : ℕ) (at : EvalPosition) (op : ReadOp) (path : Option UsePath) → IsTrue (knows_path d a stated n fact at op path) → read_result d.tree results fact at op path ≡ Complete (value_of_path d stated fact at op path)
  path_is fact at op None h = absurd cc
  path_is fact at op (Some path) h = read_is op (targets d.tree fact at.base path) at path h

  source_is : (fact : ℕ) (at : EvalPosition) (path : Option UsePath) → IsTrue (knows_source d a stated n fact at path) → source_result d.tree results fact at path ≡ Complete (Members (list_of_path d stated fact at path))
  source_is fact at None h = absurd cc
  source_is fact at (Some path) h = read_list (targets d.tree fact at.base path).first h

-- what is known in an expression of a fact is so
pub all_known : (d : Accepted) (a : Answered) (stated : Stated) (fact : ℕ) (results : Results) → HasKnown d (stated_slot d a stated) (rank d fact) results → IsKnown (known d a stated results fact)
all_known d a stated fact results has = record {
  reads = λ at r h. path_is d a stated (rank d fact) results has fact at r.0 r.1.path h;
  source = λ at u h. source_is d a stated (rank d fact) results has fact at u.path h;
}

-- ---- one slot

with_none : (d : Accepted) (results : Results) (s : Slot) (o : Option Source) (r : Res) → o ≡ None → or_placeholder d.tree results s o r ≡ r
with_none d results s o r e = rw e refl

step : (d : Accepted) (a : Answered) (stated : Stated) (s : Slot) (f : Fact) (v : Value) (results : Results) → HasKnown d (stated_slot d a stated) (rank d s.fact) results → (main : Option Source) → HasBody d a stated f s v main → main_result d.tree a results s f.stated main ≡ Complete v
step d a stated s f v results has None h = ap answer_result h
step d a stated s f v results has (Some t) h =
    let w = h.1 results in
    ap (λ o. or_override o (expression d.tree results s t)) h.0 ∙ (sure (known d a stated results s.fact) (all_known d a stated s.fact results has) t (outermost s.member) w.0 ∙ ap Complete w.1)

-- the lemma of a fact, by its number
found : (d : Accepted) (a : Answered) (stated own : Stated) (n : ℕ) (fs : List Fact) → AllHaveStated d a stated own n fs → (i j : ℕ) → j ≡ n + i → (f : Fact) → slice_get fs i ≡ Some f → HasStated d a stated j f (own j)
found d a stated own n [] h i j e f is = absurd cc
found d a stated own n (g ∷ fs) h zero j e f is =
    let same : j ≡ n = omega arith in
    let one : g ≡ f = cc in
    subst (λ k. HasStated d a stated k f (own k)) (sym same) (subst (λ x. HasStated d a stated n x (own n)) one h.0)
found d a stated own n (g ∷ fs) h (suc i) j e f is = found d a stated own (suc n) fs h.1 i j (omega arith) f is

found_at : (d : Accepted) (a : Answered) (stated own : Stated) (fs : List Fact) → AllHaveStated d a stated own 1 fs → (j : ℕ) (f : Fact) → fact_at fs j ≡ Some f → HasStated d a stated j f (own j)
found_at d a stated own fs h zero f is = absurd cc
found_at d a stated own fs h (suc i) f is = found d a stated own 1 fs h i (suc i) (omega arith) f is

value_stated : (o : Option (ℕ → Value)) (b : Bool) (m : ℕ) (v : Value) → value_if b o m ≡ Some v → IsTrue b × ((f : ℕ → Value) × (o ≡ Some f) × (f m ≡ v))
value_stated None true m v e = absurd cc
value_stated (Some f) true m v e = (refl, (f, refl, cc))
value_stated o false m v e = absurd cc

in_step : (o : Option Fact) (f : Fact) (b : Bool) (result : Fact → Res) (r : Res) → o ≡ Some f → IsTrue b → result f ≡ r → at_fact o None (λ g. if b then Some (result g) else None) ≡ Some r
in_step o f b result r e h k = rw (e, h, k) refl

pub append_stated : (d : Accepted) (a : Answered) (stated own : Stated) (n : ℕ) (fs : List Fact) (j : ℕ) (gs : List Fact) → j ≡ n + length fs → AllHaveStated d a stated own n fs → AllHaveStated d a stated own j gs → AllHaveStated d a stated own n (fs ++ gs)
append_stated d a stated own n [] j gs e p q = let same : j ≡ n = omega arith in subst (λ k. AllHaveStated d a stated own k gs) same q
append_stated d a stated own n (f ∷ fs) j gs e p q = (p.0, append_stated d a stated own (suc n) fs j gs (omega arith) p.1 q)

-- a slot has its own value over what is stated of those of lower rank
one_step : (d : Accepted) (a : Answered) (stated own : Stated) → AllHaveStated d a stated own 1 d.tree.facts → (s : Slot) (v : Value) → stated_slot d a own s ≡ Some v → (results : Results) → HasKnown d (stated_slot d a stated) (rank d s.fact) results → plain_step d a results s ≡ Some (Complete v)
one_step d a stated own all s v e results has =
    let t = value_stated (own s.fact) (stands d.tree a s) s.member v e in
    let there = fact_of_standing d.tree a s t.0 in
    let f = there.0 in
    let its = subst (HasStated d a stated s.fact f) t.1.1 (found_at d a stated own d.tree.facts all s.fact f there.1) in
    in_step (fact_at d.tree.facts s.fact) f (stands d.tree a s) (slot_result d.tree a results s) (Complete v) there.1 t.0
    (with_none d results s f.placeholder (main_result d.tree a results s f.stated (body f)) its.0 ∙ (step d a stated s f (t.1.0 s.member) results has (body f) (its.1 s.member t.0) ∙ ap Complete t.1.2))

pub joined : (names : List (List ℕ)) (d : Accepted) → IsAccepted names d → (a : Answered) (stated : Stated) → AllHaveStated d a stated stated 1 d.tree.facts → (s : Slot) (v : Value) → stated_slot d a stated s ≡ Some v → plain d a s ≡ Some (Complete v)
joined names d accepted a stated all = joined_by_rank names d accepted a (stated_slot d a stated) (one_step d a stated stated all)

-- ---- more is stated, of other facts

still_stated : (b : Bool) (o p : Option (ℕ → Value)) (m : ℕ) (v : Value) → value_if b o m ≡ Some v → value_if b (option_or o p) m ≡ Some v
still_stated true None p m v e = absurd cc
still_stated true (Some f) p m v e = e
still_stated false o p m v e = absurd cc

is_either : (b : Bool) (o p : Option (ℕ → Value)) (m : ℕ) (v : Value) → value_if b (option_or o p) m ≡ Some v → (value_if b o m ≡ Some v) ⊎ (value_if b p m ≡ Some v)
is_either b None p m v e = inr e
is_either true (Some f) p m v e = inl e
is_either false (Some f) p m v e = absurd cc

pub joined_both : (names : List (List ℕ)) (d : Accepted) → IsAccepted names d → (a : Answered) (first more : Stated) → AllHaveStated d a first first 1 d.tree.facts → AllHaveStated d a (both_stated first more) more 1 d.tree.facts
    → (s : Slot) (v : Value) → stated_slot d a (both_stated first more) s ≡ Some v → plain d a s ≡ Some (Complete v)
joined_both names d accepted a first more all all_more = joined_by_rank names d accepted a (stated_slot d a (both_stated first more)) one
  where
    of_first : (results : Results) (n : ℕ) → HasKnown d (stated_slot d a (both_stated first more)) n results → HasKnown d (stated_slot d a first) n results
    of_first results n has s v e low = has s v (still_stated (stands d.tree a s) (first s.fact) (more s.fact) s.member v e) low

    one : (s : Slot) (v : Value) → stated_slot d a (both_stated first more) s ≡ Some v → (results : Results) → HasKnown d (stated_slot d a (both_stated first more)) (rank d s.fact) results → plain_step d a results s ≡ Some (Complete v)
    one s v e results has =
        elim (is_either (stands d.tree a s) (first s.fact) (more s.fact) s.member v e) [
          | inl f ↦ one_step d a first first all s v f results (of_first results (rank d s.fact) has)
          | inr f ↦ one_step d a (both_stated first more) more all_more s v f results has
        ]
