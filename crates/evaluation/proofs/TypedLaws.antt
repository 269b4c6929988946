-- A typed expression gives a value of its type.
use Rattle.std.proofs.Common.{◌≡◌, ℕ, suc, pos, ◌<◌, ◌≤◌, Bool, true, false, not, if◌then◌else◌, IsTrue, List, [], ◌∷◌, length, map, count_by, Option, Some, None, Result, Ok, Err, refl, arith}
use Rattle.std.specs.List.{list_any, list_all}
use Rattle.std.proofs.lemmas.List.Sums.{count_by-le-length}
use Rattle.fact_values.specs.declared.fact_type.FactType.{FactType}
use Rattle.fact_values.specs.declared.fact_type.FactType.TheVariants as types
use Rattle.fact_values.specs.declared.fault.ValueFault.{ValueFault}
use Rattle.fact_values.specs.declared.value.Value.{Value}
use Rattle.fact_values.specs.declared.value.Value.TheVariants.{Boolean, Int, Members, Item}
use Rattle.fact_values.specs.Members.{IsMemberList, is_member}
use Rattle.dict_source.specs.Tree.{Tree, literal, read, switch, many, one, two, pick, Trees, no_trees, tree, Cases, no_cases, a_case}
use Rattle.dict_source.specs.declared.operators.ManyOp.{ManyOp}
use Rattle.dict_source.specs.declared.operators.ManyOp.TheVariants.{All, Any, Add, Subtract, GreaterOf, LesserOf}
use Rattle.dict_source.specs.declared.operators.OneOp.{OneOp}
use Rattle.dict_source.specs.declared.operators.TwoOp.{TwoOp}
use Rattle.dict_source.specs.declared.operators.PickOp.{PickOp}
use Rattle.dict_source.specs.declared.operators.PickOp.TheVariants.{Filter, Find}
use Rattle.dict_source.specs.Tables.{LookupTable}
use Rattle.dict_source.specs.OperandTypes.{many_type, one_type, pick_type, two_type}
use Rattle.dict_source.specs.Typing.{HasType, HaveTypes, HaveCaseTypes, IsSummed, Types}
use Rattle.three_state.specs.declared.res.Res.{Res}
use Rattle.three_state.specs.declared.res.Res.TheVariants.{Complete, Placeholder, Incomplete, Fault}
use Rattle.three_state.specs.Results.{count_of, down, fault_else, field_operands, fields_in, filter_members, find_member, first_fault, is_complete, is_complete_at, is_incomplete, is_placeholder, is_placeholder_at, is_true, junction, kept, members_in, outcome, strict, switch_case, switch_of, through, truth, value_before, values_of}
use Rattle.evaluation.specs.Operations.{many_value, on_one, on_two, one_value, size_value, sum_of_dollars, sum_of_ints, total, int_in, dollar_in, two_value}
use Rattle.evaluation.specs.Over.{Env, over, over_all, over_cases, many_of, one_of, two_of, pick_of}
use Rattle.evaluation.specs.Reads.{collection_size, complete_test, field_at, sum_over, through_item}
use Rattle.evaluation.specs.Typed.{Domains, IsOfType, IsResOfType, IsTypedAt, TablesAreTyped}
use Rattle.evaluation.proofs.MemberLaws.{filter-all, filter-member_list, member_list-length, member_list-members}
use Rattle.evaluation.proofs.RangeLaws.{small-in-range}
use Rattle.evaluation.proofs.ValueTypes.{AreOfTypes, GivesType, all_is, any_is, dollars_give, gives_ok, ints_give, item_value, many-gives, members_value, one-gives, two-gives}
use Rattle.common_lemmas.proofs.Bools.{both}

-- results, one by one, of these types
abbrev pub AreResOfTypes : Domains → List Res → List FactType → Type 0
AreResOfTypes d [] [] = Unit {0}
AreResOfTypes d (r ∷ rs) (u ∷ us) = IsResOfType d r u × AreResOfTypes d rs us
AreResOfTypes d _ _ = ⊥

-- ---- the rules

pub down-type : (d : Domains) (r : Res) (t : FactType) → IsResOfType d r t → IsResOfType d (down r) t
down-type d (Complete v) t h = h
down-type d (Placeholder v) t h = h
down-type d Incomplete t h = tt
down-type d (Fault fault) t h = tt

-- where what is read has the type at each value of the source's type
through-type : (d : Domains) (source : Res) (next : Value → Res) (u t : FactType) → IsResOfType d source u → ((v : Value) → IsOfType d v u → IsResOfType d (next v) t) → IsResOfType d (through source next) t
through-type d (Complete v) next u t h k = k v h
through-type d (Placeholder v) next u t h k = down-type d (next v) t (k v h)
through-type d Incomplete next u t h k = tt
through-type d (Fault fault) next u t h k = tt

-- where it has the type at each value
through_all-type : (d : Domains) (source : Res) (next : Value → Res) (t : FactType) → ((v : Value) → IsResOfType d (next v) t) → IsResOfType d (through source next) t
through_all-type d (Complete v) next t k = k v
through_all-type d (Placeholder v) next t k = down-type d (next v) t (k v)
through_all-type d Incomplete next t k = tt
through_all-type d (Fault fault) next t k = tt

either : (d : Domains) (b : Bool) (r s : Res) (t : FactType) → IsResOfType d r t → IsResOfType d s t → IsResOfType d (if b then r else s) t
either d true r s t h k = h
either d false r s t h k = k

-- what the rules of All and Any ask of the list
rules-type : (d : Domains) (x decided incomplete : Bool) (f : Option ValueFault) (soft placeholder : Bool)
    → IsResOfType d (
    if decided then Complete (Boolean x)
    else if incomplete then Incomplete
    else fault_else f
    (if soft then Placeholder (Boolean x)
    else if placeholder then Placeholder (Boolean (not x))
    else Complete (Boolean (not x)))
    ) types.Boolean
rules-type d x true b f s p = tt
rules-type d x false true f s p = tt
rules-type d x false false (Some fault) s p = tt
rules-type d x false false None true p = tt
rules-type d x false false None false true = tt
rules-type d x false false None false false = tt

junction-type : (d : Domains) (decider : Bool) (rs : List Res) → IsResOfType d (junction decider rs) types.Boolean
junction-type d decider rs =
    rules-type d decider (list_any (is_complete_at decider) rs) (list_any is_incomplete rs) (first_fault rs) (list_any (is_placeholder_at decider) rs) (list_any is_placeholder rs)

outcome-type : (d : Domains) (complete : Bool) (done : Result Value ValueFault) (t : FactType) → GivesType d done t → IsResOfType d (outcome complete done) t
outcome-type d true (Ok v) t h = h v refl
outcome-type d false (Ok v) t h = h v refl
outcome-type d complete (Err fault) t h = tt

-- the operation is done where no operand is incomplete or at fault
strict_by : (d : Domains) (op : List Value → Result Value ValueFault) (rs : List Res) (t : FactType)
    → (list_any is_incomplete rs ≡ false → first_fault rs ≡ None → GivesType d (op (values_of rs)) t)
    → (b : Bool) → list_any is_incomplete rs ≡ b → (f : Option ValueFault) → first_fault rs ≡ f → IsResOfType d (strict op rs) t
strict_by d op rs t k true h f g = rw h tt
strict_by d op rs t k false h (Some fault) g = rw (h, g) tt
strict_by d op rs t k false h None g = rw (h, g) (outcome-type d (list_all is_complete rs) (op (values_of rs)) t (k h g))

strict-type : (d : Domains) (op : List Value → Result Value ValueFault) (rs : List Res) (t : FactType)
    → (list_any is_incomplete rs ≡ false → first_fault rs ≡ None → GivesType d (op (values_of rs)) t) → IsResOfType d (strict op rs) t
strict-type d op rs t k = strict_by d op rs t k (list_any is_incomplete rs) refl (first_fault rs) refl

values-types : (d : Domains) (rs : List Res) (us : List FactType) → AreResOfTypes d rs us → list_any is_incomplete rs ≡ false → first_fault rs ≡ None → AreOfTypes d (values_of rs) us
values-types d [] [] h a b = tt
values-types d [] (u ∷ us) h a b = absurd h
values-types d (r ∷ rs) [] h a b = absurd h
values-types d (Complete v ∷ rs) (u ∷ us) h a b = (h.0, values-types d rs us h.1 a b)
values-types d (Placeholder v ∷ rs) (u ∷ us) h a b = (h.0, values-types d rs us h.1 a b)
values-types d (Incomplete ∷ rs) (u ∷ us) h a b = absurd (cc)
values-types d (Fault fault ∷ rs) (u ∷ us) h a b = absurd (cc)

-- an operation on operands of these types
strict_of-type : (d : Domains) (op : List Value → Result Value ValueFault) (rs : List Res) (us : List FactType) (t : FactType)
    → AreResOfTypes d rs us → ((vs : List Value) → AreOfTypes d vs us → GivesType d (op vs) t) → IsResOfType d (strict op rs) t
strict_of-type d op rs us t h k = strict-type d op rs t (λ a b. k (values_of rs) (values-types d rs us h a b))

-- ---- the nodes

many-type : (d : Domains) (op : ManyOp) (rs : List Res) (us : List FactType) (t : FactType) → many_type op us ≡ Some t → AreResOfTypes d rs us → IsResOfType d (many_of op rs) t
many-type d All rs us t m h = rw (all_is us t m) (junction-type d false rs)
many-type d Any rs us t m h = rw (any_is us t m) (junction-type d true rs)
many-type d Add rs us t m h = strict_of-type d (many_value Add) rs us t h (λ vs k. many-gives d Add vs us t m k)
many-type d Subtract rs us t m h = strict_of-type d (many_value Subtract) rs us t h (λ vs k. many-gives d Subtract vs us t m k)
many-type d GreaterOf rs us t m h = strict_of-type d (many_value GreaterOf) rs us t h (λ vs k. many-gives d GreaterOf vs us t m k)
many-type d LesserOf rs us t m h = strict_of-type d (many_value LesserOf) rs us t h (λ vs k. many-gives d LesserOf vs us t m k)

one_by : (d : Domains) (fits : LookupTable → Bool) → TablesAreTyped d fits → (op : OneOp) (u t : FactType) → one_type fits op u ≡ Some t → (vs : List Value) → AreOfTypes d vs (u ∷ []) → GivesType d (on_one (one_value op) vs) t
one_by d fits tables op u t m [] h = absurd h
one_by d fits tables op u t m (v ∷ vs) h = one-gives d fits tables op v u t m h.0

one-type : (d : Domains) (fits : LookupTable → Bool) → TablesAreTyped d fits → (op : OneOp) (r : Res) (u t : FactType) → one_type fits op u ≡ Some t → IsResOfType d r u → IsResOfType d (one_of op r) t
one-type d fits tables op r u t m h = strict_of-type d (on_one (one_value op)) (r ∷ []) (u ∷ []) t (h, tt) (one_by d fits tables op u t m)

two_by : (d : Domains) (op : TwoOp) (a b t : FactType) → two_type op a b ≡ Some t → (vs : List Value) → AreOfTypes d vs (a ∷ b ∷ []) → GivesType d (on_two (two_value op) vs) t
two_by d op a b t m [] h = absurd h
two_by d op a b t m (v ∷ []) h = absurd h.1
two_by d op a b t m (v ∷ w ∷ vs) h = two-gives d op v w a b t m h.0 h.1.0

two-type : (d : Domains) (op : TwoOp) (r s : Res) (a b t : FactType) → two_type op a b ≡ Some t → IsResOfType d r a → IsResOfType d s b → IsResOfType d (two_of op r s) t
two-type d op r s a b t m h k = strict_of-type d (on_two (two_value op)) (r ∷ s ∷ []) (a ∷ b ∷ []) t (h, (k, tt)) (two_by d op a b t m)

filter_members-type : (d : Domains) (condition : ℕ → Res) (ms : List ℕ) (c : ℕ) → IsMemberList ms → IsTrue (list_all (d.has_member c) ms) → IsResOfType d (filter_members condition ms) (types.Collection c)
filter_members-type d condition ms c h k =
    let p = λ (m : ℕ). is_true (condition m) in
    strict-type d (λ _. Ok (Members (kept condition ms))) (map condition ms) (types.Collection c)
    (λ a b. gives_ok d (Members (kept condition ms)) (types.Collection c) (filter-member_list p ms h, filter-all p (d.has_member c) ms k))

find_member-type : (d : Domains) (condition : ℕ → Res) (ms : List ℕ) (c : ℕ) → IsTrue (list_all is_member ms) → IsTrue (list_all (d.has_member c) ms) → IsResOfType d (find_member condition ms) (types.Item c)
find_member-type d condition [] c h k = tt
find_member-type d condition (m ∷ ms) c h k =
    let hs = both (is_member m) (list_all is_member ms) h in
    let ks = both (d.has_member c m) (list_all (d.has_member c) ms) k in
    through_all-type d (condition m) (λ v. if truth v then Complete (Item m) else find_member condition ms) (types.Item c)
    (λ v. either d (truth v) (Complete (Item m)) (find_member condition ms) (types.Item c) (hs.0, ks.0) (find_member-type d condition ms c hs.1 ks.1))

pick-type : (d : Domains) (op : PickOp) (source : Res) (condition : ℕ → Res) (c : ℕ) → IsResOfType d source (types.Collection c) → IsResOfType d (pick_of op source condition) (pick_type op c)
pick-type d Filter source condition c h =
    through-type d source (λ v. filter_members condition (members_in v)) (types.Collection c) (types.Collection c) h
    (λ v k. let ms = members_value d v c k in rw ms.1 (filter_members-type d condition ms.0 c ms.2 ms.3))
pick-type d Find source condition c h =
    through-type d source (λ v. find_member condition (members_in v)) (types.Collection c) (types.Item c) h
    (λ v k. let ms = members_value d v c k in rw ms.1 (find_member-type d condition ms.0 c (member_list-members ms.0 ms.2) ms.3))

case-type : (d : Domains) (condition given rest : Res) (t : FactType) → IsResOfType d given t → IsResOfType d rest t → IsResOfType d (switch_case condition given rest) t
case-type d condition given rest t h k = through_all-type d condition (λ v. if truth v then given else rest) t (λ v. either d (truth v) given rest t h k)

-- ---- expressions

mutual
  pub typed : {C R P S : Type 0} (d : Domains) (ty : Types C R P) (e : Env C R P S) (b : ℕ) (at : S) → IsTypedAt d ty e b at → (t : Tree C R P) (u : FactType) → HasType ty b t u → IsResOfType d (over e at t) u
  typed d ty e b at h (literal c) u k = h.constant c u k
  typed d ty e b at h (read r) u k = h.reads r u k
  typed d ty e b at h (switch cs) u k = typed_cases d ty e b at h cs u k.1
  typed d ty e b at h (many op ts) u k = many-type d op (over_all e at ts) k.0 u k.2 (typed_all d ty e b at h ts k.0 k.1)
  typed d ty e b at h (one op t) u k = one-type d ty.fits h.tables op (over e at t) k.0 u k.2 (typed d ty e b at h t k.0 k.1)
  typed d ty e b at h (two op x y) u k = two-type d op (over e at x) (over e at y) k.0 k.1 u k.4 (typed d ty e b at h x k.0 k.2) (typed d ty e b at h y k.1 k.3)
  typed d ty e b at h (pick op p t) u k = rw k.3 (pick-type d op (e.source at p) (λ m. over e (e.enter at p m) t) k.0 (h.source p k.0 k.1))

  pub typed_all : {C R P S : Type 0} (d : Domains) (ty : Types C R P) (e : Env C R P S) (b : ℕ) (at : S) → IsTypedAt d ty e b at → (ts : Trees C R P) (us : List FactType) → HaveTypes ty b ts us → AreResOfTypes d (over_all e at ts) us
  typed_all d ty e b at h no_trees [] k = tt
  typed_all d ty e b at h no_trees (u ∷ us) k = absurd k
  typed_all d ty e b at h (tree t ts) [] k = absurd k
  typed_all d ty e b at h (tree t ts) (u ∷ us) k = (typed d ty e b at h t u k.0, typed_all d ty e b at h ts us k.1)

  pub typed_cases : {C R P S : Type 0} (d : Domains) (ty : Types C R P) (e : Env C R P S) (b : ℕ) (at : S) → IsTypedAt d ty e b at → (cs : Cases C R P) (u : FactType) → HaveCaseTypes ty b cs u → IsResOfType d (switch_of (over_cases e at cs)) u
  typed_cases d ty e b at h no_cases u k = tt
  typed_cases d ty e b at h (a_case t o cs) u k =
      case-type d (over e at t) (over e at o) (switch_of (over_cases e at cs)) u (typed d ty e b at h o u k.1) (typed_cases d ty e b at h cs u k.2)

-- ---- what the nodes that read give

pub item-typed : (d : Domains) (item : Res) (field : ℕ → Res) (c : ℕ) (t : FactType) → IsResOfType d item (types.Item c) → ((m : ℕ) → IsTrue (d.has_member c m) → IsResOfType d (field m) t) → IsResOfType d (through_item item field) t
item-typed d item field c t h k =
    through-type d item (field_at field) (types.Item c) t h (λ v l. let m = item_value d v c l in rw m.1 (k m.0 m.2))

pub test-typed : (d : Domains) (r : Res) → IsResOfType d (complete_test r) types.Boolean
test-typed d r = tt

few : (n : ℕ) → n ≤ 100 → n < 1000000000000000
few n h = omega arith

size_by : (d : Domains) (c : ℕ) (vs : List Value) → AreOfTypes d vs (types.Collection c ∷ []) → GivesType d (on_one size_value vs) types.Int
size_by d c [] h = absurd h
size_by d c (v ∷ vs) h =
    let ms = members_value d v c h.0 in
    gives_ok d (Int (pos (length (members_in v)))) types.Int (rw ms.1 (small-in-range (length ms.0) (few (length ms.0) (member_list-length ms.0 ms.2))))

pub size-typed : (d : Domains) (source : Res) (c : ℕ) → IsResOfType d source (types.Collection c) → IsResOfType d (collection_size source) types.Int
size-typed d source c h = strict_of-type d (on_one size_value) (source ∷ []) (types.Collection c ∷ []) types.Int (h, tt) (size_by d c)

pub sum-typed : (d : Domains) (t : FactType) (source : Res) (field : ℕ → Res) → IsSummed t → IsResOfType d (sum_over t source field) t
sum-typed d types.Int source field s = strict-type d (λ vs. sum_of_ints (fields_in vs)) (field_operands source field) types.Int (λ a b. ints_give d (total int_in (fields_in (values_of (field_operands source field)))))
sum-typed d types.Dollar source field s = strict-type d (λ vs. sum_of_dollars (fields_in vs)) (field_operands source field) types.Dollar (λ a b. dollars_give d (total dollar_in (fields_in (values_of (field_operands source field)))))
sum-typed d _ source field s = absurd s

before_length : (r : Res) (vs : List Value) → length (value_before r vs) ≤ suc (length vs)
before_length (Complete v) vs = omega arith
before_length (Placeholder v) vs = omega arith
before_length Incomplete vs = omega arith
before_length (Fault fault) vs = omega arith

one_longer : (a b c : ℕ) → a ≤ suc b → b ≤ c → a ≤ suc c
one_longer a b c h k = omega arith

values-length : (field : ℕ → Res) (ms : List ℕ) → length (values_of (map field ms)) ≤ length ms
values-length field [] = omega arith
values-length field (m ∷ ms) =
    one_longer (length (value_before (field m) (values_of (map field ms)))) (length (values_of (map field ms))) (length ms) (before_length (field m) (values_of (map field ms))) (values-length field ms)

three_le : (a b c : ℕ) → a ≤ b → b ≤ c → c ≤ 100 → a ≤ 100
three_le a b c h k l = omega arith

count_few : (d : Domains) (v : Value) (field : ℕ → Res) (c : ℕ) → IsOfType d v (types.Collection c) → count_by truth (values_of (map field (members_in v))) ≤ 100
count_few d v field c h =
    let ms = members_value d v c h in
    rw ms.1 (
    three_le (count_by truth (values_of (map field ms.0))) (length (values_of (map field ms.0))) (length ms.0)
    (count_by-le-length truth (values_of (map field ms.0))) (values-length field ms.0) (member_list-length ms.0 ms.2)
    )

count_in : (d : Domains) (n : ℕ) → n ≤ 100 → GivesType d (Ok (Int (pos n))) types.Int
count_in d n h = gives_ok d (Int (pos n)) types.Int (small-in-range n (few n h))

pub count-typed : (d : Domains) (source : Res) (field : ℕ → Res) (c : ℕ) → IsResOfType d source (types.Collection c) → IsResOfType d (count_of source field) types.Int
count-typed d (Complete v) field c h =
    strict-type d (λ vs. Ok (Int (pos (count_by truth (fields_in vs))))) (Complete v ∷ map field (members_in v)) types.Int
    (λ a b. count_in d (count_by truth (values_of (map field (members_in v)))) (count_few d v field c h))
count-typed d (Placeholder v) field c h =
    strict-type d (λ vs. Ok (Int (pos (count_by truth (fields_in vs))))) (Placeholder v ∷ map field (members_in v)) types.Int
    (λ a b. count_in d (count_by truth (values_of (map field (members_in v)))) (count_few d v field c h))
count-typed d Incomplete field c h = tt
count-typed d (Fault fault) field c h = tt
