-- Plain evaluation gives values of the facts' types: by induction on the rank below which the facts are evaluated.
use Rattle.std.proofs.Common.{◌≡◌, ℕ, zero, suc, Bool, true, false, ◌&&◌, nat_lt, List, Option, Some, None, if◌then◌else◌, refl, sym, ap, subst, ◌∙◌}
use Rattle.std.specs.FinMap as map
use Rattle.fact_values.specs.declared.fact_type.FactType.{FactType}
use Rattle.fact_values.specs.declared.fact_type.FactType.TheVariants as types
use Rattle.fact_values.specs.declared.slot.Slot.{Slot}
use Rattle.fact_values.specs.declared.value.Value.{Value}
use Rattle.fact_values.specs.declared.value.Value.TheVariants.{Members}
use Rattle.dict_source.specs.Tree.{Source}
use Rattle.dict_source.specs.Facts.{Fact, Stated, writable_list}
use Rattle.dict_source.specs.Dictionary.{Dictionary as Tree}
use Rattle.dict_source.specs.Finding.{fact_at}
use Rattle.dict_source.specs.Typing.{HasType}
use Rattle.node_types.specs.StatedTypes.{stated_type, type_at}
use Rattle.three_state.specs.declared.res.Res.{Res}
use Rattle.three_state.specs.declared.res.Res.TheVariants.{Complete, Placeholder, Incomplete, Fault}
use Rattle.evaluation.specs.Typed.{Domains, IsOfType, IsResOfType}
use Rattle.evaluation.proofs.TypedLaws.{down-type, typed}
use Rattle.answers.specs.Answered.{Answered, value_of}
use Rattle.answers.specs.declared.edit.Side.{Side}
use Rattle.answers.specs.declared.edit.Side.TheVariants.{Answer, Override}
use Rattle.dict_meaning.specs.Accepted.{Accepted, IsAccepted}
use Rattle.dict_meaning.specs.Fits.{AnswersFit, domains}
use Rattle.dict_meaning.specs.Plain.{answer_result, at_fact, body, expression, given_value, main_result, open_list, or_override, or_placeholder, plain, rank, slot_result, table}
use Rattle.dict_meaning.specs.Dependencies.{outermost, source_env}
use Rattle.evaluation.specs.Results.{Results, result_at}
use Rattle.dict_meaning.specs.Slots.{stands}
use Rattle.dict_meaning.specs.TypedResults.{TypedResults}
use Rattle.dict_meaning.proofs.FactTypes.{HasOptionType, IsTypedAs, type_of_number, typed_fact}
use Rattle.dict_meaning.proofs.ListTypes.{open_members, own_number}
use Rattle.dict_meaning.proofs.PlacedReads.{placed_types}
use Rattle.dict_meaning.proofs.ReadTypes.{AreTypedResults, is_typed_at, result_typed, type_of_target}

-- ---- what is given

as_stated : (dom : Domains) (v : Value) (o : Option FactType) (t u : FactType) → o ≡ Some t → o ≡ Some u → IsOfType dom v t → IsOfType dom v u
as_stated dom v o t u e k h = let same : t ≡ u = cc in subst (IsOfType dom v) same h

-- an answer or an override
given_typed : (d : Tree) (a : Answered) → AnswersFit d a → (side : Side) (s : Slot) (v : Value) (t : FactType) → type_at d s.fact ≡ Some t → value_of side a s ≡ Some v → IsOfType (domains d a) v t
given_typed d a fit side s v t e k =
    let h = fit.typed side s v k in
    as_stated (domains d a) v (type_at d s.fact) h.0 t h.1 e h.2

-- an open collection
list_by : (d : Tree) (a : Answered) → AnswersFit d a → (s : Slot) (f : Fact) (t : FactType) → fact_at d.facts s.fact ≡ Some f → IsTypedAs d s.fact f t → f.stated ≡ writable_list → (o : Option (List ℕ)) → map.get a.lists s.fact ≡ o → (v : Value) → open_list o ≡ Some v → IsOfType (domains d a) v t
list_by d a fit s f t there h e None k v g = absurd cc
list_by d a fit s f t there h e (Some ms) k v g =
    let same : Members ms ≡ v = cc in
    let number = own_number d s.fact f there h.path h.first (h.no_member (rw e refl)) in
    let own : stated_type d f ≡ Some (types.Collection s.fact) = rw e (ap (λ (n : ℕ). Some (types.Collection n)) number) in
    subst (λ (x : Value). IsOfType (domains d a) x t) same
    (as_stated (domains d a) (Members ms) (stated_type d f) (types.Collection s.fact) t own h.stated (open_members d a fit.well fit.from_one s.fact ms k))

value_by : (d : Tree) (a : Answered) → AnswersFit d a → (s : Slot) (f : Fact) (t : FactType) → fact_at d.facts s.fact ≡ Some f → IsTypedAs d s.fact f t → (stated : Stated) → f.stated ≡ stated → (v : Value) → given_value stated a s ≡ Some v → IsOfType (domains d a) v t
value_by d a fit s f t there h writable_list e v k = list_by d a fit s f t there h e (map.get a.lists s.fact) refl v k
value_by d a fit s f t there h _ e v k = given_typed d a fit Answer s v t (type_of_number d s.fact f t there h.stated) k

answer_typed : (dom : Domains) (o : Option Value) (t : FactType) → ((v : Value) → o ≡ Some v → IsOfType dom v t) → IsResOfType dom (answer_result o) t
answer_typed dom None t h = tt
answer_typed dom (Some v) t h = h v refl

override_typed : (dom : Domains) (o : Option Value) (r : Res) (t : FactType) → ((v : Value) → o ≡ Some v → IsOfType dom v t) → IsResOfType dom r t → IsResOfType dom (or_override o r) t
override_typed dom None r t h k = k
override_typed dom (Some v) r t h k = h v refl

-- ---- one slot, over typed results

expression_typed : (d : Tree) (a : Answered) (results : Results) → AreTypedResults d a results → (s : Slot) (t : Source) (u : FactType) → HasType (placed_types d s.fact) 0 t u → IsResOfType (domains d a) (expression d results s t) u
expression_typed d a results h s t u k =
    typed (domains d a) (placed_types d s.fact) (source_env d results s.fact) 0 (outermost s.member) (is_typed_at d a results h s.fact (outermost s.member)) t u k

main_typed : (d : Tree) (a : Answered) → AnswersFit d a → (results : Results) → AreTypedResults d a results → (s : Slot) (f : Fact) (t : FactType) → fact_at d.facts s.fact ≡ Some f → IsTypedAs d s.fact f t → (main : Option Source) → HasOptionType (placed_types d s.fact) t main → IsResOfType (domains d a) (main_result d a results s f.stated main) t
main_typed d a fit results h s f t there k None m =
    answer_typed (domains d a) (given_value f.stated a s) t (value_by d a fit s f t there k f.stated refl)
main_typed d a fit results h s f t there k (Some x) m =
    override_typed (domains d a) (value_of Override a s) (expression d results s x) t
    (λ v e. given_typed d a fit Override s v t (type_of_number d s.fact f t there k.stated) e) (expression_typed d a results h s x t m)

placeholder_typed : (d : Tree) (a : Answered) (results : Results) → AreTypedResults d a results → (s : Slot) (o : Option Source) (t : FactType) → HasOptionType (placed_types d s.fact) t o → (r : Res) → IsResOfType (domains d a) r t → IsResOfType (domains d a) (or_placeholder d results s o r) t
placeholder_typed d a results h s None t k r m = m
placeholder_typed d a results h s (Some x) t k (Complete v) m = m
placeholder_typed d a results h s (Some x) t k (Placeholder v) m = m
placeholder_typed d a results h s (Some x) t k Incomplete m = down-type (domains d a) (expression d results s x) t (expression_typed d a results h s x t k)
placeholder_typed d a results h s (Some x) t k (Fault fault) m = tt

-- the result of a slot over typed results is of its fact's type
pub slot_typed : (d : Tree) (a : Answered) → AnswersFit d a → (results : Results) → AreTypedResults d a results → (s : Slot) (f : Fact) (t : FactType) → fact_at d.facts s.fact ≡ Some f → IsTypedAs d s.fact f t → IsResOfType (domains d a) (slot_result d a results s f) t
slot_typed d a fit results h s f t there k =
    placeholder_typed d a results h s f.placeholder t k.placeholder (main_result d a results s f.stated (body f))
    (main_typed d a fit results h s f t there k (body f) k.body)

-- ---- all slots

none_below : (d : Accepted) (a : Answered) (s : Slot) → table d a zero s ≡ None
unfolding table
none_below d a s = refl

table_step : (d : Accepted) (a : Answered) (n : ℕ) (s : Slot) → table d a (suc n) s ≡ at_fact (fact_at d.tree.facts s.fact) None (λ (f : Fact). if nat_lt (rank d s.fact) (suc n) && stands d.tree a s then Some (slot_result d.tree a (table d a n) s f) else None)
unfolding table
table_step d a n s = refl

plain_is : (d : Accepted) (a : Answered) (s : Slot) → plain d a s ≡ table d a (suc (rank d s.fact)) s
unfolding plain
plain_is d a s = refl

only_so : {X : Type 0} (b : Bool) (x y : X) → (if b then Some x else None) ≡ Some y → x ≡ y
only_so true x y e = cc
only_so false x y e = absurd cc

res_as : (dom : Domains) (r : Res) (o : Option FactType) (t u : FactType) → o ≡ Some t → o ≡ Some u → IsResOfType dom r t → IsResOfType dom r u
res_as dom r o t u e k h = let same : t ≡ u = cc in subst (IsResOfType dom r) same h

-- one step over typed results, where the fact is there and the slot stands
step_typed : (names : List (List ℕ)) (d : Accepted) → IsAccepted names d → (a : Answered) → AnswersFit d.tree a → (results : Results) → AreTypedResults d.tree a results → (s : Slot) (b : Bool) (o : Option Fact) → fact_at d.tree.facts s.fact ≡ o → (r : Res) → at_fact o None (λ (f : Fact). if b then Some (slot_result d.tree a results s f) else None) ≡ Some r → (t : FactType) → type_at d.tree s.fact ≡ Some t → IsResOfType (domains d.tree a) r t
step_typed names d good a fit results h s b None there r e t k = absurd cc
step_typed names d good a fit results h s b (Some f) there r e t k =
    let same = only_so b (slot_result d.tree a results s f) r e in
    let has = typed_fact d.tree names d.typed good.typed s.fact f there in
    res_as (domains d.tree a) r (type_at d.tree s.fact) has.0 t (type_of_number d.tree s.fact f has.0 there has.1.stated) k
    (subst (λ (x : Res). IsResOfType (domains d.tree a) x has.0) same (slot_typed d.tree a fit results h s f has.0 there has.1))

pub table_typed : (names : List (List ℕ)) (d : Accepted) → IsAccepted names d → (a : Answered) → AnswersFit d.tree a → (n : ℕ) → AreTypedResults d.tree a (table d a n)
table_typed names d good a fit zero s r e t k = absurd (let none : None ≡ Some r = sym (none_below d a s) ∙ e in cc)
table_typed names d good a fit (suc n) s r e t k =
    step_typed names d good a fit (table d a n) (table_typed names d good a fit n) s (nat_lt (rank d s.fact) (suc n) && stands d.tree a s) (fact_at d.tree.facts s.fact) refl r (sym (table_step d a n s) ∙ e) t k

-- every result of plain evaluation has its fact's type
pub typed_results : TypedResults
typed_results names d good a fit s r e t k = table_typed names d good a fit (suc (rank d s.fact)) s r (sym (plain_is d a s) ∙ e) t k

-- plain evaluation is typed at every slot
pub plain_typed : (names : List (List ℕ)) (d : Accepted) → IsAccepted names d → (a : Answered) → AnswersFit d.tree a → AreTypedResults d.tree a (plain d a)
plain_typed names d good a fit = typed_results names d good a fit

-- the result of a target with this type, at any member
pub target_typed : (names : List (List ℕ)) (d : Accepted) → IsAccepted names d → (a : Answered) → AnswersFit d.tree a → (o : Option ℕ) (m : ℕ) (t : FactType) → type_of_target d.tree o ≡ Some t → IsResOfType (domains d.tree a) (result_at (plain d a) o m) t
target_typed names d good a fit o m t e = result_typed d.tree a (plain d a) (plain_typed names d good a fit) o m t e
