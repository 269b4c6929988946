-- A final result stays under every extension.
use Rattle.std.proofs.Common.{◌≡◌, ℕ, zero, suc, Bool, true, false, ◌&&◌, ◌||◌, nat_eq, nat_lt, if◌then◌else◌, IsTrue, is_some, List, [], ◌∷◌, ◌++◌, Option, Some, None, option_map, unwrap_or, refl, sym, ap, subst, ◌∙◌}
use Rattle.std.specs.List.{list_any}
use Rattle.std.specs.FinMap as map
use Rattle.fact_values.specs.declared.slot.Slot.{Slot}
use Rattle.fact_values.specs.declared.value.Value.{Value}
use Rattle.dict_source.specs.Tree.{Source, SourceCase}
use Rattle.dict_source.specs.Facts.{Fact, Stated, writable_list}
use Rattle.dict_source.specs.Dictionary.{Dictionary as Tree}
use Rattle.dict_source.specs.Finding.{fact_at}
use Rattle.dict_source.specs.Mentions.{conditional_mentions, mentions, option_mentions}
use Rattle.dict_source.specs.declared.mentions.Mention.{Mention}
use Rattle.dict_order.specs.Graph.{Has, mentioned}
use Rattle.three_state.specs.declared.res.Res.{Res}
use Rattle.three_state.specs.declared.res.Res.TheVariants.{Complete, Placeholder, Incomplete, Fault}
use Rattle.three_state.specs.Order.{Keeps}
use Rattle.three_state.proofs.OrderLaws.{down-never-complete, kept_itself}
use Rattle.evaluation.specs.Mentioned.{AllOf}
use Rattle.evaluation.specs.Order.{has_no_complete_test}
use Rattle.common_lemmas.proofs.Bools.{and_intro, both, or_right}
use Rattle.evaluation.proofs.Mentions.{all-left, all-right}
use Rattle.answers.specs.Answered.{Answered, value_of}
use Rattle.answers.specs.declared.edit.Side.TheVariants.{Answer, Override}
use Rattle.dict_meaning.specs.Accepted.{Accepted, IsAccepted}
use Rattle.dict_meaning.specs.Extension.{Extends, IsExtension}
use Rattle.dict_meaning.specs.Final.{is_complete_in, is_final}
use Rattle.dict_meaning.specs.Homes.{home}
use Rattle.dict_meaning.specs.Plain.{answer_result, at_fact, body, conditional_body, expression, given_value, main_result, open_list, or_override, or_placeholder, plain, rank, slot_result, table}
use Rattle.evaluation.specs.Results.{Results}
use Rattle.dict_meaning.specs.Slots.{is_member, stands, stands_of}
use Rattle.dict_meaning.specs.Steady.{body_graph, body_mentions, body_untested, conditional_untested, option_untested, steady}
use Rattle.dict_meaning.proofs.KeepsLaws.{KeepsMaybe, KeepsOf, OfFact, expression_keeps}
use Rattle.dict_meaning.proofs.FactMentions.{all_facts}
use Rattle.dict_meaning.proofs.BodyGraph.{found_body, mentioned_by_body}
use Rattle.dict_meaning.proofs.SteadyLaws.{parts, steady_mentioned}

-- ---- a body

-- the body of an untested fact is untested
body_is_untested : (c : Option SourceCase) (t : Source) → IsTrue (has_no_complete_test t) → IsTrue (conditional_untested c) → IsTrue (has_no_complete_test (conditional_body c t))
body_is_untested None t h k = h
body_is_untested (Some c) t h k =
    let parts = both (has_no_complete_test c.0) (has_no_complete_test c.1) k in
    and_intro (has_no_complete_test c.0) (has_no_complete_test c.1 && (has_no_complete_test t && true)) parts.0
    (and_intro (has_no_complete_test c.1) (has_no_complete_test t && true) parts.1 (and_intro (has_no_complete_test t) true h refl))

pub all_join : {X : Type 0} (M : X → Type 0) (xs ys : List X) → AllOf M xs → AllOf M ys → AllOf M (xs ++ ys)
all_join M [] ys h k = k
all_join M (x ∷ xs) ys h k = (h.0, all_join M xs ys h.1 k)

-- what the main expression and the conditional mention the body mentions, and no more
body_mentions_all : (M : Mention → Type 0) (d : Tree) (fact : ℕ) (c : Option SourceCase) (t : Source) → AllOf M (mentions d fact 0 t) → AllOf M (conditional_mentions d fact c) → AllOf M (mentions d fact 0 (conditional_body c t))
body_mentions_all M d fact None t h k = h
body_mentions_all M d fact (Some c) t h k =
    let tests = mentions d fact 0 c.0 in
    let values = mentions d fact 0 c.1 in
    all_join M tests (values ++ (mentions d fact 0 t ++ [])) (all-left M tests values k)
    (all_join M values (mentions d fact 0 t ++ []) (all-right M tests values k) (all_join M (mentions d fact 0 t) [] h tt))

-- an untested body that mentions such facts alone
abbrev BodyIs : (ℕ → Type 0) → Tree → ℕ → Option Source → Type 0
BodyIs P d fact None = Unit {0}
BodyIs P d fact (Some t) = IsTrue (has_no_complete_test t) × AllOf (OfFact P) (mentions d fact 0 t)

body_is : (P : ℕ → Type 0) (d : Tree) (fact : ℕ) (main : Option Source) (c : Option SourceCase) → IsTrue (option_untested main && conditional_untested c)
    → AllOf (OfFact P) (option_mentions d fact main ++ conditional_mentions d fact c) → BodyIs P d fact (option_map (conditional_body c) main)
body_is P d fact None c h k = tt
body_is P d fact (Some t) c h k =
    let parts = both (has_no_complete_test t) (conditional_untested c) h in (
      body_is_untested c t parts.0 parts.1,
      body_mentions_all (OfFact P) d fact c t (all-left (OfFact P) (mentions d fact 0 t) (conditional_mentions d fact c) k) (all-right (OfFact P) (mentions d fact 0 t) (conditional_mentions d fact c) k),
    )

abbrev IsSteadyFact : Accepted → ℕ → Type 0
IsSteadyFact d fact = IsTrue (steady d fact)

steady_body : (names : List (List ℕ)) (d : Accepted) → IsAccepted names d → (fact : ℕ) (f : Fact) → fact_at d.tree.facts fact ≡ Some f → IsTrue (steady d fact) → BodyIs (IsSteadyFact d) d.tree fact (body f)
steady_body names d accepted fact f e h =
    let graph_is : mentioned (body_graph d.tree) fact ≡ body_mentions d.tree fact f = mentioned_by_body d.tree fact ∙ ap (found_body d.tree fact) e in
    body_is (IsSteadyFact d) d.tree fact f.main f.conditional
    (subst (λ (o : Option Fact). IsTrue (body_untested o)) e (parts d.tree d.ranks accepted.ranked fact h).0)
    (all_facts (IsSteadyFact d) (option_mentions d.tree fact f.main ++ conditional_mentions d.tree fact f.conditional)
    (λ x i. steady_mentioned d.tree d.ranks accepted.ranked fact x h (subst (λ (l : List ℕ). Has l x) (sym graph_is) i)))

-- ---- a slot

answer_keeps : (o p : Option Value) → ((v : Value) → o ≡ Some v → p ≡ Some v) → Keeps (answer_result o) (answer_result p)
answer_keeps None p h = record { keeps = λ v e. absurd (cc) }
answer_keeps (Some w) p h = rw (h w refl) (kept_itself (Complete w))

list_keeps : (o p : Option (List ℕ)) → ((ms : List ℕ) → o ≡ Some ms → p ≡ Some ms) → (v : Value) → open_list o ≡ Some v → open_list p ≡ Some v
list_keeps None p h v e = absurd (cc)
list_keeps (Some ms) p h v e = rw (h ms refl) e

given_keeps : (a b : Answered) → Extends a b → (s : Slot) (stated : Stated) → Keeps (answer_result (given_value stated a s)) (answer_result (given_value stated b s))
given_keeps a b ext s writable_list =
    answer_keeps (open_list (map.get a.lists s.fact)) (open_list (map.get b.lists s.fact)) (list_keeps (map.get a.lists s.fact) (map.get b.lists s.fact) (ext.lists s.fact))
given_keeps a b ext s _ = answer_keeps (value_of Answer a s) (value_of Answer b s) (ext.values s)

override_keeps : (o : Option Value) (r r' : Res) → (is_some o ≡ false → Keeps r r') → Keeps (or_override o r) (or_override o r')
override_keeps None r r' h = h refl
override_keeps (Some v) r r' h = kept_itself (Complete v)

main_keeps : (P : ℕ → Type 0) (d : Tree) (a b : Answered) → Extends a b → (results results' : Results) → KeepsOf P results results' → (s : Slot) (stated : Stated) (main : Option Source)
    → (is_some (value_of Override a s) ≡ false → BodyIs P d s.fact main) → Keeps (main_result d a results s stated main) (main_result d b results' s stated main)
main_keeps P d a b ext results results' h s stated None is = given_keeps a b ext s stated
main_keeps P d a b ext results results' h s stated (Some t) is =
    rw (ext.overrides s) (override_keeps (value_of Override a s) (expression d results s t) (expression d results' s t) (λ e. expression_keeps P d results results' h s t (is e).0 (is e).1))

placeholder_keeps : (d : Tree) (results results' : Results) (s : Slot) (p : Option Source) (r r' : Res) → Keeps r r' → Keeps (or_placeholder d results s p r) (or_placeholder d results' s p r')
placeholder_keeps d results results' s None r r' k = k
placeholder_keeps d results results' s (Some t) (Complete w) r' k = rw (k.keeps w refl) (kept_itself (Complete w))
placeholder_keeps d results results' s (Some t) (Placeholder w) r' k = record { keeps = λ v e. absurd (cc) }
placeholder_keeps d results results' s (Some t) Incomplete r' k = record { keeps = λ v e. absurd (down-never-complete (expression d results s t) v e) }
placeholder_keeps d results results' s (Some t) (Fault fault) r' k = record { keeps = λ v e. absurd (cc) }

-- ---- slots that stand stay

list_kept : (o p : Option (List ℕ)) (m : ℕ) → ((ms : List ℕ) → o ≡ Some ms → p ≡ Some ms) → IsTrue (list_any (nat_eq m) (unwrap_or o [])) → IsTrue (list_any (nat_eq m) (unwrap_or p []))
list_kept None p m h i = absurd (cc)
list_kept (Some ms) p m h i = rw (h ms refl) i

home_kept : (a b : Answered) → Extends a b → (h m : ℕ) (once : Bool) → IsTrue (if once then nat_eq m 0 else is_member a h m) → IsTrue (if once then nat_eq m 0 else is_member b h m)
home_kept a b ext h m true i = i
home_kept a b ext h m false i = list_kept (map.get a.lists h) (map.get b.lists h) m (ext.lists h) i

stands_kept : (a b : Answered) → Extends a b → (h m : ℕ) (f : Option Fact) → IsTrue (stands_of a h m f) → IsTrue (stands_of b h m f)
stands_kept a b ext h m None i = i
stands_kept a b ext h m (Some f) i = home_kept a b ext h m (nat_eq h 0) i

pub standing_stays : (d : Tree) (a b : Answered) → Extends a b → (s : Slot) → IsTrue (stands d a s) → IsTrue (stands d b s)
standing_stays d a b ext s i = stands_kept a b ext (home d s.fact) s.member (fact_at d.facts s.fact) i

-- ---- tables

row_keeps : (low x y : Bool) (r r' : Res) → (IsTrue x → IsTrue y) → Keeps r r' → KeepsMaybe (if low && x then Some r else None) (if low && y then Some r' else None)
row_keeps false x y r r' h k v e = absurd (cc)
row_keeps true false y r r' h k v e = absurd (cc)
row_keeps true true y r r' h k v e = let same : r ≡ Complete v = cc in rw (h refl, k.keeps v same) refl

-- with an override, or of a steady fact
abbrev IsFinalSlot : Accepted → Answered → Slot → Type 0
IsFinalSlot d a s = IsTrue (is_some (value_of Override a s) || steady d s.fact)

not_overridden : (x y : Bool) → IsTrue (x || y) → x ≡ false → IsTrue y
not_overridden true y h e = absurd (cc)
not_overridden false y h e = h

step_keeps : (names : List (List ℕ)) (d : Accepted) → IsAccepted names d → (a b : Answered) → Extends a b → (low : Bool) (results results' : Results) → KeepsOf (IsSteadyFact d) results results' → (s : Slot) → IsFinalSlot d a s
    → (o : Option Fact) → fact_at d.tree.facts s.fact ≡ o
    → KeepsMaybe (at_fact o None (λ f. if low && stands d.tree a s then Some (slot_result d.tree a results s f) else None)) (at_fact o None (λ f. if low && stands d.tree b s then Some (slot_result d.tree b results' s f) else None))
step_keeps names d accepted a b ext low results results' h s final None e = λ v x. absurd (cc)
step_keeps names d accepted a b ext low results results' h s final (Some f) e =
    row_keeps low (stands d.tree a s) (stands d.tree b s) (slot_result d.tree a results s f) (slot_result d.tree b results' s f) (standing_stays d.tree a b ext s)
    (placeholder_keeps d.tree results results' s f.placeholder (main_result d.tree a results s f.stated (body f)) (main_result d.tree b results' s f.stated (body f))
    (main_keeps (IsSteadyFact d) d.tree a b ext results results' h s f.stated (body f)
    (λ off. steady_body names d accepted s.fact f e (not_overridden (is_some (value_of Override a s)) (steady d s.fact) final off))))

pub tables_keep : (names : List (List ℕ)) (d : Accepted) → IsAccepted names d → (a b : Answered) → Extends a b → (n : ℕ) (s : Slot) → IsFinalSlot d a s → KeepsMaybe (table d a n s) (table d b n s)
unfolding table
tables_keep names d accepted a b ext zero s final = λ v e. absurd (cc)
tables_keep names d accepted a b ext (suc n) s final =
    step_keeps names d accepted a b ext (nat_lt (rank d s.fact) (suc n)) (table d a n) (table d b n)
    (λ t st. tables_keep names d accepted a b ext n t (or_right (is_some (value_of Override a t)) (steady d t.fact) st))
    s final (fact_at d.tree.facts s.fact) refl

-- ---- the law

pub complete_value : (o : Option Res) → IsTrue (is_complete_in o) → (v : Value) × (o ≡ Some (Complete v))
complete_value (Some (Complete v)) h = (v, refl)
complete_value _ h = absurd (cc)

pub final_stays : (names : List (List ℕ)) (d : Accepted) → IsAccepted names d → (a b : Answered) → IsExtension d.tree a b
    → (s : Slot) → IsTrue (is_final d a s) → (v : Value) × (plain d a s ≡ Some (Complete v)) × (plain d b s ≡ Some (Complete v))
unfolding plain
final_stays names d accepted a b extension s final =
    let parts = both (is_complete_in (table d a (suc (rank d s.fact)) s)) (is_some (value_of Override a s) || steady d s.fact) final in
    let value = complete_value (table d a (suc (rank d s.fact)) s) parts.0 in
    (value.0, value.1, tables_keep names d accepted a b extension.extends (suc (rank d s.fact)) s parts.1 value.0 value.1)
