-- A source takes the sums of a chain, one by one.
use Rattle.std.proofs.Common.{◌≡◌, ℕ, zero, suc, ◌+◌, ◌*◌, ◌≤◌, ◌<◌, Bool, true, false, not, ◌||◌, ◌&&◌, IsTrue, List, [], ◌∷◌, length, sum_by, Option, Some, None, Result, Ok, Err, refl, sym, ap, ◌∙◌, subst, arith}
use Rattle.std.specs.Prelude.{⊤, OnOk, codes, count_by, nat_lt}
use Rattle.std.specs.Borrow.{Bor}
use Rattle.std.specs.List.{list_any}
use Rattle.std.proofs.lemmas.List.Folds.{list_any-append}
use Rattle.std.proofs.lemmas.List.Sums.{sum_by_push}
use Rattle.common_lemmas.proofs.Bools.{and_intro}
use Rattle.common_lemmas.proofs.Bytes.{equal_bytes}
use Rattle.fact_paths.specs.Parsing.{fact_path_of, use_path_of}
use Rattle.fact_paths.specs.declared.fact_path.FactPath.{FactPath}
use Rattle.fact_paths.specs.declared.use_path.UsePath.{UsePath}
use Rattle.fact_paths.specs.declared.use_path.UsePath.TheVariants.{Global, Sibling, Inner, Each, Through, SiblingThrough}
use Rattle.fact_values.specs.declared.memory.NoMemory.{NoMemory}
use Rattle.fact_values.specs.declared.fact_type.FactType.TheVariants.{Int}
use Rattle.value_text.specs.Enums.{Listed}
use Rattle.dict_source.specs.declared.operators.ManyOp.TheVariants.{Add}
use Rattle.dict_source.specs.declared.operators.ReadOp.TheVariants.{Dependency}
use Rattle.dict_source.specs.Dictionary.{Dictionary, Written, dictionary_view, is_collection, number_from, too_deep, too_many, with_fact}
use Rattle.dict_source.proofs.SourceLaws.{not_over}
use Rattle.dict_source.specs.Facts.{Fact, fact_size, fact_within, scalar}
use Rattle.dict_source.specs.View.{use_of}
use Rattle.dict_source.specs.Tree.{Source, literal, literal_int, many, no_trees, read, tree}
use Rattle.dict_source.proofs.FindingLaws.{same_path-same}
use Rattle.written_facts.specs.Figures.{Named}
use Rattle.written_facts.specs.Forms.{form_view, forms_view}
use Rattle.written_facts.specs.declared.form.Fixed.TheVariants as fixed
use Rattle.written_facts.specs.declared.form.Form.{Form}
use Rattle.written_facts.specs.declared.form.Form.TheVariants.{Const, Many, Read}
use Rattle.written_facts.proofs.FormViews.{form_view-Const, form_view-Many, form_view-Read}
use Rattle.written_facts.specs.WrittenFacts.{derived}
use Rattle.written_facts.specs.Taking.{has_form, is_well_formed, is_within, same_option, same_path_option, same_use, takes, takes_all, with_facts}
use Rattle.dict_gen.specs.Chain.{chain, chain_facts, member_facts, one_more, sum_fact, sum_of, sum_path}
use Rattle.dict_gen.proofs.ChainPlaces.{length_chain, number_none}

-- ---- forms

same_path_itself : (o : Option FactPath) → same_path_option o o ≡ true
same_path_itself None = refl
same_path_itself (Some p) = same_path-same p

same_use_itself : (p : UsePath) → same_use p p ≡ true
same_use_itself (Global n) = equal_bytes n
same_use_itself (Sibling n) = equal_bytes n
same_use_itself (Inner n) = equal_bytes n
same_use_itself (Each n m) = and_intro _ _ (equal_bytes n) (equal_bytes m)
same_use_itself (Through n m) = and_intro _ _ (equal_bytes n) (equal_bytes m)
same_use_itself (SiblingThrough n m) = and_intro _ _ (equal_bytes n) (equal_bytes m)

same_option_itself : (o : Option UsePath) → same_option o o ≡ true
same_option_itself None = refl
same_option_itself (Some p) = same_use_itself p

sum_form : (k : ℕ) → has_form (sum_of k) ≡ true
sum_form zero = refl
sum_form (suc k) = ap (λ b. b && true) (same_option_itself (use_path_of (sum_path (suc k))))

well_formed : (text : List ℕ) (main : Source) → has_form main ≡ true → IsTrue (is_well_formed (derived text (scalar Int) main))
well_formed text main h = and_intro _ _ (same_path_itself (fact_path_of text)) (ap (λ b. (b && true) && true) h)

-- ---- limits

nodes_of_chain : (k : ℕ) → sum_by fact_size (chain_facts (suc k)) ≡ 4 + 3 * k
nodes_of_chain zero = refl
nodes_of_chain (suc k) =
    let before = nodes_of_chain k in
    sum_by_push fact_size (chain_facts (suc k)) (sum_fact (suc k)) ∙ omega (arith, before)

pub node_number : (n : ℕ) → 1 ≤ n → sum_by fact_size (chain_facts n) ≡ 3 * n + 1
node_number zero some = absurd (omega arith)
node_number (suc k) some = let nodes = nodes_of_chain k in omega (arith, nodes)

few_nodes : (n : ℕ) → n ≤ 1000 → sum_by fact_size (chain_facts n) ≤ 40000
few_nodes zero few = omega arith
few_nodes (suc k) few = let nodes = nodes_of_chain k in omega (arith, nodes, few)

collections : (n : ℕ) → count_by (λ (f : Fact). is_collection f.stated) (chain_facts n) ≡ 1
collections zero = refl
collections (suc k) = sum_by_push _ (chain_facts k) (sum_fact k) ∙ (let before = collections k in omega (arith, before))

no_limits : (n : ℕ) → list_any (λ (f : Fact). nat_lt 8 (length f.limits)) (chain_facts n) ≡ false
no_limits zero = refl
no_limits (suc k) = list_any-append (λ (f : Fact). nat_lt 8 (length f.limits)) (chain_facts k) (sum_fact k ∷ []) ∙ ap (λ b. b || false) (no_limits k)

sum_is_low : (k : ℕ) → fact_within 48 (sum_fact k) ≡ true
sum_is_low zero = refl
sum_is_low (suc k) = refl

none_deep : (n : ℕ) → too_deep (chain n) ≡ None
none_deep zero = refl
none_deep (suc k) = number_none _ 1 (chain_facts k) (sum_fact k) (none_deep k) (ap not (sum_is_low k))

none_passed : (a b c e : Bool) → a ≡ false → b ≡ false → c ≡ false → e ≡ false → number_from (λ (b : Bool). b) 1 (a ∷ b ∷ c ∷ false ∷ false ∷ e ∷ []) ≡ None
none_passed a b c e h k l m = rw (h, k, l, m) refl

none_many : (n : ℕ) → n ≤ 1000 → too_many (chain n) ≡ None
none_many n few =
    let count = length_chain n in
    let one = collections n in
    none_passed _ _ _ _
    (not_over 2000 (length (chain_facts n)) (omega (arith, count, few)))
    (not_over 40000 (sum_by fact_size (chain_facts n)) (few_nodes n few))
    (not_over 32 (count_by (λ (f : Fact). is_collection f.stated) (chain_facts n)) (omega (arith, one)))
    (no_limits n)

within : (n : ℕ) → n ≤ 1000 → IsTrue (is_within (chain n))
within n few = rw (none_many n few, none_deep n) refl

-- ---- the start

abbrev empty : Written
empty = record { enums = []; tables = []; facts = [] }

begun : (w : Written) (enums : List Listed) → w ≡ record { enums = enums; tables = []; facts = [] } → enums ≡ [] → w ≡ empty
begun w enums h e = h ∙ ap (λ (es : List Listed). record { enums = es; tables = []; facts = [] }) e

pub start_taken : (w : Written) (enums : List Listed) (fs : List Fact) → w ≡ record { enums = enums; tables = []; facts = [] } → enums ≡ [] → fs ≡ member_facts → IsTrue (takes_all (dictionary_view w) fs)
start_taken w enums fs h e f =
    subst (λ x. IsTrue (takes_all (dictionary_view x) fs)) (sym (begun w enums h e)) (subst (λ x. IsTrue (takes_all (dictionary_view empty) x)) (sym f) refl)

pub started : (w : Written) (enums : List Listed) (fs : List Fact) (new : Dictionary) → w ≡ record { enums = enums; tables = []; facts = [] } → enums ≡ [] → fs ≡ member_facts → new ≡ with_facts (dictionary_view w) fs → new ≡ chain 0
started w enums fs new h e f is = is ∙ ap (λ x. with_facts (dictionary_view x) fs) (begun w enums h e) ∙ ap (with_facts (dictionary_view empty)) f

-- ---- sums

sum_taken : (k : ℕ) → k < 1000 → IsTrue (takes (chain k) (sum_fact k))
sum_taken k few = and_intro _ _ (well_formed (sum_path (suc k)) (sum_of k) (sum_form k)) (within (suc k) (omega (arith, few)))

-- a sum behind another
pub next_taken : (d : Dictionary) (k : ℕ) (path other : List ℕ) → 0 < k → k < 1000 → d ≡ chain k → path ≡ sum_path (suc k) → other ≡ sum_path k → IsTrue (takes d (derived path (scalar Int) (one_more other)))
next_taken d zero path other some few e p q = absurd (omega arith)
next_taken d (suc k) path other some few e p q =
    subst (λ x. IsTrue (takes x (derived path (scalar Int) (one_more other)))) (sym e)
    (subst (λ x. IsTrue (takes (chain (suc k)) (derived x (scalar Int) (one_more other)))) (sym p)
    (subst (λ x. IsTrue (takes (chain (suc k)) (derived (sum_path (suc (suc k))) (scalar Int) (one_more x)))) (sym q) (sum_taken (suc k) few)))

-- ---- a row of one more

-- what a row of one more writes
one_more_view : (fs : List Named) (v : Bor (List Form)) (other one : Bor (List ℕ)) → v.now ≡ Read Dependency other ∷ Const (fixed.Int one) ∷ [] → one.now ≡ codes "1" → form_view fs (Many Add v) ≡ one_more other.now
one_more_view fs v other one e o =
    form_view-Many fs Add v
    ∙ ap (λ es. many Add (forms_view fs es)) e
    ∙ ap (λ t. many Add (tree t (tree (form_view fs (Const (fixed.Int one))) no_trees))) (form_view-Read fs Dependency other)
    ∙ ap (λ t. many Add (tree (read (Dependency, use_of other.now)) (tree t no_trees))) (form_view-Const fs (fixed.Int one))
    ∙ ap (λ text. many Add (tree (read (Dependency, use_of other.now)) (tree (literal (literal_int text)) no_trees))) o

pub one_taken : (d : Dictionary) (path : List ℕ) (other one : Bor (List ℕ)) (v : Bor (List Form)) → v.now ≡ Read Dependency other ∷ Const (fixed.Int one) ∷ [] → one.now ≡ codes "1"
    → IsTrue (takes d (derived path (scalar Int) (one_more other.now))) → IsTrue (takes_all d (derived path (scalar Int) (form_view [] (Many Add v)) ∷ []))
one_taken d path other one v e o h = subst (λ m. IsTrue (takes_all d (derived path (scalar Int) m ∷ []))) (sym (one_more_view [] v other one e o)) (and_intro _ _ h refl)

pub one_pushed : (d new : Dictionary) (path : List ℕ) (other one : Bor (List ℕ)) (v : Bor (List Form)) (r : Result ⊤ NoMemory) → v.now ≡ Read Dependency other ∷ Const (fixed.Int one) ∷ [] → one.now ≡ codes "1"
    → OnOk r (new ≡ with_facts d (derived path (scalar Int) (form_view [] (Many Add v)) ∷ [])) → OnOk r (new ≡ with_fact d (derived path (scalar Int) (one_more other.now)))
one_pushed d new path other one v (Ok done) e o is = is ∙ ap (λ m. with_fact d (derived path (scalar Int) m)) (one_more_view [] v other one e o)
one_pushed d new path other one v (Err fault) e o is = tt
