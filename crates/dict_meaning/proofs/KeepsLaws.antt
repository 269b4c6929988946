-- Where the complete results of the facts that an expression mentions are kept, so is its own, if it has no IsComplete.
use Rattle.std.proofs.Common.{◌≡◌, ℕ, false, ◌&&◌, Bool, IsTrue, List, [], ◌∷◌, Option, Some, None, Ok, pos, unwrap_or, refl, sym, ap, subst}
use Rattle.std.specs.Prelude.{count_by}
use Rattle.fact_paths.specs.declared.use_path.UsePath.{UsePath}
use Rattle.fact_paths.specs.declared.use_path.UsePath.TheVariants.{Global, Sibling, Inner, Each as EachOf, Through, SiblingThrough}
use Rattle.fact_values.specs.declared.fact_type.FactType.{FactType}
use Rattle.fact_values.specs.declared.fact_type.FactType.TheVariants as types
use Rattle.fact_values.specs.declared.slot.Slot.{Slot}
use Rattle.fact_values.specs.declared.value.Value.{Value}
use Rattle.fact_values.specs.declared.value.Value.TheVariants.{Int, Item}
use Rattle.dict_source.specs.Tree.{Reading, Source, Tree as Expression, Trees, Cases, literal, read, switch, many, one, two, pick, no_trees, tree, no_cases, a_case}
use Rattle.dict_source.specs.Dictionary.{Dictionary as Tree}
use Rattle.dict_source.specs.Mentions.{is_same, mention_of, mentions, use_mentions}
use Rattle.dict_source.specs.Targets.{targets}
use Rattle.dict_source.specs.declared.mentions.Mention.{Mention}
use Rattle.dict_source.specs.declared.operators.ReadOp.{ReadOp}
use Rattle.dict_source.specs.declared.operators.ReadOp.TheVariants as read_op
use Rattle.dict_source.specs.declared.targets.Targets.{Targets}
use Rattle.three_state.specs.declared.res.Res.{Res}
use Rattle.three_state.specs.declared.res.Res.TheVariants.{Complete, Incomplete}
use Rattle.three_state.specs.Order.{Keeps}
use Rattle.three_state.specs.Results.{truth}
use Rattle.three_state.proofs.OrderLaws.{fields_keep, kept_itself, strict_keeps, through_keeps}
use Rattle.evaluation.specs.ByBases.{KeepsIn}
use Rattle.evaluation.specs.Mentioned.{AllOf, Each, EachInAll, EachInCases}
use Rattle.evaluation.specs.Operations.{on_one, size_value, sum_of_dollars, sum_of_ints}
use Rattle.evaluation.specs.Order.{has_no_complete_test, is_value_read, reads_pass, reads_pass_in_all, reads_pass_in_cases}
use Rattle.evaluation.specs.Reads.{field_at, sum_over, through_item}
use Rattle.common_lemmas.proofs.Bools.{both}
use Rattle.evaluation.proofs.Mentions.{all-left, all-right, over_keeps_in}
use Rattle.dict_meaning.specs.Plain.{expression}
use Rattle.dict_meaning.specs.Dependencies.{EvalPosition, collection, dependency, field_type, outermost, read_by, read_result, source_env, source_result}
use Rattle.evaluation.specs.Results.{Results, result_at, slot}
use Rattle.dict_meaning.proofs.MentionedLaws.{ReadIs, SourceIs, base_under, each_mentioned}

-- ---- of each mention's fact

abbrev pub OfFact : (ℕ → Type 0) → Mention → Type 0
OfFact P m = P m.fact

abbrev pub IsMaybe : (ℕ → Type 0) → Option ℕ → Type 0
IsMaybe P None = Unit {0}
IsMaybe P (Some n) = P n

of_target : (P : ℕ → Type 0) (same : Bool) (target : Option ℕ) → AllOf (OfFact P) (mention_of same target) → IsMaybe P target
of_target P same None h = tt
of_target P same (Some n) h = h.0

-- ---- results

-- where the first is complete, the second is the same
abbrev pub KeepsMaybe : Option Res → Option Res → Type 0
KeepsMaybe o p = (v : Value) → o ≡ Some (Complete v) → p ≡ Some (Complete v)

-- of the slots of these facts
abbrev pub KeepsOf : (ℕ → Type 0) → Results → Results → Type 0
KeepsOf P results results' = (s : Slot) → P s.fact → KeepsMaybe (results s) (results' s)

at_keeps : (o p : Option Res) → KeepsMaybe o p → Keeps (unwrap_or o Incomplete) (unwrap_or p Incomplete)
at_keeps None p h = record { keeps = λ v e. absurd (cc) }
at_keeps (Some r) p h = record { keeps = λ v e. rw (h v (ap (λ x. Some x) e)) refl }

result_keeps : (P : ℕ → Type 0) (results results' : Results) → KeepsOf P results results' → (target : Option ℕ) → IsMaybe P target → (m : ℕ) → Keeps (result_at results target m) (result_at results' target m)
result_keeps P results results' h None is m = kept_itself Incomplete
result_keeps P results results' h (Some fact) is m = at_keeps (results (slot fact m)) (results' (slot fact m)) (h (slot fact m) is)

-- ---- nodes that read

field_keeps : (f g : ℕ → Res) → ((m : ℕ) → Keeps (f m) (g m)) → (v : Value) → Keeps (field_at f v) (field_at g v)
field_keeps f g h (Item m) = h m
field_keeps f g h _ = kept_itself Incomplete

item_keeps : (r r' : Res) (f g : ℕ → Res) → Keeps r r' → ((m : ℕ) → Keeps (f m) (g m)) → Keeps (through_item r f) (through_item r' g)
item_keeps r r' f g k h = through_keeps r r' (field_at f) (field_at g) k (field_keeps f g h)

dependency_keeps : (P : ℕ → Type 0) (results results' : Results) → KeepsOf P results results' → (t : Targets) → IsMaybe P t.first → IsMaybe P t.second → (at : EvalPosition) (path : UsePath)
    → Keeps (dependency results t at path) (dependency results' t at path)
dependency_keeps P results results' h t first second at (Global n) = result_keeps P results results' h t.first first 0
dependency_keeps P results results' h t first second at (Sibling n) = result_keeps P results results' h t.first first at.own
dependency_keeps P results results' h t first second at (Inner n) = result_keeps P results results' h t.first first at.inner
dependency_keeps P results results' h t first second at (EachOf n m) = kept_itself Incomplete
dependency_keeps P results results' h t first second at (Through n m) =
    item_keeps (result_at results t.first 0) (result_at results' t.first 0) (result_at results t.second) (result_at results' t.second)
    (result_keeps P results results' h t.first first 0) (result_keeps P results results' h t.second second)
dependency_keeps P results results' h t first second at (SiblingThrough n m) =
    item_keeps (result_at results t.first at.own) (result_at results' t.first at.own) (result_at results t.second) (result_at results' t.second)
    (result_keeps P results results' h t.first first at.own) (result_keeps P results results' h t.second second)

sum_keeps : (t : FactType) (r r' : Res) (f g : ℕ → Res) → Keeps r r' → ((m : ℕ) → Keeps (f m) (g m)) → Keeps (sum_over t r f) (sum_over t r' g)
sum_keeps types.Dollar r r' f g k h = fields_keep sum_of_dollars r r' f g k h
sum_keeps _ r r' f g k h = fields_keep sum_of_ints r r' f g k h

read_by_keeps : (P : ℕ → Type 0) (d : Tree) (results results' : Results) → KeepsOf P results results' → (t : Targets) → IsMaybe P t.first → IsMaybe P t.second → (at : EvalPosition) (path : UsePath) (op : ReadOp)
    → IsTrue (is_value_read op) → Keeps (read_by op d results t at path) (read_by op d results' t at path)
read_by_keeps P d results results' h t first second at path read_op.Dependency is = dependency_keeps P results results' h t first second at path
read_by_keeps P d results results' h t first second at path read_op.IsComplete is = absurd (cc)
read_by_keeps P d results results' h t first second at path read_op.CollectionSize is =
    strict_keeps (on_one size_value) (collection results t ∷ []) (collection results' t ∷ []) (result_keeps P results results' h t.first first 0, tt)
read_by_keeps P d results results' h t first second at path read_op.CollectionSum is =
    sum_keeps (field_type d t) (collection results t) (collection results' t) (result_at results t.second) (result_at results' t.second)
    (result_keeps P results results' h t.first first 0) (result_keeps P results results' h t.second second)
read_by_keeps P d results results' h t first second at path read_op.Count is =
    fields_keep (λ (fields : List Value). Ok (Int (pos (count_by truth fields)))) (collection results t) (collection results' t) (result_at results t.second) (result_at results' t.second)
    (result_keeps P results results' h t.first first 0) (result_keeps P results results' h t.second second)

read_keeps : (P : ℕ → Type 0) (d : Tree) (fact : ℕ) (results results' : Results) → KeepsOf P results results' → (at : EvalPosition) (op : ReadOp) (path : Option UsePath)
    → IsTrue (is_value_read op) → AllOf (OfFact P) (use_mentions d fact at.base path) → Keeps (read_result d results fact at op path) (read_result d results' fact at op path)
read_keeps P d fact results results' h at op None is m = kept_itself Incomplete
read_keeps P d fact results results' h at op (Some path) is m =
    let t = targets d fact at.base path in
    let firsts = mention_of (is_same path) t.first in
    let seconds = mention_of false t.second in
    read_by_keeps P d results results' h t
    (of_target P (is_same path) t.first (all-left (OfFact P) firsts seconds m))
    (of_target P false t.second (all-right (OfFact P) firsts seconds m))
    at path op is

source_keeps : (P : ℕ → Type 0) (d : Tree) (fact : ℕ) (results results' : Results) → KeepsOf P results results' → (at : EvalPosition) (path : Option UsePath)
    → AllOf (OfFact P) (use_mentions d fact at.base path) → Keeps (source_result d results fact at path) (source_result d results' fact at path)
source_keeps P d fact results results' h at None m = kept_itself Incomplete
source_keeps P d fact results results' h at (Some path) m =
    let t = targets d fact at.base path in
    result_keeps P results results' h t.first (of_target P (is_same path) t.first (all-left (OfFact P) (mention_of (is_same path) t.first) (mention_of false t.second) m)) 0

-- ---- each read passes a test, and what holds of it holds too

mutual
  pub each_tested : {B C R P : Type 0} (test : R → Bool) (Q : B → R → Type 0) (W : B → P → Type 0) (on : B → P → B) (t : Expression C R P) (b : B) → IsTrue (reads_pass test t) → Each Q W on b t
      → Each (λ c r. IsTrue (test r) × Q c r) W on b t
  each_tested test Q W on (literal c) b h k = tt
  each_tested test Q W on (read r) b h k = (h, k)
  each_tested test Q W on (switch cs) b h k = each_tested_cases test Q W on cs b h k
  each_tested test Q W on (many op ts) b h k = each_tested_all test Q W on ts b h k
  each_tested test Q W on (one op t) b h k = each_tested test Q W on t b h k
  each_tested test Q W on (two op x y) b h k =
      let hs = both (reads_pass test x) (reads_pass test y) h in
      (each_tested test Q W on x b hs.0 k.0, each_tested test Q W on y b hs.1 k.1)
  each_tested test Q W on (pick op p t) b h k = (k.0, each_tested test Q W on t (on b p) h k.1)

  each_tested_all : {B C R P : Type 0} (test : R → Bool) (Q : B → R → Type 0) (W : B → P → Type 0) (on : B → P → B) (ts : Trees C R P) (b : B) → IsTrue (reads_pass_in_all test ts) → EachInAll Q W on b ts
      → EachInAll (λ c r. IsTrue (test r) × Q c r) W on b ts
  each_tested_all test Q W on no_trees b h k = tt
  each_tested_all test Q W on (tree t ts) b h k =
      let hs = both (reads_pass test t) (reads_pass_in_all test ts) h in
      (each_tested test Q W on t b hs.0 k.0, each_tested_all test Q W on ts b hs.1 k.1)

  each_tested_cases : {B C R P : Type 0} (test : R → Bool) (Q : B → R → Type 0) (W : B → P → Type 0) (on : B → P → B) (cs : Cases C R P) (b : B) → IsTrue (reads_pass_in_cases test cs) → EachInCases Q W on b cs
      → EachInCases (λ c r. IsTrue (test r) × Q c r) W on b cs
  each_tested_cases test Q W on no_cases b h k = tt
  each_tested_cases test Q W on (a_case t o cs) b h k =
      let hs = both (reads_pass test t) (reads_pass test o && reads_pass_in_cases test cs) h in
      let rest = both (reads_pass test o) (reads_pass_in_cases test cs) hs.1 in
      (each_tested test Q W on t b hs.0 k.0, each_tested test Q W on o b rest.0 k.1, each_tested_cases test Q W on cs b rest.1 k.2)

-- ---- expressions

abbrev KeptRead : Tree → ℕ → (ℕ → Type 0) → ℕ → Reading → Type 0
KeptRead d fact P base r = IsTrue (is_value_read r.0) × ReadIs d fact (OfFact P) base r

abbrev HasBase : ℕ → EvalPosition → Type 0
HasBase base at = at.base ≡ base

env_keeps : (P : ℕ → Type 0) (d : Tree) (fact : ℕ) (results results' : Results) → KeepsOf P results results'
    → KeepsIn (KeptRead d fact P) (SourceIs d fact (OfFact P)) (base_under d fact) HasBase (source_env d results fact) (source_env d results' fact)
env_keeps P d fact results results' h = record {
  constant = λ c. refl;
  reads = λ b at e r k. read_keeps P d fact results results' h at r.0 r.1.path k.0 (subst (λ (base : ℕ). AllOf (OfFact P) (use_mentions d fact base r.1.path)) (sym e) k.1);
  source = λ b at e u k. source_keeps P d fact results results' h at u.path (subst (λ (base : ℕ). AllOf (OfFact P) (use_mentions d fact base u.path)) (sym e) k);
  enter = λ b at e u k m. refl;
  reach = λ b at e u k m. ap (λ (base : ℕ). base_under d fact base u) e;
}

-- of an expression that mentions such facts alone
pub expression_keeps : (P : ℕ → Type 0) (d : Tree) (results results' : Results) → KeepsOf P results results' → (s : Slot) (t : Source) → IsTrue (has_no_complete_test t) → AllOf (OfFact P) (mentions d s.fact 0 t)
    → Keeps (expression d results s t) (expression d results' s t)
expression_keeps P d results results' h s t untested m =
    over_keeps_in (KeptRead d s.fact P) (SourceIs d s.fact (OfFact P)) (base_under d s.fact) HasBase (source_env d results s.fact) (source_env d results' s.fact)
    (env_keeps P d s.fact results results' h) t 0
    (each_tested (λ r. is_value_read r.0) (ReadIs d s.fact (OfFact P)) (SourceIs d s.fact (OfFact P)) (base_under d s.fact) t 0 untested (each_mentioned d s.fact (OfFact P) t 0 m))
    (outermost s.member) refl
