-- The targets that are computed are those of the table.
use Rattle.std.proofs.Common.{◌≡◌, ◌↔◌, ℕ, List, Option, Some, None, refl, sym, ap, subst, ◌∙◌}
use Rattle.std.specs.Prelude.{option_and_then, IfSome}
use Rattle.fact_paths.specs.declared.fact_path.FactPath.TheVariants as facts
use Rattle.fact_paths.specs.declared.use_path.UsePath.{UsePath}
use Rattle.fact_paths.specs.declared.use_path.UsePath.TheVariants as uses
use Rattle.dict_source.specs.Dictionary.{Dictionary}
use Rattle.dict_source.specs.Finding.{IsFirst, IsNumber}
use Rattle.dict_source.specs.PathLaws.{EachRow, InnerRow, SiblingNowhere, SiblingRow, SiblingThroughNowhere, SiblingThroughRow, ThroughRow}
use Rattle.dict_source.specs.declared.targets.Targets.{Targets}
use Rattle.dict_source.specs.Targets.{AreTargets, IsFirstTarget, IsMember, IsSecondTarget, collection_at, global_at, list_base_at, item_base_at, find_member, first_target, second_target, targets}
use Rattle.dict_source.proofs.FindingLaws.{find_path-first, first_is_there}

-- a fact of the members of a base
member_is : (d : Dictionary) (n : List ℕ) (base : Option (List ℕ)) (t : ℕ) → (find_member d n base ≡ Some t) ↔ IsMember d base n t
member_is d n None t = (λ h. absurd cc, λ (b, e, first). absurd (let none : None ≡ Some b = e in cc))
member_is d n (Some x) t = (
  λ h. (x, refl, (find_path-first d.facts (facts.Member x n) t).0 h),
  λ (b, e, first). let one : x ≡ b = cc in (find_path-first d.facts (facts.Member x n) t).1 (subst (λ (y : List ℕ). IsFirst d.facts (facts.Member y n) t) (sym one) first),
)

first_is : (d : Dictionary) (fact base : ℕ) (path : UsePath) (t : ℕ) → (first_target d fact base path ≡ Some t) ↔ IsFirstTarget d fact base path t
first_is d fact base (uses.Global n) t = find_path-first d.facts (facts.Global n) t
first_is d fact base (uses.Sibling n) t = member_is d n (collection_at d fact) t
first_is d fact base (uses.Inner n) t = member_is d n (global_at d base) t
first_is d fact base (uses.Each n m) t = find_path-first d.facts (facts.Global n) t
first_is d fact base (uses.Through n m) t = find_path-first d.facts (facts.Global n) t
first_is d fact base (uses.SiblingThrough n m) t = member_is d n (collection_at d fact) t

-- the second target of a path that has none
no_second : (d : Dictionary) (first : Option ℕ) (t : ℕ) → (None ≡ Some t) ↔ ((f : ℕ) × (first ≡ Some f) × ⊥)
no_second d first t = (λ h. absurd cc, λ (f, e, none). absurd none)

-- the second target, under the base that the first one's type has
second_under : (d : Dictionary) (base_at : ℕ → Option (List ℕ)) (m : List ℕ) (first : Option ℕ) (t : ℕ) → (find_member d m (option_and_then base_at first) ≡ Some t) ↔ ((f : ℕ) × (first ≡ Some f) × IsMember d (base_at f) m t)
second_under d base_at m None t = (λ h. absurd cc, λ (f, e, is). absurd (let none : None ≡ Some f = e in cc))
second_under d base_at m (Some x) t = (
  λ h. (x, refl, (member_is d m (base_at x) t).0 h),
  λ (f, e, is). let one : x ≡ f = cc in (member_is d m (base_at x) t).1 (subst (λ (y : ℕ). IsMember d (base_at y) m t) (sym one) is),
)

second_is : (d : Dictionary) (first : Option ℕ) (path : UsePath) (t : ℕ) → (second_target d first path ≡ Some t) ↔ ((f : ℕ) × (first ≡ Some f) × IsSecondTarget d f path t)
second_is d first (uses.Each n m) t = second_under d (list_base_at d) m first t
second_is d first (uses.Through n m) t = second_under d (item_base_at d) m first t
second_is d first (uses.SiblingThrough n m) t = second_under d (item_base_at d) m first t
second_is d first path t = no_second d first t

pub targets-AreTargets : (d : Dictionary) (fact base : ℕ) (path : UsePath) → AreTargets d fact base path (targets d fact base path)
targets-AreTargets d fact base path = record {
  first = first_is d fact base path;
  second = second_is d (first_target d fact base path) path;
}

-- ---- row by row

-- the targets, from what their parts give
both_targets : (d : Dictionary) (fact base : ℕ) (path : UsePath) (first second : Option ℕ) → first_target d fact base path ≡ first → second_target d first path ≡ second → targets d fact base path ≡ record { first = first; second = second }
both_targets d fact base path first second e f =
    let pair : Option ℕ → Option ℕ → Targets = λ x y. record { first = x; second = y } in
    ap (λ (x : Option ℕ). pair x (second_target d x path)) e ∙ ap (pair first) f

pub sibling_row : SiblingRow
sibling_row d fact base c n h = both_targets d fact base (uses.Sibling n) _ None (ap (find_member d n) h) refl

pub inner_row : InnerRow
inner_row d fact base b n h = both_targets d fact base (uses.Inner n) _ None (ap (find_member d n) h) refl

pub each_row : EachRow
each_row d fact base t n b m first h = both_targets d fact base (uses.Each n m) (Some t) _ first (ap (find_member d m) h)

pub through_row : ThroughRow
through_row d fact base t n b m first h = both_targets d fact base (uses.Through n m) (Some t) _ first (ap (find_member d m) h)

pub sibling_through_row : SiblingThroughRow
sibling_through_row d fact base t c n b m e first h = both_targets d fact base (uses.SiblingThrough n m) (Some t) _ (ap (find_member d n) e ∙ first) (ap (find_member d m) h)

pub sibling_nowhere : SiblingNowhere
sibling_nowhere d fact base n h = both_targets d fact base (uses.Sibling n) None None (ap (find_member d n) h) refl

pub sibling_through_nowhere : SiblingThroughNowhere
sibling_through_nowhere d fact base n m h = both_targets d fact base (uses.SiblingThrough n m) None None (ap (find_member d n) h) refl

-- ---- targets are facts

first_within : (d : Dictionary) (fact base : ℕ) (path : UsePath) (t : ℕ) → IsFirstTarget d fact base path t → IsNumber d.facts t
first_within d fact base (uses.Global n) t h = first_is_there d.facts (facts.Global n) t h
first_within d fact base (uses.Sibling n) t h = first_is_there d.facts (facts.Member h.0 n) t h.2
first_within d fact base (uses.Inner n) t h = first_is_there d.facts (facts.Member h.0 n) t h.2
first_within d fact base (uses.Each n m) t h = first_is_there d.facts (facts.Global n) t h
first_within d fact base (uses.Through n m) t h = first_is_there d.facts (facts.Global n) t h
first_within d fact base (uses.SiblingThrough n m) t h = first_is_there d.facts (facts.Member h.0 n) t h.2

second_within : (d : Dictionary) (f : ℕ) (path : UsePath) (t : ℕ) → IsSecondTarget d f path t → IsNumber d.facts t
second_within d f (uses.Each n m) t h = first_is_there d.facts (facts.Member h.0 m) t h.2
second_within d f (uses.Through n m) t h = first_is_there d.facts (facts.Member h.0 m) t h.2
second_within d f (uses.SiblingThrough n m) t h = first_is_there d.facts (facts.Member h.0 m) t h.2
second_within d f path t h = absurd h

-- where every value is a fact's number, the one that is there is
each_some : (P : ℕ → Type 0) (o : Option ℕ) → ((t : ℕ) → o ≡ Some t → P t) → IfSome o P
each_some P None h = tt
each_some P (Some t) h = h t refl

pub AreTargets-first_within : (d : Dictionary) (fact base : ℕ) (path : UsePath) (t : Targets) → AreTargets d fact base path t → IfSome t.first (IsNumber d.facts)
AreTargets-first_within d fact base path t h = each_some (IsNumber d.facts) t.first (λ n e. first_within d fact base path n ((h.first n).0 e))

pub AreTargets-second_within : (d : Dictionary) (fact base : ℕ) (path : UsePath) (t : Targets) → AreTargets d fact base path t → IfSome t.second (IsNumber d.facts)
AreTargets-second_within d fact base path t h = each_some (IsNumber d.facts) t.second (λ n e. let s = (h.second n).0 e in second_within d s.0 path n s.2)
