-- A dictionary whose facts break no rule, each mentioning facts before it alone, has no fault.
use Rattle.std.proofs.Common.{◌≡◌, ℕ, zero, suc, ◌+◌, ◌<◌, true, false, cond, List, [], ◌∷◌, Some, None, inl, inr, refl, ap, ◌∙◌, subst, arith}
use Rattle.std.specs.Prelude.{nat_lt}
use Rattle.std.specs.List.{list_all, slice_get}
use Rattle.std.proofs.lemmas.Bool.{ltb-true}
use Rattle.common_lemmas.proofs.Bools.{both}
use Rattle.fact_values.specs.declared.fact_type.FactType.{FactType}
use Rattle.dict_source.specs.Dictionary.{Dictionary}
use Rattle.dict_source.specs.Facts.{Fact}
use Rattle.dict_source.specs.Finding.{fact_at}
use Rattle.dict_source.specs.Mentions.{fact_mentions, found_mentions}
use Rattle.dict_types.specs.declared.limit.Limit.{Limit}
use Rattle.dict_rules.specs.declared.rules.Rule.{Rule}
use Rattle.dict_rules.specs.declared.rules.Rule.TheVariants as rules
use Rattle.dict_types.specs.BadLimit.{fact_limits}
use Rattle.node_types.specs.Constants.{fact_values}
use Rattle.dict_types.specs.DictFaults.{AreKept, AreLimits, AreTypedFacts, IsKept, IsTypedDictionary, IsTypedFact}
use Rattle.dict_rules.specs.FirstFact.{first_passing}
use Rattle.dict_rules.specs.Rules.{breaks, rule_order}
use Rattle.dict_types.specs.TypedParts.{TypedDictionary, TypedFact}
use Rattle.dict_rules.proofs.FirstLaws.{none_is_found}
use Rattle.dict_types.proofs.FoundLaws.{well_typed_is_found}
use Rattle.dict_order.specs.Graph.{Graph, Has, HasNoCycle, Leads, Mentions}
use Rattle.dict_order.specs.MentionGraph.{facts_of, mention_graph}
use Rattle.dict_order.proofs.DictionaryLaws.{mentioned_is}
use Rattle.dictionary.specs.Faults.{HasNoFault}
use Rattle.dictionary.proofs.FirstLaws.{has_no_fault}

-- The fact with the number breaks no rule, where there are no checks; its expressions have the types that they are to have, its
-- limits fit, and it mentions facts before it alone.
pub record IsSound (d : Dictionary) (n : ℕ) (f : Fact) : Type 0 where
  pub bad_path : breaks d [] rules.BadPath n f ≡ false
  pub duplicate : breaks d [] rules.DuplicatePath n f ≡ false
  pub no_collection : breaks d [] rules.NoCollection n f ≡ false
  pub unknown_path : breaks d [] rules.UnknownPath n f ≡ false
  pub wrong_place : breaks d [] rules.WrongPlace n f ≡ false
  pub unknown_check : breaks d [] rules.UnknownCheck n f ≡ false
  pub typed : (t : FactType) × IsTypedFact d n f t
  pub limits : (ls : List Limit) × (fact_limits [] d.enums f ≡ Some ls)
  pub mentions : list_all (λ other. nat_lt other n) (facts_of (fact_mentions d n f)) ≡ true

-- each of the facts, which are counted from n
abbrev pub AreSound : Dictionary → ℕ → List Fact → Type 0
AreSound d n [] = Unit {0}
AreSound d n (f ∷ fs) = IsSound d n f × AreSound d (suc n) fs

-- ---- rules

none_breaks : (d : Dictionary) (rule : Rule) → ((n : ℕ) (f : Fact) → IsSound d n f → breaks d [] rule n f ≡ false) → (n : ℕ) (fs : List Fact) → AreSound d n fs → first_passing (breaks d [] rule) n fs ≡ None
none_breaks d rule h n [] s = refl
none_breaks d rule h n (f ∷ fs) s = ap (λ b. cond b (Some n) (first_passing (breaks d [] rule) (suc n) fs)) (h n f s.0) ∙ none_breaks d rule h (suc n) fs s.1

kept : (d : Dictionary) (rule : Rule) → ((n : ℕ) (f : Fact) → IsSound d n f → breaks d [] rule n f ≡ false) → AreSound d 1 d.facts → IsKept d [] rule
kept d rule h s = (none_is_found (breaks d [] rule) d.facts).0 (none_breaks d rule h 1 d.facts s)

all_kept : (d : Dictionary) → AreSound d 1 d.facts → AreKept d [] rule_order
all_kept d s =
    (kept d rules.BadPath (λ n f h. h.bad_path) s, (kept d rules.DuplicatePath (λ n f h. h.duplicate) s, (kept d rules.NoCollection (λ n f h. h.no_collection) s, (kept d rules.UnknownPath (λ n f h. h.unknown_path) s, (kept d rules.WrongPlace (λ n f h. h.wrong_place) s, (kept d rules.UnknownCheck (λ n f h. h.unknown_check) s, tt))))))

-- ---- types and limits

all_typed : (d : Dictionary) (n : ℕ) (fs : List Fact) → AreSound d n fs → (ts : List TypedFact) × AreTypedFacts d n fs ts
all_typed d n [] s = ([], tt)
all_typed d n (f ∷ fs) s =
    let rest = all_typed d (suc n) fs s.1 in
    (record { stated = s.0.typed.0; constants = fact_values d.enums f } ∷ rest.0, (s.0.typed.1, refl, rest.1))

all_limits : (d : Dictionary) (n : ℕ) (fs : List Fact) → AreSound d n fs → (ls : List (List Limit)) × AreLimits [] d fs ls
all_limits d n [] s = ([], tt)
all_limits d n (f ∷ fs) s =
    let rest = all_limits d (suc n) fs s.1 in
    (s.0.limits.0 ∷ rest.0, (s.0.limits.1, rest.1))

typed : (d : Dictionary) → AreSound d 1 d.facts → (t : TypedDictionary) × IsTypedDictionary d [] t
typed d s =
    let ts = all_typed d 1 d.facts s in
    let ls = all_limits d 1 d.facts s in
    (record { facts = ts.0; limits = ls.0 }, (all_kept d s, ts.1, ls.1))

-- ---- cycles

-- where facts mention facts before them alone, mentions lead back alone
leads_back : (g : Graph) → ((fact other : ℕ) → Mentions g fact other → other < fact) → (n fact other : ℕ) → Leads g n fact other → other < fact
leads_back g back zero fact other l = back fact other l
leads_back g back (suc n) fact other l =
    let one = back fact l.0 l.1 in
    let rest = leads_back g back n l.0 other l.2 in
    omega (arith, one, rest)

no_cycle : (g : Graph) → ((fact other : ℕ) → Mentions g fact other → other < fact) → HasNoCycle g
no_cycle g back = λ fact c. let l = leads_back g back c.0 fact fact c.1 in absurd (omega (arith, l))

has_below : (ms : List ℕ) (n other : ℕ) → list_all (λ m. nat_lt m n) ms ≡ true → Has ms other → other < n
has_below [] n other h x = absurd x
has_below (m ∷ ms) n other h x =
    let parts = both (nat_lt m n) (list_all (λ m. nat_lt m n) ms) h in
    elim x [
      | inl e ↦ let l = ltb-true m n parts.0 in omega (arith, e, l)
      | inr y ↦ has_below ms n other parts.1 y
    ]

found_back : (d : Dictionary) (n i other : ℕ) (fs : List Fact) → AreSound d n fs → Has (facts_of (found_mentions d (n + i) (slice_get fs i))) other → other < n + i
found_back d n i other [] s x = absurd x
found_back d n zero other (f ∷ fs) s x =
    let at : Has (facts_of (fact_mentions d n f)) other = subst (λ k. Has (facts_of (fact_mentions d k f)) other) (omega arith) x in
    let l = has_below (facts_of (fact_mentions d n f)) n other s.0.mentions at in
    omega (arith, l)
found_back d n (suc i) other (f ∷ fs) s x =
    let at : Has (facts_of (found_mentions d (suc n + i) (slice_get fs i))) other = subst (λ k. Has (facts_of (found_mentions d k (slice_get fs i))) other) (omega arith) x in
    let l = found_back d (suc n) i other fs s.1 at in
    omega (arith, l)

mentions_back : (d : Dictionary) → AreSound d 1 d.facts → (fact other : ℕ) → Mentions (mention_graph d) fact other → other < fact
mentions_back d s zero other m = absurd (subst (λ l. Has l other) (mentioned_is d zero) m)
mentions_back d s (suc i) other m =
    let here : Has (facts_of (found_mentions d (suc i) (fact_at d.facts (suc i)))) other = subst (λ l. Has l other) (mentioned_is d (suc i)) m in
    let at : Has (facts_of (found_mentions d (1 + i) (slice_get d.facts i))) other = subst (λ k. Has (facts_of (found_mentions d k (slice_get d.facts i))) other) (omega arith) here in
    let l = found_back d 1 i other d.facts s at in
    omega (arith, l)

-- ---- the dictionary

pub no_fault : (d : Dictionary) → AreSound d 1 d.facts → HasNoFault d []
no_fault d s =
    let types = typed d s in
    has_no_fault d [] types.0 (well_typed_is_found d [] types.0 types.1) (no_cycle (mention_graph d) (mentions_back d s))
