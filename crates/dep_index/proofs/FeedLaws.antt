-- A slot feeds the slots of its fact's readers.
use Rattle.std.proofs.Common.{◌≡◌, suc, Bool, true, false, true≢false, not, List, [], ◌∷◌, refl, sym, ap, ◌∙◌, arith}
use Rattle.std.specs.Prelude.{◌&&◌, ◌||◌, ◌↔◌, IsTrue, nat_eq}
use Rattle.std.specs.Cmp.{both_ways}
use Rattle.std.specs.List.{All, list_any}
use Rattle.std.proofs.lemmas.Bool.{eqb-true, eq-eqb}
use Rattle.common_lemmas.proofs.Numbers.{same_number}
use Rattle.fact_values.specs.declared.slot.Slot.{Slot}
use Rattle.dict_source.specs.Dictionary.{Dictionary as Tree}
use Rattle.dict_meaning.specs.Feeds.{feeds}
use Rattle.dict_meaning.proofs.FeedLaws.{feeds_by_mentions}
use Rattle.dep_index.specs.Laws.{FeedsByReaders, reads}
use Rattle.dep_index.specs.Readers.{all_same, is_mentioned_by, is_reader}
use Rattle.dep_index.specs.declared.readers_of.ReaderOf.{ReaderOf}

-- each reader that is the fact of s says the same of s
read_by : (d : Tree) (t s : Slot) (rs : List ReaderOf) → All (λ (r : ReaderOf). r.same ≡ all_same d t.fact r.fact) rs
    → list_any (reads t s) rs ≡ (list_any (is_reader s.fact) rs && (not (all_same d t.fact s.fact) || nat_eq t.member s.member))
read_by d t s [] same = refl
read_by d t s (r ∷ rs) same = at (is_reader s.fact r) refl (read_by d t s rs (λ k e low. same (suc k) e (omega arith)))
  where
    says : is_reader s.fact r ≡ true → r.same ≡ all_same d t.fact s.fact
    says h = same 0 r (omega arith) ∙ ap (all_same d t.fact) (same_number r.fact s.fact h)

    once : (b rest : Bool) → (b || (rest && b)) ≡ b
    once true rest = refl
    once false true = refl
    once false false = refl

    at : (here : Bool) → is_reader s.fact r ≡ here
        → list_any (reads t s) rs ≡ (list_any (is_reader s.fact) rs && (not (all_same d t.fact s.fact) || nat_eq t.member s.member))
        → ((here && (not r.same || nat_eq t.member s.member)) || list_any (reads t s) rs) ≡ ((here || list_any (is_reader s.fact) rs) && (not (all_same d t.fact s.fact) || nat_eq t.member s.member))
    at true e rest = ap (λ b. (not r.same || nat_eq t.member s.member) || b) rest
        ∙ ap (λ b. (not b || nat_eq t.member s.member) || (list_any (is_reader s.fact) rs && (not (all_same d t.fact s.fact) || nat_eq t.member s.member))) (says e)
        ∙ once (not (all_same d t.fact s.fact) || nat_eq t.member s.member) (list_any (is_reader s.fact) rs)
    at false e rest = rest

-- the rule of feeding, as a test
rule_of_feeding : (some same equal fed : Bool) (p : Type 0) → (IsTrue fed ↔ (IsTrue some × (IsTrue same → p))) → (IsTrue equal ↔ p) → (some && (not same || equal)) ≡ fed
rule_of_feeding some same equal fed p by_rule members = both_ways (some && (not same || equal)) fed (forth some same equal by_rule.1 members.0) (λ h. back some same equal (by_rule.0 h) members.1)
  where
    forth : (some same equal : Bool) → (IsTrue some × (IsTrue same → p) → IsTrue fed) → (IsTrue equal → p) → (some && (not same || equal)) ≡ true → fed ≡ true
    forth true true equal by_rule members h = by_rule (refl, λ _. members h)
    forth true false equal by_rule members h = by_rule (refl, λ e. absurd (true≢false (sym e)))
    forth false same equal by_rule members h = absurd (true≢false (sym h))

    back : (some same equal : Bool) → IsTrue some × (IsTrue same → p) → (p → IsTrue equal) → (some && (not same || equal)) ≡ true
    back true true equal by_rule members = members (by_rule.1 refl)
    back true false equal by_rule members = refl
    back false same equal by_rule members = absurd (true≢false (sym by_rule.0))

pub feeds_by_readers : FeedsByReaders
feeds_by_readers d t s rs are =
    read_by d.tree t s rs are.same
    ∙ ap (λ b. b && (not (all_same d.tree t.fact s.fact) || nat_eq t.member s.member)) (are.mentioning s.fact)
    ∙ rule_of_feeding (is_mentioned_by d.tree t.fact s.fact) (all_same d.tree t.fact s.fact) (nat_eq t.member s.member) (feeds d.tree t s) (t.member ≡ s.member) (feeds_by_mentions d.tree t s) (eqb-true t.member s.member, eq-eqb t.member s.member)
