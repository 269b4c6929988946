-- The facts of a chain are sound.
use Rattle.std.proofs.Common.{◌≡◌, ℕ, zero, suc, ◌+◌, ◌≤◌, ◌<◌, true, false, ◌&&◌, List, [], ◌∷◌, ◌++◌, length, Some, refl, sym, ap, ◌∙◌, subst, arith}
use Rattle.std.specs.Prelude.{codes, nat_lt}
use Rattle.std.proofs.lemmas.Bool.{lt-ltb}
use Rattle.fact_paths.specs.declared.fact_path.FactPath.TheVariants as paths
use Rattle.fact_paths.specs.declared.use_path.UsePath.TheVariants as uses
use Rattle.fact_values.specs.declared.fact_type.FactType.TheVariants.{Collection, Int}
use Rattle.dict_source.specs.declared.operators.ManyOp.TheVariants.{Add}
use Rattle.dict_source.specs.declared.operators.ReadOp.TheVariants.{CollectionSum, Dependency}
use Rattle.dict_source.specs.Dictionary.{Dictionary}
use Rattle.dict_source.specs.Facts.{Fact, scalar, writable_list}
use Rattle.dict_source.specs.Finding.{fact_at, find_path}
use Rattle.dict_source.specs.View.{use_of}
use Rattle.dict_source.specs.Tree.{Source, Use, literal, literal_int, many, no_trees, read, tree}
use Rattle.node_types.specs.StatedTypes.{base_number}
use Rattle.written_facts.specs.WrittenFacts.{asked, derived, fact_with}
use Rattle.dict_gen.specs.Chain.{chain, chain_facts, one_more, sum_fact, sum_path}
use Rattle.dict_gen.proofs.ChainPlaces.{length_chain, member_at, member_found, sum_at, sum_found}
use Rattle.dict_gen.proofs.Soundness.{AreSound, IsSound}
use Rattle.dict_gen.proofs.SumNames.{sum_name, sum_path_is, sum_use_is}

-- ---- sums with their paths as they are read

abbrev text_use : List ℕ → List ℕ → Use
text_use text name = record { text = text; path = Some (uses.Global name) }

abbrev one_more_than : Use → Source
one_more_than u = many Add (tree (read (Dependency, u)) (tree (literal (literal_int (codes "1"))) no_trees))

abbrev read_sum_of : ℕ → Source
read_sum_of zero = read (CollectionSum, use_of (codes "/c/*/w"))
read_sum_of (suc k) = one_more_than (text_use (sum_path (suc k)) (sum_name (suc k)))

abbrev read_sum : ℕ → Fact
read_sum k = fact_with (sum_path (suc k)) (Some (paths.Global (sum_name (suc k)))) (scalar Int) [] (Some (read_sum_of k))

sum_is : (k : ℕ) → k < 1000 → sum_fact k ≡ read_sum k
sum_is zero few = ap (λ p. fact_with (sum_path 1) p (scalar Int) [] (Some (read (CollectionSum, use_of (codes "/c/*/w"))))) (sum_path_is 1 (omega (arith, few)))
sum_is (suc k) few =
    ap (λ p. fact_with (sum_path (suc (suc k))) p (scalar Int) [] (Some (one_more (sum_path (suc k))))) (sum_path_is (suc (suc k)) (omega (arith, few)))
    ∙ ap (λ p. fact_with (sum_path (suc (suc k))) (Some (paths.Global (sum_name (suc (suc k))))) (scalar Int) [] (Some (one_more_than (record { text = sum_path (suc k); path = p })))) (sum_use_is (suc k) (omega (arith, few)))

-- ---- what the facts read

-- the three facts before the sums
record HasMembers (d : Dictionary) : Type 0 where
  list_found : find_path d.facts (paths.Global (codes "c")) ≡ Some 1
  answer_found : find_path d.facts (paths.Member (codes "c") (codes "v")) ≡ Some 2
  more_found : find_path d.facts (paths.Member (codes "c") (codes "w")) ≡ Some 3
  list : fact_at d.facts 1 ≡ Some (asked (codes "/c") writable_list)
  answer : fact_at d.facts 2 ≡ Some (asked (codes "/c/*/v") (scalar Int))
  more : fact_at d.facts 3 ≡ Some (derived (codes "/c/*/w") (scalar Int) (one_more (codes "../v")))

-- the sum behind k
record HasSum (d : Dictionary) (k : ℕ) : Type 0 where
  found : find_path d.facts (paths.Global (sum_name (suc k))) ≡ Some (4 + k)
  is : fact_at d.facts (4 + k) ≡ Some (read_sum k)

-- ---- each fact is sound

list_sound : (d : Dictionary) → HasMembers d → IsSound d 1 (asked (codes "/c") writable_list)
list_sound d h = record {
  bad_path = refl;
  duplicate = rw h.list_found refl;
  no_collection = refl;
  unknown_path = refl;
  wrong_place = refl;
  unknown_check = refl;
  typed = (Collection (base_number d (Some (codes "c"))), (refl, tt));
  limits = ([], refl);
  mentions = refl;
}

answer_sound : (d : Dictionary) → HasMembers d → IsSound d 2 (asked (codes "/c/*/v") (scalar Int))
answer_sound d h = record {
  bad_path = refl;
  duplicate = rw h.answer_found refl;
  no_collection = rw (h.list_found, h.list) refl;
  unknown_path = refl;
  wrong_place = refl;
  unknown_check = refl;
  typed = (Int, (refl, tt));
  limits = ([], refl);
  mentions = refl;
}

more_sound : (d : Dictionary) → HasMembers d → IsSound d 3 (derived (codes "/c/*/w") (scalar Int) (one_more (codes "../v")))
more_sound d h = record {
  bad_path = refl;
  duplicate = rw h.more_found refl;
  no_collection = rw (h.list_found, h.list) refl;
  unknown_path = rw (h.more, h.answer_found) refl;
  wrong_place = rw h.more refl;
  unknown_check = refl;
  typed = (Int, (refl, ((Int ∷ Int ∷ [], (rw (h.more, h.answer_found, h.answer) refl, (refl, tt)), refl), tt)));
  limits = ([], refl);
  mentions = rw (h.more, h.answer_found) refl;
}

first_sound : (d : Dictionary) → HasMembers d → HasSum d 0 → IsSound d 4 (read_sum 0)
first_sound d h s = record {
  bad_path = refl;
  duplicate = rw s.found refl;
  no_collection = rw (h.list_found, h.list) refl;
  unknown_path = rw (h.list_found, h.list, h.more_found) refl;
  wrong_place = refl;
  unknown_check = refl;
  typed = (Int, (refl, (rw (h.list_found, h.list, h.more_found, h.more) refl, tt)));
  limits = ([], refl);
  mentions = rw (h.list_found, h.list, h.more_found) refl;
}

not_below_itself : (n : ℕ) → nat_lt n n ≡ false
not_below_itself n = grind arith

next_sound : (d : Dictionary) (k : ℕ) → HasSum d k → HasSum d (suc k) → IsSound d (4 + suc k) (read_sum (suc k))
next_sound d k s now = record {
  bad_path = refl;
  duplicate = rw now.found (not_below_itself (4 + suc k));
  no_collection = refl;
  unknown_path = rw s.found refl;
  wrong_place = refl;
  unknown_check = refl;
  typed = (Int, (refl, ((Int ∷ Int ∷ [], (rw (s.found, s.is) refl, (refl, tt)), refl), tt)));
  limits = ([], refl);
  mentions = rw s.found (ap (λ b. b && true) (lt-ltb (4 + k) (4 + suc k) (omega arith)));
}

-- ---- all facts

has_members : (n : ℕ) → HasMembers (chain n)
has_members n = record {
  list_found = member_found n 1 (paths.Global (codes "c")) refl;
  answer_found = member_found n 2 (paths.Member (codes "c") (codes "v")) refl;
  more_found = member_found n 3 (paths.Member (codes "c") (codes "w")) refl;
  list = member_at n 0 (asked (codes "/c") writable_list) refl;
  answer = member_at n 1 (asked (codes "/c/*/v") (scalar Int)) refl;
  more = member_at n 2 (derived (codes "/c/*/w") (scalar Int) (one_more (codes "../v"))) refl;
}

four_on : (k : ℕ) → 4 + k ≡ suc (3 + k)
four_on k = omega arith

has_sum : (n k : ℕ) → n ≤ 1000 → k < n → HasSum (chain n) k
has_sum n k few lt = record {
  found = sum_found n k few lt;
  is = ap (fact_at (chain_facts n)) (four_on k) ∙ sum_at n k lt ∙ ap Some (sum_is k (omega (arith, few, lt)));
}

sum_sound : (n k : ℕ) → n ≤ 1000 → k < n → IsSound (chain n) (4 + k) (sum_fact k)
sum_sound n zero few lt = subst (IsSound (chain n) 4) (sym (sum_is 0 (omega arith))) (first_sound (chain n) (has_members n) (has_sum n 0 few lt))
sum_sound n (suc k) few lt =
    subst (IsSound (chain n) (4 + suc k)) (sym (sum_is (suc k) (omega (arith, few, lt))))
    (next_sound (chain n) k (has_sum n k few (omega (arith, lt))) (has_sum n (suc k) few lt))

-- with one more at the end
sound_last : (d : Dictionary) (n : ℕ) (fs : List Fact) (f : Fact) → AreSound d n fs → IsSound d (n + length fs) f → AreSound d n (fs ++ f ∷ [])
sound_last d n [] f s h = (subst (λ k. IsSound d k f) (omega arith) h, tt)
sound_last d n (g ∷ fs) f s h = (s.0, sound_last d (suc n) fs f s.1 (subst (λ k. IsSound d k f) (omega arith) h))

-- the first facts of a chain are sound in it
first_are_sound : (n k : ℕ) → n ≤ 1000 → k ≤ n → AreSound (chain n) 1 (chain_facts k)
first_are_sound n zero few le = let h = has_members n in (list_sound (chain n) h, (answer_sound (chain n) h, (more_sound (chain n) h, tt)))
first_are_sound n (suc k) few le =
    let count = length_chain k in
    sound_last (chain n) 1 (chain_facts k) (sum_fact k) (first_are_sound n k few (omega (arith, le)))
    (subst (λ i. IsSound (chain n) i (sum_fact k)) (omega (arith, count)) (sum_sound n k few (omega (arith, le))))

pub facts_are_sound : (n : ℕ) → n ≤ 1000 → AreSound (chain n) 1 (chain n).facts
facts_are_sound n few = first_are_sound n n few (omega arith)
