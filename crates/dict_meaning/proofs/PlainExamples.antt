-- Plain evaluation of small dictionaries over answers, by example.
use Rattle.std.proofs.Common.{◌≡◌, ℕ, true, false, List, [], ◌∷◌, Some, None, pos, refl}
use Rattle.std.specs.Prelude.{codes, map as map_list}
use Rattle.fact_paths.specs.Paths.{fact_path_text, use_path_text}
use Rattle.fact_paths.specs.declared.fact_path.FactPath.TheVariants as facts
use Rattle.fact_paths.specs.declared.use_path.UsePath.{UsePath}
use Rattle.fact_paths.specs.declared.use_path.UsePath.TheVariants as uses
use Rattle.fact_values.specs.declared.fact_type.FactType.{FactType}
use Rattle.fact_values.specs.declared.fact_type.FactType.TheVariants as types
use Rattle.fact_values.specs.declared.value.Value.{Value}
use Rattle.fact_values.specs.declared.value.Value.TheVariants.{Boolean, Dollar, Int, Item}
use Rattle.dict_source.specs.declared.operators.ManyOp.TheVariants.{Add, All}
use Rattle.dict_source.specs.declared.operators.ReadOp.{ReadOp}
use Rattle.dict_source.specs.declared.operators.ReadOp.TheVariants.{CollectionSum, Dependency, IsComplete}
use Rattle.dict_source.specs.declared.operators.PickOp.TheVariants.{Filter, Find}
use Rattle.dict_source.specs.Tree.{Source, Use, literal, literal_dollar, literal_int, many, no_trees, pick, read, switch, tree, a_case, no_cases}
use Rattle.dict_source.specs.Facts.{Fact, item_of, list_of, scalar, writable_list}
use Rattle.three_state.specs.declared.res.Res.TheVariants.{Complete, Placeholder, Incomplete}
use Rattle.answers.specs.Answered.{Answered, Entry}
use Rattle.answers.proofs.SmallMaps.{map_at, get_at}
use Rattle.dict_meaning.specs.Accepted.{Accepted}
use Rattle.dict_meaning.specs.Extension.{extends}
use Rattle.dict_meaning.specs.Final.{is_final}
use Rattle.dict_meaning.specs.Plain.{plain, table}
use Rattle.evaluation.specs.Results.{slot}
use Rattle.dict_meaning.specs.Slots.{standing}
use Rattle.dict_meaning.specs.Steady.{steady_by_rank}
use Rattle.dict_meaning.specs.Touched.{touched}

-- ---- facts

abbrev written : List ℕ → FactType → Fact
written name t = record {
  path_text = fact_path_text (facts.Global name);
  path = Some (facts.Global name);
  stated = scalar t;
  limits = [];
  main = None;
  conditional = None;
  placeholder = None;
  description = None;
}

abbrev derived : List ℕ → FactType → Source → Fact
derived name t main = record (written name t) { main = Some main }

abbrev reads : ReadOp → List ℕ → Source
reads op name = read (op, record { text = use_path_text (uses.Global name); path = Some (uses.Global name) })

abbrev depends : List ℕ → Source
depends name = reads Dependency name

abbrev ints : List ℕ → Source
ints text = literal (literal_int text)

-- ---- dictionaries

abbrev dictionary : List Fact → List ℕ → Accepted
dictionary fs ranks = record { tree = record { enums = []; tables = []; facts = fs }; typed = record { facts = []; limits = [] }; ranks = ranks }

-- ---- answers

abbrev Values : Type 0
Values = List (ℕ × Value)

abbrev entry_of : Values → Entry
entry_of answers = record { values = map_at answers; overrides = map_at [] }

-- of facts that stand once
abbrev given : Values → Answered
given answers = record { next = 1; lists = map_at []; globals = entry_of answers; members = map_at [] }

-- a collection, with its members and the answers of each
abbrev given_members : ℕ → List ℕ → List (ℕ × Values) → Answered
given_members c ms answers = record { next = 9; lists = map_at ((c, ms) ∷ []); globals = entry_of []; members = map_at (map_list (λ (m : ℕ × Values). (m.0, entry_of m.1)) answers) }

-- ---- two amounts and their sum

abbrev sum : Accepted
sum = dictionary (
    written (codes "a") types.Dollar
    ∷ record (written (codes "b") types.Dollar) { placeholder = Some (literal (literal_dollar (codes "1"))) }
    ∷ derived (codes "s") types.Dollar (many Add (tree (depends (codes "a")) (tree (depends (codes "b")) no_trees)))
    ∷ []
    ) (0 ∷ 0 ∷ 1 ∷ [])

-- the second isn't answered
sum_for_now : plain sum (given ((1, Dollar (pos 500)) ∷ [])) (slot 3 0) ≡ Some (Placeholder (Dollar (pos 600)))
unfolding plain table
sum_for_now = simp get_at

sum_of_both : plain sum (given ((1, Dollar (pos 150)) ∷ (2, Dollar (pos 200)) ∷ [])) (slot 3 0) ≡ Some (Complete (Dollar (pos 350)))
unfolding plain table
sum_of_both = simp get_at

no_such_slot : plain sum (given []) (slot 3 1) ≡ None
unfolding plain table
no_such_slot = refl

-- ---- both p and q; 1 where p, 2 where q; and whether p is answered

abbrev choices : Accepted
choices = dictionary (
    written (codes "p") types.Boolean
    ∷ written (codes "q") types.Boolean
    ∷ derived (codes "r") types.Boolean (many All (tree (depends (codes "p")) (tree (depends (codes "q")) no_trees)))
    ∷ derived (codes "w") types.Int (switch (a_case (depends (codes "p")) (ints (codes "1")) (a_case (depends (codes "q")) (ints (codes "2")) no_cases)))
    ∷ derived (codes "i") types.Boolean (reads IsComplete (codes "p"))
    ∷ []
    ) (0 ∷ 0 ∷ 1 ∷ 1 ∷ 1 ∷ [])

abbrev not_q : Answered
not_q = given ((2, Boolean false) ∷ [])

abbrev p_not_q : Answered
p_not_q = given ((1, Boolean true) ∷ (2, Boolean false) ∷ [])

-- q decides
both_without_q : plain choices not_q (slot 3 0) ≡ Some (Complete (Boolean false))
unfolding plain table
both_without_q = simp get_at

-- the first condition isn't answered
choice_without_p : plain choices not_q (slot 4 0) ≡ Some Incomplete
unfolding plain table
choice_without_p = simp get_at

p_is_asked : plain choices not_q (slot 5 0) ≡ Some (Complete (Boolean false))
unfolding plain table
p_is_asked = simp get_at

-- ---- the change in which p is answered

p_is_answered_then : touched choices not_q p_not_q ≡ slot 1 0 ∷ slot 4 0 ∷ slot 5 0 ∷ []
unfolding plain table standing extends steady_by_rank
p_is_answered_then = simp get_at

both_are_decided : is_final choices not_q (slot 3 0) ≡ true
unfolding plain table steady_by_rank
both_are_decided = simp get_at

-- what asks whether there is an answer isn't final
asking_is_open : is_final choices not_q (slot 5 0) ≡ false
unfolding plain table steady_by_rank
asking_is_open = simp get_at

-- the first answer, and the same once more
first_answer : touched sum (given []) (given ((1, Dollar (pos 500)) ∷ [])) ≡ slot 1 0 ∷ slot 3 0 ∷ []
unfolding plain table standing extends steady_by_rank
first_answer = simp get_at

same_answer : touched sum (given ((1, Dollar (pos 500)) ∷ [])) (given ((1, Dollar (pos 500)) ∷ [])) ≡ []
unfolding plain table standing extends steady_by_rank
same_answer = simp get_at

-- ---- a collection: those of its members that are kept, the first of them, and what they come to

abbrev members_of : List ℕ → FactType → Fact
members_of name t = record (written name t) { path_text = fact_path_text (facts.Member (codes "c") name); path = Some (facts.Member (codes "c") name) }

abbrev used : UsePath → Use
used path = record { text = use_path_text path; path = Some path }

abbrev the_list : Use
the_list = used (uses.Global (codes "c"))

abbrev is_kept : Source
is_kept = read (Dependency, used (uses.Inner (codes "k")))

abbrev members : Accepted
members = dictionary (
    record (written (codes "c") types.Int) { stated = writable_list }
    ∷ members_of (codes "k") types.Boolean
    ∷ members_of (codes "v") types.Int
    ∷ record (derived (codes "l") types.Int (pick Filter the_list is_kept)) { stated = list_of the_list }
    ∷ record (derived (codes "f") types.Int (pick Find the_list is_kept)) { stated = item_of the_list }
    ∷ derived (codes "t") types.Int (read (CollectionSum, used (uses.Each (codes "l") (codes "v"))))
    ∷ derived (codes "g") types.Int (read (Dependency, used (uses.Through (codes "f") (codes "v"))))
    ∷ []
    ) (0 ∷ 0 ∷ 0 ∷ 1 ∷ 1 ∷ 2 ∷ 2 ∷ [])

-- the second isn't answered
first_unknown : plain members (given_members 1 (1 ∷ 2 ∷ 3 ∷ []) ((1, (2, Boolean false) ∷ []) ∷ (2, []) ∷ (3, (2, Boolean true) ∷ []) ∷ [])) (slot 5 0) ≡ Some Incomplete
unfolding plain table
first_unknown = simp get_at

third_is_first : plain members (given_members 1 (1 ∷ 2 ∷ 3 ∷ []) ((1, (2, Boolean false) ∷ []) ∷ (2, (2, Boolean false) ∷ []) ∷ (3, (2, Boolean true) ∷ []) ∷ [])) (slot 5 0) ≡ Some (Complete (Item 3))
unfolding plain table
third_is_first = simp get_at

abbrev one_without_value : Answered
one_without_value = given_members 1 (1 ∷ 2 ∷ []) ((1, (2, Boolean true) ∷ (3, Int (pos 10)) ∷ []) ∷ (2, (2, Boolean true) ∷ []) ∷ [])

abbrev both_with_value : Answered
both_with_value = given_members 1 (1 ∷ 2 ∷ []) ((1, (2, Boolean true) ∷ (3, Int (pos 10)) ∷ []) ∷ (2, (2, Boolean true) ∷ (3, Int (pos 5)) ∷ []) ∷ [])

slots_of_two : standing members.tree both_with_value ≡ slot 1 0 ∷ slot 2 1 ∷ slot 2 2 ∷ slot 3 1 ∷ slot 3 2 ∷ slot 4 0 ∷ slot 5 0 ∷ slot 6 0 ∷ slot 7 0 ∷ []
unfolding standing
slots_of_two = simp get_at

-- the value of the first was final, though any member's value feeds it
second_value : touched members one_without_value both_with_value ≡ slot 3 2 ∷ slot 6 0 ∷ []
unfolding plain table standing extends steady_by_rank
second_value = simp get_at
