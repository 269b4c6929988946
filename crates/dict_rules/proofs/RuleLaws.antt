-- The tests of the rules of paths and limits say what the rules say in their own words.
use Rattle.std.proofs.Common.{◌≡◌, ◌⊎◌, inl, inr, ℕ, Bool, true, false, not, ◌&&◌, List, Option, Some, None, refl, sym, ap, subst, ◌∙◌}
use Rattle.std.specs.Prelude.{IsTrue, is_none, is_some}
use Rattle.std.specs.Bool.{Decides}
use Rattle.std.proofs.lemmas.Bool.Decides.{Decides-and, Decides-like, Decides-not, Decides-or}
use Rattle.fact_paths.specs.declared.fact_path.FactPath.{FactPath}
use Rattle.fact_paths.specs.declared.fact_path.FactPath.TheVariants as facts
use Rattle.fact_paths.specs.declared.use_path.UsePath.{UsePath}
use Rattle.fact_paths.specs.declared.use_path.UsePath.TheVariants as uses
use Rattle.dict_source.specs.Facts.{Fact, Stated, writable_list, list_of, item_of}
use Rattle.dict_source.specs.Dictionary.{Dictionary, is_collection}
use Rattle.dict_source.specs.Finding.{fact_at}
use Rattle.dict_source.specs.Targets.{find_global, first_target, targets}
use Rattle.dict_source.specs.declared.targets.Targets.{Targets}
use Rattle.dict_rules.specs.Uses.{Condition, UseAt, base_of, goes_through_members, reads_collection}
use Rattle.dict_rules.specs.BadPath.{HasBadBase, IsBadPath, IsGlobal, is_bad_base, is_bad_path, is_bad_stated, is_bad_use}
use Rattle.dict_rules.specs.NoCollection.{HasNoCollection, IsMisread, IsWrittenList, LacksOwnList, LacksStatedList, goes_through_item, is_item, is_list, is_misread, is_other, is_other_at, is_written_list, lacks_base, lacks_collection, lacks_own_list, lacks_stated_list, names_list, path_lacks_list, use_lacks_list}
use Rattle.dict_rules.specs.UnknownPath.{IsUnknown, LacksTarget, NamesNoFact, has_unknown_path, is_judged, is_second_judged, is_unknown_path, is_unknown_use, lacks_target}
use Rattle.dict_rules.specs.WrongPlace.{HasWrongPlace, IsMisplaced, has_wrong_place, is_displaced, is_in_place, is_member_path, is_misplaced}
use Rattle.dict_rules.proofs.UseLaws.{Decides-use}

-- ---- options

none_decides : {A : Type 0} (o : Option A) → Decides (is_none o) (o ≡ None)
none_decides None = ((λ e. refl), (λ h. refl))
none_decides (Some x) = ((λ e. absurd cc), (λ h. absurd cc))

some_decides : {A : Type 0} (o : Option A) → Decides (is_some o) ((x : A) × (o ≡ Some x))
some_decides None = ((λ e. absurd cc), (λ h. let k = h.1 in absurd cc))
some_decides (Some x) = ((λ e. (x, refl)), (λ h. refl))

itself : (b : Bool) → Decides b (IsTrue b)
itself b = ((λ e. e), (λ e. e))

-- ---- paths out of the grammar

is_no_global : (path : Option UsePath) → ¬ IsGlobal path → is_bad_base path ≡ true
is_no_global None k = refl
is_no_global (Some (uses.Global n)) k = absurd (k (n, refl))
is_no_global (Some _) k = refl

base_decides : (path : Option UsePath) → Decides (is_bad_base path) (¬ IsGlobal path)
base_decides path = ((λ e h. let k : true ≡ false = sym e ∙ ap is_bad_base h.1 in cc), is_no_global path)

bad_stated_decides : (s : Stated) → Decides (is_bad_stated s) (HasBadBase s)
bad_stated_decides (list_of u) = base_decides u.path
bad_stated_decides (item_of u) = base_decides u.path
bad_stated_decides _ = ((λ e. absurd cc), (λ h. absurd h))

pub bad_path_decides : (d : Dictionary) (n : ℕ) (f : Fact) → Decides (is_bad_path d n f) (IsBadPath d n f)
bad_path_decides d n f =
    Decides-or (is_none f.path) _ (none_decides f.path)
    (Decides-or (is_bad_stated f.stated) _ (bad_stated_decides f.stated) (Decides-use is_bad_use (λ u. u.used.path ≡ None) (λ u. none_decides u.used.path) d n f))

-- ---- collections that aren't there

is_writable : (s : Stated) → is_collection s ≡ true → s ≡ writable_list
is_writable writable_list e = refl
is_writable _ e = absurd cc

written_at : (d : Dictionary) (c : List ℕ) (t : ℕ) (o : Option Fact) → find_global d c ≡ Some t → fact_at d.facts t ≡ o → is_written_list o ≡ true → IsWrittenList d c
written_at d c t None e k h = absurd cc
written_at d c t (Some g) e k h = (t, g, e, k, is_writable g.stated h)

written_by : (d : Dictionary) (c : List ℕ) (o : Option ℕ) → find_global d c ≡ o → names_list d o ≡ true → IsWrittenList d c
written_by d c None e h = absurd cc
written_by d c (Some t) e h = written_at d c t (fact_at d.facts t) e refl h

is_named : (d : Dictionary) (c : List ℕ) → IsWrittenList d c → names_list d (find_global d c) ≡ true
is_named d c h = ap (names_list d) h.2 ∙ ap is_written_list h.3 ∙ ap is_collection h.4

no_list_decides : (d : Dictionary) (c : List ℕ) → Decides (not (names_list d (find_global d c))) (¬ IsWrittenList d c)
no_list_decides d c = Decides-not (names_list d (find_global d c)) (written_by d c (find_global d c) refl, is_named d c)

own_decides : (d : Dictionary) (path : Option FactPath) → Decides (lacks_own_list d path) (LacksOwnList d path)
own_decides d None = ((λ e. absurd cc), (λ h. let k = h.2 in absurd cc))
own_decides d (Some (facts.Global n)) = ((λ e. absurd cc), (λ h. let k = h.2 in absurd cc))
own_decides d (Some (facts.Member c n)) =
    Decides-like (not (names_list d (find_global d c))) (λ k. (c, n, refl, k)) (λ h. let k = h.2 in let same : h.0 ≡ c = cc in subst (λ (x : List ℕ). ¬ IsWrittenList d x) same h.3) (no_list_decides d c)

abbrev LacksBase : Dictionary → Option UsePath → Type 0
LacksBase d path = (c : List ℕ) × (path ≡ Some (uses.Global c)) × ¬ IsWrittenList d c

lacks_base_at : (d : Dictionary) (path : Option UsePath) → LacksBase d path → lacks_base d path ≡ true
lacks_base_at d path h = ap (lacks_base d) h.1 ∙ (no_list_decides d h.0).1 h.2

lacks_base_is : (d : Dictionary) (path : Option UsePath) → lacks_base d path ≡ true → LacksBase d path
lacks_base_is d None e = absurd cc
lacks_base_is d (Some (uses.Global c)) e = (c, refl, (no_list_decides d c).0 e)
lacks_base_is d (Some _) e = absurd cc

lacks_stated_at : (d : Dictionary) (s : Stated) → LacksStatedList d s → lacks_stated_list d s ≡ true
lacks_stated_at d s h =
    let base = lacks_base_at d h.0.path (h.1, h.3, h.4) in
    elim h.2 [
      | inl e ↦ ap (lacks_stated_list d) e ∙ base
      | inr e ↦ ap (lacks_stated_list d) e ∙ base
    ]

lacks_stated_is : (d : Dictionary) (s : Stated) → lacks_stated_list d s ≡ true → LacksStatedList d s
lacks_stated_is d (list_of u) e = let b = lacks_base_is d u.path e in (u, b.0, inl refl, b.1, b.2)
lacks_stated_is d (item_of u) e = let b = lacks_base_is d u.path e in (u, b.0, inr refl, b.1, b.2)
lacks_stated_is d _ e = absurd cc

-- the fact with the number is of another kind
abbrev IsOther : (Stated → Bool) → Dictionary → Option ℕ → Type 0
IsOther kind d o = (t : ℕ) × (g : Fact) × (o ≡ Some t) × (fact_at d.facts t ≡ Some g) × ¬ IsTrue (kind g.stated)

other_fact : (kind : Stated → Bool) (d : Dictionary) (t : ℕ) (o : Option Fact) → fact_at d.facts t ≡ o → is_other kind o ≡ true → IsOther kind d (Some t)
other_fact kind d t None e h = absurd cc
other_fact kind d t (Some g) e h = (t, g, refl, e, (Decides-not (kind g.stated) (itself (kind g.stated))).0 h)

other_is : (kind : Stated → Bool) (d : Dictionary) (o : Option ℕ) → is_other_at kind d o ≡ true → IsOther kind d o
other_is kind d None h = absurd cc
other_is kind d (Some t) h = other_fact kind d t (fact_at d.facts t) refl h

other_decides : (kind : Stated → Bool) (d : Dictionary) (o : Option ℕ) → Decides (is_other_at kind d o) (IsOther kind d o)
other_decides kind d o = (other_is kind d o, (λ h. ap (is_other_at kind d) h.2 ∙ ap (is_other kind) h.3 ∙ (Decides-not (kind h.1.stated) (itself (kind h.1.stated))).1 h.4))

abbrev Misread : Dictionary → ℕ → UseAt → UsePath → Type 0
Misread d n u path =
    (IsTrue (reads_collection u.use_op) × IsOther is_list d (first_target d n (base_of u.condition) path))
    ⊎ (IsTrue (goes_through_item path) × IsOther is_item d (first_target d n (base_of u.condition) path))

misread_to : (d : Dictionary) (n : ℕ) (u : UseAt) (path : UsePath) → u.used.path ≡ Some path → Misread d n u path → IsMisread d n u
misread_to d n u path e (inl (r, (t, g, f, a, k))) = (path, g, (e, t, f, a), inl (r, k))
misread_to d n u path e (inr (r, (t, g, f, a, k))) = (path, g, (e, t, f, a), inr (r, k))

misread_from : (d : Dictionary) (n : ℕ) (u : UseAt) (path : UsePath) → u.used.path ≡ Some path → IsMisread d n u → Misread d n u path
misread_from d n u path e (p, g, (e', t, f, a), k) =
    let same : p ≡ path = cc in
    subst (Misread d n u) same (elim k [
      | inl h ↦ inl (h.0, (t, g, f, a, h.1))
      | inr h ↦ inr (h.0, (t, g, f, a, h.1))
    ])

misread_by : (d : Dictionary) (n : ℕ) (u : UseAt) (o : Option UsePath) → u.used.path ≡ o → Decides (path_lacks_list d n u.use_op u.condition o) (IsMisread d n u)
misread_by d n u None e = ((λ h. absurd cc), (λ h. let k = h.2.0 in absurd cc))
misread_by d n u (Some path) e =
    let first = first_target d n (base_of u.condition) path in
    Decides-like (is_misread d u.use_op path first) (misread_to d n u path e) (misread_from d n u path e)
    (Decides-or (reads_collection u.use_op && is_other_at is_list d first) (goes_through_item path && is_other_at is_item d first)
    (Decides-and (reads_collection u.use_op) (is_other_at is_list d first) (itself (reads_collection u.use_op)) (other_decides is_list d first))
    (Decides-and (goes_through_item path) (is_other_at is_item d first) (itself (goes_through_item path)) (other_decides is_item d first)))

pub no_collection_decides : (d : Dictionary) (n : ℕ) (f : Fact) → Decides (lacks_collection d n f) (HasNoCollection d n f)
no_collection_decides d n f =
    Decides-or (lacks_own_list d f.path) _ (own_decides d f.path)
    (Decides-or (lacks_stated_list d f.stated) _ (lacks_stated_is d f.stated, lacks_stated_at d f.stated) (Decides-use (use_lacks_list d n) (IsMisread d n) (λ u. misread_by d n u u.used.path refl) d n f))

-- ---- paths that name no fact

target_decides : (d : Dictionary) (path : UsePath) (c : Condition) (t : Targets) → Decides (lacks_target d path c t) (LacksTarget d path c t)
target_decides d path c t =
    Decides-or (is_judged path c && is_none t.first) (is_second_judged d path t.first && is_none t.second)
    (Decides-and (is_judged path c) (is_none t.first) (itself (is_judged path c)) (none_decides t.first))
    (Decides-and (is_second_judged d path t.first) (is_none t.second) (itself (is_second_judged d path t.first)) (none_decides t.second))

abbrev Unknown : Dictionary → ℕ → UseAt → UsePath → Type 0
Unknown d n u path = IsTrue (is_in_place d n u.use_op u.condition path) × LacksTarget d path u.condition (targets d n (base_of u.condition) path)

-- what is said of a use's path
of_path : (u : UseAt) (path : UsePath) (P : UsePath → Type 0) → u.used.path ≡ Some path → ((p : UsePath) × (u.used.path ≡ Some p) × P p) → P path
of_path u path P e h = let k = h.1 in let same : h.0 ≡ path = cc in subst P same h.2

unknown_by : (d : Dictionary) (n : ℕ) (u : UseAt) (o : Option UsePath) → u.used.path ≡ o → Decides (is_unknown_path d n u.use_op u.condition o) (IsUnknown d n u)
unknown_by d n u None e = ((λ h. absurd cc), (λ h. let k = h.1 in absurd cc))
unknown_by d n u (Some path) e =
    let ts = targets d n (base_of u.condition) path in
    Decides-like (is_unknown_path d n u.use_op u.condition (Some path)) (λ h. (path, e, h.0, h.1)) (λ h. of_path u path (Unknown d n u) e (h.0, h.1, (h.2, h.3)))
    (Decides-and (is_in_place d n u.use_op u.condition path) (lacks_target d path u.condition ts) (itself (is_in_place d n u.use_op u.condition path)) (target_decides d path u.condition ts))

pub unknown_path_decides : (d : Dictionary) (n : ℕ) (f : Fact) → Decides (has_unknown_path d n f) (NamesNoFact d n f)
unknown_path_decides d n f = Decides-use (is_unknown_use d n) (IsUnknown d n) (λ u. unknown_by d n u u.used.path refl) d n f

-- ---- what is out of its place

abbrev Displaced : Dictionary → ℕ → UseAt → UsePath → Type 0
Displaced d n u path = ¬ IsTrue (is_in_place d n u.use_op u.condition path)

displaced_by : (d : Dictionary) (n : ℕ) (u : UseAt) (o : Option UsePath) → u.used.path ≡ o → Decides (is_displaced d n u.use_op u.condition o) ((path : UsePath) × (u.used.path ≡ Some path) × Displaced d n u path)
displaced_by d n u None e = ((λ h. absurd cc), (λ h. let k = h.1 in absurd cc))
displaced_by d n u (Some path) e =
    Decides-like (is_displaced d n u.use_op u.condition (Some path)) (λ h. (path, e, h)) (of_path u path (Displaced d n u) e) (Decides-not (is_in_place d n u.use_op u.condition path) (itself (is_in_place d n u.use_op u.condition path)))

misplaced_decides : (d : Dictionary) (n : ℕ) (u : UseAt) → Decides (is_misplaced d n u.use_op u.condition u.used) (IsMisplaced d n u)
misplaced_decides d n u =
    Decides-or (goes_through_members u.use_op && is_some u.condition) (is_displaced d n u.use_op u.condition u.used.path)
    (Decides-and (goes_through_members u.use_op) (is_some u.condition) (itself (goes_through_members u.use_op)) (some_decides u.condition))
    (displaced_by d n u u.used.path refl)

member_decides : (path : Option FactPath) → Decides (is_member_path path) ((c m : List ℕ) × (path ≡ Some (facts.Member c m)))
member_decides None = ((λ e. absurd cc), (λ h. let k = h.2 in absurd cc))
member_decides (Some (facts.Global n)) = ((λ e. absurd cc), (λ h. let k = h.2 in absurd cc))
member_decides (Some (facts.Member c m)) = ((λ e. (c, m, refl)), (λ h. refl))

pub wrong_place_decides : (d : Dictionary) (n : ℕ) (f : Fact) → Decides (has_wrong_place d n f) (HasWrongPlace d n f)
wrong_place_decides d n f =
    Decides-or (is_list f.stated && is_member_path f.path) _ (Decides-and (is_list f.stated) (is_member_path f.path) (itself (is_list f.stated)) (member_decides f.path))
    (Decides-use (is_misplaced d n) (IsMisplaced d n) (misplaced_decides d n) d n f)
