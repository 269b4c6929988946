-- Two answers under which the slots that feed a slot keep their results: plain evaluation agrees on all that the slot's fact reads.
use Rattle.std.proofs.Common.{◌≡◌, ℕ, Bool, true, false, nat_eq, IsTrue, List, Option, Some, None, refl, sym, ap, subst, ◌∙◌, unwrap_or}
use Rattle.std.specs.Prelude.{option_and_then}
use Rattle.std.proofs.lemmas.Bool.{eq-eqb, eqb-true}
use Rattle.fact_paths.specs.declared.use_path.UsePath.{UsePath}
use Rattle.fact_paths.specs.declared.use_path.UsePath.TheVariants.{Global, Sibling, Inner, Each, Through, SiblingThrough}
use Rattle.fact_values.specs.declared.fact_type.FactType.{FactType}
use Rattle.fact_values.specs.declared.fact_type.FactType.TheVariants.{Collection, Item}
use Rattle.fact_values.specs.declared.slot.Slot.{Slot}
use Rattle.dict_source.specs.declared.mentions.Mention.{Mention}
use Rattle.dict_source.specs.Facts.{Fact}
use Rattle.dict_source.specs.Finding.{fact_at}
use Rattle.dict_source.specs.Mentions.{is_same, mention_of, use_mentions}
use Rattle.dict_source.specs.Targets.{collection_at, find_global, find_member, first_target, global_at, item_base_at, list_base_at, second_target, targets}
use Rattle.node_types.specs.StatedTypes.{base_number}
use Rattle.three_state.specs.declared.res.Res.{Res}
use Rattle.three_state.specs.declared.res.Res.TheVariants.{Incomplete}
use Rattle.three_state.specs.Results.{members_of}
use Rattle.evaluation.specs.Agreement.{IsIn}
use Rattle.evaluation.specs.Mentioned.{AllOf}
use Rattle.evaluation.specs.Typed.{IsResOfType}
use Rattle.evaluation.proofs.Mentions.{all-left, all-right}
use Rattle.answers.specs.Answered.{Answered}
use Rattle.common_lemmas.proofs.Options.{nothing}
use Rattle.dict_meaning.specs.Accepted.{Accepted, IsAccepted}
use Rattle.dict_meaning.specs.Feeds.{speaks_of}
use Rattle.dict_meaning.specs.Fits.{AnswersFit, domains}
use Rattle.dict_meaning.specs.Homes.{home}
use Rattle.dict_meaning.specs.Plain.{plain}
use Rattle.dict_meaning.specs.Dependencies.{EvalPosition}
use Rattle.evaluation.specs.Results.{result_at, slot}
use Rattle.dict_meaning.specs.Slots.{is_member, stands, stands_at}
use Rattle.dict_meaning.proofs.TargetHomes.{base_named, global_there, member_home, member_there}
use Rattle.dict_meaning.proofs.MemberLaws.{member_stands, named_by_item, named_by_list, zero_is_none}
use Rattle.dict_meaning.proofs.PlainLaws.{standing_have_results}
use Rattle.dict_meaning.proofs.ReadAgreement.{AgreeOn, AgreeUnder, IsSameAt, first_member, listed_in, names}
use Rattle.dict_meaning.proofs.ReadTypes.{item_target, list_target, type_of_target}
use Rattle.dict_meaning.proofs.SlotLaws.{stands_where}
use Rattle.dict_meaning.proofs.TypedResultLaws.{target_typed}

-- ---- tests of members

-- a mention of any member speaks of each slot of the fact, and one of the same member of that with the slot's own
any_speaks : (n m : ℕ) (s : Slot) → IsTrue (speaks_of (slot n m) s (record { fact = n; same = false }))
any_speaks n m s = rw (eq-eqb n n refl) refl

same_speaks : (n m : ℕ) (s : Slot) → m ≡ s.member → IsTrue (speaks_of (slot n m) s (record { fact = n; same = true }))
same_speaks n m s e = rw (eq-eqb n n refl, eq-eqb m s.member e) refl

-- what stands in a home that isn't global, at 0
pub at_zero : (a : Answered) (h : ℕ) → nat_eq h 0 ≡ false → is_member a h 0 ≡ false → stands_at a h 0 ≡ false
at_zero a h e i = rw e i

pub at_once : (a : Answered) (h : ℕ) → nat_eq h 0 ≡ true → IsTrue (stands_at a h 0)
at_once a h e = rw e refl

-- ---- a slot that stands in both

-- a slot that stands in both has one result
abbrev pub Stays : Accepted → Answered → Answered → Slot → Type 0
Stays d a b t = IsTrue (stands d.tree a t) → IsTrue (stands d.tree b t) → plain d a t ≡ plain d b t

-- so has each slot of which the mention speaks
abbrev pub StaysBy : Accepted → Answered → Answered → Slot → Mention → Type 0
StaysBy d a b s m = (t : Slot) → IsTrue (speaks_of t s m) → Stays d a b t

abbrev pub StandsInBoth : Answered → Answered → ℕ → ℕ → Type 0
StandsInBoth a b h m = IsTrue (stands_at a h m) × IsTrue (stands_at b h m)

-- the places that are reached: the condition's member is one of the condition's collection
pub record IsReached (d : Accepted) (a b : Answered) (s : Slot) (at : EvalPosition) : Type 0 where
  pub own : at.own ≡ s.member
  pub inner : (c : List ℕ) → global_at d.tree at.base ≡ Some c → StandsInBoth a b (base_number d.tree (Some c)) at.inner

module _ (checks : List (List ℕ)) (d : Accepted) (accepted : IsAccepted checks d) (a b : Answered) (before : AnswersFit d.tree a) (after : AnswersFit d.tree b) (s : Slot) (own : StandsInBoth a b (home d.tree s.fact) s.member) where
  abbrev SameAt : Option ℕ → ℕ → Type 0
  SameAt = IsSameAt (plain d a) (plain d b)

  abbrev M : Mention → Type 0
  M = StaysBy d a b s

  -- ---- one target

  there : (n m : ℕ) (f : Fact) → fact_at d.tree.facts n ≡ Some f → Stays d a b (slot n m) → StandsInBoth a b (home d.tree n) m → SameAt (Some n) m
  there n m f e stays i =
      ap (λ r. unwrap_or r Incomplete) (stays (stands_where d.tree a (slot n m) f e ∙ i.0) (stands_where d.tree b (slot n m) f e ∙ i.1))

  missing : (c : Answered) (n m : ℕ) (f : Fact) → fact_at d.tree.facts n ≡ Some f → stands_at c (home d.tree n) m ≡ false → plain d c (slot n m) ≡ None
  missing c n m f e out = nothing (plain d c (slot n m)) (standing_have_results d c (slot n m) ∙ stands_where d.tree c (slot n m) f e ∙ out)

  -- at 0, where the fact's slots stand once or have members
  once : (n : ℕ) (f : Fact) → fact_at d.tree.facts n ≡ Some f → (nat_eq (home d.tree n) 0 ≡ true → Stays d a b (slot n 0)) → SameAt (Some n) 0
  once n f e stays = at (nat_eq (home d.tree n) 0) refl
    where
      at : (global : Bool) → nat_eq (home d.tree n) 0 ≡ global → SameAt (Some n) 0
      at true g = there n 0 f e (stays g) (at_once a (home d.tree n) g, at_once b (home d.tree n) g)
      at false g =
          ap (λ r. unwrap_or r Incomplete)
          (missing a n 0 f e (at_zero a (home d.tree n) g (zero_is_none d.tree a before (home d.tree n)))
          ∙ sym (missing b n 0 f e (at_zero b (home d.tree n) g (zero_is_none d.tree b after (home d.tree n)))))

  any_once : (n : ℕ) (f : Fact) → fact_at d.tree.facts n ≡ Some f → M (record { fact = n; same = false }) → SameAt (Some n) 0
  any_once n f e h = once n f e (λ g. h (slot n 0) (any_speaks n 0 s))

  any_there : (n m : ℕ) (f : Fact) → fact_at d.tree.facts n ≡ Some f → M (record { fact = n; same = false }) → StandsInBoth a b (home d.tree n) m → SameAt (Some n) m
  any_there n m f e h i = there n m f e (h (slot n m) (any_speaks n m s)) i

  -- ---- first targets

  of_global : (name : List ℕ) (n : ℕ) → find_global d.tree name ≡ Some n → M (record { fact = n; same = false }) → SameAt (Some n) 0
  of_global name n e h = let f = global_there d.tree name n e in any_once n f.0 f.1 h

  -- the slot's own member is 0 where it stands once
  own_zero : nat_eq (home d.tree s.fact) 0 ≡ true → 0 ≡ s.member
  own_zero g = sym (eqb-true s.member 0 (let i : IsTrue (stands_at a (home d.tree s.fact) s.member) = own.0 in rw g at i))

  of_sibling : (name : List ℕ) (n m : ℕ) → find_member d.tree name (collection_at d.tree s.fact) ≡ Some n → M (record { fact = n; same = true }) → m ≡ s.member → SameAt (Some n) 0 × SameAt (Some n) m
  of_sibling name n m e h own_is =
      let f = member_there d.tree name (collection_at d.tree s.fact) n e in
      let same : home d.tree n ≡ home d.tree s.fact = member_home d.tree name (collection_at d.tree s.fact) n e in
      let stays : (k : ℕ) → k ≡ s.member → Stays d a b (slot n k) = λ k i. h (slot n k) (same_speaks n k s i) in
      let here : StandsInBoth a b (home d.tree n) m = rw (same, own_is) own in (
        once n f.0 f.1 (λ g. stays 0 (own_zero (ap (λ h. nat_eq h 0) (sym same) ∙ g))),
        there n m f.0 f.1 (stays m own_is) here,
      )

  of_inner : (name : List ℕ) (n : ℕ) (at : EvalPosition) → IsReached d a b s at → find_member d.tree name (global_at d.tree at.base) ≡ Some n → M (record { fact = n; same = false }) → SameAt (Some n) 0 × SameAt (Some n) at.inner
  of_inner name n at j e h =
      let f = member_there d.tree name (global_at d.tree at.base) n e in
      (any_once n f.0 f.1 h, any_there n at.inner f.0 f.1 h (inner_stands (global_at d.tree at.base) refl e))
    where
      inner_stands : (base : Option (List ℕ)) → global_at d.tree at.base ≡ base → find_member d.tree name base ≡ Some n → StandsInBoth a b (home d.tree n) at.inner
      inner_stands None is e = absurd (let none : None ≡ Some n = e in cc)
      inner_stands (Some c) is e = rw (member_home d.tree name (Some c) n e) (j.inner c is)

  first_same : (at : EvalPosition) → IsReached d a b s at → (path : UsePath) (o : Option ℕ) → first_target d.tree s.fact at.base path ≡ o → AllOf M (mention_of (is_same path) o) → SameAt o 0 × SameAt o (first_member at path)
  first_same at j path None e h = (refl, refl)
  first_same at j (Global n) (Some t) e h = let same = of_global n t e h.0 in (same, same)
  first_same at j (Sibling n) (Some t) e h = of_sibling n t at.own e h.0 j.own
  first_same at j (Inner n) (Some t) e h = of_inner n t at j e h.0
  first_same at j (Each n m) (Some t) e h = let same = of_global n t e h.0 in (same, same)
  first_same at j (Through n m) (Some t) e h = let same = of_global n t e h.0 in (same, same)
  first_same at j (SiblingThrough n m) (Some t) e h = of_sibling n t at.own e h.0 j.own

  -- ---- the members that the first target names

  -- those that each result of a type names stand in this home
  named_as : (t : FactType) (h : ℕ) → ((c : Answered) (r : Res) → IsResOfType (domains d.tree c) r t → (m : ℕ) → IsIn (names r) m → IsTrue (is_member c h m))
      → (n k : ℕ) → type_of_target d.tree (Some n) ≡ Some t → SameAt (Some n) k → (m : ℕ) → IsIn (names (result_at (plain d a) (Some n) k)) m → StandsInBoth a b h m
  named_as t h members n k e same m i =
      let i' : IsIn (names (result_at (plain d b) (Some n) k)) m = subst (λ (r : Res). IsIn (names r) m) same i in (
        member_stands d.tree a before h m (members a (result_at (plain d a) (Some n) k) (target_typed checks d accepted a before (Some n) k t e) m i),
        member_stands d.tree b after h m (members b (result_at (plain d b) (Some n) k) (target_typed checks d accepted b after (Some n) k t e) m i'),
      )

  by_list : (n k : ℕ) → SameAt (Some n) k → (m : ℕ) → IsIn (names (result_at (plain d a) (Some n) k)) m → (c : List ℕ) → list_base_at d.tree n ≡ Some c → StandsInBoth a b (base_number d.tree (Some c)) m
  by_list n k same m i c e =
      let h = base_number d.tree (Some c) in
      named_as (Collection h) h (λ o r. named_by_list d.tree o r h) n k (list_target d.tree (Some n) c e) same m i

  by_item : (n k : ℕ) → SameAt (Some n) k → (m : ℕ) → IsIn (names (result_at (plain d a) (Some n) k)) m → (c : List ℕ) → item_base_at d.tree n ≡ Some c → StandsInBoth a b (base_number d.tree (Some c)) m
  by_item n k same m i c e =
      let h = base_number d.tree (Some c) in
      named_as (Item h) h (λ o r. named_by_item d.tree o r h) n k (item_target d.tree (Some n) c e) same m i

  -- ---- second targets

  of_members : (name : List ℕ) (base : Option (List ℕ)) (n m : ℕ) → find_member d.tree name base ≡ Some n → M (record { fact = n; same = false }) → ((c : List ℕ) → base ≡ Some c → StandsInBoth a b (base_number d.tree (Some c)) m) → SameAt (Some n) m
  of_members name None n m e h i = absurd (let none : None ≡ Some n = e in cc)
  of_members name (Some c) n m e h i =
      let f = member_there d.tree name (Some c) n e in
      any_there n m f.0 f.1 h (rw (member_home d.tree name (Some c) n e) (i c refl))

  second_same : (path : UsePath) (first o : Option ℕ) → second_target d.tree first path ≡ o → AllOf M (mention_of false o) → (k : ℕ) → SameAt first k → (m : ℕ) → IsIn (names (result_at (plain d a) first k)) m → SameAt o m
  second_same path first None e h k same m i = refl
  second_same path None (Some t) e h k same m i = absurd (cc)
  second_same (Global n) (Some f) (Some t) e h k same m i = absurd (let none : None ≡ Some t = e in cc)
  second_same (Sibling n) (Some f) (Some t) e h k same m i = absurd (let none : None ≡ Some t = e in cc)
  second_same (Inner n) (Some f) (Some t) e h k same m i = absurd (let none : None ≡ Some t = e in cc)
  second_same (Each n x) (Some f) (Some t) e h k same m i = of_members x (list_base_at d.tree f) t m e h.0 (by_list f k same m i)
  second_same (Through n x) (Some f) (Some t) e h k same m i = of_members x (item_base_at d.tree f) t m e h.0 (by_item f k same m i)
  second_same (SiblingThrough n x) (Some f) (Some t) e h k same m i = of_members x (item_base_at d.tree f) t m e h.0 (by_item f k same m i)

  -- ---- all that is read

  -- a member of the condition's collection stands
  enters : (o : Option ℕ) (m : ℕ) → SameAt o 0 → IsIn (members_of (result_at (plain d a) o 0)) m → (c : List ℕ) → global_at d.tree (base_number d.tree (option_and_then (list_base_at d.tree) o)) ≡ Some c → StandsInBoth a b (base_number d.tree (Some c)) m
  enters None m same i c e = absurd (cc)
  enters (Some n) m same i c e = by_list n 0 same m (listed_in (result_at (plain d a) (Some n) 0) m i) c (base_named d.tree (list_base_at d.tree n) c e)

  agree_on : (at : EvalPosition) → IsReached d a b s at → (path : UsePath) → AllOf M (use_mentions d.tree s.fact at.base (Some path)) → AgreeOn (plain d a) (plain d b) (targets d.tree s.fact at.base path) at path
  agree_on at j path h =
      let t = targets d.tree s.fact at.base path in
      let first = first_same at j path t.first refl (all-left M (mention_of (is_same path) t.first) (mention_of false t.second) h) in
      record {
        once = first.0;
        first = first.1;
        second = second_same path t.first t.second refl (all-right M (mention_of (is_same path) t.first) (mention_of false t.second) h);
      }

  pub agree_under : AgreeUnder d.tree s.fact M (IsReached d a b s) (plain d a) (plain d b)
  agree_under = record {
    reads = agree_on;
    enter = λ at j path h m i. record { own = j.own; inner = enters (first_target d.tree s.fact at.base path) m (agree_on at j path h).once i };
  }
