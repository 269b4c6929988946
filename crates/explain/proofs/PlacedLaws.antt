-- What a slot that stands reads stands too, or is a slot that never stands: at 0 of a fact whose slots are at members.
use Rattle.std.proofs.Common.{◌≡◌, ℕ, Bool, true, false, nat_eq, IsTrue, List, [], ◌∷◌, Option, Some, None, refl, sym, ◌∙◌}
use Rattle.fact_paths.specs.declared.use_path.UsePath.{UsePath}
use Rattle.fact_paths.specs.declared.use_path.UsePath.TheVariants.{Global, Sibling, Inner, Each, Through, SiblingThrough}
use Rattle.fact_values.specs.declared.fact_type.FactType.TheVariants.{Collection, Item}
use Rattle.fact_values.specs.declared.slot.Slot.{Slot}
use Rattle.dict_source.specs.declared.mentions.Mention.{Mention}
use Rattle.dict_source.specs.Facts.{Fact}
use Rattle.dict_source.specs.Finding.{fact_at}
use Rattle.dict_source.specs.Mentions.{found_mentions}
use Rattle.dict_source.specs.Targets.{collection_at, find_global, find_member, first_target, global_at, item_base_at, list_base_at, second_target, targets}
use Rattle.node_types.specs.StatedTypes.{base_number}
use Rattle.evaluation.specs.Agreement.{IsIn}
use Rattle.evaluation.specs.Mentioned.{AllOf}
use Rattle.answers.specs.Answered.{Answered}
use Rattle.common_lemmas.proofs.Options.{nothing}
use Rattle.dict_meaning.specs.Accepted.{Accepted, IsAccepted}
use Rattle.dict_meaning.specs.Fits.{AnswersFit}
use Rattle.dict_meaning.specs.Homes.{home}
use Rattle.dict_meaning.specs.Plain.{at_fact, plain}
use Rattle.dict_meaning.specs.Dependencies.{EvalPosition, outermost}
use Rattle.evaluation.specs.Results.{result_at, slot}
use Rattle.dict_meaning.specs.Slots.{stands, stands_at}
use Rattle.dict_meaning.proofs.FactMentions.{uses_of_fact}
use Rattle.dict_meaning.proofs.MemberLaws.{member_stands, named_by_item, named_by_list, zero_is_none}
use Rattle.dict_meaning.proofs.PlainLaws.{standing_have_results}
use Rattle.dict_meaning.proofs.ReadAgreement.{first_member, names}
use Rattle.dict_meaning.proofs.ReadTypes.{item_target, list_target}
use Rattle.dict_meaning.proofs.SlotLaws.{stands_where}
use Rattle.dict_meaning.proofs.TargetAgreement.{IsReached, StaysBy, agree_under, at_once, at_zero}
use Rattle.dict_meaning.proofs.TargetHomes.{global_there, member_home, member_there}
use Rattle.dict_meaning.proofs.TypedResultLaws.{target_typed}
use Rattle.source_eval.specs.NodeReads.{target_slot}
use Rattle.explain.specs.Reads.{fact_reads, slot_reads}
use Rattle.explain.proofs.FactReads.{HoldsUnder, of_fact}

-- ---- what holds of every mention

anything : (M : Mention → Type 0) → ((m : Mention) → M m) → (ms : List Mention) → AllOf M ms
anything M h [] = tt
anything M h (m ∷ ms) = (h m, anything M h ms)

-- ---- where it agrees if it stands, it agrees

abbrev pub Follows : Accepted → Answered → Answered → Slot → Type 0
Follows d a b t = (IsTrue (stands d.tree a t) → plain d a t ≡ plain d b t) → plain d a t ≡ plain d b t

module _ (checks : List (List ℕ)) (d : Accepted) (accepted : IsAccepted checks d) (a b : Answered) (before : AnswersFit d.tree a) (after : AnswersFit d.tree b) (s : Slot) (own : IsTrue (stands_at a (home d.tree s.fact) s.member)) where
  abbrev H : Slot → Type 0
  H = Follows d a b

  -- ---- one target

  there : (n m : ℕ) (f : Fact) → fact_at d.tree.facts n ≡ Some f → IsTrue (stands_at a (home d.tree n) m) → H (slot n m)
  there n m f e i h = h (stands_where d.tree a (slot n m) f e ∙ i)

  nowhere : (c : Answered) (n m : ℕ) (f : Fact) → fact_at d.tree.facts n ≡ Some f → stands_at c (home d.tree n) m ≡ false → plain d c (slot n m) ≡ None
  nowhere c n m f e out = nothing (plain d c (slot n m)) (standing_have_results d c (slot n m) ∙ stands_where d.tree c (slot n m) f e ∙ out)

  -- at 0, where the fact's slots stand once or have members
  once : (n : ℕ) (f : Fact) → fact_at d.tree.facts n ≡ Some f → H (slot n 0)
  once n f e = at (nat_eq (home d.tree n) 0) refl
    where
      at : (global : Bool) → nat_eq (home d.tree n) 0 ≡ global → H (slot n 0)
      at true g h = there n 0 f e (at_once a (home d.tree n) g) h
      at false g h =
          nowhere a n 0 f e (at_zero a (home d.tree n) g (zero_is_none d.tree a before (home d.tree n)))
          ∙ sym (nowhere b n 0 f e (at_zero b (home d.tree n) g (zero_is_none d.tree b after (home d.tree n))))

  -- ---- first targets

  of_global : (name : List ℕ) (n : ℕ) → find_global d.tree name ≡ Some n → H (slot n 0)
  of_global name n e = let f = global_there d.tree name n e in once n f.0 f.1

  of_sibling : (name : List ℕ) (n m : ℕ) → find_member d.tree name (collection_at d.tree s.fact) ≡ Some n → m ≡ s.member → H (slot n 0) × H (slot n m)
  of_sibling name n m e own_is =
      let f = member_there d.tree name (collection_at d.tree s.fact) n e in
      let same : home d.tree n ≡ home d.tree s.fact = member_home d.tree name (collection_at d.tree s.fact) n e in
      let here : IsTrue (stands_at a (home d.tree n) m) = rw (same, own_is) own in
      (once n f.0 f.1, there n m f.0 f.1 here)

  of_inner : (name : List ℕ) (n : ℕ) (at : EvalPosition) → IsReached d a a s at → find_member d.tree name (global_at d.tree at.base) ≡ Some n → H (slot n 0) × H (slot n at.inner)
  of_inner name n at j e =
      let f = member_there d.tree name (global_at d.tree at.base) n e in
      (once n f.0 f.1, there n at.inner f.0 f.1 (inner_stands (global_at d.tree at.base) refl e))
    where
      inner_stands : (base : Option (List ℕ)) → global_at d.tree at.base ≡ base → find_member d.tree name base ≡ Some n → IsTrue (stands_at a (home d.tree n) at.inner)
      inner_stands None is e = absurd (let none : None ≡ Some n = e in cc)
      inner_stands (Some c) is e = rw (member_home d.tree name (Some c) n e) (j.inner c is).0

  abbrev OfTarget : Option ℕ → ℕ → Type 0
  OfTarget o m = AllOf H (target_slot o m)

  of_first : (at : EvalPosition) → IsReached d a a s at → (path : UsePath) (o : Option ℕ) → first_target d.tree s.fact at.base path ≡ o → OfTarget o 0 × OfTarget o (first_member at path)
  of_first at j path None e = (tt, tt)
  of_first at j (Global n) (Some t) e = let h = of_global n t e in ((h, tt), (h, tt))
  of_first at j (Sibling n) (Some t) e = let h = of_sibling n t at.own e j.own in ((h.0, tt), (h.1, tt))
  of_first at j (Inner n) (Some t) e = let h = of_inner n t at j e in ((h.0, tt), (h.1, tt))
  of_first at j (Each n m) (Some t) e = let h = of_global n t e in ((h, tt), (h, tt))
  of_first at j (Through n m) (Some t) e = let h = of_global n t e in ((h, tt), (h, tt))
  of_first at j (SiblingThrough n m) (Some t) e = let h = of_sibling n t at.own e j.own in ((h.0, tt), (h.1, tt))

  -- ---- the members that the first target names

  by_list : (n k m : ℕ) → IsIn (names (result_at (plain d a) (Some n) k)) m → (c : List ℕ) → list_base_at d.tree n ≡ Some c → IsTrue (stands_at a (base_number d.tree (Some c)) m)
  by_list n k m i c e =
      let h = base_number d.tree (Some c) in
      let r = result_at (plain d a) (Some n) k in
      member_stands d.tree a before h m (named_by_list d.tree a r h (target_typed checks d accepted a before (Some n) k (Collection h) (list_target d.tree (Some n) c e)) m i)

  by_item : (n k m : ℕ) → IsIn (names (result_at (plain d a) (Some n) k)) m → (c : List ℕ) → item_base_at d.tree n ≡ Some c → IsTrue (stands_at a (base_number d.tree (Some c)) m)
  by_item n k m i c e =
      let h = base_number d.tree (Some c) in
      let r = result_at (plain d a) (Some n) k in
      member_stands d.tree a before h m (named_by_item d.tree a r h (target_typed checks d accepted a before (Some n) k (Item h) (item_target d.tree (Some n) c e)) m i)

  -- ---- second targets

  of_members : (name : List ℕ) (base : Option (List ℕ)) (n m : ℕ) → find_member d.tree name base ≡ Some n → ((c : List ℕ) → base ≡ Some c → IsTrue (stands_at a (base_number d.tree (Some c)) m)) → H (slot n m)
  of_members name None n m e i = absurd (let none : None ≡ Some n = e in cc)
  of_members name (Some c) n m e i =
      let f = member_there d.tree name (Some c) n e in
      there n m f.0 f.1 (rw (member_home d.tree name (Some c) n e) (i c refl))

  of_second : (path : UsePath) (first o : Option ℕ) → second_target d.tree first path ≡ o → (k m : ℕ) → IsIn (names (result_at (plain d a) first k)) m → OfTarget o m
  of_second path first None e k m i = tt
  of_second path None (Some t) e k m i = absurd (cc)
  of_second (Global n) (Some f) (Some t) e k m i = absurd (let none : None ≡ Some t = e in cc)
  of_second (Sibling n) (Some f) (Some t) e k m i = absurd (let none : None ≡ Some t = e in cc)
  of_second (Inner n) (Some f) (Some t) e k m i = absurd (let none : None ≡ Some t = e in cc)
  of_second (Each n x) (Some f) (Some t) e k m i = (of_members x (list_base_at d.tree f) t m e (by_list f k m i), tt)
  of_second (Through n x) (Some f) (Some t) e k m i = (of_members x (item_base_at d.tree f) t m e (by_item f k m i), tt)
  of_second (SiblingThrough n x) (Some f) (Some t) e k m i = (of_members x (item_base_at d.tree f) t m e (by_item f k m i), tt)

  -- ---- all that is read

  abbrev M : Mention → Type 0
  M = StaysBy d a a s

  every : (ms : List Mention) → AllOf M ms
  every ms = anything M (λ m t k x y. refl) ms

  follows_under : HoldsUnder d.tree s.fact M (IsReached d a a s) (plain d a) H
  follows_under = record {
    reads = λ at j path k.
        let t = targets d.tree s.fact at.base path in
        let first = of_first at j path t.first refl in
        record { once = first.0; first = first.1; second = of_second path t.first t.second refl };
    enter = (agree_under checks d accepted a a before before s (own, own)).enter;
  }

  outside : IsReached d a a s (outermost s.member)
  outside = record { own = refl; inner = λ c e. absurd (let none : None ≡ Some c = e in cc) }

  pub reads_follow : AllOf H (slot_reads d a s)
  reads_follow = by (fact_at d.tree.facts s.fact) refl
    where
      by : (o : Option Fact) → fact_at d.tree.facts s.fact ≡ o → AllOf H (at_fact o [] (fact_reads d.tree a (plain d a) s))
      by None e = tt
      by (Some f) e =
          of_fact d.tree a s M (IsReached d a a s) (plain d a) H follows_under outside f
          (uses_of_fact d.tree s.fact M f e (every (found_mentions d.tree s.fact (fact_at d.tree.facts s.fact))))
