-- A walk from a fact: what is seen at each moment, and at its end.
use Rattle.std.proofs.Common.{◌≡◌, ℕ, zero, suc, ◌+◌, ◌*◌, ◌<◌, ◌≤◌, Bool, true, false, not, cond, List, [], ◌∷◌, ◌++◌, length, get_or, set, drop, ◌⊎◌, inl, inr, refl, sym, ap, subst, ◌∙◌, arith, length-append, length-set, get_or-set_same, get_or-set_other, drop-cons, true≢false, replicate}
use Rattle.std.proofs.lemmas.Bool.{cases_eq}
use Rattle.std.proofs.lemmas.List.Folds.{sum_by-replicate}
use Rattle.std.proofs.lemmas.List.Sums.{sum_by-set}
use Rattle.dict_order.specs.Graph.{Graph, mentioned, Has, Mentions, Leads, Reaches, IsFact, MentionsFacts}
use Rattle.dict_order.specs.Walking.{State, see, see_all, IsSeen, unseen}
use Rattle.dict_order.proofs.ListLaws.{has_append, has_last, has_cases}
use Rattle.dict_order.proofs.MentionLaws.{reaches_on}

pub unseen_set : (bs : List Bool) (x : ℕ) → x < length bs → get_or bs x false ≡ false → unseen (set bs x true) + 1 ≡ unseen bs
unseen_set bs x lt e = let less = rw e at (sum_by-set (λ b. cond (not b) 1 0) bs x true false lt) in omega (arith, less)

pub set_seen : (bs : List Bool) (x k : ℕ) → IsSeen (set bs x true) k → IsSeen bs k ⊎ (k ≡ x)
set_seen bs x k h = elim (cases_eq k x) [ inl e ↦ inr e | inr n ↦ inl (rw (get_or-set_other bs x k true false n) at h) ]

set_keeps : (bs : List Bool) (x k : ℕ) → x < length bs → IsSeen bs k → IsSeen (set bs x true) k
set_keeps bs x k lt h = elim (cases_eq k x) [ inl e ↦ rw e (get_or-set_same bs x true false lt) | inr n ↦ rw (get_or-set_other bs x k true false n) h ]

pub blank : (n k : ℕ) → IsSeen (replicate n false) k → ⊥
blank zero k h = true≢false (sym h)
blank (suc n) zero h = true≢false (sym h)
blank (suc n) (suc k) h = blank n k h

pub unseen_blank : (n : ℕ) → unseen (replicate n false) ≡ n
unseen_blank n = omega (arith, sum_by-replicate (λ b. cond (not b) 1 0) n false)

-- ---- what seeing the facts of a list leaves

pub record Seen (facts : List ℕ) (s t : State) : Type 0 where
  pub len : length t.0 ≡ length s.0
  pub keeps : (k : ℕ) → IsSeen s.0 k → IsSeen t.0 k
  pub marks : (k : ℕ) → Has facts k → IsSeen t.0 k
  pub queued : (k : ℕ) → IsSeen t.0 k → IsSeen s.0 k ⊎ Has t.1 k
  pub still : (k : ℕ) → Has s.1 k → Has t.1 k
  pub from : (k : ℕ) → Has t.1 k → Has s.1 k ⊎ Has facts k
  pub work : 2 * unseen t.0 + length t.1 ≤ 2 * unseen s.0 + length s.1

one_at : (x : ℕ) (s : State) (b : Bool) → x < length s.0 → get_or s.0 x false ≡ b → Seen (x ∷ []) s (cond b s (set s.0 x true, s.1 ++ x ∷ []))
one_at x s true lt e = record {
  len = refl;
  keeps = λ k h. h;
  marks = λ k h. elim h [ inl i ↦ rw i e | inr n ↦ absurd n ];
  queued = λ k h. inl h;
  still = λ k h. h;
  from = λ k h. inl h;
  work = omega arith;
}
one_at x s false lt e = record {
  len = length-set s.0 x true;
  keeps = λ k h. set_keeps s.0 x k lt h;
  marks = λ k h. elim h [ inl i ↦ rw i (get_or-set_same s.0 x true false lt) | inr n ↦ absurd n ];
  queued = λ k h. elim (set_seen s.0 x k h) [ inl p ↦ inl p | inr q ↦ inr (rw q (has_last s.1 x)) ];
  still = λ k h. has_append s.1 (x ∷ []) k h;
  from = λ k h. elim (has_cases s.1 x k h) [ inl p ↦ inl p | inr q ↦ inr (inl q) ];
  work = omega (arith, unseen_set s.0 x lt e, length-append s.1 (x ∷ []));
}

pub sees_one : (x : ℕ) (s : State) → x < length s.0 → Seen (x ∷ []) s (see x s)
sees_one x s lt = one_at x s (get_or s.0 x false) lt refl

then : (x : ℕ) (xs : List ℕ) (s t u : State) → Seen (x ∷ []) s t → Seen xs t u → Seen (x ∷ xs) s u
then x xs s t u p q = record {
  len = q.len ∙ p.len;
  keeps = λ k h. q.keeps k (p.keeps k h);
  marks = λ k h. elim h [ inl i ↦ q.keeps k (p.marks k (inl i)) | inr n ↦ q.marks k n ];
  queued = λ k h. elim (q.queued k h) [ inl a ↦ elim (p.queued k a) [ inl b ↦ inl b | inr b ↦ inr (q.still k b) ] | inr a ↦ inr a ];
  still = λ k h. q.still k (p.still k h);
  from = λ k h. elim (q.from k h) [ inl a ↦ elim (p.from k a) [ inl b ↦ inl b | inr b ↦ elim b [ inl i ↦ inr (inl i) | inr n ↦ absurd n ] ] | inr a ↦ inr (inr a) ];
  work = omega (arith, p.work, q.work);
}

pub sees_all : (facts : List ℕ) (s : State) → ((k : ℕ) → Has facts k → k < length s.0) → Seen facts s (see_all facts s)
sees_all [] s lt = record { len = refl; keeps = λ k h. h; marks = λ k h. absurd h; queued = λ k h. inl h; still = λ k h. h; from = λ k h. inl h; work = omega arith }
sees_all (x ∷ xs) s lt =
    let one : Seen (x ∷ []) s (see x s) = sees_one x s (lt x (inl refl)) in
    then x xs s (see x s) (see_all xs (see x s)) one (sees_all xs (see x s) (λ k h. let l = lt k (inr h) in omega (arith, l, one.len)))

pub see_rest : (l : List ℕ) (i : ℕ) (s : State) → i < length l → see_all (drop (suc i) l) (see (get_or l i 0) s) ≡ see_all (drop i l) s
see_rest l i s h = rw (drop-cons l i 0) refl

-- ---- what holds of each mention of a fact, and of each mention of what it holds of, holds of all that the fact reaches

module _ (g : Graph) (seen : List Bool) (closed : (b c : ℕ) → IsSeen seen b → Mentions g b c → IsSeen seen c) where
  onward : (n b c : ℕ) → IsSeen seen b → Leads g n b c → IsSeen seen c
  onward zero b c h l = closed b c h l
  onward (suc n) b c h l = onward n l.0 c (closed b l.0 h l.1) l.2

  all_reached : (a : ℕ) → ((c : ℕ) → Mentions g a c → IsSeen seen c) → (n c : ℕ) → Leads g n a c → IsSeen seen c
  all_reached a first zero c l = first c l
  all_reached a first (suc n) c l = onward n l.0 c (first l.0 l.1) l.2

-- ---- the walk so far

pub record Walk (g : Graph) (a : ℕ) (seen : List Bool) (todo : List ℕ) : Type 0 where
  pub len : length seen ≡ length g + 1
  pub sound : (k : ℕ) → IsSeen seen k → Reaches g a k
  pub listed : (k : ℕ) → Has todo k → IsSeen seen k × IsFact g k
  pub first : (k : ℕ) → Mentions g a k → IsSeen seen k
  pub closed : (b c : ℕ) → IsSeen seen b → Mentions g b c → IsSeen seen c ⊎ Has todo b

-- each mention has a place
pub within : (g : Graph) (a n : ℕ) → MentionsFacts g → n ≡ length g + 1 → (k : ℕ) → Has (mentioned g a) k → k < n
within g a n w e k h = let f = w a k h in omega (arith, f.1, e)

pub starts : (g : Graph) (a : ℕ) (bs : List Bool) (s : State) → MentionsFacts g → length bs ≡ length g + 1 → ((k : ℕ) → IsSeen bs k → ⊥) → Seen (mentioned g a) (bs, []) s → Walk g a s.0 s.1
starts g a bs s w len none m = record {
  len = m.len ∙ len;
  sound = λ k h. elim (m.queued k h) [ inl p ↦ absurd (none k p) | inr q ↦ elim (m.from k q) [ inl l ↦ absurd l | inr f ↦ (0, f) ] ];
  listed = λ k h. elim (m.from k h) [ inl p ↦ absurd p | inr q ↦ (m.marks k q, w a k q) ];
  first = λ k h. m.marks k h;
  closed = λ b c h n. elim (m.queued b h) [ inl p ↦ absurd (none b p) | inr q ↦ inr q ];
}

-- the last of todo is taken, and what it mentions is seen
pub goes_on : (g : Graph) (a : ℕ) (seen : List Bool) (todo left : List ℕ) (next : ℕ) (s : State) → MentionsFacts g → todo ≡ left ++ next ∷ [] → Walk g a seen todo → Seen (mentioned g next) (seen, left) s → Walk g a s.0 s.1
goes_on g a seen todo left next s w e so m =
    let here : Has todo next = rw e (has_last left next) in
    let reached = so.sound next (so.listed next here).0 in record {
      len = m.len ∙ so.len;
      sound = λ k h. elim (m.queued k h) [ inl p ↦ so.sound k p | inr q ↦ elim (m.from k q) [ inl l ↦ so.sound k (so.listed k (rw e (has_append left (next ∷ []) k l))).0 | inr f ↦ reaches_on g a next k reached f ] ];
      listed = λ k h. elim (m.from k h) [ inl p ↦ let old = so.listed k (rw e (has_append left (next ∷ []) k p)) in (m.keeps k old.0, old.1) | inr q ↦ (m.marks k q, w next k q) ];
      first = λ k h. m.keeps k (so.first k h);
      closed = λ b c h n. elim (m.queued b h) [
        | inl p ↦ elim (so.closed b c p n) [
          | inl q ↦ inl (m.keeps c q)
          | inr q ↦ elim (has_cases left next b (subst (λ (t : List ℕ). Has t b) e q)) [
            | inl r ↦ inr (m.still b r)
            | inr i ↦ inl (m.marks c (subst (λ (x : ℕ). Mentions g x c) i n))
          ]
        ]
        | inr q ↦ inr q
      ];
    }

pub ends : (g : Graph) (a : ℕ) (seen : List Bool) → Walk g a seen [] → (b : ℕ) → (IsSeen seen b → Reaches g a b) × (Reaches g a b → IsSeen seen b)
ends g a seen so b = (so.sound b, λ r. all_reached g seen (λ x c h n. elim (so.closed x c h n) [ inl q ↦ q | inr q ↦ absurd q ]) a so.first r.0 b r.1)

-- the next of todo is a fact
pub next_is_fact : (g : Graph) (a : ℕ) (seen : List Bool) (todo left : List ℕ) (next : ℕ) → todo ≡ left ++ next ∷ [] → Walk g a seen todo → IsFact g next
next_is_fact g a seen todo left next e so = (so.listed next (rw e (has_last left next))).1

-- the state after the loop over a list of facts
pub seen_by : (g : Graph) (a : ℕ) (facts : List ℕ) (s t : State) → MentionsFacts g → facts ≡ mentioned g a → length s.0 ≡ length g + 1 → t ≡ see_all facts s → Seen (mentioned g a) s t
seen_by g a facts s t w e ln m =
    let q : Seen (mentioned g a) s (see_all (mentioned g a) s) = sees_all (mentioned g a) s (within g a (length s.0) w ln) in
    let m2 : t ≡ see_all (mentioned g a) s = m ∙ ap (λ (l : List ℕ). see_all l s) e in
    rw m2 q
