-- The readers of a slot's fact let those slots wait that it feeds.
use Rattle.std.proofs.Common.{◌≡◌, ℕ, Bool, true, false, not, ◌&&◌, ◌||◌, nat_eq, if◌then◌else◌, List, [], ◌∷◌, Option, Some, None, refl, sym, ap, ◌∙◌}
use Rattle.std.specs.List.{list_any}
use Rattle.common_lemmas.proofs.Bools.{both_left, both_right, or_false}
use Rattle.common_lemmas.proofs.Numbers.{equal_number, nat_eq-comm, same_number}
use Rattle.fact_values.specs.declared.slot.Slot.{Slot}
use Rattle.dict_source.specs.Facts.{Fact}
use Rattle.dict_source.specs.Finding.{fact_at}
use Rattle.dict_source.specs.Mentions.{found_mentions}
use Rattle.answers.specs.Answered.{Answered, list_of}
use Rattle.dict_meaning.specs.Accepted.{Accepted}
use Rattle.dict_meaning.specs.Feeds.{speaks_of}
use Rattle.dict_meaning.specs.Homes.{home}
use Rattle.dict_meaning.specs.Plain.{rank}
use Rattle.evaluation.specs.Results.{slot}
use Rattle.dict_meaning.specs.Slots.{is_member, members_of_home, stands_at, stands_of}
use Rattle.dep_index.specs.Laws.{reads}
use Rattle.dep_index.specs.declared.readers_of.ReaderOf.{ReaderOf}
use Rattle.dep_index.proofs.FeedLaws.{feeds_by_readers}
use Rattle.recalc.specs.Readers.{dirty_of, marks, marks_at, marks_of, MarksFeed, reads_at}
use Rattle.dirty_slots.specs.Waiting.{dirty_same}
use Rattle.dirty_slots.specs.declared.dirty_slot.DirtySlot.{DirtySlot}
use Rattle.recalc.proofs.SlotLists.{either}
use Rattle.dictionary.proofs.BodyLaws.{swapped}

-- ---- one member of a list

any_at : (P : ℕ → Bool) (k : ℕ) (ms : List ℕ) → list_any (λ m. P m && nat_eq k m) ms ≡ (P k && list_any (nat_eq k) ms)
any_at P k [] = off (P k)
  where
    off : (b : Bool) → false ≡ (b && false)
    off true = refl
    off false = refl
any_at P k (m ∷ ms) = ap (λ b. (P m && nat_eq k m) || b) (any_at P k ms) ∙ at (nat_eq k m) refl (list_any (nat_eq k) ms)
  where
    absorb : (p r : Bool) → ((p && true) || (p && r)) ≡ (p && true)
    absorb true r = refl
    absorb false r = refl

    skip : (p r : Bool) → ((p && false) || r) ≡ r
    skip true r = refl
    skip false r = refl

    at : (x : Bool) → nat_eq k m ≡ x → (r : Bool) → ((P m && x) || (P k && r)) ≡ (P k && (x || r))
    at true e r = ap (λ n. (P n && true) || (P k && r)) (sym (same_number k m e)) ∙ absorb (P k) r
    at false e r = skip (P m) (P k && r)

none_at : (P : ℕ → Bool) (x : Bool) (k : ℕ) (ms : List ℕ) → list_any (λ m. P m && (x && (false && nat_eq k m))) ms ≡ false
none_at P x k [] = refl
none_at P x k (m ∷ ms) = ap (λ b. (P m && (x && false)) || b) (none_at P x k ms) ∙ off (P m) x
  where
    off : (p x : Bool) → ((p && (x && false)) || false) ≡ false
    off true true = refl
    off true false = refl
    off false x = refl

pub home_has : (a : Answered) (h m : ℕ) (once : Bool) → list_any (nat_eq m) (if once then 0 ∷ [] else list_of a h) ≡ (if once then nat_eq m 0 else is_member a h m)
home_has a h m true = or_false (nat_eq m 0)
home_has a h m false = refl

-- ---- the readers of a slot's fact

module _ (d : Accepted) (a : Answered) (shielded : Slot → Bool) (s q : Slot) where
  here : Bool
  here = stands_at a (home d.tree q.fact) q.member

  lets : ReaderOf → ℕ → ℕ → Bool
  lets r f m = reads_at s r m && not (shielded (slot f m))

  -- whether the reader of this number has the slot q, by tests of ranks and of numbers
  waiting : ReaderOf → ℕ → Bool → Bool → Bool
  waiting r f ranks facts = list_any (λ m. lets r f m && (ranks && (facts && nat_eq q.member m))) (members_of_home a (home d.tree f))

  one_reader : (r : ReaderOf) → marks_of d a shielded s (dirty_of d q) r ≡ (reads s q r && (here && not (shielded q)))
  unfolding here lets waiting
  one_reader r = at (nat_eq r.fact q.fact) refl
    where
      turned_in : (x y z : Bool) → ((x && y) && z) ≡ (x && (z && y))
      turned_in true true true = refl
      turned_in true true false = refl
      turned_in true false true = refl
      turned_in true false false = refl
      turned_in false y z = refl

      at : (x : Bool) → nat_eq r.fact q.fact ≡ x → marks_of d a shielded s (dirty_of d q) r ≡ ((x && reads_at s r q.member) && (here && not (shielded q)))
      at true e =
          ap (λ f. waiting r f (nat_eq (rank d q.fact) (rank d f)) (nat_eq q.fact f)) (same_number r.fact q.fact e)
          ∙ ap (λ x. waiting r q.fact x (nat_eq q.fact q.fact)) (equal_number (rank d q.fact))
          ∙ ap (waiting r q.fact true) (equal_number q.fact)
          ∙ any_at (lets r q.fact) q.member (members_of_home a (home d.tree q.fact))
          ∙ ap (λ b. lets r q.fact q.member && b) (home_has a (home d.tree q.fact) q.member (nat_eq (home d.tree q.fact) 0))
          ∙ turned_in (reads_at s r q.member) (not (shielded q)) here
      at false e =
          ap (waiting r r.fact (nat_eq (rank d q.fact) (rank d r.fact))) (nat_eq-comm q.fact r.fact ∙ e)
          ∙ none_at (lets r r.fact) (nat_eq (rank d q.fact) (rank d r.fact)) q.member (members_of_home a (home d.tree r.fact))

  all_readers : (rs : List ReaderOf) → marks d a shielded s rs (dirty_of d q) ≡ (list_any (reads s q) rs && (here && not (shielded q)))
  all_readers [] = refl
  all_readers (r ∷ rs) =
      ap (λ b. b || marks d a shielded s rs (dirty_of d q)) (one_reader r)
      ∙ ap (λ b. (reads s q r && (here && not (shielded q))) || b) (all_readers rs)
      ∙ joined (reads s q r) (list_any (reads s q) rs) (here && not (shielded q))
    where
      joined : (x y c : Bool) → ((x && c) || (y && c)) ≡ ((x || y) && c)
      joined true true true = refl
      joined true true false = refl
      joined true false true = refl
      joined true false false = refl
      joined false y c = refl

-- a fact that isn't there mentions nothing and has no slot
fed_and_standing : (d : Accepted) (a : Answered) (free : Bool) (s q : Slot) (o : Option Fact) →
    (list_any (speaks_of s q) (found_mentions d.tree q.fact o) && (stands_at a (home d.tree q.fact) q.member && free))
    ≡ (stands_of a (home d.tree q.fact) q.member o && (list_any (speaks_of s q) (found_mentions d.tree q.fact o) && free))
fed_and_standing d a free s q None = refl
fed_and_standing d a free s q (Some f) = swapped (list_any (speaks_of s q) (found_mentions d.tree q.fact (Some f))) (stands_at a (home d.tree q.fact) q.member) free

pub marks_feed : MarksFeed
unfolding here
marks_feed d a shielded s rs are q =
    all_readers d a shielded s q rs
    ∙ ap (λ b. b && (stands_at a (home d.tree q.fact) q.member && not (shielded q))) (feeds_by_readers d s q rs are)
    ∙ fed_and_standing d a (not (shielded q)) s q (fact_at d.tree.facts q.fact)

-- ---- what waits then has the rank of its fact

rank_at : (d : Accepted) (shielded : Slot → Bool) (s : Slot) (q : DirtySlot) (r : ReaderOf) (ms : List ℕ) → list_any (marks_at shielded s r (rank d r.fact) q) ms ≡ true → q.rank ≡ rank d q.fact
rank_at d shielded s q r [] h = absurd (cc)
rank_at d shielded s q r (m ∷ ms) h =
    either (marks_at shielded s r (rank d r.fact) q m) (list_any (marks_at shielded s r (rank d r.fact) q) ms) h
    (λ e. let same = both_right (reads_at s r m && not (shielded (slot r.fact m))) (dirty_same q (record { rank = rank d r.fact; fact = r.fact; member = m })) e in
    let ranks : q.rank ≡ rank d r.fact = same_number q.rank (rank d r.fact) (both_left (nat_eq q.rank (rank d r.fact)) (nat_eq q.fact r.fact && nat_eq q.member m) same) in
    let facts : q.fact ≡ r.fact = same_number q.fact r.fact (both_left (nat_eq q.fact r.fact) (nat_eq q.member m) (both_right (nat_eq q.rank (rank d r.fact)) (nat_eq q.fact r.fact && nat_eq q.member m) same)) in
    ranks ∙ ap (rank d) (sym facts))
    (rank_at d shielded s q r ms)

pub marks_rank : (d : Accepted) (a : Answered) (shielded : Slot → Bool) (s : Slot) (rs : List ReaderOf) (q : DirtySlot) → marks d a shielded s rs q ≡ true → q.rank ≡ rank d q.fact
marks_rank d a shielded s [] q h = absurd (cc)
marks_rank d a shielded s (r ∷ rs) q h =
    either (marks_of d a shielded s q r) (marks d a shielded s rs q) h (rank_at d shielded s q r (members_of_home a (home d.tree r.fact))) (marks_rank d a shielded s rs q)
