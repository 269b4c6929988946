-- Facts in the order of their ranks fill the whole table.
use Rattle.std.proofs.Common.{eq-eqb, ◌≡◌, ℕ, zero, suc, ◌+◌, ◌<◌, ◌≤◌, ◌++◌, ◌&&◌, ◌||◌, Bool, true, false, nat_eq, if◌then◌else◌, List, [], ◌∷◌, length, take, get_or, Option, Some, None, inl, inr, refl, sym, ap, ◌∙◌, arith}
use Rattle.std.specs.List.{list_any}
use Rattle.std.proofs.lemmas.Bool.{eqb-true}
use Rattle.std.proofs.lemmas.List.{take_more}
use Rattle.std.proofs.lemmas.List.Folds.{list_any-append}
use Rattle.fact_values.specs.declared.slot.Slot.{Slot}
use Rattle.dict_source.specs.Facts.{Fact}
use Rattle.dict_source.specs.Finding.{fact_at}
use Rattle.dict_order.specs.Ranks.{rank_of}
use Rattle.dict_order.proofs.ListLaws.{at_most_or_above}
use Rattle.three_state.specs.declared.res.Res.{Res}
use Rattle.common_lemmas.proofs.Bools.{or_false, or_left, or_right}
use Rattle.common_lemmas.proofs.Options.{something}
use Rattle.answers.specs.Answered.{Answered, list_of}
use Rattle.dict_meaning.specs.Accepted.{Accepted}
use Rattle.dictionary.specs.ByRank.{AreByRank}
use Rattle.dict_meaning.specs.Homes.{home}
use Rattle.dict_meaning.specs.Plain.{IsPlainBelow, plain, rank}
use Rattle.evaluation.specs.Results.{Results}
use Rattle.dict_meaning.specs.Slots.{is_member, members_of_home, stands, stands_at, stands_of}
use Rattle.dictionary.proofs.ByRankLaws.{place_of_fact}
use Rattle.dict_meaning.proofs.NumberLaws.{fact_within}
use Rattle.dict_meaning.proofs.PlainLaws.{no_result}
use Rattle.dict_meaning.proofs.SlotLaws.{fact_of_standing}
use Rattle.full_evaluation.specs.Filling.{HasAll, HasFacts, IsFilled, is_at}

-- ---- which slots stand

at_members : (a : Answered) (h m : ℕ) (once : Bool) → (if once then nat_eq m 0 else is_member a h m) ≡ list_any (nat_eq m) (if once then 0 ∷ [] else list_of a h)
at_members a h m true = sym (or_false (nat_eq m 0))
at_members a h m false = refl

-- at the members of the fact's home
pub stands_among : (a : Answered) (h m : ℕ) → stands_at a h m ≡ list_any (nat_eq m) (members_of_home a h)
stands_among a h m = at_members a h m (nat_eq h 0)

stands_not : (a : Answered) (h m : ℕ) (o : Option Fact) → stands_at a h m ≡ false → stands_of a h m o ≡ false
stands_not a h m None e = refl
stands_not a h m (Some f) e = e

outside : (d : Accepted) (a : Answered) (s : Slot) (n : ℕ) → nat_eq s.fact n ≡ true → list_any (nat_eq s.member) (members_of_home a (home d.tree n)) ≡ false → plain d a s ≡ None
outside d a s n e out =
    let same : s.fact ≡ n = eqb-true s.fact n e in
    let no : stands_at a (home d.tree s.fact) s.member ≡ false = ap (λ (k : ℕ). stands_at a (home d.tree k) s.member) same ∙ stands_among a (home d.tree n) s.member ∙ out in
    no_result d a s (stands_not a (home d.tree s.fact) s.member (fact_at d.tree.facts s.fact) no)

-- ---- places in the order

in_taken : (x : ℕ) (list : List ℕ) (n place : ℕ) → place < n → place < length list → get_or list place 0 ≡ x → list_any (nat_eq x) (take n list) ≡ true
in_taken x [] n place h low e = absurd (omega arith)
in_taken x (y ∷ ys) zero place h low e = absurd (omega arith)
in_taken x (y ∷ ys) (suc n) zero h low e = or_left (nat_eq x y) (list_any (nat_eq x) (take n ys)) (eq-eqb x y (sym e))
in_taken x (y ∷ ys) (suc n) (suc place) h low e = or_right (nat_eq x y) (list_any (nat_eq x) (take n ys)) (in_taken x ys n place (omega arith) (omega arith) e)

module _ (d : Accepted) (a : Answered) (order : List ℕ) (by_rank : AreByRank d.ranks order) (count : length d.ranks ≡ length d.tree.facts) where
  -- what is of lower rank than the next fact was done before
  pub below_next : (i : ℕ) (results : Results) → i < length order → HasFacts d a (take i order) results → IsPlainBelow d a (rank d (get_or order i 0)) results
  below_next i results low done s there lower =
      let f = something (fact_at d.tree.facts s.fact) there in
      let number = fact_within d.tree.facts s.fact f.0 f.1 in
      let found = place_of_fact d.ranks order s.fact by_rank number.0 (omega (arith, number.1, count)) in
      elim (at_most_or_above i found.0) [
        | inl le ↦ let up = by_rank.ranks_rise i found.0 le found.1 in absurd (omega (arith, up, lower, ap (rank_of d.ranks) found.2))
        | inr lt ↦ done s ∙ ap (λ (b : Bool). if b then plain d a s else None) (in_taken s.fact order i found.0 lt found.1 found.2)
      ]

  done_if : (s : Slot) (o : Option Res) (f c done : Bool) → (f ≡ true → c ≡ false → plain d a s ≡ None) → o ≡ (if done then plain d a s else None)
      → (if f && c then plain d a s else o) ≡ (if done || (f || false) then plain d a s else None)
  done_if s o true true true out e = refl
  done_if s o true true false out e = refl
  done_if s o true false true out e = e
  done_if s o true false false out e = e ∙ sym (out refl refl)
  done_if s o false c true out e = e
  done_if s o false c false out e = e

  -- with the next fact
  pub facts_next : (i : ℕ) (before after : Results) → i < length order → HasFacts d a (take i order) before
      → IsFilled d a before (is_at (get_or order i 0) (members_of_home a (home d.tree (get_or order i 0)))) after → HasFacts d a (take (i + 1) order) after
  facts_next i before after low done filled s =
      let n = get_or order i 0 in
      let more : take (i + 1) order ≡ take i order ++ n ∷ [] = take_more order i 0 low in
      filled s
      ∙ done_if s (before s) (nat_eq s.fact n) (list_any (nat_eq s.member) (members_of_home a (home d.tree n))) (list_any (nat_eq s.fact) (take i order)) (outside d a s n) (done s)
      ∙ sym (ap (λ (b : Bool). if b then plain d a s else None) (ap (list_any (nat_eq s.fact)) more ∙ list_any-append (nat_eq s.fact) (take i order) (n ∷ [])))

  -- with all facts
  pub all_done : (i : ℕ) (results : Results) → length order ≤ i → HasFacts d a (take i order) results → HasAll d a results
  all_done i results high done s = at (list_any (nat_eq s.fact) (take i order)) refl (stands d.tree a s) refl
    where
      at : (b : Bool) → list_any (nat_eq s.fact) (take i order) ≡ b → (c : Bool) → stands d.tree a s ≡ c → results s ≡ plain d a s
      at true e c h = done s ∙ ap (λ (b : Bool). if b then plain d a s else None) e
      at false e false h = done s ∙ ap (λ (b : Bool). if b then plain d a s else None) e ∙ sym (no_result d a s h)
      at false e true h =
          let here = fact_of_standing d.tree a s h in
          let number = fact_within d.tree.facts s.fact here.0 here.1 in
          let found = place_of_fact d.ranks order s.fact by_rank number.0 (omega (arith, number.1, count)) in
          absurd (let there : list_any (nat_eq s.fact) (take i order) ≡ true = in_taken s.fact order i found.0 (omega (arith, found.1, high)) found.1 found.2 in cc)
