-- No slot stands twice in the list of those that stand.
use Rattle.std.proofs.Common.{◌≡◌, ◌≤◌, ℕ, zero, suc, Bool, true, false, nat_eq, if◌then◌else◌, List, [], ◌∷◌, ◌++◌, length, map, refl, sym, ◌∙◌, arith}
use Rattle.std.specs.List.{list_any}
use Rattle.std.proofs.lemmas.List.Folds.{list_any-append}
use Rattle.common_lemmas.proofs.Bools.{both_left, neither_or, or_left, or_right}
use Rattle.common_lemmas.proofs.Numbers.{equal_number, same_number}
use Rattle.fact_values.specs.declared.slot.Slot.{Slot}
use Rattle.dict_source.specs.Dictionary.{Dictionary as Tree}
use Rattle.answers.specs.Answered.{Answered, list_of}
use Rattle.answers.specs.Lists.{Once}
use Rattle.dict_meaning.specs.Homes.{home}
use Rattle.evaluation.specs.Results.{slot}
use Rattle.dict_meaning.specs.Slots.{slot_same, slots_of, slots_up_to, standing}
use Rattle.dict_meaning.proofs.SlotLaws.{slot_same-itself}
use Rattle.recalc.specs.Spread.{is_in, NoTwice}
use Rattle.recalc.specs.BetweenAnswers.{StandingOnce}
use Rattle.recalc.proofs.SlotLists.{either}

once_append : (xs ys : List Slot) → NoTwice xs → NoTwice ys → ((s : Slot) → is_in xs s ≡ true → is_in ys s ≡ false) → NoTwice (xs ++ ys)
once_append [] ys h k apart = k
once_append (x ∷ xs) ys h k apart = (
  list_any-append (slot_same x) xs ys ∙ neither_or (is_in xs x) (is_in ys x) h.0 (apart x (or_left (slot_same x x) (is_in xs x) (slot_same-itself x))),
  once_append xs ys h.1 k (λ s i. apart s (or_right (slot_same s x) (is_in xs s) i)),
)

-- ---- the slots of one fact

member_in : (f m : ℕ) (ms : List ℕ) → is_in (map (slot f) ms) (slot f m) ≡ list_any (nat_eq m) ms
member_in f m [] = refl
member_in f m (k ∷ ms) = rw (equal_number f, member_in f m ms) refl

of_members : (f : ℕ) (ms : List ℕ) → Once ms → NoTwice (map (slot f) ms)
of_members f [] once = tt
of_members f (m ∷ ms) once = (member_in f m ms ∙ once.0, of_members f ms once.1)

of_home : (a : Answered) (f h : ℕ) (once : Bool) → ((c : ℕ) → Once (list_of a c)) → NoTwice (map (slot f) (if once then 0 ∷ [] else list_of a h))
of_home a f h true distinct = (refl, tt)
of_home a f h false distinct = of_members f (list_of a h) (distinct h)

of_fact : (d : Tree) (a : Answered) (f : ℕ) → ((c : ℕ) → Once (list_of a c)) → NoTwice (slots_of d a f)
of_fact d a f distinct = of_home a f (home d f) (nat_eq (home d f) 0) distinct

fact_in : (f : ℕ) (ms : List ℕ) (s : Slot) → is_in (map (slot f) ms) s ≡ true → s.fact ≡ f
fact_in f [] s i = absurd (cc)
fact_in f (m ∷ ms) s i =
    either (slot_same s (slot f m)) (is_in (map (slot f) ms) s) i
    (λ e. same_number s.fact f (both_left (nat_eq s.fact f) (nat_eq s.member m) e))
    (fact_in f ms s)

-- ---- those of all facts

fact_up_to : (d : Tree) (a : Answered) (n : ℕ) (s : Slot) → is_in (slots_up_to d a n) s ≡ true → s.fact ≤ n
fact_up_to d a zero s i = absurd (cc)
fact_up_to d a (suc n) s i =
    either (is_in (slots_up_to d a n) s) (is_in (slots_of d a (suc n)) s) (sym (list_any-append (slot_same s) (slots_up_to d a n) (slots_of d a (suc n))) ∙ i)
    (λ e. let low : s.fact ≤ n = fact_up_to d a n s e in omega arith)
    (λ e. let same : s.fact ≡ suc n = fact_of s e in omega arith)
  where
    fact_of : (s : Slot) → is_in (slots_of d a (suc n)) s ≡ true → s.fact ≡ suc n
    fact_of s = fact_in (suc n) _ s

not_next : (d : Tree) (a : Answered) (n : ℕ) (s : Slot) → s.fact ≤ n → is_in (slots_of d a (suc n)) s ≡ false
not_next d a n s low = at (is_in (slots_of d a (suc n)) s) refl
  where
    at : (b : Bool) → is_in (slots_of d a (suc n)) s ≡ b → b ≡ false
    at false e = refl
    at true e = absurd (let same : s.fact ≡ suc n = fact_in (suc n) _ s e in omega arith)

up_to_once : (d : Tree) (a : Answered) (n : ℕ) → ((c : ℕ) → Once (list_of a c)) → NoTwice (slots_up_to d a n)
up_to_once d a zero distinct = tt
up_to_once d a (suc n) distinct =
    once_append (slots_up_to d a n) (slots_of d a (suc n)) (up_to_once d a n distinct) (of_fact d a (suc n) distinct)
    (λ s i. not_next d a n s (fact_up_to d a n s i))

pub standing_once : StandingOnce
unfolding standing
standing_once d b fit = up_to_once d.tree b (length d.tree.facts) fit.well.distinct
