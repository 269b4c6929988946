-- What is taken of a list, one slot after another.
use Rattle.std.proofs.Common.{◌≡◌, ℕ, ◌+◌, ◌<◌, Bool, if◌then◌else◌, List, [], ◌∷◌, ◌++◌, filter, map, length, get_or, drop, add-one, refl, sym, ap, ◌∙◌}
use Rattle.std.specs.Prelude.{Result, Ok, Err, IfOk}
use Rattle.std.proofs.lemmas.List.{append-nil}
use Rattle.std.proofs.lemmas.List.Elements.{filter-append}
use Rattle.operations.proofs.StepLaws.{next_member}
use Rattle.fact_values.specs.declared.slot.Slot.{Slot}
use Rattle.common_lemmas.proofs.Lists.{kept_one}
use Rattle.dict_source.specs.Dictionary.{Dictionary as Tree}
use Rattle.answers.specs.Answered.{Answered}
use Rattle.evaluation.specs.Results.{slot}
use Rattle.dict_meaning.specs.Slots.{slots_of, slots_up_to, standing}
use Rattle.source_eval.proofs.ReadLaws.{moved_on}

pub taken_one : (test : Slot → Bool) (s : Slot) (old new : List Slot) (wanted : Bool) → wanted ≡ test s → new ≡ (if wanted then old ++ s ∷ [] else old) → new ≡ old ++ filter test (s ∷ [])
taken_one test s old new wanted w e =
    e ∙ sym (append-nil (if wanted then old ++ s ∷ [] else old)) ∙ kept_one wanted old s [] ∙ ap (λ (b : Bool). old ++ (if b then s ∷ [] else [])) w

pub taken_next : (test : Slot → Bool) (fact : ℕ) (ms : List ℕ) (i : ℕ) → i < length ms → (old new : List Slot) → new ≡ old ++ filter test (slot fact (get_or ms i 0) ∷ [])
    → new ++ filter test (map (slot fact) (drop (i + 1) ms)) ≡ old ++ filter test (map (slot fact) (drop i ms))
taken_next test fact ms i low old new e =
    let s = slot fact (get_or ms i 0) in
    let rest = map (slot fact) (drop (i + 1) ms) in
    moved_on old new (filter test (s ∷ [])) (filter test rest) (filter test (map (slot fact) (drop i ms))) e
    (ap (λ l. filter test (map (slot fact) l)) (next_member ms i low) ∙ filter-append test (s ∷ []) rest)

-- ---- of what is answered

pub if_ok : {A E : Type 0} (P Q : A → Type 0) → ((x : A) → P x → Q x) → (r : Result A E) → IfOk r P → IfOk r Q
if_ok P Q h (Ok x) k = h x k
if_ok P Q h (Err e) k = k

-- ---- fact by fact

up_to-suc : (d : Tree) (a : Answered) (n : ℕ) → slots_up_to d a (n + 1) ≡ slots_up_to d a n ++ slots_of d a (n + 1)
up_to-suc d a n = rw add-one refl

pub up_to_next : (d : Tree) (a : Answered) (test : Slot → Bool) (n : ℕ) (old new : List Slot) → old ≡ filter test (slots_up_to d a n) → new ≡ old ++ filter test (slots_of d a (n + 1)) → new ≡ filter test (slots_up_to d a (n + 1))
up_to_next d a test n old new e f =
    f ∙ ap (λ l. l ++ filter test (slots_of d a (n + 1))) e
    ∙ sym (filter-append test (slots_up_to d a n) (slots_of d a (n + 1)))
    ∙ ap (filter test) (sym (up_to-suc d a n))

pub all_standing : (d : Tree) (a : Answered) (n : ℕ) → n ≡ length d.facts → slots_up_to d a n ≡ standing d a
unfolding standing
all_standing d a n e = ap (slots_up_to d a) e
