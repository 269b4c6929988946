-- The newest edit is the last of the list that keeps it.
use Rattle.std.proofs.Common.{◌≡◌, ◌≤◌, ℕ, List, [], ◌∷◌, ◌++◌, refl, sym, ap, ◌∙◌, map, Option, length, ◌-◌, arith}
use mathlib.Core.List.{reverse_aux}
use Rattle.std.specs.Prelude.{drop, option_map, reverse, slice_get, take}
use Rattle.std.proofs.lemmas.List.{length-drop, length-reverse, reverse-append, take-append-drop, take-map, take_at}
use Rattle.answers.specs.Answered.{Answered}
use Rattle.answers.specs.Change.{Change, applied, inverse}
use Rattle.answers.specs.Meaning.{change}
use Rattle.answers.specs.declared.edit.Edit.{Edit}
use Rattle.session_undo.specs.History.{stack, first}
use Rattle.session_undo.specs.UndoState.{moved}

first_reversed : (e : Edit) (es acc : List Edit) → first (map change (reverse_aux (e ∷ es) acc)) ≡ option_map change (slice_get (e ∷ es) (length es))
first_reversed e [] acc = refl
first_reversed e (f ∷ fs) acc = first_reversed f fs (e ∷ acc)

first_last : (es : List Edit) → first (stack es) ≡ option_map change (slice_get es (length es - 1))
first_last [] = refl
first_last (e ∷ es) = let n : length (e ∷ es) - 1 ≡ length es = omega arith in rw n (first_reversed e es [])

pub first_change : (es : List Edit) (o : Option Edit) → o ≡ slice_get es (length es - 1) → option_map change o ≡ first (stack es)
first_change es o h = ap (option_map change) h ∙ sym (first_last es)

-- an edit that is pushed is the newest
pub stack_pushed : (es : List Edit) (e : Edit) → stack (es ++ e ∷ []) ≡ change e ∷ stack es
stack_pushed es e = ap (map change) (reverse-append es (e ∷ []))

-- the newest edit was made, and its inverse pushed
pub newest_moved : (from left to new : List Edit) (e back : Edit) (a b : Answered) → from ≡ left ++ e ∷ [] → new ≡ to ++ back ∷ [] → b ≡ applied (change e) a → change back ≡ inverse (change e) a
    → record { back = stack left; now = b; ahead = stack new } ≡ moved (stack from) a (stack to)
newest_moved from left to new e back a b popped pushed made undone =
    ap (λ (n : Answered). record { back = stack left; now = n; ahead = stack new }) made
    ∙ ap (λ (l : List Change). record { back = stack left; now = applied (change e) a; ahead = l }) (ap stack pushed ∙ stack_pushed to back ∙ ap (λ (c : Change). c ∷ stack to) undone)
    ∙ ap (λ (l : List Change). moved l a (stack to)) (sym (ap stack popped ∙ stack_pushed left e))

-- ---- the newest edits of a list

last_reversed : (es : List Edit) (most : ℕ) → most ≤ length es → reverse (drop (length es - most) es) ≡ take most (reverse es)
last_reversed es most within =
    let early = take (length es - most) es in
    let late = drop (length es - most) es in
    let count : length (reverse late) ≡ most = length-reverse late ∙ length-drop (length es - most) es ∙ omega arith in
    sym (ap (λ (l : List Edit). take most (reverse l)) (sym (take-append-drop (length es - most) es)) ∙ ap (take most) (reverse-append early late) ∙ take_at (reverse late) (reverse early) most count)

-- the last edits are the newest changes
pub last_newest : (es : List Edit) (most : ℕ) → most ≤ length es → stack (drop (length es - most) es) ≡ take most (stack es)
last_newest es most within = ap (map change) (last_reversed es most within) ∙ sym (take-map change most (reverse es))
