-- Bytes and their lines.
use Rattle.saved_text.proofs.Common.{All-cons, All-nil, AllByRecursion, Begins, Bool, HasNoNewline, IsRefusedAt, List, [], ap, append-nil, append_assoc, arith, eqb-true, false, first_lines, if◌then◌else◌, joined, joined-append, length, length-append, lines_of, lines_of-newline, nat_tests, onto_first, refl, subst, suc, sym, take, true, zero, ℕ, ◌++◌, ◌<◌, ◌==◌, ◌∙◌, ◌∷◌, ◌≡◌, ◌≢◌, ◌≤◌}
use Rattle.saved_text.proofs.LineTexts.{IsLine}

-- ==== bytes and their lines

-- lines before other bytes are the first lines
pub lines_before : (ls : List (List ℕ)) (rest : List ℕ) → AllByRecursion HasNoNewline ls → lines_of (joined ls ++ rest) ≡ ls ++ lines_of rest
lines_before [] rest none = refl
lines_before (l ∷ ls) rest none =
    ap lines_of (append_assoc l (10 ∷ joined ls) rest)
    ∙ lines_of-newline l (joined ls ++ rest) none.0
    ∙ ap (λ (others : List (List ℕ)). l ∷ others) (lines_before ls rest none.1)

-- no line has a newline
onto_none : (b : ℕ) (ls : List (List ℕ)) → b ≢ 10 → AllByRecursion HasNoNewline ls → AllByRecursion HasNoNewline (onto_first b ls)
onto_none b [] other none = (All-cons (λ c. c ≢ 10) b [] other (All-nil (λ c. c ≢ 10)), tt)
onto_none b (l ∷ ls) other none = (All-cons (λ c. c ≢ 10) b l other none.0, none.1)

pub lines_have_none : (bytes : List ℕ) → AllByRecursion HasNoNewline (lines_of bytes)
lines_have_none [] = tt
lines_have_none (b ∷ bytes) = at (b == 10) refl (lines_have_none bytes)
  where
    at : (t : Bool) → (b == 10) ≡ t → AllByRecursion HasNoNewline (lines_of bytes) → AllByRecursion HasNoNewline (if t then [] ∷ lines_of bytes else onto_first b (lines_of bytes))
    at true e rest = (All-nil (λ c. c ≢ 10), rest)
    at false e rest = onto_none b (lines_of bytes) (let other : b ≢ 10 = grind (arith, nat_tests) in other) rest

-- bytes that end in a newline are their lines
onto_joined : (b : ℕ) (ls : List (List ℕ)) (bytes : List ℕ) → joined ls ≡ bytes ++ 10 ∷ [] → joined (onto_first b ls) ≡ b ∷ (bytes ++ 10 ∷ [])
onto_joined b [] bytes e = absurd (at bytes e)
  where
    at : (bytes : List ℕ) → [] ≡ bytes ++ 10 ∷ [] → ⊥
    at [] e = cc
    at (c ∷ bytes) e = cc
onto_joined b (l ∷ ls) bytes e = ap (λ (text : List ℕ). b ∷ text) e

pub ended_joined : (front : List ℕ) → joined (lines_of (front ++ 10 ∷ [])) ≡ front ++ 10 ∷ []
ended_joined [] = refl
ended_joined (b ∷ front) = at (b == 10) refl (ended_joined front)
  where
    at : (t : Bool) → (b == 10) ≡ t → joined (lines_of (front ++ 10 ∷ [])) ≡ front ++ 10 ∷ [] → joined (if t then [] ∷ lines_of (front ++ 10 ∷ []) else onto_first b (lines_of (front ++ 10 ∷ []))) ≡ b ∷ (front ++ 10 ∷ [])
    at true e rest = ap (λ (text : List ℕ). 10 ∷ text) rest ∙ ap (λ (c : ℕ). c ∷ (front ++ 10 ∷ [])) (sym (eqb-true b 10 e))
    at false e rest = onto_joined b (lines_of (front ++ 10 ∷ [])) front rest

-- and lines end in a newline
pub joined_ended : (l : List ℕ) (ls : List (List ℕ)) → (front : List ℕ) × (joined (l ∷ ls) ≡ front ++ 10 ∷ [])
joined_ended l [] = (l, refl)
joined_ended l (k ∷ ls) =
    let rest = joined_ended k ls in
    (l ++ 10 ∷ rest.0, ap (λ (text : List ℕ). l ++ 10 ∷ text) rest.1 ∙ sym (append_assoc l (10 ∷ rest.0) (10 ∷ [])))

-- ==== the end of bytes from which one line after another is cut

pub empty_is : (bytes : List ℕ) → length bytes ≤ 0 → bytes ≡ []
empty_is [] none = refl
empty_is (b ∷ bytes) none = absurd (omega arith)

-- ==== what is known of bytes from their lines that were read, where texts of a kind are lines, each with its newline

pub all-append : {X : Type 0} (P : X → Type 0) (xs ys : List X) → AllByRecursion P xs → AllByRecursion P ys → AllByRecursion P (xs ++ ys)
all-append P [] ys left right = right
all-append P (x ∷ xs) ys left right = (left.0, all-append P xs ys left.1 right)

-- what is true of all is true of those behind, of those in front, and of the next
pub all_behind : {X : Type 0} (P : X → Type 0) (xs ys : List X) → AllByRecursion P (xs ++ ys) → AllByRecursion P ys
all_behind P [] ys all = all
all_behind P (x ∷ xs) ys all = all_behind P xs ys all.1

pub in_front : {X : Type 0} (P : X → Type 0) (xs ys : List X) → AllByRecursion P (xs ++ ys) → AllByRecursion P xs
in_front P [] ys all = tt
in_front P (x ∷ xs) ys all = (all.0, in_front P xs ys all.1)

pub next_one : {X : Type 0} (P : X → Type 0) (xs : List X) (y : X) (ys : List X) → AllByRecursion P (xs ++ y ∷ ys) → P y
next_one P [] y ys all = all.0
next_one P (x ∷ xs) y ys all = next_one P xs y ys all.1

no_newlines : (ls : List (List ℕ)) → AllByRecursion IsLine ls → AllByRecursion HasNoNewline ls
no_newlines [] all = tt
no_newlines (l ∷ ls) all = (all.0.no_newline, no_newlines ls all.1)

taken : {X : Type 0} (k : ℕ) (xs : List X) → (rest : List X) × (xs ≡ take k xs ++ rest)
taken zero xs = (xs, refl)
taken (suc k) [] = ([], refl)
taken (suc k) (x ∷ xs) = let rest = taken k xs in (rest.0, ap (λ ys. x ∷ ys) rest.1)

take_front : {X : Type 0} (k : ℕ) (xs ys : List X) → k ≤ length xs → take k (xs ++ ys) ≡ take k xs
take_front zero xs ys low = refl
take_front (suc k) [] ys low = absurd (omega arith)
take_front (suc k) (x ∷ xs) ys low = ap (λ zs. x ∷ zs) (take_front k xs ys (omega arith))

take_next : {X : Type 0} (xs : List X) (y : X) (ys : List X) → take (suc (length xs)) (xs ++ y ∷ ys) ≡ xs ++ y ∷ []
take_next [] y ys = refl
take_next (x ∷ xs) y ys = ap (λ zs. x ∷ zs) (take_next xs y ys)

module _ {A : Type 0} (P : A → Type 0) (text : A → List (List ℕ)) (are_lines : (a : A) → P a → AllByRecursion IsLine (text a)) where
  -- the bytes are a text of the kind
  abbrev IsText : List ℕ → Type 0
  IsText bytes = (a : A) × P a × (bytes ≡ joined (text a))

  have_none : (a : A) → P a → AllByRecursion HasNoNewline (text a)
  have_none a is = no_newlines (text a) (are_lines a is)

  -- ---- texts and their lines

  pub lines_of_text : (a : A) → P a → (front : List (List ℕ)) (rest : List ℕ) → AllByRecursion HasNoNewline front → joined front ++ rest ≡ joined (text a) → text a ≡ front ++ lines_of rest
  lines_of_text a is front rest none e =
      sym (append-nil (text a))
      ∙ sym (lines_before (text a) [] (have_none a is))
      ∙ ap lines_of (append-nil (joined (text a)) ∙ sym e)
      ∙ lines_before front rest none

  -- the lines of a whole text
  pub whole_lines : (a : A) → P a → (bytes : List ℕ) → bytes ≡ joined (text a) → text a ≡ lines_of bytes
  whole_lines a is bytes e = sym (append-nil (text a)) ∙ sym (lines_before (text a) [] (have_none a is)) ∙ ap lines_of (append-nil (joined (text a)) ∙ sym e)

  -- ---- lines with which a text begins

  module _ (ls : List (List ℕ)) (found : A) (is : P found) (to_come : List (List ℕ)) (read : text found ≡ ls ++ to_come) where
    begins : Begins IsText (joined ls)
    begins = (joined to_come, (found, is, sym (joined-append ls to_come) ∙ ap joined (sym read)))

    -- and with fewer of them
    begins_earlier : (k : ℕ) → Begins IsText (joined (take k ls))
    begins_earlier k =
        let rest = taken k ls in
        let front : joined ls ≡ joined (take k ls) ++ joined rest.0 = ap joined rest.1 ∙ joined-append (take k ls) rest.0 in
        (joined rest.0 ++ begins.0, (begins.1.0, begins.1.1, sym (append_assoc (joined (take k ls)) (joined rest.0) begins.0) ∙ ap (λ (t : List ℕ). t ++ begins.0) (sym front) ∙ begins.1.2))

    module _ (bytes behind : List ℕ) (lines : lines_of bytes ≡ ls ++ lines_of behind) where
      before_it : (k : ℕ) → k < suc (length ls) → Begins IsText (first_lines k bytes)
      before_it k low = subst (λ (xs : List (List ℕ)). Begins IsText (joined xs)) (sym (ap (take k) lines ∙ take_front k ls (lines_of behind) (omega arith))) (begins_earlier k)

      -- ---- a line with which no text begins

      module _ (line : List ℕ) (more : List (List ℕ)) (next : lines_of behind ≡ line ∷ more) where
        all_of : lines_of bytes ≡ ls ++ line ∷ more
        all_of = lines ∙ ap (λ (xs : List (List ℕ)). ls ++ xs) next

        up_to_it : first_lines (suc (length ls)) bytes ≡ joined (ls ++ line ∷ [])
        up_to_it = ap (λ (xs : List (List ℕ)). joined (take (suc (length ls)) xs)) all_of ∙ ap joined (take_next ls line more)

        no_newline : AllByRecursion HasNoNewline (ls ++ line ∷ [])
        no_newline =
            let all = subst (AllByRecursion HasNoNewline) all_of (lines_have_none bytes) in
            all-append HasNoNewline ls (line ∷ []) (in_front HasNoNewline ls (line ∷ more) all) (next_one HasNoNewline ls line more all, tt)

        -- a text that begins so goes on with the line
        goes_with : (rest : List ℕ) (a : A) → P a → joined (ls ++ line ∷ []) ++ rest ≡ joined (text a) → text a ≡ ls ++ line ∷ lines_of rest
        goes_with rest a fit e = lines_of_text a fit (ls ++ line ∷ []) rest no_newline e ∙ append_assoc ls (line ∷ []) (lines_of rest)

        pub refused_line : ((rest : List (List ℕ)) (a : A) → P a → text a ≡ ls ++ line ∷ rest → ⊥) → IsRefusedAt IsText bytes (suc (length ls))
        refused_line none = record {
          text = λ h. none more h.0 h.1 (whole_lines h.0 h.1 bytes h.2 ∙ all_of);
          low = omega arith;
          high = omega (arith, ap length all_of, length-append ls (line ∷ more));
          before = before_it;
          here = λ inside h. (let begun = subst (Begins IsText) up_to_it h in none (lines_of begun.0) begun.1.0 begun.1.1 (goes_with begun.0 begun.1.0 begun.1.1 begun.1.2));
        }

      -- ---- the end

      module _ (ended : behind ≡ []) where
        pub all_read : lines_of bytes ≡ ls
        all_read = lines ∙ ap (λ (t : List ℕ). ls ++ lines_of t) ended ∙ append-nil ls

        pub whole_is : (a : A) → P a → bytes ≡ joined (text a) → text a ≡ ls
        whole_is a fit e = whole_lines a fit bytes e ∙ all_read

        pub wanting : ((a : A) → P a → bytes ≡ joined (text a) → ⊥) → IsRefusedAt IsText bytes (suc (length ls))
        wanting none = record {
          text = λ h. none h.0 h.1 h.2;
          low = omega arith;
          high = omega (arith, ap length all_read);
          before = before_it;
          here = λ inside. absurd (omega (arith, inside, ap length all_read));
        }
