-- The first word of a line.
use Rattle.std.proofs.Common.{◌≡◌, ◌≢◌, ℕ, ◌+◌, List, [], ◌∷◌, ◌++◌, take, drop, refl, sym, ap, ◌∙◌}
use Rattle.std.proofs.lemmas.List.{drop_more, take-append-drop}
use Rattle.std.proofs.lemmas.List.Elements.{All-head, All-tail}
use Rattle.script_lines.proofs.Bytes.{at_other}
use Rattle.interview_ends.specs.Summary.{HasNoBlank, IsBlankAt, first_word}

lacks_first : (b : ℕ) (bytes : List ℕ) → HasNoBlank (b ∷ bytes) → b ≢ 32
lacks_first = All-head (λ b. b ≢ 32)

lacks_others : (b : ℕ) (bytes : List ℕ) → HasNoBlank (b ∷ bytes) → HasNoBlank bytes
lacks_others = All-tail (λ b. b ≢ 32)

-- a line without a blank is one word
pub one_word : (line : List ℕ) → HasNoBlank line → line ≡ first_word line
one_word [] none = refl
one_word (b ∷ line) none = ap (λ l. b ∷ l) (one_word line (lacks_others b line none)) ∙ sym (at_other 32 b [] (b ∷ first_word line) (lacks_first b line none))

-- what stands before the first blank
word_before : (front more : List ℕ) → HasNoBlank front → front ≡ first_word (front ++ 32 ∷ more)
word_before [] more none = refl
word_before (b ∷ front) more none = ap (λ l. b ∷ l) (word_before front more (lacks_others b front none)) ∙ sym (at_other 32 b [] (b ∷ first_word (front ++ 32 ∷ more)) (lacks_first b front none))

pub word_at : (line : List ℕ) (at : ℕ) → IsBlankAt line at → take at line ≡ first_word line
word_at line at blank =
    let rest = drop (at + 1) line in
    let parts : line ≡ take at line ++ 32 ∷ rest =
    sym (take-append-drop at line) ∙ ap (λ l. take at line ++ l) (drop_more line at 0 blank.within ∙ ap (λ b. b ∷ rest) blank.here) in
    word_before (take at line) rest blank.first ∙ ap first_word (sym parts)
