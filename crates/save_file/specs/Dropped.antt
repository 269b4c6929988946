-- What is said of the lines that carrying drops.
use Rattle.std.specs.Prelude.{◌≡◌, ℕ, suc, Bool, false, not, nat_eq, List, [], ◌∷◌, ◌++◌, map, filter, take, unwrap_or, codes, refl, if◌then◌else◌}
use Rattle.fact_paths.specs.Cuts.{cut}
use Rattle.fact_paths.specs.declared.slot_path.SlotPath.TheVariants.{Global}
use Rattle.answers.specs.declared.edit.Side.TheVariants.{Override}
use Rattle.graph_session.specs.Rules.{Rules}
use Rattle.script_lines.specs.Joined.{joined}
use Rattle.saved_text.specs.CarriedText.{CarriedLine, CarriedText, IsCarried, carried, collection, entry, key_text}
use Rattle.save_file.specs.Carrying.{dropped_numbers, keeps}

-- ---- their text

-- the kind of a line and what it names: `dropped list /N`, `dropped value SLOT` or `dropped override SLOT`
abbrev pub dropped_key : CarriedLine → List ℕ
dropped_key line = codes "dropped " ++ key_text line

-- one for each line that isn't kept, in order
abbrev pub dropped_keys : Rules → List CarriedLine → List (List ℕ)
dropped_keys r lines = map dropped_key (filter (λ line. not (keeps r line)) lines)

-- each is ended by a newline
abbrev pub dropped_text : Rules → List CarriedLine → List ℕ
dropped_text r lines = joined (dropped_keys r lines)

-- the bytes are a carried text, these are the numbers of the lines that some rules drop, and that is what is said of them
abbrev pub AreDropped : List ℕ → List ℕ → List (List ℕ) → Type 0
AreDropped bytes dropped lines =
    (r : Rules) × (c : CarriedText) × IsCarried c × (bytes ≡ carried c) × (dropped ≡ dropped_numbers r c.lines) × (lines ≡ dropped_keys r c.lines)

-- the same as a text
abbrev pub IsDroppedText : List ℕ → List ℕ → List ℕ → Type 0
IsDroppedText bytes dropped text = (lines : List (List ℕ)) × AreDropped bytes dropped lines × (text ≡ joined lines)

-- ---- where it stands in the bytes

-- what stands before the first blank, and what stands behind it; all and nothing, where there is none
abbrev pub words_of : List ℕ → List ℕ × List ℕ
words_of text = unwrap_or (cut 32 text) (text, [])

abbrev pub word_of : List ℕ → List ℕ
word_of text = (words_of text).0

abbrev pub behind_word : List ℕ → List ℕ
behind_word text = (words_of text).1

-- with these two words
abbrev pub said : List ℕ → List ℕ → List ℕ
said kind name = codes "dropped " ++ (kind ++ (codes " " ++ name))

-- the first two of a line, as far as there is room for them, which the words of a carried text don't pass
abbrev pub shortened : List ℕ → List ℕ
shortened word = take 500 word

abbrev pub said_of : List ℕ → List ℕ
said_of line = said (shortened (word_of line)) (shortened (word_of (behind_word line)))

-- this number is the next of those that rise
abbrev pub is_next : ℕ → List ℕ → Bool
is_next n [] = false
is_next n (k ∷ ks) = nat_eq k n

-- and those behind it
abbrev pub past : ℕ → List ℕ → List ℕ
past n [] = []
past n (k ∷ ks) = if nat_eq k n then ks else k ∷ ks

abbrev pub said_if : Bool → List ℕ → List (List ℕ)
said_if b line = if b then said_of line ∷ [] else []

-- of the lines that have these numbers, where the first has the number n
abbrev pub said_at : ℕ → List ℕ → List (List ℕ) → List (List ℕ)
said_at n ns [] = []
said_at n ns (line ∷ lines) = said_if (is_next n ns) line ++ said_at (suc n) (past n ns) lines

-- worked examples
dropped_key-list : dropped_key (collection (codes "c") (2 ∷ [])) ≡ codes "dropped list /c"
dropped_key-list = refl

dropped_key-override : dropped_key (entry Override (Global (codes "s")) (codes "a b")) ≡ codes "dropped override /s"
dropped_key-override = refl

said_of-value : said_of (codes "value /n 7 a") ≡ codes "dropped value /n"
said_of-value = refl

said_at-second : said_at 1 (2 ∷ []) (codes "list /c" ∷ codes "list /d #1" ∷ codes "end" ∷ []) ≡ codes "dropped list /d" ∷ []
said_at-second = refl
