-- What `gen` says of the replies to a script.
use Rattle.std.specs.Prelude.{◌≡◌, ◌≢◌, ℕ, ◌+◌, ◌<◌, ◌==◌, List, [], ◌∷◌, ◌++◌, All, codes, bytes_eq, if◌then◌else◌, length, map, refl, slice_index, take, Vec}
use Rattle.std.specs.declared.alloc.Global.{Global}
use Rattle.session_lines.specs.Replies.{numbered}

-- no byte is a blank
abbrev pub HasNoBlank : List ℕ → Type 0
HasNoBlank bytes = All (λ b. b ≢ 32) bytes

-- the first blank is here
pub record IsBlankAt (bytes : List ℕ) (at : ℕ) : Type 0 where
  pub within : at < length bytes
  pub here : slice_index bytes at ≡ 32
  pub first : HasNoBlank (take at bytes)

-- the bytes before the first blank
abbrev pub first_word : List ℕ → List ℕ
first_word [] = []
first_word (b ∷ bytes) = if b == 32 then [] else b ∷ first_word bytes

-- how many of the replies have this first word
abbrev pub count_of : List ℕ → List (List ℕ) → ℕ
count_of word [] = 0
count_of word (reply ∷ replies) = (if bytes_eq (first_word reply) word then 1 else 0) + count_of word replies

-- the last reply, and this where there is none
abbrev pub last_of : List ℕ → List (List ℕ) → List ℕ
last_of reply [] = reply
last_of reply (next ∷ replies) = last_of next replies

-- ---- four lines

abbrev pub gen_line : ℕ → List ℕ
gen_line n = numbered (codes "gen ") n

-- how many facts and nodes a dictionary has, and how many lines a script
abbrev pub size_line : (facts nodes lines : ℕ) → List ℕ
size_line facts nodes lines = numbered (codes "facts ") facts ++ numbered (codes " nodes ") nodes ++ numbered (codes " lines ") lines

abbrev pub counts_line : List (List ℕ) → List ℕ
counts_line replies =
    numbered (codes "complete ") (count_of (codes "complete") replies)
    ++ numbered (codes " placeholder ") (count_of (codes "placeholder") replies)
    ++ numbered (codes " incomplete ") (count_of (codes "incomplete") replies)
    ++ numbered (codes " fault ") (count_of (codes "fault") replies)
    ++ numbered (codes " refused ") (count_of (codes "refused") replies)

abbrev pub last_reply_line : List (List ℕ) → List ℕ
last_reply_line replies = codes "last " ++ last_of [] replies

abbrev pub summary : (n facts nodes lines : ℕ) → List (List ℕ) → List (List ℕ)
summary n facts nodes lines replies = gen_line n ∷ size_line facts nodes lines ∷ counts_line replies ∷ last_reply_line replies ∷ []

-- the texts of its lines, each by itself
abbrev pub texts_in : List (Vec ℕ Global) → List (List ℕ)
texts_in lines = map (λ line. line.items) lines

-- worked examples
abbrev some_replies : List (List ℕ)
some_replies = codes "ok" ∷ codes "incomplete" ∷ codes "ok" ∷ codes "complete 6" ∷ codes "completed" ∷ codes "complete" ∷ []

count_of-two : count_of (codes "complete") some_replies ≡ 2
count_of-two = refl

count_of-none : count_of (codes "refused") some_replies ≡ 0
count_of-none = refl

last_of-last : last_of [] some_replies ≡ codes "complete"
last_of-last = refl
