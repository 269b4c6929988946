-- The script of the load with so many sums: members are added, one by one they are answered, with the last sum asked for behind
-- each answer, then all answers are undone and redone.
use Rattle.std.specs.Prelude.{ℕ, zero, suc, ◌+◌, ◌%◌, min, decimal, codes, List, [], ◌∷◌, ◌++◌, replicate}
use Rattle.script_lines.specs.Joined.{joined}
use Rattle.dict_gen.specs.Chain.{sum_path}

-- how many members are added
abbrev pub member_count : ℕ → ℕ
member_count n = min n 100

-- the member with the number k is answered r
abbrev pub set_line : ℕ → ℕ → List ℕ
set_line k r = codes "set /c/#" ++ (decimal k ++ (codes "/v " ++ decimal r))

-- the last of so many sums is asked for
abbrev pub get_line : ℕ → List ℕ
get_line n = codes "get " ++ sum_path n

-- The round behind i rounds: a member is answered, and the last of n sums is asked for. The m members take turns, and the answers
-- are 1, 2, 3 ..
abbrev pub round : ℕ → ℕ → ℕ → List (List ℕ)
round m n i = set_line (1 + i % m) (1 + i) ∷ get_line n ∷ []

-- so many rounds
abbrev pub rounds : ℕ → ℕ → ℕ → List (List ℕ)
rounds m n zero = []
rounds m n (suc i) = rounds m n i ++ round m n i

-- the line n times, which undoes or redoes, and what the last sum is then
abbrev pub moves : List ℕ → ℕ → List (List ℕ)
moves line n = replicate n line ++ get_line n ∷ []

-- the lines of the load with n sums
abbrev pub lines : ℕ → List (List ℕ)
lines n = replicate (member_count n) (codes "add /c") ++ (rounds (member_count n) n n ++ (moves (codes "undo") n ++ moves (codes "redo") n))

-- each line is ended by the byte 10
abbrev pub script : ℕ → List ℕ
script n = joined (lines n)
