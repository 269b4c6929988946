-- The texts of members and of their lists.
use Rattle.std.specs.Prelude.{ℕ, List, [], ◌∷◌, ◌++◌, codes, decimal}

-- `#3`
abbrev pub printed_item : ℕ → List ℕ
printed_item member = 35 ∷ decimal member

-- each behind a blank
abbrev pub printed_rest : List ℕ → List ℕ
printed_rest [] = []
printed_rest (member ∷ members) = 32 ∷ (printed_item member ++ printed_rest members)

-- `[#1 #2]`, with one blank between two members
abbrev pub printed_members : List ℕ → List ℕ
printed_members [] = codes "[]"
printed_members (member ∷ members) = 91 ∷ (printed_item member ++ (printed_rest members ++ 93 ∷ []))
