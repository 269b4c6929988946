-- Lists of options that the program writes.
use Rattle.std.specs.Prelude.{ℕ, Bool, true, false, List, [], ◌∷◌, map}
use Rattle.std.specs.Borrow.{Bor}
use Rattle.value_text.specs.Enums.{Listed}

abbrev pub texts_view : List (Bor (List ℕ)) → List (List ℕ)
texts_view ts = map (λ t. t.now) ts

abbrev pub options_view : List ℕ → List (Bor (List ℕ)) → Listed
options_view name ts = record { name = name; options = texts_view ts }

abbrev pub is_empty : List (List ℕ) → Bool
is_empty [] = true
is_empty (t ∷ ts) = false
