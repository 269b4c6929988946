-- Streams that are read in several pulls.
use Rattle.std.proofs.Common.{ℕ, List, [], ◌++◌, ◌∙◌, ap, Option, None, Some}
use Rattle.std.proofs.KnownBytes.{Consumes-nil, Consumes-trans}
use Rattle.std.proofs.lemmas.List.{append-nil}
use Rattle.std.specs.Io.KnownBytes.{Consumes, IsAtEnd}
use Rattle.fg_io.specs.Outside.{MayBe}

-- what didn't change gave nothing
pub consumes_none : (x : Option (List ℕ)) → Consumes x x []
consumes_none = Consumes-nil

-- one chunk after another
pub consumes_more : (a b c : Option (List ℕ)) (xs ys : List ℕ) → Consumes a b xs → Consumes b c ys → Consumes a c (xs ++ ys)
consumes_more = Consumes-trans

-- what was read goes on somehow
pub may_go_on : (a b : Option (List ℕ)) (xs : List ℕ) → Consumes a b xs → (more : List ℕ) × MayBe a (xs ++ more)
may_go_on None b xs read = ([], tt)
may_go_on (Some known) None xs read = absurd read
may_go_on (Some known) (Some rest) xs read = (rest, read)

-- at the end it was all that there was
pub may_be_whole : (a b : Option (List ℕ)) (xs : List ℕ) → Consumes a b xs → IsAtEnd b → MayBe a xs
may_be_whole None b xs read end = tt
may_be_whole (Some known) None xs read end = absurd read
may_be_whole (Some known) (Some rest) xs read end = read ∙ ap (λ l. xs ++ l) end ∙ append-nil xs
