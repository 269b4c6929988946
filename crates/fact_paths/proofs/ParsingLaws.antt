-- Reading and spelling agree, for every kind of path.
use Rattle.std.proofs.Common.{◌≡◌, ℕ, Bool, true, false, cond, List, Option, Some, None, Result, Ok, Err, refl, sym, ap, ◌∙◌}
use Rattle.std.specs.Prelude.{option_and_then}
use Rattle.std.proofs.lemmas.Option.{none-some, same_Some}
use Rattle.common_lemmas.proofs.Bools.{chosen}
use Rattle.common_lemmas.proofs.Options.{mapped}
use Rattle.fact_paths.specs.Names.{is_name, IsName}
use Rattle.fact_paths.specs.Paths.{Reads}
use Rattle.fact_paths.specs.Parsing.{Gives, name_of, of_name, of_names}
use Rattle.fact_paths.specs.declared.fault.PathFault.{PathFault}
use Rattle.fact_paths.specs.declared.fault.PathFault.TheVariants.{BadPath, NoMemory}

-- ---- names

-- a path of one name is made of a name
pub of_name_some : {P : Type 0} (path : List ℕ → P) (a : List ℕ) (p : P) → of_name path a ≡ Some p → IsName a × (p ≡ path a)
of_name_some path a p e =
    let made = mapped path (name_of a) p e in
    let is = chosen (is_name a) a made.0 made.1 in
    (is.0, made.2 ∙ ap path (sym is.1))

-- a name makes a path
pub of_name-name : {P : Type 0} (path : List ℕ → P) (a : List ℕ) → IsName a → of_name path a ≡ Some (path a)
of_name-name path a h = rw h refl

-- the same of two texts and their tests
pair_of_some : {P : Type 0} (path : List ℕ → List ℕ → P) (b c : Bool) (x y : List ℕ) (p : P)
    → option_and_then (λ n. option_and_then (λ m. Some (path n m)) (cond c (Some y) None)) (cond b (Some x) None) ≡ Some p
    → (b ≡ true) × (c ≡ true) × (p ≡ path x y)
pair_of_some path true true x y p e = (refl, refl, sym (same_Some (path x y) p e))
pair_of_some path true false x y p e = absurd (none-some p e)
pair_of_some path false c x y p e = absurd (none-some p e)

-- a path of two names is made of two names
pub of_names_some : {P : Type 0} (path : List ℕ → List ℕ → P) (x y : List ℕ) (p : P) → of_names path x y ≡ Some p → IsName x × IsName y × (p ≡ path x y)
of_names_some path x y p e = pair_of_some path (is_name x) (is_name y) x y p e

-- two names make a path
pub of_names-names : {P : Type 0} (path : List ℕ → List ℕ → P) (x y : List ℕ) → IsName x → IsName y → of_names path x y ≡ Some (path x y)
of_names-names path x y h k = rw (h, k) refl

-- ---- spelling and reading

-- reading gives the paths that a text spells, and no other
pub record IsReading {P : Type 0} (spells : List ℕ → P → Type 0) (reading : List ℕ → Option P) : Type 0 where
  pub sound : (text : List ℕ) (path : P) → reading text ≡ Some path → spells text path
  pub complete : (text : List ℕ) (path : P) → spells text path → reading text ≡ Some path

-- an answer that is what reading gives is right for what is spelled
pub reads_from_gives : {P : Type 0} (spells : List ℕ → P → Type 0) (reading : List ℕ → Option P) → IsReading spells reading
    → (text : List ℕ) (r : Result P PathFault) → Gives (reading text) r → Reads spells text r
reads_from_gives spells reading is text (Ok path) h = is.sound text path h
reads_from_gives spells reading is text (Err BadPath) h = λ path spelled. none-some path (sym h ∙ is.complete text path spelled)
reads_from_gives spells reading is text (Err NoMemory) h = tt

-- a text spells one path at most
pub one_path_from : {P : Type 0} (spells : List ℕ → P → Type 0) (reading : List ℕ → Option P) → IsReading spells reading
    → (text : List ℕ) (p q : P) → spells text p → spells text q → p ≡ q
one_path_from spells reading is text p q h k = same_Some p q (sym (is.complete text p h) ∙ is.complete text q k)
