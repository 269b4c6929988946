-- What the grammar reads from a text, as a relation and as a function.
use Rattle.std.proofs.Common.{◌≡◌, ℕ, List, Option, Some, None, Err, refl, sym, ap, ◌∙◌}
use Rattle.std.proofs.lemmas.Option.{none-some}
use Rattle.fact_paths.specs.Paths.{Reads, SpellsUsePath, SpellsFactPath, use_path_text}
use Rattle.fact_paths.specs.declared.fault.PathFault.{PathFault}
use Rattle.fact_paths.specs.declared.fault.PathFault.TheVariants.{BadPath, NoMemory}
use Rattle.fact_paths.specs.declared.fact_path.FactPath.{FactPath}
use Rattle.fact_paths.specs.declared.use_path.UsePath.{UsePath}
use Rattle.fact_paths.proofs.ParsingLaws.{IsReading}
use Rattle.fact_paths.specs.Parsing.{use_path_of, fact_path_of}
use Rattle.fact_paths.proofs.UsePathLaws.{use_path_reading}
use Rattle.fact_paths.proofs.FactPathLaws.{fact_path_reading}
use Rattle.dict_source.specs.Forms.{IsReadFrom}
use Rattle.dict_source.specs.View.{use_of}
use Rattle.dict_source.specs.Tree.{Use}

abbrev pub made : List ℕ → Option UsePath → Use
made text path = record { text = text; path = path }

-- nothing is read where nothing is spelled
read_none : {P : Type 0} (spells : List ℕ → P → Type 0) (reading : List ℕ → Option P) → IsReading spells reading
    → (text : List ℕ) (o : Option P) → reading text ≡ o → ((p : P) → ¬ (spells text p)) → reading text ≡ None
read_none spells reading is text None e h = e
read_none spells reading is text (Some p) e h = absurd (h p (is.sound text p e))

read_given : {P : Type 0} (spells : List ℕ → P → Type 0) (reading : List ℕ → Option P) → IsReading spells reading
    → (text : List ℕ) (o : Option P) → IsReadFrom spells text o → reading text ≡ o
read_given spells reading is text None h = read_none spells reading is text (reading text) refl h
read_given spells reading is text (Some p) h = is.complete text p h

read_from : {P : Type 0} (spells : List ℕ → P → Type 0) (reading : List ℕ → Option P) → IsReading spells reading
    → (text : List ℕ) (o : Option P) → reading text ≡ o → IsReadFrom spells text o
read_from spells reading is text None e = λ p h. none-some p (sym e ∙ is.complete text p h)
read_from spells reading is text (Some p) e = is.sound text p e

pub use_path_given : (text : List ℕ) (o : Option UsePath) → IsReadFrom SpellsUsePath text o → use_path_of text ≡ o
use_path_given text o h = read_given SpellsUsePath use_path_of use_path_reading text o h

pub use_path_from : (text : List ℕ) (o : Option UsePath) → use_path_of text ≡ o → IsReadFrom SpellsUsePath text o
use_path_from text o e = read_from SpellsUsePath use_path_of use_path_reading text o e

pub fact_path_given : (text : List ℕ) (o : Option FactPath) → IsReadFrom SpellsFactPath text o → fact_path_of text ≡ o
fact_path_given text o h = read_given SpellsFactPath fact_path_of fact_path_reading text o h

pub fact_path_from : (text : List ℕ) (o : Option FactPath) → fact_path_of text ≡ o → IsReadFrom SpellsFactPath text o
fact_path_from text o e = read_from SpellsFactPath fact_path_of fact_path_reading text o e

-- the text of a path that is read from it
pub use_made : (text : List ℕ) (path : UsePath) → SpellsUsePath text path → made (use_path_text path) (Some path) ≡ use_of text
use_made text path read = rw (sym read.1, use_path_given text (Some path) read) refl

-- a text from which nothing is read
pub no_use_made : (text : List ℕ) (e : PathFault) → e ≡ BadPath → Reads SpellsUsePath text (Err e) → made text None ≡ use_of text
no_use_made text BadPath is read = ap (made text) (sym (use_path_given text None read))
no_use_made text NoMemory is read = absurd cc

-- a path of a fact, where one is read
pub path_made : (text : List ℕ) (o : Option FactPath) → IsReadFrom SpellsFactPath text o → Some (fact_path_of text) ≡ Some o
path_made text o read = ap Some (fact_path_given text o read)

pub no_path_made : (text : List ℕ) (e : PathFault) → e ≡ BadPath → Reads SpellsFactPath text (Err e) → Some (fact_path_of text) ≡ Some None
no_path_made text BadPath is read = path_made text None read
no_path_made text NoMemory is read = absurd cc
