-- Laws of readers: a slot feeds the slots of its fact's readers, and readers are facts.
use Rattle.std.specs.Prelude.{◌≡◌, ℕ, Bool, not, ◌&&◌, ◌||◌, nat_eq, List, All}
use Rattle.std.specs.List.{list_any}
use Rattle.fact_values.specs.declared.slot.Slot.{Slot}
use Rattle.dict_source.specs.Finding.{IsNumber}
use Rattle.dict_meaning.specs.Accepted.{Accepted}
use Rattle.dict_meaning.specs.Feeds.{feeds}
use Rattle.dep_index.specs.Readers.{AreReaders, is_reader}
use Rattle.dep_index.specs.declared.readers_of.ReaderOf.{ReaderOf}

-- the slot s is the reader's, and where each of its mentions is Same, the members are equal
abbrev pub reads : Slot → Slot → ReaderOf → Bool
reads t s r = is_reader s.fact r && (not r.same || nat_eq t.member s.member)

-- t feeds s exactly where s is so read by one of the readers of its fact
abbrev pub FeedsByReaders : Type 0
FeedsByReaders = (d : Accepted) (t s : Slot) (rs : List ReaderOf) → AreReaders d t.fact rs → list_any (reads t s) rs ≡ feeds d.tree t s

-- each reader is one of the dictionary's facts
abbrev pub ReadersAreFacts : Type 0
ReadersAreFacts = (d : Accepted) (fact : ℕ) (rs : List ReaderOf) → AreReaders d fact rs → All (λ (r : ReaderOf). IsNumber d.tree.facts r.fact) rs
