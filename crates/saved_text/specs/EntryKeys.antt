-- The slots that the lines of a carried text name, as a set of their texts.
use Rattle.std.specs.Prelude.{ℕ, Bool, List}
use Rattle.std.specs.HashSet.{contains_text}
use Rattle.saved_text.specs.declared.entry_keys.EntryKeys.{EntryKeys}

abbrev pub has : EntryKeys → List ℕ → Bool
has h text = contains_text h.texts text
