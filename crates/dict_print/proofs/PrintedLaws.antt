-- What is printed reads back.
use Rattle.std.proofs.Common.{◌≡◌, ℕ, ◌≤◌, List, length, Some, Ok, ap, subst, sym, ◌∙◌}
use Rattle.std.specs.Str.{IsUtf8}
use Rattle.serde_json.specs.Data.{Data, depth}
use Rattle.serde_json.specs.Read.{read, max_depth}
use Rattle.dict_source.specs.Dictionary.{Dictionary}
use Rattle.dict_tree.specs.DictParsing.{BytesGive, max_bytes}
use Rattle.dict_print.specs.DictionaryJson.{dictionary_json, IsPrintable}
use Rattle.dict_print.proofs.NestingLaws.{printed_nests}
use Rattle.dict_print.proofs.SpellingLaws.{printed_spells}

-- the bytes of a value that is written, which reads back where it isn't too deep, are the dictionary's form
pub printed_reads : (d : Dictionary) (v : Data) (bytes : List ℕ) → v ≡ dictionary_json d → IsPrintable d → (depth v ≤ max_depth → read bytes ≡ Some v) → read bytes ≡ Some (dictionary_json d)
printed_reads d v bytes is h reads = reads (subst (λ x. depth x ≤ max_depth) (sym is) (printed_nests d h.valid.limits)) ∙ ap Some is

-- and are read as the dictionary
pub printed_gives : (d : Dictionary) (bytes : List ℕ) → IsPrintable d → IsUtf8 bytes → read bytes ≡ Some (dictionary_json d) → length bytes ≤ max_bytes → BytesGive bytes (Ok d)
printed_gives d bytes h utf8 reads few = (few, dictionary_json d, (utf8, reads), (printed_spells d h, h.valid.limits))
