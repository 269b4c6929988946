-- What mentions a fact is a fact.
use Rattle.std.proofs.Common.{List, [], ◌∷◌, sym, ◌∙◌, arith}
use Rattle.std.specs.Prelude.{IsTrue, All}
use Rattle.std.specs.List.{list_any}
use Rattle.std.proofs.lemmas.List.Elements.{All-cons}
use Rattle.common_lemmas.proofs.Bools.{or_left, or_right}
use Rattle.common_lemmas.proofs.Numbers.{equal_number}
use Rattle.dict_source.specs.Finding.{IsNumber}
use Rattle.dep_index.specs.Laws.{ReadersAreFacts}
use Rattle.dep_index.specs.Readers.{is_reader}
use Rattle.dep_index.specs.declared.readers_of.ReaderOf.{ReaderOf}
use Rattle.dep_index.proofs.ReaderLaws.{mentions_number}

-- what holds of each reader that is found holds of all
each_found : (P : ReaderOf → Type 0) (rs : List ReaderOf) → ((r : ReaderOf) → IsTrue (list_any (is_reader r.fact) rs) → P r) → All P rs
each_found P [] h = λ i r low. absurd (omega arith)
each_found P (r ∷ rs) h =
    All-cons P r rs (h r (or_left (is_reader r.fact r) (list_any (is_reader r.fact) rs) (equal_number r.fact)))
    (each_found P rs (λ t i. h t (or_right (is_reader t.fact r) (list_any (is_reader t.fact) rs) i)))

pub readers_are_facts : ReadersAreFacts
readers_are_facts d fact rs are = each_found (λ r. IsNumber d.tree.facts r.fact) rs (λ r i. mentions_number d.tree fact r.fact (sym (are.mentioning r.fact) ∙ i))
