use Rattle.std.proofs.Common.{List, ap, ◌∙◌}
use Rattle.text_checks.specs.Tables.{named_checks}
use Rattle.dict_source.specs.Dictionary.{dictionary_view}
use Rattle.dictionary.specs.AcceptedParts.{Named}
use Rattle.dictionary.specs.Checks.{same_checks}
use Rattle.dictionary.proofs.CheckLaws.{tells_same}
use Rattle.dictionary.proofs.dictionary.Dictionary.same_checks.Goals as goal

pub returns : goal.returns
returns g c =
    rw (← c.self.view_is)
    (tells_same c.self.inside.contents.value.checks.items (named_checks c.args.table.now) (dictionary_view c.self.inside.contents.value.source) c.are_of_table.result c.self.inside.contents.value.precomputed.checked
    (rw c.deref-2.ensures at (c.are_of_table.ensures ∙ ap (λ (l : List Named). same_checks l (named_checks c.args.table.now)) c.as_slice.ensures.value))
    c.self.invariant.precomputed_of.names_check (rw c.deref.ensures at c.if-not-deref.false))
