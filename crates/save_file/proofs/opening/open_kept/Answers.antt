use Rattle.save_file.proofs.Common.{AreApart, AreBelow, FactsRise, List, TextLine, ap, line_of, map, opened, rules, subst, sym, tree_of, ◌∙◌}
use Rattle.save_file.proofs.CarriedAnswers.{opened_apart, opened_below, opened_rise}
use Rattle.save_file.proofs.opening.open_kept.Goals as goal

pub with_lists-requires-clause-rise : goal.with_lists-requires-clause-rise
with_lists-requires-clause-rise c = subst FactsRise (sym (c.in-Ok.ensures.given ∙ ap (λ (ls : List TextLine). opened (tree_of (rules c.args.dict.now)) (map line_of ls)) c.as_slice.ensures.value)) (opened_rise (tree_of (rules c.args.dict.now)) c.args.read.now.next (map line_of c.args.read.now.lines.items) c.requires)

pub with_lists-requires-clause-separate : goal.with_lists-requires-clause-separate
with_lists-requires-clause-separate c = subst AreApart (sym (c.in-Ok.ensures.given ∙ ap (λ (ls : List TextLine). opened (tree_of (rules c.args.dict.now)) (map line_of ls)) c.as_slice.ensures.value)) (opened_apart (tree_of (rules c.args.dict.now)) c.args.read.now.next (map line_of c.args.read.now.lines.items) c.requires)

pub with_lists-requires-clause-below : goal.with_lists-requires-clause-below
with_lists-requires-clause-below c = subst (AreBelow c.args.read.now.next) (sym (c.in-Ok.ensures.given ∙ ap (λ (ls : List TextLine). opened (tree_of (rules c.args.dict.now)) (map line_of ls)) c.as_slice.ensures.value)) (opened_below (tree_of (rules c.args.dict.now)) c.args.read.now.next (map line_of c.args.read.now.lines.items) c.requires)
