use Rattle.std.proofs.Common.{◌≡◌, ◌+◌, ◌∷◌, drop, sym, ap, ◌∙◌, subst}
use Rattle.std.proofs.lemmas.List.{at_drop_more}
use Rattle.answers.specs.OpenedLists.{MayOpen, with_all}
use Rattle.answers.specs.Meaning.{answered}
use Rattle.answers.proofs.OpenedListsLaws.{open_step}
use Rattle.answers.proofs.parts.Parts.open_lists.Goals as goal

pub loop-opened-preserved : goal.loop-opened-preserved
loop-opened-preserved c =
    let lists : drop c.loop-opened.opened-index c.args.lists.now ≡ c.opened-item.result ∷ drop (c.loop-opened.opened-index + 1) c.args.lists.now = at_drop_more (λ es. es) c.args.lists.now c.loop-opened.opened-index c.opened-item.result c.loop-opened-test.true ∙ ap (λ e. e ∷ drop (c.loop-opened.opened-index + 1) c.args.lists.now) (sym c.opened-item.is) in
    record {
      same = rw c.in_ok-open_list.ensures.new (sym (ap (λ es. with_all es (answered c.loop-opened.self)) lists) ∙ c.loop-opened.invariant.same);
      opening = rw c.in_ok-open_list.ensures.new (open_step c.opened-item.result _ _ c.in_ok-open_list.ensures.members (subst (λ es. MayOpen es (answered c.loop-opened.self)) lists c.loop-opened.invariant.opening));
    }
