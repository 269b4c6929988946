use Rattle.std.proofs.Common.{◌≡◌, ◌+◌, IsTrue, drop, sym, ap, ◌∙◌, subst, add-one}
use Rattle.dict_source.specs.Dictionary.{Dictionary, dictionary_view, with_fact}
use Rattle.dict_source.specs.Facts.{Fact}
use Rattle.dict_source.proofs.FindingLaws.{drop-view}
use Rattle.written_facts.specs.Figures.{figures_view}
use Rattle.written_facts.specs.WrittenFacts.{written_view, written_views}
use Rattle.written_facts.specs.Taking.{takes, takes_all, with_facts}
use Rattle.written_facts.proofs.Taken.{first_taken, one_more, rest_taken, taken_name}
use Rattle.written_facts.proofs.pushing.push_facts.Goals as goal

pub fact_of-requires : goal.fact_of-requires
fact_of-requires c =
    let i = c.loop-written.written-index in
    let views = written_views (figures_view c.args.figures.now) c.args.facts.now in
    let left = drop-view (written_view (figures_view c.args.figures.now)) c.args.facts.now i (i + 1) c.written-item.result c.loop-written-test.true c.written-item.is (add-one i) in
    let f = written_view (figures_view c.args.figures.now) c.written-item.result in
    taken_name (dictionary_view c.loop-written.source) f (first_taken (dictionary_view c.loop-written.source) f (drop (i + 1) views) (drop i views) left c.loop-written.invariant.taken)

pub push-requires : goal.push-requires
push-requires c =
    let i = c.loop-written.written-index in
    let views = written_views (figures_view c.args.figures.now) c.args.facts.now in
    let left = drop-view (written_view (figures_view c.args.figures.now)) c.args.facts.now i (i + 1) c.written-item.result c.loop-written-test.true c.written-item.is (add-one i) in
    let f = written_view (figures_view c.args.figures.now) c.written-item.result in
    subst (λ (g : Fact). IsTrue (takes (dictionary_view c.loop-written.source) g)) (sym c.in_ok-fact.ensures)
    (first_taken (dictionary_view c.loop-written.source) f (drop (i + 1) views) (drop i views) left c.loop-written.invariant.taken)

pub loop-written-preserved : goal.loop-written-preserved
loop-written-preserved c =
    let i = c.loop-written.written-index in
    let views = written_views (figures_view c.args.figures.now) c.args.facts.now in
    let left = drop-view (written_view (figures_view c.args.figures.now)) c.args.facts.now i (i + 1) c.written-item.result c.loop-written-test.true c.written-item.is (add-one i) in
    let f = written_view (figures_view c.args.figures.now) c.written-item.result in
    let d = dictionary_view c.loop-written.source in
    let now : dictionary_view c.push.new.source ≡ with_fact d f = c.in_ok-push.ensures ∙ ap (with_fact d) c.in_ok-fact.ensures in
    record {
      taken = subst (λ (e : Dictionary). IsTrue (takes_all e (drop (i + 1) views))) (sym now) (rest_taken d f (drop (i + 1) views) (drop i views) left c.loop-written.invariant.taken);
      all = ap (λ (e : Dictionary). with_facts e (drop (i + 1) views)) now ∙ (sym (one_more d f (drop (i + 1) views) (drop i views) left) ∙ c.loop-written.invariant.all);
    }
