use Rattle.std.proofs.Common.{◌||◌, ap, ◌∙◌}
use Rattle.answers.specs.Meaning.{answered, change}
use Rattle.dictionary.specs.AcceptedParts.{accepted, names_of}
use Rattle.recalc.specs.Seeding.{is_came, is_own}
use Rattle.recalc.proofs.Outcomes.{ok_then}
use Rattle.recalc.proofs.SeedingLaws.{first_wait, order_numbers, own_number}
use Rattle.recalc.proofs.seeding.seed.Goals as goal

pub add_came_if-requires : goal.add_came_if-requires
add_came_if-requires c = order_numbers (names_of c.args.dict.now.checks) (accepted c.args.dict.now) c.source-source.ensures.is_accepted c.by_rank-facts.result.now c.by_rank-facts.ensures

pub add_own-requires : goal.add_own-requires
add_own-requires c = own_number (names_of c.args.dict.now.checks) (accepted c.args.dict.now) c.source-source.ensures.is_accepted c.by_rank-facts.result.now c.by_rank-facts.ensures (change c.args.undo.now) (answered c.args.now.now) c.requires.undone c.args.own c.requires.own

pub returns-clause-waiting : goal.returns-clause-waiting
returns-clause-waiting c =
    ok_then c.add_own.result c.add_own.ensures.waiting (λ _ own.
    first_wait (names_of c.args.dict.now.checks) (accepted c.args.dict.now) c.source-source.ensures.is_accepted c.by_rank-facts.result.now c.by_rank-facts.ensures (change c.args.undo.now) (answered c.args.now.now) c.requires.undone
    c.newcomer.result c.newcomer.ensures c.args.own c.requires.own c.add_own.new.queue
    (λ q. own q ∙ ap (λ b. b || is_own (accepted c.args.dict.now) c.args.own q) (c.in_ok-add_came_if.ensures.waiting q ∙ ap (λ b. b || is_came (accepted c.args.dict.now) c.newcomer.result c.by_rank-facts.result.now q) (c.requires.empty q))))
