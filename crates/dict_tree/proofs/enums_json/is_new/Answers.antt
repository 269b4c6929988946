use Rattle.std.proofs.Common.{Some, Option, Bool, not, sym, ap, ◌∙◌}
use Rattle.dict_tree.proofs.DistinctLaws.{among_map}
use Rattle.dict_tree.proofs.enums_json.is_new.Goals as goal

pub returns-clause-new : goal.returns-clause-new
returns-clause-new c =
    let some : Bool → Option Bool = λ b. Some b in
    ap (λ b. some (not b)) (among_map c.args.text.now c.args.seen.now.keys) ∙ ap some (sym c.in_ok-insert.ensures.added)
