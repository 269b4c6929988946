use Rattle.std.proofs.Common.{◌≡◌, List, [], Option, ap, sym, length, ◌≤◌, subst}
use Rattle.std.specs.Prelude.{unwrap_or}
use Rattle.dict_types.specs.declared.limit.Limit.{Limit}
use Rattle.dictionary.specs.AcceptedParts.{accepted, names_of}
use Rattle.graph_session.specs.Judging.{limits_of}
use Rattle.graph_session.proofs.LimitLaws.{limits_few}
use Rattle.graph_session.proofs.TypeLaws.{kept_there}
use Rattle.graph_session.proofs.judging.limits_of.Goals as goal

pub limits-requires : goal.limits-requires
limits-requires c =
    rw c.typed.ensures (kept_there (names_of c.args.dict.now.checks) (accepted c.args.dict.now) c.source-accepted.ensures.is_accepted c.args.fact c.requires).1

pub returns : goal.returns
returns c =
    let kept = rw c.typed.ensures at c.limits.ensures in
    let same : c.limits.result.now ≡ limits_of c.args.dict.now.typed c.args.fact = sym (ap (λ (o : Option (List Limit)). unwrap_or o []) kept) in
    record {
      limits = same;
      few = subst (λ (l : List Limit). length l ≤ 8) (sym same) (limits_few (names_of c.args.dict.now.checks) (accepted c.args.dict.now) c.source-accepted.ensures.is_accepted c.args.fact c.requires);
    }
