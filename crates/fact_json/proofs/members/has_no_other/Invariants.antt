use Rattle.std.proofs.Common.{◌≡◌, map}
use Rattle.serde_json.specs.View.{members_view}
use Rattle.fact_json.specs.FactParsing.{has_no_other}
use Rattle.fact_json.proofs.members.has_no_other.Given as goal

abbrev pub invariant-loop-key : goal.invariant-loop-key
invariant-loop-key l = has_no_other (map (λ known. known.now) l.keys) (members_view l.key-iterator) ≡ has_no_other (map (λ known. known.now) l.keys) (members_view l.members.entries)
