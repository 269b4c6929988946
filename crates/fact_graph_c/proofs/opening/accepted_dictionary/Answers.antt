use Rattle.std.proofs.Common.{ℕ, List, sym, ap, subst, ◌∙◌}
use Rattle.dictionary.specs.AcceptedParts.{accepted, names_of}
use Rattle.dictionary.specs.Faults.{AreAccepted, IsFault, Refuses}
use Rattle.dictionary.proofs.KeptLaws.{names_are}
use Rattle.fact_graph_c.proofs.opening.accepted_dictionary.Goals as goal

pub returns-in-Ok : goal.returns-in-Ok
returns-in-Ok g c =
    let names = sym (names_are _ _ c.args.checks.now.checks.items) ∙ ap names_of c.requires in
    record {
      accepted = (subst (λ (ns : List (List ℕ)). AreAccepted c.args.bytes.now ns (accepted c.in-Ok.dict)) names c.in-Ok.ensures.is_accepted, c.in-Ok.ensures.checks ∙ c.requires);
      refused = tt;
    }

pub returns-in-Err : goal.returns-in-Err
returns-in-Err g c =
    let names = sym (names_are _ _ c.args.checks.now.checks.items) ∙ ap names_of c.requires in
    record {
      accepted = tt;
      refused = subst (λ (ns : List (List ℕ)). Refuses (IsFault c.args.bytes.now ns) c.in-Err.fault) names c.in-Err.ensures.refused;
    }
