use Rattle.std.proofs.Common.{sym, subst}
use Rattle.std.specs.Prelude.{IfErr}
use Rattle.dictionary.specs.Faults.{IsFault, Refuses}
use Rattle.dictionary.proofs.KeptLaws.{names_are}
use Rattle.interview_ends.proofs.fetching.accept_named.Goals as goal

pub returns-clause-refused : goal.returns-clause-refused
returns-clause-refused g c = subst (λ names. IfErr c.accept.result (Refuses (IsFault c.args.bytes.now names))) (sym (names_are _ _ c.args.checks.now.checks.items)) c.accept.ensures.refused
