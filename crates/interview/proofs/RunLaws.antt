-- A run has one end at most.
use Rattle.std.proofs.Common.{◌≡◌, ℕ, List, inl, inr, sym, ap, subst, ◌∙◌}
use Rattle.dictionary.specs.AcceptedParts.{Named}
use Rattle.graph_session.specs.Rules.{Rules}
use Rattle.script_runs.specs.declared.mode.Mode.{Mode}
use Rattle.interview_ends.specs.Beginnings.{Basis}
use Rattle.interview_ends.specs.Dictionaries.{Content, IsAcceptedAs}
use Rattle.script_runs.specs.DefinedScript.{Defined}
use Rattle.interview.specs.Interview.{GoesOnTo, OneEndOfRun, defined_run}
use Rattle.interview_ends.specs.DefinedEnds.{defined_fault, defined_saved_refused}
use Rattle.interview.proofs.BeginningLaws.{one_refusal, one_start, start_is_not_refused}
use Rattle.interview_ends.proofs.DictionaryLaws.{accepted_is_faultless, one_first_fault, one_set_of_rules, rules_are_accepted}
use Rattle.interview.proofs.EnumLaws.{accepted_lists}

module _ (checks : List Named) (content : Content) (basis : Basis) (mode : Mode) (relations : List Named) (script : List ℕ) where
  one_over : (r : Rules) → IsAcceptedAs checks content r → (d e : Defined) → GoesOnTo r basis mode relations script d → GoesOnTo r basis mode relations script e → d ≡ e
  one_over r is d e (inl (s, begins, to)) (inl (t, begins_too, to_other)) =
      let accepted = rules_are_accepted checks content r is in
      let same = one_start accepted.0 r accepted.1 (accepted_lists checks content r is) basis s t begins begins_too in
      to ∙ ap (λ start. defined_run r mode relations start script) same ∙ sym to_other
  one_over r is d e (inl (s, begins, to)) (inr (n, refused, to_other)) = absurd (start_is_not_refused r basis s n begins refused)
  one_over r is d e (inr (n, refused, to)) (inl (s, begins, to_other)) = absurd (start_is_not_refused r basis s n begins refused)
  one_over r is d e (inr (n, refused, to)) (inr (m, refused_too, to_other)) = to ∙ ap defined_saved_refused (one_refusal r basis n m refused refused_too) ∙ sym to_other

pub one_run : OneEndOfRun
one_run content checks basis mode relations script d e (inl (r, is, goes)) (inl (s, is_other, goes_other)) =
    let same = one_set_of_rules checks content r s is is_other in
    one_over checks content basis mode relations script r is d e goes (subst (λ q. GoesOnTo q basis mode relations script e) (sym same) goes_other)
one_run content checks basis mode relations script d e (inl (r, is, goes)) (inr (fault, is_fault, to_fault)) = absurd (accepted_is_faultless checks content r fault is is_fault)
one_run content checks basis mode relations script d e (inr (fault, is_fault, to_fault)) (inl (r, is, goes)) = absurd (accepted_is_faultless checks content r fault is is_fault)
one_run content checks basis mode relations script d e (inr (fault, is, to)) (inr (other, is_other, to_other)) = to ∙ ap defined_fault (one_first_fault checks content fault other is is_other) ∙ sym to_other
