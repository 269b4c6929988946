-- The dictionary of a run: where it comes from, and as what it is accepted.
use Rattle.std.proofs.Common.{◌≡◌, ℕ, List, [], Result, Ok, Err, inl, sym, ap, subst, ◌∙◌}
use Rattle.std.specs.Prelude.{IfOk}
use Rattle.dictionary.specs.declared.fault.DictFault.{DictFault}
use Rattle.dict_meaning.specs.Accepted.{Accepted, IsAccepted}
use Rattle.dictionary.specs.AcceptedParts.{Named, names_of}
use Rattle.dictionary.specs.Faults.{IsFaultOf}
use Rattle.dictionary.proofs.FirstLaws.{accepted_has_none, one_dictionary, one_fault}
use Rattle.graph_session.specs.Rules.{Rules}
use Rattle.tax_2023.proofs.NoFault.{year_has_none}
use Rattle.tax_2023.proofs.TableLaw.{one_of_year}
use Rattle.tax_2023.specs.Years.{tables_of}
use Rattle.tax_income.proofs.IncomeDictionary.{income_has_none}
use Rattle.interview_ends.specs.declared.fetching.Fetched.{Fetched}
use Rattle.interview_ends.specs.declared.fetching.Fetched.TheVariants as fetches
use Rattle.script_runs.specs.declared.status.Status.{Status}
use Rattle.built_in.specs.declared.built_in.BuiltIn.{BuiltIn}
use Rattle.built_in.specs.declared.built_in.BuiltIn.TheVariants.{Year, Income}
use Rattle.fg_io.specs.Outside.{MayHold, Contents, missing}
use Rattle.interview_ends.specs.Origins.{Origin, file, program}
use Rattle.built_in.specs.BuiltIns.{IsBrought, facts_of}
use Rattle.interview_ends.specs.Dictionaries.{Content, Gives, HasFault, IsAcceptedAs, MayGive, brought, spelled}
use Rattle.dict_meaning.proofs.AcceptedLaws.{one_accepted}
use Rattle.interview_ends.specs.StepEnds.{FetchedAs, ObtainedAs}

-- ---- what comes from there

pub known_content : (contents : List ℕ → Contents) (o : Origin) (known may : Content) → Gives contents o known → MayGive contents o may → may ≡ known
known_content contents (file name) (spelled bytes) (spelled other) is held = ap spelled (sym (subst (λ t. MayHold t other) is held))
known_content contents (program b) (brought c) (brought other) is same = ap brought (sym same ∙ is)
known_content contents (file name) (spelled bytes) (brought other) is gave = absurd gave
known_content contents (file name) (brought b) may is gave = absurd is
known_content contents (program b) (spelled bytes) may is gave = absurd is
known_content contents (program b) (brought c) (spelled bytes) is gave = absurd gave

pub nothing_missing : (contents : List ℕ → Contents) (name : List ℕ) (may : Content) → contents name ≡ missing → MayGive contents (file name) may → ⊥
nothing_missing contents name (spelled bytes) none held = subst (λ t. MayHold t bytes) none held
nothing_missing contents name (brought b) none gave = gave

-- ---- what the program brings with it

pub brought_has_none : (b : BuiltIn) (fault : DictFault) → IsFaultOf (facts_of b) [] fault → ⊥
unfolding facts_of
brought_has_none (Year y) = year_has_none y
brought_has_none (Income y) = income_has_none y

-- what is fetched comes from a file
pub obtains_file : (contents : List ℕ → Contents) (name : List ℕ) (checks : List Named) (r : Result Fetched Status) → IfOk r (FetchedAs (contents name) checks) → IfOk r (ObtainedAs contents (file name) checks)
obtains_file contents name checks (Ok (fetches.Accepted dict)) (bytes, held, is) = (spelled bytes, held, is, inl is.1)
obtains_file contents name checks (Ok (fetches.Refused fault)) (bytes, held, is) = (spelled bytes, held, is)
obtains_file contents name checks (Err status) h = tt

pub brought_is_faultless : (contents : List ℕ → Contents) (checks : List Named) (b : BuiltIn) (content : Content) (fault : DictFault) → MayGive contents (program b) content → HasFault checks content fault → ⊥
brought_is_faultless contents checks b (spelled bytes) fault gave is = gave
brought_is_faultless contents checks b (brought c) fault gave is = brought_has_none c fault is

pub brought_is_this : (contents : List ℕ → Contents) (checks : List Named) (b : BuiltIn) (content : Content) (r : Rules) → MayGive contents (program b) content → IsAcceptedAs checks content r → IsBrought b r.accepted
brought_is_this contents checks b (spelled bytes) r gave is = absurd gave
brought_is_this contents checks b (brought c) r gave is = subst (λ x. IsBrought x r.accepted) (sym gave) is.0

-- ---- a dictionary comes to one end

same_rules : (r s : Rules) → r.accepted ≡ s.accepted → r.checks ≡ s.checks → r ≡ s
same_rules r s a b = λ i. record { accepted = a i; checks = b i }

one_brought : (b : BuiltIn) (d e : Accepted) → IsBrought b d → IsBrought b e → d ≡ e
one_brought (Year y) d e h k = one_of_year (tables_of y) d e h k
one_brought (Income y) d e h k = one_accepted [] d e (h.facts ∙ sym k.facts) h.is_accepted k.is_accepted

pub one_set_of_rules : (checks : List Named) (content : Content) (r s : Rules) → IsAcceptedAs checks content r → IsAcceptedAs checks content s → r ≡ s
one_set_of_rules checks (spelled bytes) r s h k = same_rules r s (one_dictionary bytes (names_of checks) r.accepted s.accepted h.0 k.0) (h.1 ∙ sym k.1)
one_set_of_rules checks (brought b) r s h k = same_rules r s (one_brought b r.accepted s.accepted h.0 k.0) (h.1 ∙ sym k.1)

pub accepted_is_faultless : (checks : List Named) (content : Content) (r : Rules) (fault : DictFault) → IsAcceptedAs checks content r → HasFault checks content fault → ⊥
accepted_is_faultless checks (spelled bytes) r fault h is = accepted_has_none bytes (names_of checks) r.accepted fault h.0 is
accepted_is_faultless checks (brought b) r fault h is = brought_has_none b fault is

pub one_first_fault : (checks : List Named) (content : Content) (fault other : DictFault) → HasFault checks content fault → HasFault checks content other → fault ≡ other
one_first_fault checks (spelled bytes) fault other h k = one_fault bytes (names_of checks) fault other h k
one_first_fault checks (brought b) fault other h k = absurd (brought_has_none b fault h)

brought_is_accepted : (b : BuiltIn) (d : Accepted) → IsBrought b d → IsAccepted [] d
brought_is_accepted (Year y) d h = h.is_accepted
brought_is_accepted (Income y) d h = h.is_accepted

-- what a session goes by is an accepted dictionary
pub rules_are_accepted : (checks : List Named) (content : Content) (r : Rules) → IsAcceptedAs checks content r → (names : List (List ℕ)) × IsAccepted names r.accepted
rules_are_accepted checks (spelled bytes) r h = (names_of checks, h.0.1)
rules_are_accepted checks (brought b) r h = ([], brought_is_accepted b r.accepted h.0)

-- with the checks that the session goes by
pub rules_are_accepted_so : (checks : List Named) (content : Content) (r : Rules) → IsAcceptedAs checks content r → IsAccepted (names_of r.checks) r.accepted
rules_are_accepted_so checks (spelled bytes) r h = subst (λ (c : List Named). IsAccepted (names_of c) r.accepted) (sym h.1) h.0.1
rules_are_accepted_so checks (brought b) r h = subst (λ (c : List Named). IsAccepted (names_of c) r.accepted) (sym h.1) (brought_is_accepted b r.accepted h.0)
