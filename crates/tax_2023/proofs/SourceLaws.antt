-- The source of a year takes its facts, group by group.
use Rattle.std.proofs.Common.{◌≡◌, ◌≤◌, IsTrue, List, [], length, Result, Ok, Err, refl, ◌∙◌, arith}
use Rattle.std.specs.Prelude.{⊤, OnOk}
use Rattle.fact_values.specs.declared.memory.NoMemory.{NoMemory}
use Rattle.std.specs.List.{All}
use Rattle.std.proofs.lemmas.List.Elements.{All-cons, All-nil}
use Rattle.value_text.specs.Enums.{Listed}
use Rattle.dict_source.specs.Facts.{Fact}
use Rattle.dict_source.specs.Dictionary.{Dictionary as Tree}
use Rattle.written_facts.specs.Figures.{Named}
use Rattle.written_facts.specs.Taking.{takes_all, with_facts}
use Rattle.tax_2023.specs.Facts.{at_start, counts, dictionary, filed, filer, filing_statuses, persons, tests, with_filer, with_persons, with_return, with_tests}

pub taken : (d e : Tree) (fs gs : List Fact) → d ≡ e → fs ≡ gs → IsTrue (takes_all e gs) → IsTrue (takes_all d fs)
taken d e fs gs p q h = rw (p, q) h

extended : (d e new : Tree) (fs gs : List Fact) → new ≡ with_facts d fs → d ≡ e → fs ≡ gs → new ≡ with_facts e gs
extended d e new fs gs r p q = r ∙ rw (p, q) refl

-- what was pushed is there
pub grown : (d e new : Tree) (fs gs : List Fact) (all : Tree) (r : Result ⊤ NoMemory) → OnOk r (new ≡ with_facts d fs) → d ≡ e → fs ≡ gs → with_facts e gs ≡ all → OnOk r (new ≡ all)
grown d e new fs gs all (Ok done) h p q is = extended d e new fs gs h p q ∙ is
grown d e new fs gs all (Err fault) h p q is = tt

-- ---- the groups

pub filer_taken : IsTrue (takes_all at_start filer)
filer_taken = refl

pub return_taken : (fs : List Named) → IsTrue (takes_all with_filer (filed fs))
return_taken fs = refl

pub persons_taken : (fs : List Named) → IsTrue (takes_all (with_return fs) persons)
persons_taken fs = refl

pub tests_taken : (fs : List Named) → IsTrue (takes_all (with_persons fs) (tests fs))
tests_taken fs = refl

pub counts_taken : (fs : List Named) → IsTrue (takes_all (with_tests fs) counts)
counts_taken fs = refl

pub all_are_there : (fs : List Named) → with_facts (with_tests fs) counts ≡ dictionary fs
all_are_there fs = refl

pub few_options : All (λ (e : Listed). length e.options ≤ 100) filing_statuses
few_options = All-cons (λ (e : Listed). length e.options ≤ 100) _ [] (omega arith) (All-nil (λ (e : Listed). length e.options ≤ 100))
