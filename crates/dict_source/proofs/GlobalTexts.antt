-- Global facts by the texts of their paths.
use Rattle.std.proofs.Common.{◌≡◌, ℕ, suc, true, false, List, bytes_eq, Option, Some, None, is_some, refl, sym, ap, subst, ◌∙◌, arith}
use Rattle.std.specs.Prelude.{IfNone, codes, option_and_then}
use Rattle.std.proofs.lemmas.Bool.{and_parts, true≢false}
use Rattle.std.proofs.lemmas.Option.{same_Some}
use Rattle.std.proofs.lemmas.Slice.Eq.{bytes_eq-Decides}
use Rattle.common_lemmas.proofs.Lists.{all_at}
use Rattle.fact_paths.specs.Cuts.{after}
use Rattle.fact_paths.specs.Names.{IsName}
use Rattle.fact_paths.specs.Paths.{SpellsFactPath}
use Rattle.fact_paths.specs.declared.fact_path.FactPath.{FactPath}
use Rattle.fact_paths.specs.declared.fact_path.FactPath.TheVariants.{Global, Member}
use Rattle.fact_paths.proofs.CutLaws.{after_some}
use Rattle.dict_source.specs.Dictionary.{Written, dictionary_view}
use Rattle.dict_source.specs.Facts.{Fact}
use Rattle.dict_source.specs.Finding.{IsGlobalSpelled, NoGlobalSpelled, fact_at, find_path, is_global, is_global_at}
use Rattle.dict_source.specs.Forms.{IsReadFrom, IsWellFormed}
use Rattle.dict_source.specs.PathIndex.{Entry, is_spelled, key_of, place_of}
use Rattle.dict_source.specs.Sources.{IsSource}
use Rattle.dict_source.proofs.FindingLaws.{find_path-first, key_of-spelled, number_from-some}
use Rattle.dict_source.proofs.SourceLaws.{found_by_text}

-- where a text spells `/N`, N stands behind its slash
behind_spelled : (text rest name : List ℕ) → Some rest ≡ after (codes "/") text → SpellsFactPath text (Global name) → rest ≡ name
behind_spelled text rest name behind spelled = same_Some rest name (behind ∙ ap (after (codes "/")) spelled.1)

-- and what is kept there is the first fact with the path
looked_up : (w now : Written) (entries : List Entry) (text rest name : List ℕ) → w ≡ now → IsSource w entries → Some rest ≡ after (codes "/") text → SpellsFactPath text (Global name) → place_of rest entries ≡ find_path (dictionary_view now).facts (Global name)
looked_up w now entries text rest name opened h behind spelled =
    found_by_text w now entries (Global name) rest (place_of rest entries) opened h spelled.0 (behind_spelled text rest name behind spelled) refl

-- where nothing is kept no fact has the path
pub none_kept : (w now : Written) (entries : List Entry) (text rest : List ℕ) → w ≡ now → IsSource w entries → Some rest ≡ after (codes "/") text → None ≡ place_of rest entries → NoGlobalSpelled (dictionary_view now).facts text
none_kept w now entries text rest opened h behind none = λ name spelled. sym (looked_up w now entries text rest name opened h behind spelled) ∙ sym none

-- nor where a fact of members is kept
pub member_kept : (w now : Written) (entries : List Entry) (text rest : List ℕ) (n : ℕ) → w ≡ now → IsSource w entries → Some rest ≡ after (codes "/") text → Some n ≡ place_of rest entries → is_global_at (dictionary_view now).facts n ≡ false → NoGlobalSpelled (dictionary_view now).facts text
member_kept w now entries text rest n opened h behind kept member = λ name spelled.
    let facts = (dictionary_view now).facts in
    let found : find_path facts (Global name) ≡ Some n = sym (looked_up w now entries text rest name opened h behind spelled) ∙ sym kept in
    let here = ((find_path-first facts (Global name) n).0 found).here in
    let global : is_global_at facts n ≡ true = ap (λ (o : Option Fact). is_global (option_and_then (λ f. f.path) o)) here.is_there ∙ ap is_global here.path_is in
    absurd (true≢false (sym global ∙ member))

-- a global path whose key is this text has a name that is this text
keyed : (rest text : List ℕ) (o : Option FactPath) → IsReadFrom SpellsFactPath text o → is_global o ≡ true → bytes_eq rest (key_of text) ≡ true → IsName rest
keyed rest text None read global same = absurd cc
keyed rest text (Some (Member c n)) read global same = absurd cc
keyed rest text (Some (Global n)) read global same =
    let one : rest ≡ n = (bytes_eq-Decides rest (key_of text)).0 same ∙ key_of-spelled text (Global n) read in
    subst IsName (sym one) read.0

-- what is kept of a global fact is kept under a name
kept_name : (w : Written) (entries : List Entry) (rest : List ℕ) (n : ℕ) → IsSource w entries → Some n ≡ place_of rest entries → is_global_at (dictionary_view w).facts n ≡ true → IsName rest
kept_name w entries rest n h kept global =
    let facts = (dictionary_view w).facts in
    let found = number_from-some (is_spelled rest) 1 facts n (sym (h.index rest) ∙ sym kept) in
    let fact = found.2.item in
    let number : n ≡ suc found.0 = omega arith in
    let there : fact_at facts n ≡ Some fact = ap (fact_at facts) number ∙ found.2.is_there in
    let own : is_global fact.path ≡ true = sym (ap (λ (o : Option Fact). is_global (option_and_then (λ f. f.path) o)) there) ∙ global in
    let parts = and_parts (is_some fact.path) (bytes_eq rest (key_of fact.path_text)) found.2.passes in
    keyed rest fact.path_text fact.path (all_at (IsWellFormed w.tables) facts found.0 fact h.valid.well_formed found.2.is_there).path own parts.1

-- so a global fact that is kept is the first with the path that the text spells
pub global_kept : (w now : Written) (entries : List Entry) (text rest : List ℕ) (n : ℕ) → w ≡ now → IsSource w entries → Some rest ≡ after (codes "/") text → Some n ≡ place_of rest entries → is_global_at (dictionary_view now).facts n ≡ true → IsGlobalSpelled (dictionary_view now).facts text n
global_kept w now entries text rest n opened h behind kept global =
    let name : IsName rest = kept_name w entries rest n h kept (ap (λ (v : Written). is_global_at (dictionary_view v).facts n) opened ∙ global) in
    let spells : SpellsFactPath text (Global rest) = (name, after_some (codes "/") text rest (sym behind)) in
    record { name = rest; spells = spells; found = sym (looked_up w now entries text rest rest opened h behind spells) ∙ sym kept }

-- what holds, holds where nothing was found
pub if_none : {X : Type 0} (o : Option X) (P : Type 0) → P → IfNone o P
if_none None P p = p
if_none (Some x) P p = tt
