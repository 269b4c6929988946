-- What is true of every `DictSource` holds when one is made, and when a fact is pushed.
use Rattle.std.proofs.Common.{cond, Option, Result, Ok, Err, ◌≡◌, ℕ, suc, ◌≤◌, Bool, false, List, [], ◌∷◌, ◌++◌, map, length, refl, sym, ap, subst, ◌∙◌, arith}
use Rattle.std.specs.Prelude.{nat_lt, is_ok, is_err, OnOk}
use Rattle.std.proofs.lemmas.Bool.{true≢false}
use Rattle.std.specs.List.{All, list_any}
use Rattle.std.proofs.lemmas.List.{length-map, map-append}
use Rattle.std.proofs.lemmas.List.Elements.{All-nil, All-push, All-head, All-tail}
use Rattle.value_text.specs.Enums.{Listed}
use Rattle.dict_source.specs.Dictionary.{AreTables, Written, dictionary_view, number_from, IsWithinLimits, with_fact}
use Rattle.dict_source.specs.Tables.{LookupTable}
use Rattle.dict_source.specs.Facts.{Fact, fact_view}
use Rattle.dict_source.specs.Forms.{IsWellFormed}
use Rattle.fact_paths.specs.Paths.{IsFactPath}
use Rattle.fact_paths.specs.declared.fact_path.FactPath.{FactPath}
use Rattle.dict_source.specs.Finding.{find_path}
use Rattle.dict_source.specs.PathIndex.{Entry, IsIndex, fact_noted, path_key, place_of}
use Rattle.dict_source.specs.Sources.{IsSource}
use Rattle.dict_source.specs.declared.fact_source.FactSource.{FactSource}
use Rattle.dict_source.proofs.FindingLaws.{spelled-find_path}
use Rattle.dict_source.proofs.PathIndexLaws.{IsIndex-last}

pub not_over : (most n : ℕ) → n ≤ most → nat_lt most n ≡ false
not_over most n h = grind arith

none_over : (most : ℕ) (enums : List Listed) → All (λ (e : Listed). length e.options ≤ most) enums → list_any (λ (e : Listed). nat_lt most (length e.options)) enums ≡ false
none_over most [] h = refl
none_over most (e ∷ enums) h =
    let here : nat_lt most (length e.options) ≡ false = not_over most (length e.options) (All-head (λ (e : Listed). length e.options ≤ most) e enums h) in
    rw (here, none_over most enums (All-tail (λ (e : Listed). length e.options ≤ most) e enums h)) refl

no_tables : (enums : List Listed) → AreTables enums []
no_tables enums = record { few = omega arith; distinct = refl; typed = All-nil _ }

none_kept : (enums : List Listed) → length enums ≤ 200 → All (λ (e : Listed). length e.options ≤ 100) enums → IsSource (record { enums = enums; tables = []; facts = [] }) []
none_kept enums few short = record {
  valid = record {
    well_formed = All-nil (IsWellFormed []);
    tables = no_tables enums;
    limits = record {
      many = ap (λ (b : Bool). number_from (λ (b : Bool). b) 4 (b ∷ list_any (λ (e : Listed). nat_lt 100 (length e.options)) enums ∷ false ∷ [])) (not_over 200 (length enums) few)
          ∙ ap (λ (b : Bool). number_from (λ (b : Bool). b) 5 (b ∷ false ∷ [])) (none_over 100 enums short);
      deep = refl;
    };
  };
  index = λ text. refl;
}

-- without facts only the lists are counted
pub IsSource-new : (enums : List Listed) (tables : List LookupTable) (facts : List FactSource) (entries : List Entry) → length enums ≤ 200 → All (λ (e : Listed). length e.options ≤ 100) enums → tables ≡ [] → facts ≡ [] → entries ≡ [] → IsSource (record { enums = enums; tables = tables; facts = facts }) entries
IsSource-new enums tables facts entries few short t e k =
    subst (λ (ts : List LookupTable). IsSource (record { enums = enums; tables = ts; facts = facts }) entries) (sym t)
    (subst (λ (fs : List FactSource). IsSource (record { enums = enums; tables = []; facts = fs }) entries) (sym e)
    (subst (λ (es : List Entry). IsSource (record { enums = enums; tables = []; facts = [] }) es) (sym k) (none_kept enums few short)))

-- with one fact more
pub IsSource-last : (w now : Written) (f : FactSource) (facts : List FactSource) (entries later : List Entry) (n : ℕ) → w ≡ now → IsSource w entries → IsWellFormed now.tables (fact_view f) → IsWithinLimits (with_fact (dictionary_view now) (fact_view f)) → facts ≡ w.facts ++ f ∷ [] → later ≡ fact_noted entries (fact_view f) n → n ≡ suc (length w.facts) → IsSource (record { enums = w.enums; tables = w.tables; facts = facts }) later
IsSource-last w now f facts entries later n opened h well limits e noted number =
    let views : map fact_view facts ≡ map fact_view w.facts ++ fact_view f ∷ [] = ap (map fact_view) e ∙ map-append fact_view w.facts (f ∷ []) in
    let counted : n ≡ suc (length (map fact_view w.facts)) = number ∙ ap suc (sym (length-map w.facts fact_view)) in
    let kept : IsWithinLimits (with_fact (dictionary_view w) (fact_view f)) = subst (λ (v : Written). IsWithinLimits (with_fact (dictionary_view v) (fact_view f))) (sym opened) limits in
    let index : IsIndex (map fact_view w.facts ++ fact_view f ∷ []) (fact_noted entries (fact_view f) (suc (length (map fact_view w.facts)))) = IsIndex-last (map fact_view w.facts) (fact_view f) entries h.index in
    let fits : IsWellFormed w.tables (fact_view f) = subst (λ (v : Written). IsWellFormed v.tables (fact_view f)) (sym opened) well in
    record {
      valid = record {
        well_formed = subst (All (IsWellFormed w.tables)) (sym views) (All-push (IsWellFormed w.tables) (map fact_view w.facts) (fact_view f) h.valid.well_formed fits);
        tables = h.valid.tables;
        limits = subst (λ (fs : List Fact). IsWithinLimits (record { enums = w.enums; tables = w.tables; facts = fs })) (sym views) kept;
      };
      index = subst (λ (fs : List Fact). IsIndex fs later) (sym views) (subst (λ (es : List Entry). IsIndex (map fact_view w.facts ++ fact_view f ∷ []) es) (sym (noted ∙ ap (fact_noted entries (fact_view f)) counted)) index);
    }

-- a look-up by the key of a path finds the first fact with the path
pub found_by_text : (w now : Written) (entries : List Entry) (p : FactPath) (line : List ℕ) (r : Option ℕ) → w ≡ now → IsSource w entries → IsFactPath p → line ≡ path_key p → r ≡ place_of line entries → r ≡ find_path (dictionary_view now).facts p
found_by_text w now entries p line r opened h path text found =
    found
    ∙ ap (λ (t : List ℕ). place_of t entries) text
    ∙ h.index (path_key p)
    ∙ spelled-find_path w.tables (dictionary_view w).facts p h.valid.well_formed path
    ∙ ap (λ (v : Written). find_path (dictionary_view v).facts p) opened

-- ---- what calls gave

pub pushed : {E : Type 0} {X : Type 0} (r : Result (Unit {0}) E) (u : Unit {0}) (items after before : List X) → items ≡ cond (is_ok r) after before → r ≡ Ok u → items ≡ after
pushed r u items after before h e = h ∙ ap (λ (b : Bool). cond b after before) (ap is_ok e)

pub not_err : {E : Type 0} {X : Type 0} (r : Result X E) (b : Bool) (P : Type 0) → OnOk r P → b ≡ is_err r → b ≡ false → P
not_err (Ok x) b P h is false_is = h
not_err (Err e) b P h is false_is = absurd (true≢false (sym is ∙ false_is))
