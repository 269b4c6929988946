-- What `read` gives: a dictionary that the value spells is valid, and the exits of `read`.
use Rattle.std.proofs.Common.{◌≡◌, ℕ, ◌≤◌, List, length, Result, Ok, Err}
use Rattle.std.specs.Prelude.{IfOk, IfErr, codes}
use Rattle.serde_json.specs.Data.{Data}
use Rattle.serde_json.specs.Find.{get}
use Rattle.dict_source.specs.Dictionary.{Dictionary, Written, IsValid, dictionary_view}
use Rattle.dict_tree.specs.DictJson.{ValueGives}
use Rattle.dict_tree.specs.DictParsing.{dictionary_of, Yields, IsJson, IsOfShape, BytesGive, max_bytes, seen}
use Rattle.dict_tree.specs.declared.fault.TreeFault.{TreeFault}
use Rattle.dict_tree.specs.declared.fault.TreeFault.TheVariants as faults
use Rattle.dict_tree.proofs.DictJsonLaws.{read_given}
use Rattle.fact_json.proofs.FactLaws.{facts_are_well_formed}
use Rattle.dict_tree.proofs.TableJsonLaws.{tables_are_valid}

pub dictionary_is_valid : (d : Data) (dict : Dictionary) → ValueGives d (Ok dict) → IsValid dict
dictionary_is_valid d dict h = record {
  well_formed = facts_are_well_formed dict.tables h.0.version h.0.items dict.facts h.0.facts;
  tables = tables_are_valid dict.enums (get (codes "tables") d) dict.tables h.0.top.tables;
  limits = h.1;
}

-- ---- the exits of `read`

at : (bytes : List ℕ) (d : Data) (e : TreeFault) → length bytes ≤ max_bytes → IsJson bytes d → IsOfShape e → Yields {X = Dictionary} (λ x. x) (Err e) (dictionary_of d) → BytesGive bytes (Err e)
at bytes d faults.TooLong le j s h = absurd s
at bytes d faults.NotJson le j s h = absurd s
at bytes d faults.NoMemory le j s h = tt
at bytes d e le j s h = (le, d, j, read_given d (Err e) h)

-- with a fault of the value
pub fault_given : (bytes : List ℕ) (d : Data) (e f : TreeFault) (r : Result Written TreeFault) → length bytes ≤ max_bytes → IsJson bytes d → IsOfShape e
    → Yields {X = Dictionary} (λ x. x) (Err e) (dictionary_of d) → r ≡ Err f → f ≡ e → BytesGive bytes (seen dictionary_view r)
fault_given bytes d e f r le j s h er fe = rw (er, fe) (at bytes d e le j s h)

-- with what is kept
pub kept_given : (bytes : List ℕ) (d : Data) (dict : Dictionary) (r : Result Written TreeFault) → length bytes ≤ max_bytes → IsJson bytes d → ValueGives d (Ok dict)
    → IfOk r (λ w. dictionary_view w ≡ dict) → IfErr r (λ e. e ≡ faults.NoMemory) → BytesGive bytes (seen dictionary_view r)
kept_given bytes d dict (Ok w) le j h ok err = (le, d, j, rw ok h)
kept_given bytes d dict (Err f) le j h ok err = rw err tt
