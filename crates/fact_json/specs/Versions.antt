-- The versions of the form of dictionaries, and their texts.
use Rattle.std.specs.Prelude.{ℕ, List, [], ◌∷◌, codes, Option}
use Rattle.fact_json.specs.declared.version.Version.{Version}
use Rattle.fact_json.specs.declared.version.Version.TheVariants as versions
use Rattle.fact_json.specs.Names.{under_name}

abbrev pub version_text : Version → List ℕ
version_text versions.First = codes "1"
version_text versions.Second = codes "2"
version_text versions.Law = codes "law-1"

abbrev pub version_names : List (List ℕ × Version)
version_names = (codes "1", versions.First) ∷ (codes "2", versions.Second) ∷ (codes "law-1", versions.Law) ∷ []

-- the version of a text
abbrev pub version_of : List ℕ → Option Version
version_of text = under_name text version_names
