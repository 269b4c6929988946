-- What is said to a host of a session's dictionary.
use Rattle.std.specs.Prelude.{◌≡◌, ◌≤◌, ℕ, List, [], ◌∷◌, length, Option, Some, None, Ok, refl}
use Rattle.serde_json.specs.Read.{read}
use Rattle.dict_tree.specs.DictParsing.{BytesGive, max_bytes}
use Rattle.dict_source.specs.Facts.{Fact}
use Rattle.dict_source.specs.Finding.{fact_at}
use Rattle.dict_print.specs.DictionaryJson.{dictionary_json}
use Rattle.dict_print.specs.FactsText.{facts_text}
use Rattle.graph_session.specs.Rules.{Rules, tree_of}

-- the JSON form of the dictionary, which gives the same dictionary, where it isn't too long to be read
pub record IsDictionaryText (r : Rules) (text : List ℕ) : Type 0 where
  pub json : read text ≡ Some (dictionary_json (tree_of r))
  pub reads_back : length text ≤ max_bytes → BytesGive text (Ok (tree_of r))

-- a line for each of its facts
abbrev pub IsFactsText : Rules → List ℕ → Type 0
IsFactsText r text = text ≡ facts_text (tree_of r)

-- no words where there is no description
abbrev pub words_of : Option (List ℕ) → List ℕ
words_of None = []
words_of (Some words) = words

-- nor where there is no fact
abbrev pub description_of : Option Fact → List ℕ
description_of None = []
description_of (Some f) = words_of f.description

-- the description of the fact with this number, from 1
abbrev pub IsDescription : Rules → ℕ → List ℕ → Type 0
IsDescription r number text = text ≡ description_of (fact_at (tree_of r).facts number)

-- worked examples
description_of-none : (f : Fact) → description_of (fact_at (f ∷ []) 0) ≡ []
description_of-none f = refl

description_of-first : (f : Fact) → description_of (fact_at (f ∷ []) 1) ≡ words_of f.description
description_of-first f = refl

description_of-behind : (f : Fact) → description_of (fact_at (f ∷ []) 2) ≡ []
description_of-behind f = refl
