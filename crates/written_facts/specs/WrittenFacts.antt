-- The fact that is written by a constant.
use Rattle.std.specs.Prelude.{ℕ, List, [], ◌∷◌, map, Option, Some, None}
use Rattle.fact_paths.specs.Parsing.{fact_path_of}
use Rattle.fact_paths.specs.declared.fact_path.FactPath.{FactPath}
use Rattle.fact_values.specs.declared.fact_type.FactType.TheVariants as types
use Rattle.dict_source.specs.Tree.{Source}
use Rattle.dict_source.specs.View.{use_of}
use Rattle.dict_source.specs.Facts.{Bound, Fact, Stated, enum_of, item_of, least, list_of, scalar, writable_list}
use Rattle.written_facts.specs.Figures.{Named}
use Rattle.written_facts.specs.Forms.{form_view}
use Rattle.written_facts.specs.declared.written_fact.Kind.{Kind}
use Rattle.written_facts.specs.declared.written_fact.Kind.TheVariants as kinds
use Rattle.written_facts.specs.declared.written_fact.WrittenFact.{WrittenFact}
use Rattle.written_facts.specs.declared.written_fact.WrittenFact.TheVariants as written

abbrev pub kind_view : Kind → Stated
kind_view kinds.Boolean = scalar types.Boolean
kind_view kinds.Int = scalar types.Int
kind_view kinds.Dollar = scalar types.Dollar
kind_view kinds.Rational = scalar types.Rational
kind_view kinds.Day = scalar types.Day
kind_view kinds.Text = scalar types.Text
kind_view (kinds.Enum name) = enum_of name.now
kind_view kinds.Collection = writable_list
kind_view (kinds.ListOf path) = list_of (use_of path.now)
kind_view (kinds.ItemOf path) = item_of (use_of path.now)

-- a fact with this text of its path and what that spells, this type, these limits, and this expression where it follows from others
abbrev pub fact_with : List ℕ → Option FactPath → Stated → List Bound → Option Source → Fact
fact_with text path stated limits main = record {
  path_text = text;
  path = path;
  stated = stated;
  limits = limits;
  main = main;
  conditional = None;
  placeholder = None;
  description = None;
}

-- a fact with this path
abbrev pub fact : List ℕ → Stated → List Bound → Option Source → Fact
fact path stated limits main = fact_with path (fact_path_of path) stated limits main

-- a person answers it
abbrev pub asked : List ℕ → Stated → Fact
asked path stated = fact path stated [] None

-- a person answers it with this value or a greater one
abbrev pub asked_from : List ℕ → Stated → List ℕ → Fact
asked_from path stated text = fact path stated (least text ∷ []) None

-- the fact, with these words for people, where there are any
abbrev pub with_words : Option (List ℕ) → Fact → Fact
with_words words f = record f { description = words }

abbrev pub described : List ℕ → Fact → Fact
described words f = with_words (Some words) f

-- it follows from others
abbrev pub derived : List ℕ → Stated → Source → Fact
derived path stated main = fact path stated [] (Some main)

abbrev pub written_view : List Named → WrittenFact → Fact
written_view fs (written.Asked path kind) = asked path.now (kind_view kind)
written_view fs (written.Question path kind words) = described words.now (asked path.now (kind_view kind))
written_view fs (written.QuestionFrom path kind text words) = described words.now (asked_from path.now (kind_view kind) text.now)
written_view fs (written.Derived path kind form) = derived path.now (kind_view kind) (form_view fs form)

abbrev pub written_views : List Named → List WrittenFact → List Fact
written_views fs rs = map (written_view fs) rs
