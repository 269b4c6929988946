-- Figures by their names.
use Rattle.std.specs.Prelude.{ℕ, List, [], ◌∷◌, map, bytes_eq, if◌then◌else◌}
use Rattle.written_facts.specs.declared.figure.Figure.{Figure}

-- a name, and the text under it
abbrev pub Named : Type 0
Named = List ℕ × List ℕ

abbrev pub figure_view : Figure → Named
figure_view f = (f.name.now, f.text.now)

abbrev pub figures_view : List Figure → List Named
figures_view fs = map figure_view fs

-- the text under the name, and no text where there is none
abbrev pub text_under : List Named → List ℕ → List ℕ
text_under [] name = []
text_under (f ∷ fs) name = if bytes_eq f.0 name then f.1 else text_under fs name
