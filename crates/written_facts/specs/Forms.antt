-- The expression that a form writes.
use Rattle.std.specs.Prelude.{List, map}
use Rattle.fact_json.specs.Names.{op_of_name}
use Rattle.dict_source.specs.Tree.{Literal, literal_true, literal_false, literal_int, literal_dollar, literal_rational, literal_day, literal_text, literal_choice, Source, Sources, SourceCase, SourceCases, literal, read, switch, many, one, two, pick}
use Rattle.dict_source.specs.View.{trees_of, cases_of, use_of}
use Rattle.written_facts.specs.Figures.{Named, text_under}
use Rattle.written_facts.specs.declared.form.Fixed.{Fixed}
use Rattle.written_facts.specs.declared.form.Fixed.TheVariants as fixed
use Rattle.written_facts.specs.declared.form.Form.{Form, fold-Form}
use Rattle.written_facts.specs.declared.form.When.{When}
use Rattle.written_facts.specs.declared.form.Form.TheOpen.{Form-F, When-F}

-- with the figures of these names
abbrev pub fixed_view : List Named → Fixed → Literal
fixed_view fs fixed.True = literal_true
fixed_view fs fixed.False = literal_false
fixed_view fs (fixed.Int s) = literal_int s.now
fixed_view fs (fixed.Dollar s) = literal_dollar s.now
fixed_view fs (fixed.DollarOf name) = literal_dollar (text_under fs name.now)
fixed_view fs (fixed.Rational s) = literal_rational s.now
fixed_view fs (fixed.Day s) = literal_day s.now
fixed_view fs (fixed.DayOf name) = literal_day (text_under fs name.now)
fixed_view fs (fixed.Text s) = literal_text s.now
fixed_view fs (fixed.Choice s t) = literal_choice s.now t.now

abbrev pub form_step : List Named → Form-F Source SourceCase → Source
form_step fs (Form-F.Const c) = literal (fixed_view fs c)
form_step fs (Form-F.Read op p) = read (op, use_of p.now)
form_step fs (Form-F.Switch cs) = switch (cases_of cs.now)
form_step fs (Form-F.Many op ts) = many op (trees_of ts.now)
form_step fs (Form-F.One name t) = one (op_of_name name) t.now
form_step fs (Form-F.Two op a b) = two op a.now b.now
form_step fs (Form-F.Pick op p t) = pick op (use_of p.now) t.now

abbrev pub when_step : When-F Source SourceCase → SourceCase
when_step c = (c.0, c.1)

abbrev pub form_view : List Named → Form → Source
form_view fs = fold-Form Source SourceCase (form_step fs) when_step

abbrev pub when_view : List Named → When → SourceCase
when_view fs c = (form_view fs c.0, form_view fs c.1)

abbrev pub forms_view : List Named → List Form → Sources
forms_view fs es = trees_of (map (form_view fs) es)

abbrev pub whens_view : List Named → List When → SourceCases
whens_view fs cs = cases_of (map (when_view fs) cs)
