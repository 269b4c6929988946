use Rattle.std.proofs.Common.{◌≡◌, map, take}
use Rattle.dict_source.specs.View.{case_view, view}
use Rattle.written_facts.specs.Figures.{figures_view}
use Rattle.written_facts.specs.Forms.{form_view, when_view}
use Rattle.written_facts.proofs.building.+build.Given as goal

abbrev pub invariant-build_all-loop-form : goal.invariant-build_all-loop-form
invariant-build_all-loop-form l = map view l.all.items ≡ map (form_view (figures_view l.fn.figures)) (take l.form-index l.forms)

abbrev pub invariant-build_cases-loop-case : goal.invariant-build_cases-loop-case
invariant-build_cases-loop-case l = map case_view l.all.items ≡ map (when_view (figures_view l.fn.figures)) (take l.case-index l.cases)
