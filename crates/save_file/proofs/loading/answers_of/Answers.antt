use Rattle.save_file.proofs.Common.{AnswersFit, AreLists, ArePlaced, List, TextLine, accepted, answered, ap, entered, line_of, map, names_of, saved, subst, sym, taken_value, text_of, ◌∙◌, ◌≡◌}
use Rattle.save_file.proofs.CarriedAnswers.{entries_placed, taken_takes}
use Rattle.save_file.proofs.OwnTexts.{fits, saved_so}
use Rattle.save_file.proofs.loading.answers_of.Goals as goal

pub enter_all-requires : goal.enter_all-requires
enter_all-requires c = record {
  placed = (
      let d = accepted c.args.dict.now in
      subst (λ (ls : List TextLine). ArePlaced d.tree (answered c.in-Ok.answers) (map line_of ls)) (sym c.as_slice.ensures.value)
      (entries_placed (names_of c.args.dict.now.checks) d c.source-accepted.ensures.is_accepted (taken_value d.tree) (taken_takes d.tree) c.args.read.now.next (map line_of c.args.read.now.lines.items) c.requires.text
      (answered c.in-Ok.answers) c.in-Ok.ensures.lists c.in-Ok.ensures.well c.in-Ok.ensures.from_one));
}

pub returns-in-Ok-enter_all-clause-fit : goal.returns-in-Ok-enter_all-clause-fit
returns-in-Ok-enter_all-clause-fit c =
    let d = accepted c.args.dict.now in
    let same : c.enums.result.now ≡ d.tree.enums = cc in
    let enums : AreLists d.tree.enums = subst AreLists same c.len-enums.ensures.lists in
    let given = c.in-Ok-enter_all.ensures.entered ∙ ap (λ (ls : List TextLine). entered d.tree (taken_value d.tree) (answered c.in-Ok.answers) (map line_of ls)) c.as_slice.ensures.value in
    subst (AnswersFit d.tree) (sym given)
    (fits (names_of c.args.dict.now.checks) d c.source-accepted.ensures.is_accepted enums (text_of c.args.read.now) c.requires.text c.requires.own (answered c.in-Ok.answers) c.in-Ok.ensures.lists c.in-Ok.ensures.well c.in-Ok.ensures.from_one)

pub returns-in-Ok-enter_all-clause-saved : goal.returns-in-Ok-enter_all-clause-saved
returns-in-Ok-enter_all-clause-saved c =
    let d = accepted c.args.dict.now in
    let same : c.enums.result.now ≡ d.tree.enums = cc in
    let enums : AreLists d.tree.enums = subst AreLists same c.len-enums.ensures.lists in
    let given = c.in-Ok-enter_all.ensures.entered ∙ ap (λ (ls : List TextLine). entered d.tree (taken_value d.tree) (answered c.in-Ok.answers) (map line_of ls)) c.as_slice.ensures.value in
    saved_so (names_of c.args.dict.now.checks) d c.source-accepted.ensures.is_accepted enums (text_of c.args.read.now) c.requires.text c.requires.own (answered c.in-Ok.answers) c.in-Ok.ensures.lists c.in-Ok.ensures.well c.in-Ok.ensures.from_one
    ∙ ap (saved d.tree) (sym given)
