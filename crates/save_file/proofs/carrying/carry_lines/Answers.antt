use Rattle.save_file.proofs.Common.{ArePlaced, List, TextLine, accepted, answered, ap, dropped_numbers, entered, kept_value, length, line_of, map, names_of, rules, subst, sym, text_of, tree_of, ℕ, ◌++◌, ◌+◌, ◌<◌, ◌∙◌}
use Rattle.save_file.proofs.CarriedAnswers.{entries_placed, is_carried, kept_takes}
use Rattle.save_file.proofs.carrying.carry_lines.Goals as goal

pub keep_lines-requires-clause-placed : goal.keep_lines-requires-clause-placed
keep_lines-requires-clause-placed g c =
    let r = rules c.args.dict.now in
    subst (λ (ls : List TextLine). ArePlaced (tree_of r) (answered c.in-Ok.answers) (map line_of ls)) (sym c.as_slice.ensures.value)
    (entries_placed (names_of c.args.dict.now.checks) (accepted c.args.dict.now) c.source-accepted.ensures.is_accepted (kept_value r) (kept_takes r) c.args.read.now.next (map line_of c.args.read.now.lines.items) c.requires.text
    (answered c.in-Ok.answers) c.in-Ok.ensures.lists c.in-Ok.ensures.well c.in-Ok.ensures.from_one)

pub keep_lines-requires-clause-few : goal.keep_lines-requires-clause-few
keep_lines-requires-clause-few g c = subst (λ (ls : List TextLine). length ls + 3 < 4294967296) (sym c.as_slice.ensures.value) c.requires.few

pub returns-in-Ok-keep_lines-clause-carried : goal.returns-in-Ok-keep_lines-clause-carried
returns-in-Ok-keep_lines-clause-carried g c =
    let r = rules c.args.dict.now in
    is_carried (names_of c.args.dict.now.checks) r c.source-accepted.ensures.is_accepted (text_of c.args.read.now) c.requires.text
    (answered c.in-Ok.answers) c.in-Ok.ensures.lists c.in-Ok.ensures.well c.in-Ok.ensures.from_one
    (answered c.keep_lines.new.carried.answers) c.keep_lines.new.carried.dropped.items
    (c.in-Ok-keep_lines.ensures.entered ∙ ap (λ (ls : List TextLine). entered (tree_of r) (kept_value r) (answered c.in-Ok.answers) (map line_of ls)) c.as_slice.ensures.value)
    (c.in-Ok-keep_lines.ensures.dropped ∙ ap (λ (ns : List ℕ). ns ++ dropped_numbers r (map line_of c.as_slice.result.now)) c.new-dropped.ensures.items ∙ ap (λ (ls : List TextLine). dropped_numbers r (map line_of ls)) c.as_slice.ensures.value)
