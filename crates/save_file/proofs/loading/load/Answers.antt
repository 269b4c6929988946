use Rattle.save_file.proofs.Common.{AreLists, accepted, names_of, subst, ◌≡◌}
use Rattle.save_file.proofs.OwnTexts.{load_only, load_refused, loaded}
use Rattle.save_file.proofs.loading.load.Goals as goal

pub read_lines-requires-clause-whose : goal.read_lines-requires-clause-whose
read_lines-requires-clause-whose c =
    let same : c.enums.result.now ≡ (accepted c.args.dict.now).tree.enums = cc in
    (c.source-accepted.ensures.is_accepted, subst AreLists same c.len-enums.ensures.lists)

pub returns-in-Ok-clause-loaded : goal.returns-in-Ok-clause-loaded
returns-in-Ok-clause-loaded c = loaded (accepted c.args.dict.now).tree c.in-Ok.read c.args.bytes.now c.in-Ok.ensures.1 c.answers_of.result c.answers_of.ensures.fit c.answers_of.ensures.saved

pub returns-in-Ok-clause-only : goal.returns-in-Ok-clause-only
returns-in-Ok-clause-only c =
    let same : c.enums.result.now ≡ (accepted c.args.dict.now).tree.enums = cc in
    load_only (names_of c.args.dict.now.checks) (accepted c.args.dict.now) c.source-accepted.ensures.is_accepted (subst AreLists same c.len-enums.ensures.lists) c.in-Ok.read c.args.bytes.now c.in-Ok.ensures.1 c.answers_of.result c.answers_of.ensures.fit c.answers_of.ensures.saved

pub returns-in-Ok-clause-refused : goal.returns-in-Ok-clause-refused
returns-in-Ok-clause-refused c = load_refused (accepted c.args.dict.now).tree c.args.bytes.now c.answers_of.result c.answers_of.ensures.memory
