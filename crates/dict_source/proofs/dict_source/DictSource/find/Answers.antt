use Rattle.std.proofs.Common.{◌∙◌, ap, sym, subst}
use Rattle.dict_source.specs.Dictionary.{dictionary_view}
use Rattle.dict_source.specs.Finding.{Finds, find_path}
use Rattle.dict_source.proofs.FindingLaws.{find_path-Finds, Finds-within}
use Rattle.dict_source.proofs.dict_source.DictSource.find.Goals as goal

pub returns-in-Global-clause-first : goal.returns-in-Global-clause-first
returns-in-Global-clause-first c =
    let found = c.find_global.ensures ∙ sym (ap (find_path (dictionary_view c.args.self.now).facts) c.in-Global.is) in
    subst (Finds (dictionary_view c.args.self.now).facts c.args.path.now) (sym found) (find_path-Finds (dictionary_view c.args.self.now).facts c.args.path.now)

pub returns-in-Member-clause-first : goal.returns-in-Member-clause-first
returns-in-Member-clause-first c =
    let found = c.find_member.ensures ∙ sym (ap (find_path (dictionary_view c.args.self.now).facts) c.in-Member.is) in
    subst (Finds (dictionary_view c.args.self.now).facts c.args.path.now) (sym found) (find_path-Finds (dictionary_view c.args.self.now).facts c.args.path.now)

pub returns-in-Global-clause-within : goal.returns-in-Global-clause-within
returns-in-Global-clause-within c = Finds-within (dictionary_view c.args.self.now).facts c.args.path.now _ (returns-in-Global-clause-first c)

pub returns-in-Member-clause-within : goal.returns-in-Member-clause-within
returns-in-Member-clause-within c = Finds-within (dictionary_view c.args.self.now).facts c.args.path.now _ (returns-in-Member-clause-first c)
