use Rattle.std.proofs.Common.{◌++◌, ◌∙◌, ap}
use Rattle.std.proofs.lemmas.List.Elements.{All-same}
use Rattle.dict_source.specs.Dictionary.{dictionary_view}
use Rattle.dict_source.specs.Finding.{fact_at}
use Rattle.dict_source.specs.Mentions.{found_mentions}
use Rattle.dict_source.proofs.MentionLaws.{IsOfFact, found_within}
use Rattle.dict_source.proofs.dict_source.DictSource.mentions.Goals as goal

pub returns-clause-within : goal.returns-clause-within
returns-clause-within c =
    let d = dictionary_view c.args.self.now in
    let found = found_mentions d c.args.fact (fact_at d.facts c.args.fact) in
    All-same (IsOfFact d) c.note_number.new.out.items found (c.in_ok-note_number.ensures ∙ ap (λ list. list ++ found) c.new-out.ensures.items) (found_within d c.args.fact (fact_at d.facts c.args.fact))
