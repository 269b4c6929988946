use Rattle.tax_income.proofs.source.add_facts.Goals as goal

pub add_taxes-requires : goal.add_taxes-requires
add_taxes-requires c = (c.requires.0, c.in_ok-add_ends.ensures c.requires.0 c.requires.1)

pub add_children-requires : goal.add_children-requires
add_children-requires c = (c.requires.0, c.in_ok-add_taxes.ensures c.requires.0 (c.in_ok-add_ends.ensures c.requires.0 c.requires.1))

pub add_credit-requires : goal.add_credit-requires
add_credit-requires c = (c.requires.0, c.in_ok-add_children.ensures c.requires.0 (c.in_ok-add_taxes.ensures c.requires.0 (c.in_ok-add_ends.ensures c.requires.0 c.requires.1)))

pub returns : goal.returns
returns c = λ fs is. c.add_credit.ensures fs (c.in_ok-add_children.ensures fs (c.in_ok-add_taxes.ensures fs (c.in_ok-add_ends.ensures fs is)))
