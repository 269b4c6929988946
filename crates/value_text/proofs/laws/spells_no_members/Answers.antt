use Rattle.value_text.proofs.laws.spells_no_members.Goals as goal

pub returns : goal.returns
returns c = λ lists base text value. (λ h. h, λ h. h)
