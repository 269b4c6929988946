use Rattle.std.proofs.Common.{◌≡◌, OnOk, OnErr}
use Rattle.std.specs.declared.result.Result.{Result}
use Rattle.answers.specs.Change.{Change, applied, inverse, Fits}
use Rattle.answers.specs.WellFormed.{WellFormed, FromOne, PutsFromOne}
use Rattle.answers.specs.Answered.{Answered}
use Rattle.answers.specs.Meaning.{answered, change}
use Rattle.answers.proofs.ChangeLaws.{fits_inverse_undoes}
use Rattle.answers.proofs.FitsLaws.{inverse_fits}
use Rattle.answers.proofs.RoomLaws.{room_for_inverse}
use Rattle.answers.proofs.WellLaws.{applied_well, applied_from_one}
use Rattle.answers.proofs.Results.{with_both, with_three, either_way}
use Rattle.answers.proofs.answers.Answers.apply.Goals as goal

-- what is true of all answers is true after the change, made or not
stays : (c : Change) (a b : Answered) {T E : Type 0} (r : Result T E) → WellFormed a → FromOne a → Fits c a → PutsFromOne c → OnOk r (b ≡ applied c a) → OnErr r (b ≡ a) → WellFormed b × FromOne b
stays c a b r well from fits puts new same = either_way r new same
    (λ e. rw e (applied_well c a well fits, applied_from_one c a from fits puts))
    (λ e. rw e (well, from))

-- the inverse fits, and gives back what was before
undoes : (c x : Change) (a b : Answered) → WellFormed a → Fits c a → x ≡ inverse c a → b ≡ applied c a → Fits x b × (applied x b ≡ a)
undoes c x a b well fits is e = rw (is, e) (inverse_fits c a well fits, fits_inverse_undoes c a well fits)

pub invariant_of-self : goal.invariant_of-self
invariant_of-self c =
    let fits : Fits (change c.args.edit) (answered c.self.inside.parts) = rw c.self.view_is c.requires in
    stays (change c.args.edit) (answered c.self.inside.parts) _ c.apply.result c.self.invariant.0 c.self.invariant.1 fits c.apply.ensures.puts_from_one c.apply.ensures.new c.apply.ensures.err

pub returns-clause-undoes : goal.returns-clause-undoes
returns-clause-undoes c =
    let fits : Fits (change c.args.edit) (answered c.self.inside.parts) = rw c.self.view_is c.requires in
    rw (← c.self.view_is) (with_both c.apply.result c.apply.ensures.back c.apply.ensures.new (λ back is e. undoes (change c.args.edit) (change back) _ _ c.self.invariant.0 fits is e))

pub returns-clause-room_back : goal.returns-clause-room_back
returns-clause-room_back c =
    with_three c.apply.result c.apply.ensures.back c.apply.ensures.new c.apply.ensures.places (λ back is e places. room_for_inverse (change c.args.edit) (change back) _ _ is e places)

pub returns-clause-well : goal.returns-clause-well
returns-clause-well c =
    let fits : Fits (change c.args.edit) (answered c.self.inside.parts) = rw c.self.view_is c.requires in
    (stays (change c.args.edit) (answered c.self.inside.parts) _ c.apply.result c.self.invariant.0 c.self.invariant.1 fits c.apply.ensures.puts_from_one c.apply.ensures.new c.apply.ensures.err).0
