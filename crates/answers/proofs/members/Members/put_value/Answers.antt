use Rattle.std.proofs.Common.{Some, refl, sym, ap, ◌∙◌, subst}
use Rattle.std.specs.Prelude.{IsSome, option_map}
use Rattle.std.proofs.lemmas.Result.{on_ok_weaker, on_err_weaker, IfOk-weaker}
use Rattle.answers.specs.Finite.{and_then, put_at}
use Rattle.answers.specs.Answered.{Entry, of_side}
use Rattle.answers.specs.Change.{with_value}
use Rattle.answers.specs.Meaning.{maybe_entry, members_of}
use Rattle.answers.specs.Room.{AtMember}
use Rattle.std.specs.FinMap as map
use Rattle.answers.proofs.FiniteLaws.{one_changed, put_same}
use Rattle.answers.proofs.LookUps.{at_key, kept_some, not_there}
use Rattle.answers.proofs.members.Members.put_value.Goals as goal

pub put_in-requires : goal.put_in-requires
put_in-requires c = kept_some c.in-Some.kept.now (subst (λ o. IsSome o) (at_key maybe_entry _ c.args.member c.in-Some.kept.now c.in-Some.ensures.value) c.requires)

pub returns-in-Some-clause-old : goal.returns-in-Some-clause-old
returns-in-Some-clause-old c =
    IfOk-weaker c.put_in.result _ _ (λ x e. e ∙ ap (and_then (λ (e : Entry). map.get (of_side c.args.side e) c.args.fact)) (sym (at_key maybe_entry _ c.args.member c.in-Some.kept.now c.in-Some.ensures.value))) c.put_in.ensures.old

pub returns-in-Some-clause-new : goal.returns-in-Some-clause-new
returns-in-Some-clause-new c =
    let k = c.in-Some.kept.now in
    let w = c.put_in.new.kept in
    on_ok_weaker c.put_in.result (λ e.
    one_changed maybe_entry _ _ c.args.member (Some w) ((c.get_mut.follows.holds w).3 (rw (← c.in-Some.ensures.value) refl)).0
    ∙ ap (put_at (members_of c.args.self.now) c.args.member) (e ∙ ap (option_map (with_value c.args.side c.args.fact c.args.value)) (sym (at_key maybe_entry _ c.args.member k c.in-Some.ensures.value))))
    c.put_in.ensures.new

pub returns-in-Some-clause-err : goal.returns-in-Some-clause-err
returns-in-Some-clause-err c =
    let k = c.in-Some.kept.now in
    let w = c.put_in.new.kept in
    on_err_weaker c.put_in.result (λ e.
    one_changed maybe_entry _ _ c.args.member (Some w) ((c.get_mut.follows.holds w).3 (rw (← c.in-Some.ensures.value) refl)).0
    ∙ put_same (members_of c.args.self.now) c.args.member (maybe_entry w) (at_key maybe_entry _ c.args.member k c.in-Some.ensures.value ∙ sym e))
    c.put_in.ensures.err

pub returns-in-Some-clause-room : goal.returns-in-Some-clause-room
returns-in-Some-clause-room c = λ h. c.put_in.ensures.room (subst (λ o. AtMember o c.args.fact) (sym c.in-Some.ensures.value) h)

pub returns-in-Some-clause-place : goal.returns-in-Some-clause-place
returns-in-Some-clause-place c =
    let w = c.put_in.new.kept in
    λ some. on_ok_weaker c.put_in.result (λ h. subst (λ o. AtMember o c.args.fact) (sym ((c.get_mut.follows.holds w).3 (rw (← c.in-Some.ensures.value) refl)).1) h) (c.put_in.ensures.place some)

pub returns-in-Some-clause-places : goal.returns-in-Some-clause-places
returns-in-Some-clause-places c =
    let w = c.put_in.new.kept in
    λ h. subst (λ o. AtMember o c.args.fact) (sym ((c.get_mut.follows.holds w).3 (rw (← c.in-Some.ensures.value) refl)).1)
    (c.put_in.ensures.places c.args.fact (subst (λ o. AtMember o c.args.fact) (sym c.in-Some.ensures.value) h))

pub returns-in-None-clause-old : goal.returns-in-None-clause-old
returns-in-None-clause-old c = absurd (not_there maybe_entry _ c.args.member c.in-None.ensures.value c.requires)

pub returns-in-None-clause-new : goal.returns-in-None-clause-new
returns-in-None-clause-new c = absurd (not_there maybe_entry _ c.args.member c.in-None.ensures.value c.requires)

pub returns-in-None-clause-place : goal.returns-in-None-clause-place
returns-in-None-clause-place c = absurd (not_there maybe_entry _ c.args.member c.in-None.ensures.value c.requires)
