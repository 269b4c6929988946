use Rattle.saved_text.proofs.Common.{accepted, answered, ap, arith, counted, get_or, home, length, members_of_home, slot, slots_from, subst, suc, sym, ℕ, ◌+◌, ◌-◌, ◌<◌, ◌∙◌, ◌∷◌, ◌≡◌}
use Rattle.saved_text.proofs.SlotsLeft.{next_fact, next_slot}
use Rattle.saved_text.proofs.cursor.Cursor.next.Goals as goal

pub returns-then-self-members : goal.returns-then-self-members
returns-then-self-members c =
    let d = (accepted c.args.dict.now).tree in
    let a = answered c.args.answers.now in
    let done = c.loop-self.self.done in
    let gone = c.loop-self.self.gone in
    let count = length d.facts in
    let members = c.members_of_home-members.result.now in
    let m = get_or members gone 0 in
    let one : suc done ≡ done + 1 = omega arith in
    let more : suc gone ≡ gone + 1 = omega arith in
    let low : done < count = subst (λ (n : ℕ). done < n) c.fact_count.ensures c.loop-self-test.true in
    let at : members ≡ members_of_home a (home d (suc done)) = c.members_of_home-members.ensures ∙ ap (members_of_home a) (c.home-home.ensures ∙ ap (home d) (sym one)) in
    c.loop-self.invariant
    ∙ next_slot d a members gone done count low at c.if-self-members.true
    ∙ ap (λ (n : ℕ). slot n m ∷ slots_from d a (suc gone) (counted (suc done) (count - done))) one
    ∙ ap (λ (n : ℕ). slot (done + 1) m ∷ slots_from d a n (counted (suc done) (count - done))) more

pub loop-self-preserved : goal.loop-self-preserved
loop-self-preserved c =
    let d = (accepted c.args.dict.now).tree in
    let a = answered c.args.answers.now in
    let done = c.loop-self.self.done in
    let count = length d.facts in
    let members = c.members_of_home-members.result.now in
    let one : suc done ≡ done + 1 = omega arith in
    let low : done < count = subst (λ (n : ℕ). done < n) c.fact_count.ensures c.loop-self-test.true in
    let at : members ≡ members_of_home a (home d (suc done)) = c.members_of_home-members.ensures ∙ ap (members_of_home a) (c.home-home.ensures ∙ ap (home d) (sym one)) in
    c.loop-self.invariant
    ∙ next_fact d a members c.loop-self.self.gone done count low at c.if-self-members.false
    ∙ ap (λ (n : ℕ). slots_from d a 0 (counted (suc n) (count - n))) one
