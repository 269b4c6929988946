-- One number more is looked at: it stands among those after it, or it does not.
use Rattle.std.proofs.Common.{◌≡◌, ℕ, ◌+◌, ◌-◌, ◌<◌, Bool, not, ◌&&◌, ◌==◌, List, length, get_or, take, drop, sym, ap, ◌∙◌}
use Rattle.std.specs.List.{list_any}
use Rattle.std.proofs.lemmas.List.{at_drop_more, at_drop_all, take_rest}
use Rattle.fact_values.specs.Members.{are_distinct as distinct}
use Rattle.fact_values.proofs.members.are_distinct.Goals as goal

distinct-drop : (xs : List ℕ) (i : ℕ) (repeated : Bool) → i < length xs → repeated ≡ list_any (λ other. other == get_or xs i 0) (take (length xs - (i + 1)) (drop (i + 1) xs)) → distinct (drop i xs) ≡ (not repeated && distinct (drop (i + 1) xs))
distinct-drop xs i repeated h e =
    let found = e ∙ ap (list_any (λ other. other == get_or xs i 0)) (take_rest xs (i + 1)) in
    at_drop_more distinct xs i 0 h ∙ ap (λ b. not b && distinct (drop (i + 1) xs)) (sym found)

pub returns-then-contains : goal.returns-then-contains
returns-then-contains c =
    let e = distinct-drop c.args.list.now c.loop-i.i _ c.loop-i-test.true (sym c.if-contains.true ∙ c.contains.ensures.value) in
    sym e ∙ c.loop-i.invariant

pub loop-i-preserved : goal.loop-i-preserved
loop-i-preserved c =
    let e = distinct-drop c.args.list.now c.loop-i.i _ c.loop-i-test.true (sym c.if-contains.false ∙ c.contains.ensures.value) in
    sym e ∙ c.loop-i.invariant

pub returns : goal.returns
returns c = sym (at_drop_all distinct c.args.list.now c.loop-i.i c.loop-i-test.false) ∙ c.loop-i.invariant
