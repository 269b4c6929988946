use Rattle.std.proofs.Common.{Some, Option, Bool, [], map, not, get_or, sym, ap, ◌∙◌, arith}
use Rattle.std.proofs.lemmas.Option.{same_Some}
use Rattle.value_text.specs.Enums.{is_among}
use Rattle.dict_tree.proofs.DistinctLaws.{are_new_none, repeated_at, all_new}
use Rattle.dict_tree.proofs.enums_json.are_distinct.Goals as goal

pub returns-then-not-branch : goal.returns-then-not-branch
returns-then-not-branch c =
    let some : Bool → Option Bool = λ b. Some b in
    let seen = map (λ t. t.now) c.loop-text.seen.keys in
    let known = same_Some (not (is_among (get_or c.args.texts.now c.loop-text.text-index (record { ref_ptr = (0, 0); now = [] })).now seen)) c.in_ok-is_new.field-0 c.in_ok-is_new.ensures.new ∙ c.if-not-branch.true in
    ap some (sym (are_new_none (map (λ t. t.now) c.args.texts.now)) ∙ sym c.loop-text.invariant ∙ repeated_at c.args.texts.now c.loop-text.text-index (record { ref_ptr = (0, 0); now = [] }) seen c.loop-text-test.true known)

pub returns : goal.returns
returns c =
    let some : Bool → Option Bool = λ b. Some b in
    ap some (sym (are_new_none (map (λ t. t.now) c.args.texts.now)) ∙ sym c.loop-text.invariant ∙ all_new c.args.texts.now c.loop-text.text-index (map (λ t. t.now) c.loop-text.seen.keys) (omega arith))
