use Rattle.saved_text.proofs.Common.{List, rules, subst, sym, ℕ, ◌∷◌}
use Rattle.saved_text.proofs.MemberParsing.{AreSoFar, last_not_read, none_so_far, not_read, read_last, read_more, shorter}
use Rattle.saved_text.proofs.reading.read_members.Goals as goal

pub loop-word-init : goal.loop-word-init
loop-word-init c = (search rules, subst (λ (ms : List ℕ). AreSoFar (32 ∷ c.args.text.now) ms c.args.text.now) (sym c.new-found.ensures.items) (none_so_far c.args.text.now))

pub returns-in-Err : goal.returns-in-Err
returns-in-Err c =
    not_read (32 ∷ c.args.text.now) c.loop-word.found.items c.loop-word.rest.now c.in-Some.word.now c.in-Some.others.now c.read_member.new.found.items c.loop-word.invariant.1 (sym c.in-Some.ensures) c.in-Err.fault c.in-Err.ensures

pub loop-word-smaller : goal.loop-word-smaller
loop-word-smaller c = shorter c.loop-word.rest.now c.in-Some.word.now c.in-Some.others.now (sym c.in-Some.ensures)

pub loop-word-preserved : goal.loop-word-preserved
loop-word-preserved c = (
  search rules,
  read_more (32 ∷ c.args.text.now) c.loop-word.found.items c.loop-word.rest.now c.in-Some.word.now c.in-Some.others.now c.read_member.new.found.items c.in-Ok.field-0 c.loop-word.invariant.1 (sym c.in-Some.ensures) c.in-Ok.ensures,
)

pub returns-in-Err-read_member : goal.returns-in-Err-read_member
returns-in-Err-read_member c =
    last_not_read (32 ∷ c.args.text.now) c.loop-word.found.items c.loop-word.rest.now c.read_member-2.new.found.items c.loop-word.invariant.1 (sym c.in_default.ensures) c.in-Err-read_member.fault c.in-Err-read_member.ensures

pub returns-in-Ok-read_member : goal.returns-in-Ok-read_member
returns-in-Ok-read_member c =
    read_last (32 ∷ c.args.text.now) c.loop-word.found.items c.loop-word.rest.now c.read_member-2.new.found.items c.in-Ok-read_member.field-0 c.loop-word.invariant.1 c.in-Ok-read_member.ensures
