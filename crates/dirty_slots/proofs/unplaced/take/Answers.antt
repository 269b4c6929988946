use Rattle.std.proofs.Common.{◌≡◌, ◌<◌, ◌+◌, ◌∙◌, ℕ, Bool, true, false, IsTrue, sym, arith}
use Rattle.std.specs.Prelude.{if◌then◌else◌}
use Rattle.dirty_slots.proofs.DirtyLaws.{taken, waits_cmp}
use Rattle.dirty_slots.proofs.unplaced.take.Goals as goal

fewer_by : (r : Bool) (a b : ℕ) → IsTrue r → a + (if r then 1 else 0) ≡ b → a < b
fewer_by true a b h e = omega arith
fewer_by false a b h e = absurd cc

pub returns-clause-fewer : goal.returns-clause-fewer
returns-clause-fewer c = λ h. fewer_by c.remove.result _ _ (c.remove.ensures.test ∙ sym (waits_cmp c.args.set.now.keys c.args.dirty) ∙ h) c.remove.ensures.len

pub returns-clause-taken : goal.returns-clause-taken
returns-clause-taken c = λ q. taken c.args.set.now.keys c.remove.new.self.keys c.args.dirty q (c.remove.ensures.updates.0 q)
