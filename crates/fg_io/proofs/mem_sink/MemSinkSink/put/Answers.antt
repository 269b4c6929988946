use Rattle.std.proofs.Common.{refl}
use Rattle.fg_io.proofs.mem_sink.MemSinkSink.put.Goals as goal

pub returns-then-is_refused-clause-fails : goal.returns-then-is_refused-clause-fails
returns-then-is_refused-clause-fails c = (
  λ _. rw (← c.self.view_is) (rw (c.deref.ensures.value, c.deref-2.ensures.value, c.saturating_add-self-inside.ensures) at c.if-is_refused.ensures.0 refl),
  λ _. refl,
)
