use Rattle.std.proofs.Common.{rules}
use Rattle.fg_io.proofs.Fetched.{answered, refused}
use Rattle.fg_io.proofs.mem_shelf.MemShelfShelf.fetch.Goals as goal

pub returns-then-len-at_most-clause-content : goal.returns-then-len-at_most-clause-content
returns-then-len-at_most-clause-content g c = rw (← c.self.view_is) (refused _ _ _ c.in-Some.ensures.1 (search rules))

pub returns-in_ok-contents-in-Some-clause-content :
    goal.returns-in_ok-contents-in-Some-clause-content
returns-in_ok-contents-in-Some-clause-content g c = rw (← c.self.view_is) (answered _ _ _ (search rules) (search rules))

pub returns-in-None-clause-ends : goal.returns-in-None-clause-ends
returns-in-None-clause-ends g c = rw (← c.self.view_is) (rw (c.deref.ensures.value, c.saturating_add-call.ensures) at c.in-None.ensures, search rules)
