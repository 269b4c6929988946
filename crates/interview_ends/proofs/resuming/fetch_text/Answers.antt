use Rattle.std.proofs.Common.{Err, Ok, refl}
use Rattle.fg_io.specs.declared.error.FetchFault.TheVariants.{Failed, NoMemory, TooLong}
use Rattle.interview_ends.proofs.resuming.fetch_text.Goals as goal

pub returns-in-Err-TooLong-clause-fetched : goal.returns-in-Err-TooLong-clause-fetched
returns-in-Err-TooLong-clause-fetched g c = let h = rw c.in-Err-TooLong.field-0-is at c.in-Err-TooLong.ensures.content in h.too_long refl

pub returns-in-Ok-clause-calls : goal.returns-in-Ok-clause-calls
returns-in-Ok-clause-calls g c = (Ok c.in-Ok.bytes, c.in-Ok.ensures.call, (λ wrong. absurd cc, λ wrong. absurd cc))

pub returns-in-Err-TooLong-clause-calls : goal.returns-in-Err-TooLong-clause-calls
returns-in-Err-TooLong-clause-calls g c = let called = rw c.in-Err-TooLong.field-0-is at c.in-Err-TooLong.ensures.call in (Err TooLong, called, (λ wrong. absurd cc, λ wrong. absurd cc))

pub returns-in-Err-Failed-clause-calls : goal.returns-in-Err-Failed-clause-calls
returns-in-Err-Failed-clause-calls g c = let called = rw c.in-Err-Failed.field-0-is at c.in-Err-Failed.ensures.call in (Err Failed, called, (λ is. refl, λ is. refl))

pub returns-in-Err-NoMemory-clause-calls : goal.returns-in-Err-NoMemory-clause-calls
returns-in-Err-NoMemory-clause-calls g c = let called = rw c.in-Err-NoMemory.field-0-is at c.in-Err-NoMemory.ensures.call in (Err NoMemory, called, (λ wrong. absurd cc, λ wrong. absurd cc))
