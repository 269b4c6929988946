use Rattle.std.proofs.Common.{Err, Ok, inl, refl, sym, ◌∙◌}
use Rattle.fg_io.specs.declared.error.FetchFault.TheVariants.{Failed, NoMemory, TooLong}
use Rattle.dictionary.proofs.FirstLaws.{accepted_has_none}
use Rattle.interview_ends.proofs.CheckLaws.{refused_for}
use Rattle.interview_ends.proofs.fetching.fetch.Goals as goal

pub returns-in-Err-TooLong-clause-fetched : goal.returns-in-Err-TooLong-clause-fetched
returns-in-Err-TooLong-clause-fetched g c = let h = rw c.in-Err-TooLong.field-0-is at c.in-Err-TooLong.ensures.content in h.too_long refl

pub returns-in-Err-TooLong-clause-by_calls : goal.returns-in-Err-TooLong-clause-by_calls
returns-in-Err-TooLong-clause-by_calls g c = let called = rw c.in-Err-TooLong.field-0-is at c.in-Err-TooLong.ensures.call in (Err TooLong, called, (λ is. is), (λ wrong. absurd wrong, λ wrong. cc))

pub returns-in-Err-TooLong-clause-calls : goal.returns-in-Err-TooLong-clause-calls
returns-in-Err-TooLong-clause-calls g c = let called = rw c.in-Err-TooLong.field-0-is at c.in-Err-TooLong.ensures.call in (Err TooLong, called, (λ wrong. absurd cc, λ wrong. absurd cc))

pub returns-in-Err-TooLong-clause-uncounted : goal.returns-in-Err-TooLong-clause-uncounted
returns-in-Err-TooLong-clause-uncounted g c = let cause = rw c.in-Err-TooLong.field-0-is at c.in-Err-TooLong.ensures.cause in (cause.others (λ wrong. cc)).0

pub returns-in-Err-Failed-clause-by_calls : goal.returns-in-Err-Failed-clause-by_calls
returns-in-Err-Failed-clause-by_calls g c = let called = rw c.in-Err-Failed.field-0-is at c.in-Err-Failed.ensures.call in inl (Err Failed, called, (λ is. is), (λ is. refl, λ is. refl))

pub returns-in-Err-Failed-clause-calls : goal.returns-in-Err-Failed-clause-calls
returns-in-Err-Failed-clause-calls g c = let called = rw c.in-Err-Failed.field-0-is at c.in-Err-Failed.ensures.call in (Err Failed, called, (λ is. refl, λ is. refl))

pub returns-in-Err-NoMemory-clause-calls : goal.returns-in-Err-NoMemory-clause-calls
returns-in-Err-NoMemory-clause-calls g c = let called = rw c.in-Err-NoMemory.field-0-is at c.in-Err-NoMemory.ensures.call in (Err NoMemory, called, (λ wrong. absurd cc, λ wrong. absurd cc))

pub returns-in-Ok-accept_named-clause-by_calls : goal.returns-in-Ok-accept_named-clause-by_calls
returns-in-Ok-accept_named-clause-by_calls g c = (c.in-Ok.bytes, c.in-Ok.ensures.call, (rw c.as_slice.ensures.value at c.in-Ok-accept_named.ensures.is_accepted, c.in-Ok-accept_named.ensures.checks))

pub returns-in-Ok-accept_named-clause-calls : goal.returns-in-Ok-accept_named-clause-calls
returns-in-Ok-accept_named-clause-calls g c = (Ok c.in-Ok.bytes, c.in-Ok.ensures.call, (λ wrong. absurd cc, λ wrong. absurd cc))

pub returns-in-Ok-accept_named-clause-uncounted : goal.returns-in-Ok-accept_named-clause-uncounted
returns-in-Ok-accept_named-clause-uncounted g c = (c.in-Ok.ensures.cause.others (λ wrong. cc)).0

pub returns : goal.returns
returns g c =
    let refused = rw c.as_slice.ensures.value at c.in-Err.ensures.refused in
    let fault = refused_for c.in-Ok.bytes.items _ c.in-Err.fault (sym c.is_memory.ensures ∙ c.if-is_memory.false) refused in
    record {
      fetched = (c.in-Ok.bytes.items, c.in-Ok.ensures.content.content, fault);
      not_fetched = tt;
      kept = c.fetch.ensures.kept;
      uncounted = (c.in-Ok.ensures.cause.others (λ wrong. cc)).0;
      calls = (Ok c.in-Ok.bytes, c.in-Ok.ensures.call, (λ wrong. absurd cc, λ wrong. absurd cc));
      by_calls = (Ok c.in-Ok.bytes, c.in-Ok.ensures.call, (λ is. accepted_has_none c.in-Ok.bytes.items _ is.0 c.in-Err.fault is.1 fault), (λ wrong. absurd wrong, λ wrong. cc));
    }
