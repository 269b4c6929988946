-- Counts rise where they grew.
use Rattle.std.proofs.Common.{inl, inr, arith}
use Rattle.std.proofs.lemmas.Bool.{cases_lt}
use Rattle.fg_io.specs.Laws.{RoseWhereItGrew}

pub rose_where_it_grew : RoseWhereItGrew
rose_where_it_grew before now = (
  λ rose. elim (cases_lt before now) [ inl grew ↦ inl grew | inr still ↦ inr (omega (arith, rose)) ],
  λ h. elim h [ inl grew ↦ omega arith | inr stands ↦ omega arith ],
)
