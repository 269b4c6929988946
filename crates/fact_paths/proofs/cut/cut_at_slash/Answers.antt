use Rattle.std.proofs.Common.{All, ◌≢◌, subst, arith}
use Rattle.std.proofs.lemmas.Str.{IsCharBoundary-after_ascii}
use Rattle.fact_paths.specs.Cuts.{IsFirstAt}
use Rattle.fact_paths.proofs.CutLaws.{cut-first, cut-none}
use Rattle.fact_paths.proofs.cut.cut_at_slash.Goals as goal

pub returns : goal.returns
returns c =
    let slash = subst (λ t. IsFirstAt 47 t c.in_ok-at.at) c.as_bytes.ensures.value c.in_ok-at.ensures.found in
    cut-first 47 c.args.text.now c.range.result.now c.range_from.result.now c.in_ok-at.at slash c.range.ensures.value c.range_from.ensures.value

pub returns-in_err-at : goal.returns-in_err-at
returns-in_err-at c = rw c.from_residual.ensures (cut-none 47 c.args.text.now (subst (All (λ b. b ≢ 47)) c.as_bytes.ensures.value c.in_err-at.ensures.none))

pub range_from-requires : goal.range_from-requires
range_from-requires c = λ _.
    let slash = subst (λ t. IsFirstAt 47 t c.in_ok-at.at) c.as_bytes.ensures.value c.in_ok-at.ensures.found in
    IsCharBoundary-after_ascii c.args.text.now c.in_ok-at.at c.utf8.text slash.within (omega (arith, slash.here))
