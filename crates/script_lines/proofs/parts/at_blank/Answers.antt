use Rattle.std.proofs.Common.{All, ◌≢◌, subst, sym, arith}
use Rattle.std.proofs.lemmas.Str.{IsCharBoundary-after_ascii}
use Rattle.fact_paths.specs.Cuts.{IsFirstAt}
use Rattle.fact_paths.proofs.CutLaws.{cut-first, cut-none}
use Rattle.script_lines.proofs.parts.at_blank.Goals as goal

pub returns : goal.returns
returns c =
    let blank = subst (λ t. IsFirstAt 32 t c.in_ok-at.at) c.as_bytes.ensures.value c.in_ok-at.ensures.found in
    sym (cut-first 32 c.args.text.now c.range.result.now c.range_from.result.now c.in_ok-at.at blank c.range.ensures.value c.range_from.ensures.value)

pub returns-in_err-at : goal.returns-in_err-at
returns-in_err-at c = rw c.from_residual.ensures (sym (cut-none 32 c.args.text.now (subst (All (λ b. b ≢ 32)) c.as_bytes.ensures.value c.in_err-at.ensures.none)))

pub range_from-requires : goal.range_from-requires
range_from-requires c = λ _.
    let blank = subst (λ t. IsFirstAt 32 t c.in_ok-at.at) c.as_bytes.ensures.value c.in_ok-at.ensures.found in
    IsCharBoundary-after_ascii c.args.text.now c.in_ok-at.at c.utf8.text blank.within (omega (arith, blank.here))
