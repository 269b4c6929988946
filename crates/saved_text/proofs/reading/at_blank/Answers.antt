use Rattle.saved_text.proofs.Common.{Bor, List, MatchOption, None, Option, Some, arith, cut, option_map, sym, ℕ, ◌≡◌}
use Rattle.fact_paths.proofs.CutLaws.{cut_from_split}
use Rattle.saved_text.proofs.reading.at_blank.Goals as goal

by_cases : (text : List ℕ) (parts : Option (Bor (List ℕ) × Bor (List ℕ))) → MatchOption parts (cut 32 text ≡ None) (λ p. cut 32 text ≡ Some (p.0.now, p.1.now))
    → option_map {T = Bor (List ℕ) × Bor (List ℕ)} {U = List ℕ × List ℕ} (λ p. (p.0.now, p.1.now)) parts ≡ cut 32 text
by_cases text None e = sym e
by_cases text (Some p) e = sym e

pub returns : goal.returns
returns c = by_cases c.args.text.now c.split_once.result (cut_from_split 32 c.args.text.now c.split_once.result (omega arith) c.split_once.ensures.cases)
