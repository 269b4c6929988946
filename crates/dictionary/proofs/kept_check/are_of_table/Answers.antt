use Rattle.std.proofs.Common.{◌≡◌, ℕ, List, length, map, sym, ◌∙◌, arith}
use Rattle.std.proofs.lemmas.List.{length-map}
use Rattle.dictionary.proofs.CheckLaws.{other_length}
use Rattle.dictionary.proofs.kept_check.are_of_table.Goals as goal

pub returns-then-kept-len : goal.returns-then-kept-len
returns-then-kept-len g c =
    let checks = c.args.table.now.checks in
    let count : length (map {B = List ℕ × ℕ} (λ k. (k.name, k.code)) checks.items) ≡ c.len.result = omega (arith, length-map {B = List ℕ × ℕ} checks.items (λ k. (k.name, k.code)), c.len.ensures, checks.ok.0) in
    sym (other_length c.args.kept.now (map {B = List ℕ × ℕ} (λ k. (k.name, k.code)) checks.items) (λ e. c.if-kept-len.true (e ∙ count)))
