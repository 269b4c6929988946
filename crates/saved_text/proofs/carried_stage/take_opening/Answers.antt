use Rattle.saved_text.proofs.Common.{List, [], ap, false, refl, sym, true, ℕ, ◌∷◌, ◌≡◌}
use Rattle.saved_text.proofs.CarriedSteps.{no_opening}
use Rattle.saved_text.proofs.carried_stage.take_opening.Goals as goal

pub returns-then-is_word : goal.returns-then-is_word
returns-then-is_word c = (tt, ap (λ (l : List ℕ). l ∷ []) (sym (c.is_word.ensures.0 c.if-is_word.true)), refl)

pub returns-else-is_word : goal.returns-else-is_word
returns-else-is_word c = no_opening c.args.line.now (λ e. (let is_it : c.is_word.result ≡ true = c.is_word.ensures.1 e in let is_not : c.is_word.result ≡ false = c.if-is_word.false in cc))
