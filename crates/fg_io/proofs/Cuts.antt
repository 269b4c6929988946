-- The first bytes are cut off a list.
use Rattle.std.proofs.Common.{◌≡◌, ℕ, ◌+◌, ◌≤◌, List, ◌++◌, length, take, drop, sym, ◌∙◌, ap, arith, length-drop}
use Rattle.std.proofs.lemmas.List.{take_at, drop-drop, length-take-le, take-append-drop}

-- the n bytes from `at` on, copied to the front of a buffer, and what is behind them
pub moved : (xs front rest : List ℕ) (at n : ℕ) → front ≡ take n (drop at xs) → at + n ≤ length xs → drop at xs ≡ take n (front ++ rest) ++ drop (at + n) xs
moved xs front rest at n is fits =
    let long : length front ≡ n = ap length is ∙ length-take-le n (drop at xs) (omega (arith, length-drop at xs)) in
    sym (take-append-drop n (drop at xs)) ∙ (λ i. (sym is ∙ sym (take_at front rest n long)) i ++ drop-drop n at xs i)
