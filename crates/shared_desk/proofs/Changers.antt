-- Lists of parties.
use Rattle.std.proofs.Common.{◌≡◌, ℕ, suc, ◌+◌, ◌-◌, ◌<◌, ◌≤◌, List, [], ◌∷◌, ◌++◌, length, slice_get, Some, ap, ◌∙◌, arith}
use Rattle.std.proofs.lemmas.List.{length-append}
use Rattle.common_lemmas.proofs.Lists.{get_last, get_left}
use Rattle.shared_desk.specs.Desk.{changer}

pub changer_at : (changers : List ℕ) (n : ℕ) → changer changers (suc n) ≡ slice_get changers n
changer_at changers n = let at : suc n - 1 ≡ n = omega arith in ap (slice_get changers) at

-- the change after them is the party's
pub changer_last : (changers : List ℕ) (p n : ℕ) → length changers ≡ n → changer (changers ++ p ∷ []) (n + 1) ≡ Some p
changer_last changers p n e =
    let at : (n + 1) - 1 ≡ length changers = omega (arith, e) in
    ap (slice_get (changers ++ p ∷ [])) at ∙ get_last changers p

-- and those before stay
pub changer_kept : (changers : List ℕ) (p n : ℕ) → 0 < n → n ≤ length changers → changer (changers ++ p ∷ []) n ≡ changer changers n
changer_kept changers p n some low = get_left changers (p ∷ []) (n - 1) (omega (arith, some, low))

pub one_more : {A : Type 0} (xs : List A) (x : A) (n : ℕ) → length xs ≡ n → length (xs ++ x ∷ []) ≡ n + 1
one_more xs x n e = length-append xs (x ∷ []) ∙ ap (λ (m : ℕ). m + 1) e
