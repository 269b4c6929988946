-- The answers at the start are well formed.
use Rattle.std.proofs.Common.{◌≡◌, ℕ, [], sym, ap, subst, arith, ◌≤◌}
use Rattle.std.specs.Prelude.{unwrap_or, IsSome}
use Rattle.std.specs.Ordering.{nat_cmp}
use Rattle.std.specs.FinMap as map
use Rattle.answers.specs.Lists.{IsIn, Once}
use Rattle.answers.specs.Answered.{start_at, list_of}
use Rattle.answers.specs.WellFormed.{WellFormed, FromOne}
use Rattle.answers.proofs.StandLaws.{none_some}

no_list : (n c : ℕ) → list_of (start_at n) c ≡ []
no_list n c = ap (λ o. unwrap_or o []) (map.get-empty nat_cmp c)

pub start_well : (n : ℕ) → n ≤ 1000001 → WellFormed (start_at n)
start_well n high = record {
  high = high;
  below = λ m le. map.get-empty nat_cmp m;
  short = λ c. rw (no_list n c) (omega arith);
  distinct = λ c. subst Once (sym (no_list n c)) tt;
  listed = λ c m. subst (λ xs. IsIn m xs → IsSome (map.get (start_at n).members m)) (sym (no_list n c)) (λ h. absurd cc);
  apart = λ c d m. subst (λ xs. IsIn m xs → IsIn m (list_of (start_at n) d) → c ≡ d) (sym (no_list n c)) (λ h _. absurd cc);
  only = λ m some. absurd (none_some (map.get (start_at n).members m) (map.get-empty nat_cmp m) some);
}

pub start_from_one : (n : ℕ) → 1 ≤ n → FromOne (start_at n)
start_from_one n low = record { low = low; zero = map.get-empty nat_cmp 0 }
