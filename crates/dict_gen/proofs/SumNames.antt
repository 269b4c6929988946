-- The names of sums are names, and each is of one number.
use Rattle.std.proofs.Common.{◌≡◌, ◌≢◌, ℕ, ◌≤◌, Bool, true, false, ◌||◌, List, [], ◌∷◌, ◌++◌, length, bytes_eq, Some, refl, arith}
use Rattle.std.specs.Prelude.{codes, decimal}
use Rattle.std.specs.Char.{is_ascii_digit}
use Rattle.std.specs.Int.{is_in_range}
use Rattle.std.specs.List.{list_all}
use Rattle.std.specs.Str.{all_ascii_digits}
use Rattle.std.proofs.lemmas.Bool.{false_from_ne_true, le-leb}
use Rattle.std.proofs.lemmas.Fmt.{decimal_injective, digits_decimal}
use Rattle.common_lemmas.proofs.Bools.{and_intro, both}
use Rattle.common_lemmas.proofs.Bytes.{same_bytes}
use Rattle.value_text.proofs.Decimals.{decimal_of_member}
use Rattle.value_text.proofs.DigitLemmas.{own}
use Rattle.fact_paths.specs.Names.{IsName, is_name_byte}
use Rattle.fact_paths.specs.Parsing.{fact_path_of, use_path_of}
use Rattle.fact_paths.specs.declared.fact_path.FactPath.TheVariants as facts
use Rattle.fact_paths.specs.declared.use_path.UsePath.TheVariants as uses
use Rattle.fact_paths.proofs.FactPathLaws.{fact_path_reading}
use Rattle.fact_paths.proofs.UsePathLaws.{use_path_reading}
use Rattle.dict_gen.specs.Chain.{sum_path}

-- `sk`
abbrev pub sum_name : ℕ → List ℕ
sum_name k = codes "s" ++ decimal k

-- ---- names

digit_of_name : (digit upper lower low dash : Bool) → digit ≡ true → ((((digit || upper) || lower) || low) || dash) ≡ true
digit_of_name true upper lower low dash h = refl
digit_of_name false upper lower low dash h = absurd cc

digits_of_name : (ds : List ℕ) → all_ascii_digits ds ≡ true → list_all is_name_byte ds ≡ true
digits_of_name [] h = refl
digits_of_name (d ∷ ds) h =
    let parts = both (is_ascii_digit d) (all_ascii_digits ds) h in
    let here : is_name_byte d ≡ true = digit_of_name (is_in_range 48 57 d) (is_in_range 65 90 d) (is_in_range 97 122 d) _ _ parts.0 in
    and_intro (is_name_byte d) (list_all is_name_byte ds) here (digits_of_name ds parts.1)

is_sum_name : (k : ℕ) → k ≤ 1000 → IsName (sum_name k)
is_sum_name k h =
    let short : length (decimal k) ≤ 63 = let few = decimal_of_member k (omega (arith, h)) in omega (arith, few) in
    let bytes : list_all is_name_byte (decimal k) ≡ true = digits_of_name (decimal k) (digits_decimal own k (omega (arith, h))) in
    rw (le-leb (length (decimal k)) 63 short, bytes) refl

-- ---- paths

pub sum_path_is : (k : ℕ) → k ≤ 1000 → fact_path_of (sum_path k) ≡ Some (facts.Global (sum_name k))
sum_path_is k h = fact_path_reading.complete (sum_path k) (facts.Global (sum_name k)) (is_sum_name k h, refl)

pub sum_use_is : (k : ℕ) → k ≤ 1000 → use_path_of (sum_path k) ≡ Some (uses.Global (sum_name k))
sum_use_is k h = use_path_reading.complete (sum_path k) (uses.Global (sum_name k)) (is_sum_name k h, refl)

-- ---- each is of one number

behind : (a b : List ℕ) → 115 ∷ a ≡ 115 ∷ b → a ≡ b
behind a b h = cc

pub names_differ : (j k : ℕ) → j ≤ 1000 → k ≤ 1000 → j ≢ k → bytes_eq (sum_name j) (sum_name k) ≡ false
names_differ j k p q ne = false_from_ne_true _ (λ e. ne (decimal_injective j k (omega (arith, p)) (omega (arith, q)) (behind (decimal j) (decimal k) (same_bytes (sum_name j) (sum_name k) e))))
