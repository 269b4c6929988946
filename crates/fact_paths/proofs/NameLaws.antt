-- What the grammar of names rules out.
use Rattle.std.proofs.Common.{◌≡◌, ℕ, Bool, true, false, ◌||◌, List, [], ◌∷◌, refl}
use Rattle.std.specs.List.{list_all}
use Rattle.std.specs.Int.{is_in_range}
use Rattle.common_lemmas.proofs.Bools.{both, both_left}
use Rattle.fact_paths.specs.Cuts.{Lacks}
use Rattle.fact_paths.specs.Names.{is_name_byte, IsName}

-- bytes that pass a test hold no byte that doesn't
pub passed_lack : (test : ℕ → Bool) (c : ℕ) → test c ≡ false → (text : List ℕ) → list_all test text ≡ true → Lacks c text
passed_lack test c outside [] h = tt
passed_lack test c outside (b ∷ bs) h =
    let parts = both (test b) (list_all test bs) h in
    (λ e. absurd cc, passed_lack test c outside bs parts.1)

-- a letter is one of the bytes of names
pub one_of_all : (digit upper lower low dash : Bool) → (upper || lower) ≡ true → ((((digit || upper) || lower) || low) || dash) ≡ true
one_of_all true upper lower low dash e = refl
one_of_all false true lower low dash e = refl
one_of_all false false true low dash e = refl
one_of_all false false false low dash e = absurd cc

-- a byte that no name has
pub name_lacks : (c : ℕ) → is_name_byte c ≡ false → (n : List ℕ) → IsName n → Lacks c n
name_lacks c outside [] h = tt
name_lacks c outside (b ∷ bs) h =
    let parts = both _ _ h in
    let letter : is_name_byte b ≡ true = one_of_all (is_in_range 48 57 b) (is_in_range 65 90 b) (is_in_range 97 122 b) _ _ (both_left _ _ parts.0) in
    (λ e. absurd cc, passed_lack is_name_byte c outside bs parts.1)

-- so a slash parts a name from what follows
pub name_lacks_slash : (n : List ℕ) → IsName n → Lacks 47 n
name_lacks_slash n h = name_lacks 47 refl n h
