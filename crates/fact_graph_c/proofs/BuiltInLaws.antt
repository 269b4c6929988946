-- Words that aren't UTF-8 are those of no dictionary.
use Rattle.std.proofs.Common.{◌≡◌, ℕ, Bool, true, false, ◌&&◌, if◌then◌else◌, List, [], ◌∷◌, Option, Some, None, option_map, refl, sym, ap, subst, ◌∙◌, arith}
use Rattle.std.specs.Prelude.{IsTrue, IsUtf8, codes, nat_lt}
use Rattle.std.specs.List.{list_all}
use Rattle.std.specs.Str.{IsAscii, bytes_eq}
use Rattle.std.proofs.lemmas.Bool.Decides.{nat_tests}
use Rattle.std.proofs.lemmas.Slice.Eq.{bytes_eq-Decides}
use Rattle.std.proofs.lemmas.Str.{IsUtf8-append, IsUtf8-from_ascii}
use Rattle.std.proofs.lemmas.Str.Ascii.{IsAscii-cons, IsAscii-nil}
use Rattle.common_lemmas.proofs.Bools.{both}
use Rattle.fact_json.specs.Names.{under_name}
use Rattle.fact_paths.specs.Cuts.{after}
use Rattle.fact_paths.proofs.CutLaws.{after_some}
use Rattle.tax_2023.specs.Years.{year_of_word, year_words}
use Rattle.built_in.specs.BuiltIns.{built_in_behind, built_in_of}
use Rattle.built_in.specs.declared.built_in.BuiltIn.TheVariants.{Year, Income}

-- each byte is ASCII
ascii : (bs : List ℕ) → IsTrue (list_all (λ b. nat_lt b 128) bs) → IsAscii bs
ascii [] all = IsAscii-nil
ascii (b ∷ bs) all = by (nat_lt b 128) refl all (ascii bs)
  where
    by : (t : Bool) → nat_lt b 128 ≡ t → IsTrue (t && list_all (λ c. nat_lt c 128) bs) → (IsTrue (list_all (λ c. nat_lt c 128) bs) → IsAscii bs) → IsAscii (b ∷ bs)
    by true small rest go = IsAscii-cons b bs (grind (arith, nat_tests)) (go rest)
    by false large rest go = absurd (cc)

differ : (words name : List ℕ) → IsTrue (list_all (λ b. nat_lt b 128) name) → ¬ (IsUtf8 words) → bytes_eq words name ≡ false
differ words name all bad = by (bytes_eq words name) refl
  where
    by : (b : Bool) → bytes_eq words name ≡ b → b ≡ false
    by true is = absurd (bad (subst IsUtf8 (sym ((bytes_eq-Decides words name).0 is)) (IsUtf8-from_ascii name (ascii name all))))
    by false is = refl

-- so it is none of these names
under_none : {A : Type 0} (names : List (List ℕ × A)) (word : List ℕ) → IsTrue (list_all (λ n. list_all (λ b. nat_lt b 128) n.0) names) → ¬ (IsUtf8 word) → under_name word names ≡ None
under_none [] word all bad = refl
under_none (n ∷ ns) word all bad =
    let q = both (list_all (λ b. nat_lt b 128) n.0) (list_all (λ n. list_all (λ b. nat_lt b 128) n.0) ns) all in
    ap (λ (t : Bool). if t then Some n.1 else under_name word ns) (differ word n.0 q.0 bad) ∙ under_none ns word q.1 bad

is_no_year : (word : List ℕ) → ¬ (IsUtf8 word) → year_of_word word ≡ None
is_no_year word bad = under_none year_words word refl bad

-- nor is what stands behind this front UTF-8
behind_bad : (front words rest : List ℕ) → IsTrue (list_all (λ b. nat_lt b 128) front) → ¬ (IsUtf8 words) → after front words ≡ Some rest → ¬ (IsUtf8 rest)
behind_bad front words rest all bad is good = bad (subst IsUtf8 (sym (after_some front words rest is)) (IsUtf8-append front rest (IsUtf8-from_ascii front (ascii front all)) good))

none_behind : (year income : Option (List ℕ)) → ((word : List ℕ) → year ≡ Some word → ¬ (IsUtf8 word)) → ((word : List ℕ) → income ≡ Some word → ¬ (IsUtf8 word)) → built_in_behind year income ≡ None
none_behind (Some word) income year_bad income_bad = ap (option_map Year) (is_no_year word (year_bad word refl))
none_behind None (Some word) year_bad income_bad = ap (option_map Income) (is_no_year word (income_bad word refl))
none_behind None None year_bad income_bad = refl

pub names_none : (words : List ℕ) → ¬ (IsUtf8 words) → None ≡ built_in_of words
names_none words bad =
    sym (none_behind (after (codes "year ") words) (after (codes "income ") words) (λ word is. behind_bad (codes "year ") words word refl bad is) (λ word is. behind_bad (codes "income ") words word refl bad is))
