-- Words ask for one thing at most.
use Rattle.std.proofs.Common.{◌≡◌, ℕ, ◌≤◌, List, [], ◌∷◌, Option, Some, None, option_map, inl, inr, refl, sym, ap, ◌∙◌, arith}
use Rattle.std.specs.Prelude.{bytes_eq, codes, decimal, false, if◌then◌else◌}
use Rattle.std.proofs.lemmas.Bool.{false_from_ne_true}
use Rattle.common_lemmas.proofs.Bytes.{same_bytes}
use Rattle.built_in.specs.declared.built_in.BuiltIn.{BuiltIn}
use Rattle.built_in.specs.declared.built_in.BuiltIn.TheVariants.{Year, Income}
use Rattle.built_in.specs.BuiltIns.{program_income_of}
use Rattle.tax_2023.specs.Years.{year_of_word}
use Rattle.script_runs.specs.declared.mode.Mode.{Mode}
use Rattle.script_runs.specs.declared.mode.Mode.TheVariants.{Incremental, Plain, Desk}
use Rattle.interview_ends.specs.Origins.{Beginning, Origin, by_carry, by_load, file, program, unanswered}
use Rattle.interview.specs.Words.{Fetches, HasNoForm, IsCheck, IsFrom, IsGen, IsRun, IsRunOver, IsSave}

-- ---- what words ask for

pub data Asked : Type 0 where
  run : Origin → Beginning → Mode → Asked
  check : List ℕ → Asked
  -- with this word for the number
  gen : List ℕ → Asked
  save : Origin → Asked

-- the dictionary of a year, and that of an income, by the word of the year
abbrev year_named : List ℕ → Option BuiltIn
year_named word = option_map Year (year_of_word word)

abbrev income_named : List ℕ → Option BuiltIn
income_named word = option_map Income (program_income_of word)

abbrev run_of : BuiltIn → Asked
run_of b = run (program b) unanswered Incremental

abbrev save_of : BuiltIn → Asked
save_of b = save (program b)

abbrev asked_by_two : List ℕ → List ℕ → Option Asked
asked_by_two command word =
    if bytes_eq command (codes "run") then Some (run (file word) unanswered Incremental)
    else if bytes_eq command (codes "run-plain") then Some (run (file word) unanswered Plain)
    else if bytes_eq command (codes "desk") then Some (run (file word) unanswered Desk)
    else if bytes_eq command (codes "check") then Some (check word)
    else if bytes_eq command (codes "year") then option_map run_of (year_named word)
    else if bytes_eq command (codes "gen") then Some (gen word)
    else if bytes_eq command (codes "income") then option_map run_of (income_named word)
    else if bytes_eq command (codes "save") then Some (save (file word))
    else if bytes_eq command (codes "save-year") then option_map save_of (year_named word)
    else None

abbrev carried_to : List ℕ → BuiltIn → Asked
carried_to saved b = run (program b) (by_carry saved) Incremental

abbrev asked_by_three : List ℕ → List ℕ → List ℕ → Option Asked
asked_by_three command word saved =
    if bytes_eq command (codes "load") then Some (run (file word) (by_load saved) Incremental)
    else if bytes_eq command (codes "carry") then Some (run (file word) (by_carry saved) Incremental)
    else if bytes_eq command (codes "carry-year") then option_map (carried_to saved) (year_named word)
    else None

abbrev asked_by : List (List ℕ) → Option Asked
asked_by (command ∷ word ∷ []) = asked_by_two command word
asked_by (command ∷ word ∷ saved ∷ []) = asked_by_three command word saved
asked_by words = None

asks_run : (words : List (List ℕ)) (o : Origin) (b : Beginning) (e : Mode) → IsRunOver words o b e → asked_by words ≡ Some (run o b e)
asks_run words (file name) unanswered Incremental is = ap asked_by is
asks_run words (file name) unanswered Plain is = ap asked_by is
asks_run words (file name) unanswered Desk is = ap asked_by is
asks_run words (file name) (by_load saved) Incremental is = ap asked_by is
asks_run words (file name) (by_carry saved) Incremental is = ap asked_by is
asks_run words (program (Year y)) unanswered Incremental (word, is, named) = ap asked_by is ∙ ap (λ o. option_map run_of (option_map Year o)) named
asks_run words (program (Income y)) unanswered Incremental (word, is, named) = ap asked_by is ∙ ap (λ o. option_map run_of (option_map Income o)) named
asks_run words (program (Year y)) (by_carry saved) Incremental (word, is, named) = ap asked_by is ∙ ap (λ o. option_map (carried_to saved) (option_map Year o)) named
asks_run words (program (Income y)) (by_carry saved) Incremental is = absurd is
asks_run words o b e is = absurd is

asks_of_run : (words : List (List ℕ)) (o : Origin) (r : IsRun words o) → asked_by words ≡ Some (run o r.beginning r.mode)
asks_of_run words o r = asks_run words o r.beginning r.mode r.over

asks_check : (words : List (List ℕ)) (name : List ℕ) → IsCheck words name → asked_by words ≡ Some (check name)
asks_check words name is = ap asked_by is

asks_gen : (words : List (List ℕ)) (n : ℕ) → IsGen words n → asked_by words ≡ Some (gen (decimal n))
asks_gen words n is = ap asked_by is.spelled

asks_save : (words : List (List ℕ)) (o : Origin) → IsSave words o → asked_by words ≡ Some (save o)
asks_save words (file name) is = ap asked_by is
asks_save words (program (Year y)) (word, is, named) = ap asked_by is ∙ ap (λ o. option_map save_of (option_map Year o)) named
asks_save words (program (Income y)) is = absurd is

-- ---- one thing

abbrev origin_in : Origin → Option Asked → Origin
origin_in other (Some (run o b e)) = o
origin_in other (Some (save o)) = o
origin_in other asked = other

abbrev beginning_in : Beginning → Option Asked → Beginning
beginning_in other (Some (run o b e)) = b
beginning_in other asked = other

abbrev mode_in : Mode → Option Asked → Mode
mode_in other (Some (run o b e)) = e
mode_in other asked = other

abbrev word_in : List ℕ → Option Asked → List ℕ
word_in other (Some (check name)) = name
word_in other (Some (gen number)) = number
word_in other asked = other

-- words run over one dictionary, from one place, in one mode
pub same_origin : (words : List (List ℕ)) (o p : Origin) → IsRun words o → IsRun words p → o ≡ p
same_origin words o p h k = ap (origin_in o) (sym (asks_of_run words o h) ∙ asks_of_run words p k)

pub same_beginning : (words : List (List ℕ)) (o p : Origin) (h : IsRun words o) (k : IsRun words p) → h.beginning ≡ k.beginning
same_beginning words o p h k = ap (beginning_in h.beginning) (sym (asks_of_run words o h) ∙ asks_of_run words p k)

pub same_mode : (words : List (List ℕ)) (o p : Origin) (h : IsRun words o) (k : IsRun words p) → h.mode ≡ k.mode
same_mode words o p h k = ap (mode_in h.mode) (sym (asks_of_run words o h) ∙ asks_of_run words p k)

pub same_check : (words : List (List ℕ)) (a b : List ℕ) → IsCheck words a → IsCheck words b → a ≡ b
same_check words a b h k = ap (word_in a) (sym (asks_check words a h) ∙ asks_check words b k)

pub same_number : (words : List (List ℕ)) (n m : ℕ) → IsGen words n → IsGen words m → decimal n ≡ decimal m
same_number words n m h k = ap (word_in (decimal n)) (sym (asks_gen words n h) ∙ asks_gen words m k)

pub same_save : (words : List (List ℕ)) (o p : Origin) → IsSave words o → IsSave words p → o ≡ p
same_save words o p h k = ap (origin_in o) (sym (asks_save words o h) ∙ asks_save words p k)

-- over what the program brings runs the incremental engine alone
program_runs : (words : List (List ℕ)) (b : BuiltIn) (beginning : Beginning) (e : Mode) → IsRunOver words (program b) beginning e → e ≡ Incremental
program_runs words b beginning Incremental is = refl
program_runs words b unanswered Plain is = absurd is
program_runs words b unanswered Desk is = absurd is
program_runs words b (by_load saved) Plain is = absurd is
program_runs words b (by_load saved) Desk is = absurd is
program_runs words b (by_carry saved) Plain is = absurd is
program_runs words b (by_carry saved) Desk is = absurd is

pub program_mode : (words : List (List ℕ)) (o : Origin) (b : BuiltIn) → IsRun words (program b) → (h : IsRun words o) → h.mode ≡ Incremental
program_mode words o b asked h = same_mode words o (program b) h asked ∙ program_runs words b asked.beginning asked.mode asked.over

-- ---- and no other

abbrev kind_of : Option Asked → ℕ
kind_of None = 0
kind_of (Some (run o b e)) = 1
kind_of (Some (check name)) = 2
kind_of (Some (gen number)) = 3
kind_of (Some (save o)) = 4

-- no words of a run are those of a check
pub not_both : (words : List (List ℕ)) (origin : Origin) (name : List ℕ) → IsRun words origin → IsCheck words name → ⊥
not_both words origin name h k = let same : 1 ≡ 2 = ap kind_of (sym (asks_of_run words origin h) ∙ asks_check words name k) in omega (arith, same)

pub gen_is_no_run : (words : List (List ℕ)) (n : ℕ) (origin : Origin) → IsGen words n → IsRun words origin → ⊥
gen_is_no_run words n origin h k = let same : 3 ≡ 1 = ap kind_of (sym (asks_gen words n h) ∙ asks_of_run words origin k) in omega (arith, same)

pub gen_is_no_check : (words : List (List ℕ)) (n : ℕ) (name : List ℕ) → IsGen words n → IsCheck words name → ⊥
gen_is_no_check words n name h k = let same : 3 ≡ 2 = ap kind_of (sym (asks_gen words n h) ∙ asks_check words name k) in omega (arith, same)

pub gen_is_no_save : (words : List (List ℕ)) (n : ℕ) (origin : Origin) → IsGen words n → IsSave words origin → ⊥
gen_is_no_save words n origin h k = let same : 3 ≡ 4 = ap kind_of (sym (asks_gen words n h) ∙ asks_save words origin k) in omega (arith, same)

pub save_is_no_run : (words : List (List ℕ)) (o p : Origin) → IsSave words o → IsRun words p → ⊥
save_is_no_run words o p h k = let same : 4 ≡ 1 = ap kind_of (sym (asks_save words o h) ∙ asks_of_run words p k) in omega (arith, same)

pub save_is_no_check : (words : List (List ℕ)) (o : Origin) (name : List ℕ) → IsSave words o → IsCheck words name → ⊥
save_is_no_check words o name h k = let same : 4 ≡ 2 = ap kind_of (sym (asks_save words o h) ∙ asks_check words name k) in omega (arith, same)

-- ---- what is fetched

-- a file is no dictionary of the program's own
file_is_apart : (name : List ℕ) (b : BuiltIn) → file name ≡ program b → ⊥
file_is_apart name b same = cc

pub none_fetched : (words : List (List ℕ)) (name : List ℕ) → HasNoForm words → Fetches words name → ⊥
none_fetched words name none (inl asked) = none.0 (file name) asked
none_fetched words name none (inr asked) = none.1 name asked

-- no dictionary is fetched for the words of a year
pub brought_unfetched : (words : List (List ℕ)) (b : BuiltIn) (name : List ℕ) → IsRun words (program b) → Fetches words name → ⊥
brought_unfetched words b name asked (inl fetched) = file_is_apart name b (same_origin words (file name) (program b) fetched asked)
brought_unfetched words b name asked (inr checked) = not_both words (program b) name asked checked

pub gen_fetches_nothing : (words : List (List ℕ)) (n : ℕ) (name : List ℕ) → IsGen words n → Fetches words name → ⊥
gen_fetches_nothing words n name h (inl asked) = gen_is_no_run words n (file name) h asked
gen_fetches_nothing words n name h (inr asked) = gen_is_no_check words n name h asked

-- nor for a run or a check, where the words save
pub save_is_no_fetch : (words : List (List ℕ)) (o : Origin) (name : List ℕ) → IsSave words o → Fetches words name → ⊥
save_is_no_fetch words o name h (inl asked) = save_is_no_run words o (file name) h asked
save_is_no_fetch words o name h (inr asked) = save_is_no_check words o name h asked

-- and no saved text where none is named
pub from_none : (b : Beginning) (name : List ℕ) → b ≡ unanswered → IsFrom b name → ⊥
from_none unanswered name none from = from
from_none (by_load saved) name none from = cc
from_none (by_carry saved) name none from = cc

-- ---- words without a form

-- where they ask for nothing
pub no_form : (words : List (List ℕ)) → asked_by words ≡ None → HasNoForm words
no_form words none = (
  λ o h. let same : 1 ≡ 0 = ap kind_of (sym (asks_of_run words o h) ∙ none) in omega (arith, same),
  λ name h. let same : 2 ≡ 0 = ap kind_of (sym (asks_check words name h) ∙ none) in omega (arith, same),
  λ n h. let same : 3 ≡ 0 = ap kind_of (sym (asks_gen words n h) ∙ none) in omega (arith, same),
  λ o h. let same : 4 ≡ 0 = ap kind_of (sym (asks_save words o h) ∙ none) in omega (arith, same),
)

-- behind these commands stands the word of no year
pub no_year : (word : List ℕ) → None ≡ year_of_word word → HasNoForm (codes "year" ∷ word ∷ [])
no_year word none = no_form (codes "year" ∷ word ∷ []) (ap (λ o. option_map run_of (option_map Year o)) (sym none))

pub no_income : (word : List ℕ) → None ≡ program_income_of word → HasNoForm (codes "income" ∷ word ∷ [])
no_income word none = no_form (codes "income" ∷ word ∷ []) (ap (λ o. option_map run_of (option_map Income o)) (sym none))

pub no_saved_year : (word : List ℕ) → None ≡ year_of_word word → HasNoForm (codes "save-year" ∷ word ∷ [])
no_saved_year word none = no_form (codes "save-year" ∷ word ∷ []) (ap (λ o. option_map save_of (option_map Year o)) (sym none))

pub no_carried_year : (word saved : List ℕ) → None ≡ year_of_word word → HasNoForm (codes "carry-year" ∷ word ∷ saved ∷ [])
no_carried_year word saved none = no_form (codes "carry-year" ∷ word ∷ saved ∷ []) (ap (λ o. option_map (carried_to saved) (option_map Year o)) (sym none))

-- behind `gen` stands no such number
pub no_number : (number : List ℕ) → ((n : ℕ) → 1 ≤ n → n ≤ 1000 → number ≡ decimal n → ⊥) → HasNoForm (codes "gen" ∷ number ∷ [])
no_number number none = (
  λ o h. let same : 1 ≡ 3 = ap kind_of (sym (asks_of_run (codes "gen" ∷ number ∷ []) o h)) in omega (arith, same),
  λ name h. let same : 2 ≡ 3 = ap kind_of (sym (asks_check (codes "gen" ∷ number ∷ []) name h)) in omega (arith, same),
  λ n h. none n h.some h.most (ap (word_in number) (asks_gen (codes "gen" ∷ number ∷ []) n h)),
  λ o h. let same : 4 ≡ 3 = ap kind_of (sym (asks_save (codes "gen" ∷ number ∷ []) o h)) in omega (arith, same),
)

is_other : (a b : List ℕ) → (a ≡ b → ⊥) → bytes_eq a b ≡ false
is_other a b apart = false_from_ne_true _ (λ e. apart (same_bytes a b e))

-- no command is followed by these two words
pub others_of_three : (command word saved : List ℕ) → (command ≡ codes "load" → ⊥) → (command ≡ codes "carry" → ⊥) → (command ≡ codes "carry-year" → ⊥) → HasNoForm (command ∷ word ∷ saved ∷ [])
others_of_three command word saved load carry year = no_form (command ∷ word ∷ saved ∷ []) (none_of (is_other command (codes "load") load) (is_other command (codes "carry") carry) (is_other command (codes "carry-year") year))
  where
    none_of : bytes_eq command (codes "load") ≡ false → bytes_eq command (codes "carry") ≡ false → bytes_eq command (codes "carry-year") ≡ false → asked_by_three command word saved ≡ None
    none_of a b c = rw (a, b, c) refl
