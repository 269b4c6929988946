-- Of every type: what a text spells is what reading it gives.
use Rattle.std.proofs.Common.{◌≡◌, ◌≢◌, inl, inr, ℕ, Bool, true, false, List, codes, bytes_eq, slice_get, Option, Some, None, option_map, option_and_then, Result, Ok, Err, if◌then◌else◌, refl, sym, ap, ◌∙◌, subst}
use Rattle.std.specs.Prelude.{ℤ}
use Rattle.common_lemmas.proofs.Bytes.{same_bytes}
use Rattle.common_lemmas.proofs.Options.{both_some, mapped}
use Rattle.fact_values.specs.Texts.{IsPlainText, is_plain_text}
use Rattle.fact_values.specs.declared.fact_type.FactType.{FactType}
use Rattle.fact_values.specs.declared.fact_type.FactType.TheVariants as types
use Rattle.fact_values.specs.declared.value.Value.{Value}
use Rattle.fact_values.specs.declared.value.Value.TheVariants as values
use Rattle.value_text.specs.Dates.{day_at}
use Rattle.value_text.specs.Dollars.{dollar_at}
use Rattle.value_text.specs.Enums.{Listed, are_distinct, place_in, options_at, option_at, option_place_in}
use Rattle.value_text.specs.Fractions.{rational_at}
use Rattle.value_text.specs.Values.{SpellsValue, Gives, Reads, printed_boolean, boolean_at, text_at, value_at}
use Rattle.value_text.specs.Wholes.{whole_at}
use Rattle.value_text.specs.declared.value.TextFault.{TextFault}
use Rattle.value_text.specs.declared.value.TextFault.TheVariants.{BadValue, NoMemory}
use Rattle.value_text.proofs.ChoiceLaws.{place_some, place_none, place_found}
use Rattle.value_text.proofs.DateTextLaws.{day_found, day_again}
use Rattle.value_text.proofs.SpellingLaws.{chosen, dollar_found, dollar_again}
use Rattle.value_text.proofs.WholeLaws.{whole_found, whole_again, rational_found, rational_again}

-- ---- truth values

pub boolean_found : (text : List ℕ) (b : Bool) → text ≡ printed_boolean b → boolean_at text ≡ Some b
boolean_found text true h = ap boolean_at h
boolean_found text false h = ap boolean_at h

boolean_by : (t f : Bool) (text : List ℕ) (b : Bool) → bytes_eq text (codes "true") ≡ t → bytes_eq text (codes "false") ≡ f
    → (if t then Some true else if f then Some false else None) ≡ Some b → text ≡ printed_boolean b
boolean_by true f text true ey en e = same_bytes text (codes "true") ey
boolean_by true f text false ey en e = absurd cc
boolean_by false true text true ey en e = absurd cc
boolean_by false true text false ey en e = same_bytes text (codes "false") en
boolean_by false false text b ey en e = absurd cc

boolean_again : (text : List ℕ) (b : Bool) → boolean_at text ≡ Some b → text ≡ printed_boolean b
boolean_again text b e = boolean_by (bytes_eq text (codes "true")) (bytes_eq text (codes "false")) text b refl refl e

-- ---- texts

pub text_found : (text kept : List ℕ) → kept ≡ text → IsPlainText text → text_at text ≡ Some kept
text_found text kept same plain = ap (λ b. if b then Some text else None) plain ∙ ap Some (sym same)

text_again : (text kept : List ℕ) → text_at text ≡ Some kept → (kept ≡ text) × IsPlainText text
text_again text kept e =
    elim (chosen (is_plain_text text) (Some text) None kept e) [
      | inl h ↦ (cc, h.0)
      | inr h ↦ absurd cc
    ]

-- ---- choices

choice_again : (lists : List Listed) (list place : ℕ) (text : List ℕ) → option_place_in lists list text ≡ Some place → option_at lists list place ≡ Some text
choice_again lists list place text e =
    let j = both_some (λ (options : List (List ℕ)). place_in text options) (options_at lists list) place e in
    ap (option_and_then (λ (options : List (List ℕ)). slice_get options place)) j.1 ∙ place_some text j.0 place j.2

choice_none : (o : Option (List (List ℕ))) (place : ℕ) (text : List ℕ) → option_and_then (λ (options : List (List ℕ)). place_in text options) o ≡ None → option_and_then (λ (options : List (List ℕ)). slice_get options place) o ≢ Some text
choice_none None place text none at = absurd cc
choice_none (Some options) place text none at = place_none text options place none at

-- where no option of the list stands twice
pub choice_found : (lists : List Listed) (list place : ℕ) (text : List ℕ) → ((options : List (List ℕ)) → options_at lists list ≡ Some options → are_distinct options ≡ true) → option_at lists list place ≡ Some text → option_place_in lists list text ≡ Some place
choice_found lists list place text apart e =
    let j = both_some (λ (options : List (List ℕ)). slice_get options place) (options_at lists list) text e in
    ap (option_and_then (λ (options : List (List ℕ)). place_in text options)) j.1 ∙ place_found text j.0 place (apart j.0 j.1) j.2

-- ---- values

-- what reading gives is spelled
again : {A : Type 0} (make : A → Value) (o : Option A) (lists : List Listed) (want : FactType) (text : List ℕ) (value : Value) → ((x : A) → o ≡ Some x → SpellsValue lists want text (make x)) → option_map make o ≡ Some value → SpellsValue lists want text value
again make o lists want text value spelled e = let m = mapped make o value e in subst (SpellsValue lists want text) (sym m.2) (spelled m.0 m.1)

pub value_again : (lists : List Listed) (want : FactType) (text : List ℕ) (value : Value) → value_at lists want text ≡ Some value → SpellsValue lists want text value
value_again lists types.Boolean text value = again (λ (b : Bool). values.Boolean b) (boolean_at text) lists types.Boolean text value (boolean_again text)
value_again lists types.Int text value = again (λ (n : ℤ). values.Int n) (whole_at text) lists types.Int text value (whole_again text)
value_again lists types.Dollar text value = again (λ (n : ℤ). values.Dollar n) (dollar_at text) lists types.Dollar text value (dollar_again text)
value_again lists types.Rational text value = again (λ q. values.Rational q) (rational_at text) lists types.Rational text value (rational_again text)
value_again lists types.Day text value = again (λ (n : ℤ). values.Day n) (day_at text) lists types.Day text value (day_again text)
value_again lists types.Text text value = again (λ (kept : List ℕ). values.Text kept) (text_at text) lists types.Text text value (text_again text)
value_again lists (types.Enum list) text value = again (λ (place : ℕ). values.Choice list place) (option_place_in lists list text) lists (types.Enum list) text value (λ place e. (refl, choice_again lists list place text e))
value_again lists want text value = λ e. absurd cc

-- where reading gives nothing no value is spelled
missing : {A B : Type 0} (f : A → B) (o : Option A) (x : A) → option_map f o ≡ None → o ≡ Some x → ⊥
missing f o x none some = let both : option_map f (Some x) ≡ None = ap (option_map f) (sym some) ∙ none in absurd cc

pub none_spelled : (lists : List Listed) (want : FactType) (text : List ℕ) → value_at lists want text ≡ None → (value : Value) → ¬ SpellsValue lists want text value
none_spelled lists types.Boolean text e (values.Boolean b) h = missing (λ (b : Bool). values.Boolean b) (boolean_at text) b e (boolean_found text b h)
none_spelled lists types.Int text e (values.Int n) h = missing (λ (n : ℤ). values.Int n) (whole_at text) n e (whole_found text n h)
none_spelled lists types.Dollar text e (values.Dollar n) h = missing (λ (n : ℤ). values.Dollar n) (dollar_at text) n e (dollar_found text n h)
none_spelled lists types.Rational text e (values.Rational q) h = missing (λ q. values.Rational q) (rational_at text) q e (rational_found text q h)
none_spelled lists types.Day text e (values.Day n) h = missing (λ (n : ℤ). values.Day n) (day_at text) n e (day_found text n h)
none_spelled lists types.Text text e (values.Text kept) h = missing (λ (t : List ℕ). values.Text t) (text_at text) kept e (text_found text kept h.0 h.1)
none_spelled lists (types.Enum at_list) text e (values.Choice list place) h = choice_none (options_at lists at_list) place text (unmapped (option_place_in lists at_list text) e) h.1
  where
    unmapped : (o : Option ℕ) → option_map (λ (p : ℕ). values.Choice at_list p) o ≡ None → o ≡ None
    unmapped None g = refl
    unmapped (Some p) g = absurd cc
none_spelled lists want text e value h = h

-- the clause of a reader that gives `value_at`
pub reads_from : (lists : List Listed) (want : FactType) (text : List ℕ) (r : Result Value TextFault) → Gives (value_at lists want text) r → Reads lists want text r
reads_from lists want text (Ok value) given = value_again lists want text value given
reads_from lists want text (Err BadValue) given = none_spelled lists want text given
reads_from lists want text (Err NoMemory) given = tt
