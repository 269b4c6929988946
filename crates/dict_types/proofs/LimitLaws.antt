-- The limits of a fact, and of facts, read one after another.
use Rattle.std.proofs.Common.{◌≡◌, ℕ, List, [], ◌∷◌, ◌++◌, Option, Some, None, option_map, refl, ap, sym, ◌∙◌, append_assoc}
use Rattle.std.specs.Prelude.{option_and_then}
use Rattle.value_text.specs.Enums.{Listed}
use Rattle.dict_source.specs.Facts.{Stated, Bound}
use Rattle.dict_types.specs.declared.limit.Limit.{Limit}
use Rattle.dict_types.specs.BadLimit.{limit_at, limits_at}

joined : (out : List Limit) (l : Limit) (o : Option (List Limit)) → option_map (λ ls. out ++ ls) (option_map (λ ls. l ∷ ls) o) ≡ option_map (λ ls. (out ++ l ∷ []) ++ ls) o
joined out l None = refl
joined out l (Some ls) = ap (λ (k : List Limit). Some k) (sym (append_assoc out (l ∷ []) ls))

module _ (names : List (List ℕ)) (enums : List Listed) (stated : Stated) where
  -- one limit more is read
  pub limit_next : (rest later : List Bound) (b : Bound) (l : Limit) (out new : List Limit) (whole : Option (List Limit)) → rest ≡ b ∷ later → option_map (λ ls. out ++ ls) (limits_at names enums stated rest) ≡ whole → limit_at names enums stated b ≡ Some l → new ≡ out ++ l ∷ [] → option_map (λ ls. new ++ ls) (limits_at names enums stated later) ≡ whole
  limit_next rest later b l out new whole e h found noted =
      let left : Option (List Limit) = limits_at names enums stated later in
      ap (λ (k : List Limit). option_map (λ ls. k ++ ls) left) noted
      ∙ sym (joined out l left)
      ∙ sym (ap (λ (o : Option Limit). option_map (λ ls. out ++ ls) (option_and_then (λ k. option_map (λ ls. k ∷ ls) left) o)) found)
      ∙ sym (ap (λ (r : List Bound). option_map (λ ls. out ++ ls) (limits_at names enums stated r)) e)
      ∙ h
