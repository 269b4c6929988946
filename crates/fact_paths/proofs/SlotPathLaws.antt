-- Reading a path of a slot.
use Rattle.std.proofs.Common.{◌≡◌, ℕ, List, ◌∷◌, ◌++◌, Option, Some, None, refl, ap, ◌∙◌, arith}
use Rattle.std.specs.Prelude.{codes, decimal}
use Rattle.std.proofs.lemmas.Option.{none-some, option_and_then_some}
use Rattle.fact_paths.specs.Cuts.{Lacks, cut, after}
use Rattle.fact_paths.specs.Names.{IsName}
use Rattle.fact_paths.specs.Paths.{IsMemberNumber, IsSlotPath, SpellsSlotPath, slot_path_text}
use Rattle.fact_paths.specs.Parsing.{◌>>=◌, of_names, member_number_of, slot_member_from, slot_path_from, slot_path_of}
use Rattle.fact_paths.specs.declared.slot_path.SlotPath.{SlotPath}
use Rattle.fact_paths.specs.declared.slot_path.SlotPath.TheVariants as slots
use Rattle.fact_paths.proofs.CutLaws.{Lacks-append, cut-lacks, cut-append, cut_some, after_some}
use Rattle.fact_paths.proofs.MemberNumbers.{member_number_some, member_number-decimal, decimal_lacks}
use Rattle.fact_paths.proofs.NameLaws.{name_lacks, name_lacks_slash}
use Rattle.fact_paths.proofs.ParsingLaws.{IsReading, of_name_some, of_name-name, of_names_some, of_names-names}

-- a member's path, and its number
abbrev Numbered : List ℕ → List ℕ → SlotPath → Type 0
Numbered collection text p =
    (k : ℕ) × (name : List ℕ) × IsMemberNumber k × IsName collection × IsName name
    × (text ≡ decimal k ++ 47 ∷ name) × (p ≡ slots.Member collection k name)

-- what is read behind the sign of a member is numbered
numbered : (collection text : List ℕ) (o : Option (List ℕ × List ℕ)) → cut 47 text ≡ o → (p : SlotPath) → slot_member_from collection o ≡ Some p → Numbered collection text p
numbered collection text None c p e = absurd (none-some p e)
numbered collection text (Some parts) c p e =
    option_and_then_some (λ k. of_names (λ n m. slots.Member n k m) collection parts.1) (member_number_of parts.0) p e
    (λ (k : ℕ) (number : member_number_of parts.0 ≡ Some k) (names : of_names (λ n m. slots.Member n k m) collection parts.1 ≡ Some p).
    let h = of_names_some (λ n m. slots.Member n k m) collection parts.1 p names in
    let spelled = member_number_some parts.0 k number in
    (k, parts.1, spelled.0, h.0, h.1, cut_some 47 text parts.0 parts.1 c ∙ ap (λ (x : List ℕ). x ++ 47 ∷ parts.1) spelled.1, h.2))

-- what is read behind the first slash is spelled
rooted : (text : List ℕ) (o : Option (List ℕ × List ℕ)) → cut 47 text ≡ o → (p : SlotPath) → slot_path_from text o ≡ Some p → SpellsSlotPath (47 ∷ text) p
rooted text None c p e = let h = of_name_some slots.Global text p e in rw h.1 (h.0, refl)
rooted text (Some parts) c p e =
    option_and_then_some (λ member. slot_member_from parts.0 (cut 47 member)) (after (codes "#") parts.1) p e
    (λ (member : List ℕ) (sign : after (codes "#") parts.1 ≡ Some member) (rest : slot_member_from parts.0 (cut 47 member) ≡ Some p).
    let h = numbered parts.0 member (cut 47 member) refl p rest in
    let behind : parts.1 ≡ 35 ∷ (decimal h.0 ++ 47 ∷ h.1) = after_some (codes "#") parts.1 member sign ∙ ap (λ (x : List ℕ). 35 ∷ x) h.5 in
    let whole : text ≡ parts.0 ++ 47 ∷ 35 ∷ (decimal h.0 ++ 47 ∷ h.1) = cut_some 47 text parts.0 parts.1 c ∙ ap (λ (x : List ℕ). parts.0 ++ 47 ∷ x) behind in
    rw h.6 ((h.3, h.2, h.4), ap (λ (x : List ℕ). 47 ∷ x) whole))

-- what is read is spelled
sound : (text : List ℕ) (p : SlotPath) → slot_path_of text ≡ Some p → SpellsSlotPath text p
sound text p e =
    option_and_then_some (λ rest. slot_path_from rest (cut 47 rest)) (after (codes "/") text) p e
    (λ (rest : List ℕ) (slash : after (codes "/") text ≡ Some rest) (names : slot_path_from rest (cut 47 rest) ≡ Some p).
    rw (after_some (codes "/") text rest slash) (rooted rest (cut 47 rest) refl p names))

-- what is spelled is read
complete : (text : List ℕ) (p : SlotPath) → SpellsSlotPath text p → slot_path_of text ≡ Some p
complete text (slots.Global n) h =
    ap slot_path_of h.1 ∙ ap (slot_path_from n) (cut-lacks 47 n (name_lacks_slash n h.0)) ∙ of_name-name slots.Global n h.0
complete text (slots.Member n k m) h =
    ap slot_path_of h.1
    ∙ ap (slot_path_from (n ++ 47 ∷ 35 ∷ (decimal k ++ 47 ∷ m))) (cut-append 47 n (35 ∷ (decimal k ++ 47 ∷ m)) (name_lacks_slash n h.0.0))
    ∙ ap (slot_member_from n) (cut-append 47 (decimal k) m (decimal_lacks 47 refl k h.0.1))
    ∙ ap (λ o. o >>= λ j. of_names (λ x y. slots.Member x j y) n m) (member_number-decimal k h.0.1)
    ∙ of_names-names (λ x y. slots.Member x k y) n m h.0.0 h.0.2

-- so reading and spelling agree
pub slot_path_reading : IsReading SpellsSlotPath slot_path_of
slot_path_reading = record { sound = sound; complete = complete }

-- a slot's path has no blank
pub slot_lacks_blank : (slot : SlotPath) → IsSlotPath slot → Lacks 32 (slot_path_text slot)
slot_lacks_blank (slots.Global n) is = (omega arith, name_lacks 32 refl n is)
slot_lacks_blank (slots.Member n k m) is = (
  omega arith,
  Lacks-append 32 n (codes "/#" ++ (decimal k ++ (codes "/" ++ m))) (name_lacks 32 refl n is.0) (
    omega arith,
    (omega arith, Lacks-append 32 (decimal k) (codes "/" ++ m) (decimal_lacks 32 refl k is.1) (omega arith, name_lacks 32 refl m is.2)),
  ),
)
