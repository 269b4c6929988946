-- The parts of a command behind its first word: what is read of a text is what it spells.
use Rattle.std.proofs.Common.{◌≡◌, ℕ, List, ◌∷◌, ◌++◌, Option, Some, None, refl, ap, subst, ◌∙◌}
use Rattle.std.specs.Prelude.{codes, decimal}
use Rattle.std.proofs.lemmas.Option.{cond_some, same_Some}
use Rattle.common_lemmas.proofs.Options.{both_some}
use Rattle.fact_paths.specs.Cuts.{Lacks, after}
use Rattle.fact_paths.specs.Names.{is_name, IsName}
use Rattle.fact_paths.specs.Paths.{IsMemberNumber, IsSlotPath, SpellsSlotPath, slot_path_text}
use Rattle.fact_paths.specs.Parsing.{◌>>=◌, name_of, member_number_of}
use Rattle.fact_paths.specs.declared.slot_path.SlotPath.{SlotPath}
use Rattle.fact_paths.proofs.CutLaws.{cut-append, cut_some, after_some}
use Rattle.fact_paths.proofs.MemberNumbers.{member_number_some, member_number-decimal}
use Rattle.fact_paths.proofs.NameLaws.{name_lacks}
use Rattle.fact_paths.proofs.SlotPathLaws.{slot_lacks_blank, slot_path_reading}
use Rattle.script_lines.specs.Parsing.{at_blank, slot_of, slot_and_value_of, member_of, slot_and_member_of, name_and_slot_of}

-- ---- blanks

pub name_lacks_blank : (n : List ℕ) → IsName n → Lacks 32 n
name_lacks_blank n is = name_lacks 32 refl n is

-- ---- paths and names

pub slot_of-spelled : (text : List ℕ) (slot : SlotPath) → SpellsSlotPath text slot → slot_of text ≡ Some slot
slot_of-spelled = slot_path_reading.complete

pub slot_of-text : (slot : SlotPath) → IsSlotPath slot → slot_of (slot_path_text slot) ≡ Some slot
slot_of-text slot is = slot_of-spelled (slot_path_text slot) slot (is, refl)

pub slot_of-none : (text : List ℕ) → ((slot : SlotPath) → ¬ (SpellsSlotPath text slot)) → slot_of text ≡ None
slot_of-none text none = by_cases (slot_of text) refl
  where
    by_cases : (read : Option SlotPath) → slot_of text ≡ read → slot_of text ≡ None
    by_cases None e = e
    by_cases (Some slot) e = absurd (none slot (slot_path_reading.sound text slot e))

name_of_some : (text name : List ℕ) → name_of text ≡ Some name → IsName name × (text ≡ name)
name_of_some text name e =
    let found = cond_some (is_name text) text name e in
    (subst IsName found.1 found.0, found.1)

name_of-name : (name : List ℕ) → IsName name → name_of name ≡ Some name
name_of-name name is = rw is refl

member_of_some : (text : List ℕ) (k : ℕ) → member_of text ≡ Some k → IsMemberNumber k × (text ≡ codes "#" ++ decimal k)
member_of_some text k e =
    let sign = both_some member_number_of (after (codes "#") text) k e in
    let spelled = member_number_some sign.0 k sign.2 in
    (spelled.0, after_some (codes "#") text sign.0 sign.1 ∙ ap (λ (ds : List ℕ). 35 ∷ ds) spelled.1)

-- ---- two parts

-- `SLOT VALUE`
pub slot_and_value_some : (text : List ℕ) (p : SlotPath × List ℕ) → slot_and_value_of text ≡ Some p → IsSlotPath p.0 × (text ≡ slot_path_text p.0 ++ (codes " " ++ p.1))
slot_and_value_some text p e =
    let parts = both_some (λ parts. slot_of parts.0 >>= λ slot. Some (slot, parts.1)) (at_blank text) p e in
    let slot = both_some (λ slot. Some (slot, parts.0.1)) (slot_of parts.0.0) p parts.2 in
    let spelled = slot_path_reading.sound parts.0.0 slot.0 slot.1 in
    subst (λ (p : SlotPath × List ℕ). IsSlotPath p.0 × (text ≡ slot_path_text p.0 ++ 32 ∷ p.1)) (same_Some (slot.0, parts.0.1) p slot.2)
    (spelled.0, cut_some 32 text parts.0.0 parts.0.1 parts.1 ∙ ap (λ (x : List ℕ). x ++ 32 ∷ parts.0.1) spelled.1)

pub slot_and_value_of-text : (slot : SlotPath) (value : List ℕ) → IsSlotPath slot → slot_and_value_of (slot_path_text slot ++ (codes " " ++ value)) ≡ Some (slot, value)
slot_and_value_of-text slot value is =
    ap (λ (cut : Option (List ℕ × List ℕ)). cut >>= λ parts. slot_of parts.0 >>= λ s. Some (s, parts.1)) (cut-append 32 (slot_path_text slot) value (slot_lacks_blank slot is))
    ∙ ap (λ (read : Option SlotPath). read >>= λ s. Some (s, value)) (slot_of-text slot is)

-- `SLOT #K`
pub slot_and_member_some : (text : List ℕ) (p : SlotPath × ℕ) → slot_and_member_of text ≡ Some p → IsSlotPath p.0 × IsMemberNumber p.1 × (text ≡ slot_path_text p.0 ++ (codes " #" ++ decimal p.1))
slot_and_member_some text p e =
    let parts = both_some (λ parts. member_of parts.1 >>= λ member. slot_of parts.0 >>= λ slot. Some (slot, member)) (at_blank text) p e in
    let member = both_some (λ member. slot_of parts.0.0 >>= λ slot. Some (slot, member)) (member_of parts.0.1) p parts.2 in
    let slot = both_some (λ slot. Some (slot, member.0)) (slot_of parts.0.0) p member.2 in
    let spelled = slot_path_reading.sound parts.0.0 slot.0 slot.1 in
    let numbered = member_of_some parts.0.1 member.0 member.1 in
    subst (λ (p : SlotPath × ℕ). IsSlotPath p.0 × IsMemberNumber p.1 × (text ≡ slot_path_text p.0 ++ 32 ∷ 35 ∷ decimal p.1)) (same_Some (slot.0, member.0) p slot.2)
    (spelled.0, numbered.0, cut_some 32 text parts.0.0 parts.0.1 parts.1 ∙ ap (λ (x : List ℕ). x ++ 32 ∷ parts.0.1) spelled.1 ∙ ap (λ (x : List ℕ). slot_path_text slot.0 ++ 32 ∷ x) numbered.1)

pub slot_and_member_of-text : (slot : SlotPath) (k : ℕ) → IsSlotPath slot → IsMemberNumber k → slot_and_member_of (slot_path_text slot ++ (codes " #" ++ decimal k)) ≡ Some (slot, k)
slot_and_member_of-text slot k is number =
    ap (λ (cut : Option (List ℕ × List ℕ)). cut >>= λ parts. member_of parts.1 >>= λ member. slot_of parts.0 >>= λ s. Some (s, member)) (cut-append 32 (slot_path_text slot) (35 ∷ decimal k) (slot_lacks_blank slot is))
    ∙ ap (λ (read : Option ℕ). read >>= λ member. slot_of (slot_path_text slot) >>= λ s. Some (s, member)) (member_number-decimal k number)
    ∙ ap (λ (read : Option SlotPath). read >>= λ s. Some (s, k)) (slot_of-text slot is)

-- `NAME SLOT`
pub name_and_slot_some : (text : List ℕ) (p : List ℕ × SlotPath) → name_and_slot_of text ≡ Some p → IsName p.0 × IsSlotPath p.1 × (text ≡ p.0 ++ (codes " " ++ slot_path_text p.1))
name_and_slot_some text p e =
    let parts = both_some (λ parts. name_of parts.0 >>= λ name. slot_of parts.1 >>= λ slot. Some (name, slot)) (at_blank text) p e in
    let name = both_some (λ name. slot_of parts.0.1 >>= λ slot. Some (name, slot)) (name_of parts.0.0) p parts.2 in
    let slot = both_some (λ slot. Some (name.0, slot)) (slot_of parts.0.1) p name.2 in
    let named = name_of_some parts.0.0 name.0 name.1 in
    let spelled = slot_path_reading.sound parts.0.1 slot.0 slot.1 in
    subst (λ (p : List ℕ × SlotPath). IsName p.0 × IsSlotPath p.1 × (text ≡ p.0 ++ 32 ∷ slot_path_text p.1)) (same_Some (name.0, slot.0) p slot.2)
    (named.0, spelled.0, cut_some 32 text parts.0.0 parts.0.1 parts.1 ∙ ap (λ (x : List ℕ). x ++ 32 ∷ parts.0.1) named.1 ∙ ap (λ (x : List ℕ). name.0 ++ 32 ∷ x) spelled.1)

pub name_and_slot_of-text : (name : List ℕ) (slot : SlotPath) → IsName name → IsSlotPath slot → name_and_slot_of (name ++ (codes " " ++ slot_path_text slot)) ≡ Some (name, slot)
name_and_slot_of-text name slot is_name is =
    ap (λ (cut : Option (List ℕ × List ℕ)). cut >>= λ parts. name_of parts.0 >>= λ n. slot_of parts.1 >>= λ s. Some (n, s)) (cut-append 32 name (slot_path_text slot) (name_lacks_blank name is_name))
    ∙ ap (λ (read : Option (List ℕ)). read >>= λ n. slot_of (slot_path_text slot) >>= λ s. Some (n, s)) (name_of-name name is_name)
    ∙ ap (λ (read : Option SlotPath). read >>= λ s. Some (name, s)) (slot_of-text slot is)
