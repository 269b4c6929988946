-- Reading a path of a fact.
use Rattle.std.proofs.Common.{◌≡◌, ℕ, List, ◌∷◌, ◌++◌, Option, Some, None, refl, ap, ◌∙◌}
use Rattle.std.specs.Prelude.{codes}
use Rattle.std.proofs.lemmas.Option.{option_and_then_some}
use Rattle.fact_paths.specs.Cuts.{cut, after}
use Rattle.fact_paths.specs.Paths.{SpellsFactPath}
use Rattle.fact_paths.specs.Parsing.{of_names, fact_path_from, fact_path_of}
use Rattle.fact_paths.specs.declared.fact_path.FactPath.{FactPath}
use Rattle.fact_paths.specs.declared.fact_path.FactPath.TheVariants as facts
use Rattle.fact_paths.proofs.CutLaws.{cut-lacks, cut-append, cut_some, after_some}
use Rattle.fact_paths.proofs.NameLaws.{name_lacks_slash}
use Rattle.fact_paths.proofs.ParsingLaws.{IsReading, of_name_some, of_name-name, of_names_some, of_names-names}

-- what is read behind the first slash is spelled
rooted : (text : List ℕ) (o : Option (List ℕ × List ℕ)) → cut 47 text ≡ o → (p : FactPath) → fact_path_from text o ≡ Some p → SpellsFactPath (47 ∷ text) p
rooted text None c p e = let h = of_name_some facts.Global text p e in rw h.1 (h.0, refl)
rooted text (Some parts) c p e =
    option_and_then_some (of_names facts.Member parts.0) (after (codes "*/") parts.1) p e
    (λ (member : List ℕ) (star : after (codes "*/") parts.1 ≡ Some member) (names : of_names facts.Member parts.0 member ≡ Some p).
    let h = of_names_some facts.Member parts.0 member p names in
    let behind : parts.1 ≡ 42 ∷ 47 ∷ member = after_some (codes "*/") parts.1 member star in
    let whole : text ≡ parts.0 ++ 47 ∷ 42 ∷ 47 ∷ member = cut_some 47 text parts.0 parts.1 c ∙ ap (λ (x : List ℕ). parts.0 ++ 47 ∷ x) behind in
    rw h.2 ((h.0, h.1), ap (λ (x : List ℕ). 47 ∷ x) whole))

-- what is read is spelled
sound : (text : List ℕ) (p : FactPath) → fact_path_of text ≡ Some p → SpellsFactPath text p
sound text p e =
    option_and_then_some (λ rest. fact_path_from rest (cut 47 rest)) (after (codes "/") text) p e
    (λ (rest : List ℕ) (slash : after (codes "/") text ≡ Some rest) (names : fact_path_from rest (cut 47 rest) ≡ Some p).
    rw (after_some (codes "/") text rest slash) (rooted rest (cut 47 rest) refl p names))

-- what is spelled is read
complete : (text : List ℕ) (p : FactPath) → SpellsFactPath text p → fact_path_of text ≡ Some p
complete text (facts.Global n) h =
    ap fact_path_of h.1 ∙ ap (fact_path_from n) (cut-lacks 47 n (name_lacks_slash n h.0)) ∙ of_name-name facts.Global n h.0
complete text (facts.Member n m) h =
    ap fact_path_of h.1
    ∙ ap (fact_path_from (n ++ 47 ∷ 42 ∷ 47 ∷ m)) (cut-append 47 n (42 ∷ 47 ∷ m) (name_lacks_slash n h.0.0))
    ∙ of_names-names facts.Member n m h.0.0 h.0.1

-- so reading and spelling agree
pub fact_path_reading : IsReading SpellsFactPath fact_path_of
fact_path_reading = record { sound = sound; complete = complete }
