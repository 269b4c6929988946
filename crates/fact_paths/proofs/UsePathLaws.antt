-- Reading a path of a use.
use Rattle.std.proofs.Common.{◌≡◌, ℕ, List, [], ◌∷◌, ◌++◌, Option, Some, None, refl, ap, ◌∙◌}
use Rattle.std.specs.Prelude.{codes}
use Rattle.fact_paths.specs.Cuts.{cut, after}
use Rattle.fact_paths.specs.Names.{IsName}
use Rattle.fact_paths.specs.Paths.{SpellsUsePath}
use Rattle.fact_paths.specs.Parsing.{sibling_path_from, pair_path_from, rooted_path_from, use_path_from, use_path_of}
use Rattle.fact_paths.specs.declared.use_path.UsePath.{UsePath}
use Rattle.fact_paths.specs.declared.use_path.UsePath.TheVariants as uses
use Rattle.fact_paths.proofs.CutLaws.{cut-lacks, cut-append, cut_some, after_some, after-lacks}
use Rattle.fact_paths.proofs.NameLaws.{name_lacks, name_lacks_slash}
use Rattle.fact_paths.proofs.ParsingLaws.{IsReading, of_name_some, of_name-name, of_names_some, of_names-names}

-- ---- what is read is spelled

-- behind `../`
sibling : (text : List ℕ) (o : Option (List ℕ × List ℕ)) → cut 47 text ≡ o → (p : UsePath) → sibling_path_from text o ≡ Some p → SpellsUsePath (46 ∷ 46 ∷ 47 ∷ text) p
sibling text None c p e = let h = of_name_some uses.Sibling text p e in rw h.1 (h.0, refl)
sibling text (Some parts) c p e =
    let h = of_names_some uses.SiblingThrough parts.0 parts.1 p e in
    rw h.2 ((h.0, h.1), ap (λ (x : List ℕ). 46 ∷ 46 ∷ 47 ∷ x) (cut_some 47 text parts.0 parts.1 c))

-- behind `/`, in two parts
pair : (text first second : List ℕ) (o : Option (List ℕ)) → text ≡ first ++ 47 ∷ second → after (codes "*/") second ≡ o → (p : UsePath) → pair_path_from first second o ≡ Some p → SpellsUsePath (47 ∷ text) p
pair text first second None c star p e =
    let h = of_names_some uses.Through first second p e in
    rw h.2 ((h.0, h.1), ap (λ (x : List ℕ). 47 ∷ x) c)
pair text first second (Some member) c star p e =
    let h = of_names_some uses.Each first member p e in
    let whole : text ≡ first ++ 47 ∷ 42 ∷ 47 ∷ member = c ∙ ap (λ (x : List ℕ). first ++ 47 ∷ x) (after_some (codes "*/") second member star) in
    rw h.2 ((h.0, h.1), ap (λ (x : List ℕ). 47 ∷ x) whole)

-- behind `/`
rooted : (text : List ℕ) (o : Option (List ℕ × List ℕ)) → cut 47 text ≡ o → (p : UsePath) → rooted_path_from text o ≡ Some p → SpellsUsePath (47 ∷ text) p
rooted text None c p e = let h = of_name_some uses.Global text p e in rw h.1 (h.0, refl)
rooted text (Some parts) c p e = pair text parts.0 parts.1 (after (codes "*/") parts.1) (cut_some 47 text parts.0 parts.1 c) refl p e

-- by how the text begins
by_start : (text : List ℕ) (up root : Option (List ℕ)) → after (codes "../") text ≡ up → after (codes "/") text ≡ root → (p : UsePath) → use_path_from text up root ≡ Some p → SpellsUsePath text p
by_start text (Some rest) root u r p e = rw (after_some (codes "../") text rest u) (sibling rest (cut 47 rest) refl p e)
by_start text None (Some rest) u r p e = rw (after_some (codes "/") text rest r) (rooted rest (cut 47 rest) refl p e)
by_start text None None u r p e = let h = of_name_some uses.Inner text p e in rw h.1 (h.0, refl)

sound : (text : List ℕ) (p : UsePath) → use_path_of text ≡ Some p → SpellsUsePath text p
sound text p e = by_start text (after (codes "../") text) (after (codes "/") text) refl refl p e

-- ---- what is spelled is read

-- a name is not cut
alone : (text : List ℕ) → IsName text → cut 47 text ≡ None
alone text h = cut-lacks 47 text (name_lacks_slash text h)

-- a name is cut from what follows it
apart : (first rest : List ℕ) → IsName first → cut 47 (first ++ 47 ∷ rest) ≡ Some (first, rest)
apart first rest h = cut-append 47 first rest (name_lacks_slash first h)

complete : (text : List ℕ) (p : UsePath) → SpellsUsePath text p → use_path_of text ≡ Some p
complete text (uses.Global n) h = ap use_path_of h.1 ∙ ap (rooted_path_from n) (alone n h.0) ∙ of_name-name uses.Global n h.0
complete text (uses.Sibling n) h = ap use_path_of h.1 ∙ ap (sibling_path_from n) (alone n h.0) ∙ of_name-name uses.Sibling n h.0
complete text (uses.Inner n) h =
    ap use_path_of h.1
    ∙ ap (λ o. use_path_from n o (after (codes "/") n)) (after-lacks 46 (codes "./") n (name_lacks 46 refl n h.0))
    ∙ ap (use_path_from n None) (after-lacks 47 [] n (name_lacks_slash n h.0))
    ∙ of_name-name uses.Inner n h.0
complete text (uses.Each n m) h =
    ap use_path_of h.1
    ∙ ap (rooted_path_from (n ++ 47 ∷ 42 ∷ 47 ∷ m)) (apart n (42 ∷ 47 ∷ m) h.0.0)
    ∙ of_names-names uses.Each n m h.0.0 h.0.1
complete text (uses.Through n m) h =
    ap use_path_of h.1
    ∙ ap (rooted_path_from (n ++ 47 ∷ m)) (apart n m h.0.0)
    ∙ ap (pair_path_from n m) (after-lacks 42 (codes "/") m (name_lacks 42 refl m h.0.1))
    ∙ of_names-names uses.Through n m h.0.0 h.0.1
complete text (uses.SiblingThrough n m) h =
    ap use_path_of h.1
    ∙ ap (sibling_path_from (n ++ 47 ∷ m)) (apart n m h.0.0)
    ∙ of_names-names uses.SiblingThrough n m h.0.0 h.0.1

-- so reading and spelling agree
pub use_path_reading : IsReading SpellsUsePath use_path_of
use_path_reading = record { sound = sound; complete = complete }
