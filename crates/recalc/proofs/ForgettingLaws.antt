-- The cells of a member are taken away fact by fact.
use Rattle.std.proofs.Common.{◌≡◌, ℕ, Bool, true, false, cond, ◌&&◌, ◌||◌, nat_eq, if◌then◌else◌, List, ◌∷◌, Option, None, refl, ap, ◌∙◌}
use Rattle.std.specs.List.{list_any}
use Rattle.std.specs.FinMap as finite
use Rattle.fact_values.specs.declared.slot.Slot.{Slot}
use Rattle.cell_store.specs.Contents.{Cells}
use Rattle.cell_store.specs.declared.cell.Cell.{Cell}
use Rattle.cell_store.proofs.SlotLaws.{get_put_at}
use Rattle.recalc.specs.EngineInvariant.{without_member}

choose : (x y z : Bool) (o : Option Cell) → (if x && z then None else cond (y && x) None o) ≡ (if x && (y || z) then None else o)
choose true true true o = refl
choose true true false o = refl
choose true false true o = refl
choose true false false o = refl
choose false true z o = refl
choose false false z o = refl

pub without_one : (cells left : Cells) (f m : ℕ) (facts : List ℕ) → left ≡ finite.remove cells (record { fact = f; member = m }) → (s : Slot)
    → without_member left m facts s ≡ without_member cells m (f ∷ facts) s
without_one cells left f m facts e s =
    ap (λ (o : Option Cell). if nat_eq s.member m && list_any (nat_eq s.fact) facts then None else o)
    (ap (λ (k : Cells). finite.get k s) e ∙ get_put_at cells (record { fact = f; member = m }) None s)
    ∙ choose (nat_eq s.member m) (nat_eq s.fact f) (list_any (nat_eq s.fact) facts) (finite.get cells s)
