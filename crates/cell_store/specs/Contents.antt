-- What a store keeps: a cell at each of some slots.
use Rattle.std.specs.Prelude.{ℕ, Bool, false, not, Option, Some, None, option_map, refl}
use Rattle.std.specs.Coded.{Coded, code_by, coded×, coded_ℕ}
use Rattle.std.specs.FinMap as map
use Rattle.fact_values.specs.contracts.slot.Slot as slot
use Rattle.three_state.specs.declared.res.Res.{Res}
use Rattle.three_state.specs.Equality.{res_same}
use Rattle.cell_store.specs.SlotOrder.{slot_cmp}
use Rattle.cell_store.specs.contracts.cell.Cell as cell
use Rattle.cell_store.specs.declared.cell.Cell.{Cell}

-- a cell at each slot of some
abbrev pub Cells : Type 0
Cells = map.FinMap slot_cmp Cell

abbrev pub no_cells : Cells
no_cells = map.empty

-- the result at a global fact
abbrev pub result_of : Cells → ℕ → Option Res
result_of m fact = option_map (λ c. c.res) (map.get m (record { fact = fact; member = 0 }))

-- there is a cell, of another result than this one
abbrev pub has_other : Option Cell → Res → Bool
has_other None r = false
has_other (Some c) r = not (res_same c.res r)

-- the cells, and for how many new slots there is room
pub record Contents : Type 0 where
  pub cells : Cells
  pub room : ℕ

-- contents are stored as the pair of their fields
abbrev pub contents_code : Coded Contents
contents_code =
    code_by
    (Cells × ℕ)
    (coded× (map.code slot.the_row.coded cell.the_row.coded) coded_ℕ)
    (λ c. (c.cells, c.room))
    (λ p. record { cells = p.0; room = p.1 })
    (λ _. refl)
