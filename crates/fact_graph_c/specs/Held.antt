-- What a place holds in which C keeps an engine or a desk.
use Rattle.std.specs.Prelude.{Option, Some, None}
use base.Fml.{Fml, ftrue}
use denote.RawPtr.{Ptr}
use Rattle.std_alloc.specs.Box.Ownership.{box_owns}
use Rattle.std_heap.specs.declared.Global.{Global}
use Rattle.std_heap.specs.contracts.GlobalAllocator.TheImpl as heap
use Rattle.fact_graph_c.specs.declared.engine.Engine.{Engine}
use Rattle.fact_graph_c.specs.contracts.engine.Engine as engine
use Rattle.fact_graph_c.specs.declared.desk_engine.DeskEngine.{DeskEngine}
use Rattle.fact_graph_c.specs.contracts.desk_engine.DeskEngine as desk_engine

-- nothing, or an engine in its box
abbrev pub held : Global → Ptr → Option Engine → Fml
held alloc at None = ftrue
held alloc at (Some e) = box_owns (heap.ghosts.dealloc_token alloc) engine.the_row at e

-- nothing, or a desk in its box
abbrev pub held_desk : Global → Ptr → Option DeskEngine → Fml
held_desk alloc at None = ftrue
held_desk alloc at (Some e) = box_owns (heap.ghosts.dealloc_token alloc) desk_engine.the_row at e
