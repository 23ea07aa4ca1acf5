-- What a handle owns.
use Rattle.std.specs.Prelude.{Option, Some, None}
use base.Fml.{Fml, ftrue}
use denote.RawPtr.{Ptr}
use Rattle.std.specs.Box.Ownership.{box_owns}
use Rattle.std.specs.contracts.impls.GlobalAllocator.TheImpl.{ghosts}
use Rattle.graph_c.specs.contracts.held.Held.{the_row}

abbrev pub held_owns : Ptr → Option the_row.Denot → Fml
held_owns p None = ftrue
held_owns p (Some held) = box_owns (ghosts.dealloc_token (record { memory = record { seal = tt } })) the_row p held
