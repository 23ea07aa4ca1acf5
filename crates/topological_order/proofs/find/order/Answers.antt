use Rattle.std.proofs.Common.{◌≡◌, ◌<◌, sym, subst, ℕ, List, Bool, true, false, length}
use Rattle.std.specs.Prelude.{slice_index_or}
use Rattle.topological_order.specs.Walk.{IsClosed}
use Rattle.topological_order.proofs.WalkLemmas.{order_found, cycle_found, placing_closed}
use Rattle.topological_order.proofs.find.order.Goals as goal

pub returns-in-None : goal.returns-in-None
returns-in-None c =
    order_found c.args.links.now _ c.in_ok-placing.placing.placed _ _ c.in_ok-placing.ensures.placing
    (subst (λ (ps : List Bool). (v : ℕ) → v < length ps → slice_index_or ps v false ≡ true) c.as_slice-placed.ensures
    c.in-None.ensures)

pub first_cycle-requires-clause-closed : goal.first_cycle-requires-clause-closed
first_cycle-requires-clause-closed c =
    subst (λ (ps : List Bool). IsClosed c.args.links.now ps) (sym c.as_slice-placed.ensures)
    (placing_closed c.args.links.now _ _ _ _ c.in_ok-placing.ensures.placing c.in_ok-placing.ensures.done)

pub returns : goal.returns
returns c = cycle_found c.args.links.now c.in_ok-cycle-in-Some.cycle c.in_ok-cycle-in-Some.ensures
