use Rattle.std.proofs.Common.{Some, None, true}
use Rattle.graph_tables.specs.declared.pending_requests.requests.First.{First}
use Rattle.graph_tables.proofs.pending_requests.requests.put_later.Goals as goal

pub returns-in_default : goal.returns-in_default
returns-in_default c q =
    rw c.in_default.is
    (c.swap_remove.ensures.updates.0 q)

pub returns-in-Some-get_mut : goal.returns-in-Some-get_mut
returns-in-Some-get_mut c q =
    let w : First = record { at = c.in-Some.at; more = true } in
    rw c.in-Some.is
    (((c.get_mut.follows.holds w).3 c.requires).0 q)
