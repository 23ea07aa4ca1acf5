use Rattle.std.proofs.Common.{◌∙◌, ap, sym, Some}
use Rattle.graph_c.proofs.GraphLemmas.{was_there, at_entry}
use Rattle.graph_c.proofs.graph.report_entry.Goals as goal

-- of the session that the handle has
pub returns : goal.returns
returns c = at_entry _ _ c.deref.result.now _ _ _ _ _ _ _
    (was_there _ _ c.in-Some.ensures.value ∙ ap Some (sym c.deref.ensures)) (c.holding.ensures ∙ ap Some (sym c.deref.ensures))
    c.entry_call-status.ensures
