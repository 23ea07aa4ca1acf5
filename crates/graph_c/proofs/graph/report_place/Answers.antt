use Rattle.std.proofs.Common.{◌∙◌, ap, sym, Some}
use Rattle.graph_c.proofs.GraphLemmas.{was_there, at_place}
use Rattle.graph_c.proofs.graph.report_place.Goals as goal

-- of the session that the handle has
pub returns : goal.returns
returns c = at_place _ _ c.deref.result.now _ _ _ _
    (was_there _ _ c.in-Some.ensures.value ∙ ap Some (sym c.deref.ensures)) (c.holding.ensures ∙ ap Some (sym c.deref.ensures))
    c.place_call-status.ensures
