use Rattle.std.proofs.Common.{◌∙◌, sym, ap}
use Rattle.std.specs.Option.{option_copied}
use Rattle.graph_order.specs.Order.{edge_of}
use Rattle.graph_order.proofs.CheckLemmas.{module_found, module_none, static_by}
use Rattle.graph_order.proofs.check.is_static_edge.Goals as goal

pub returns-in-Some : goal.returns-in-Some
returns-in-Some c =
    static_by c.args.graph.now.entries (edge_of c.args.edge.now) c.in-Some.held.now c.leads_so.result
    (module_found _ c.in-Some.held.now (sym c.module_at.ensures ∙ ap option_copied c.in-Some.is)) c.leads_so.ensures

pub returns-in-None : goal.returns-in-None
returns-in-None c = (
  λ e. absurd cc,
  λ is. absurd (module_none _ (sym c.module_at.ensures ∙ ap option_copied c.in-None.is) is.holder is.there),
)
