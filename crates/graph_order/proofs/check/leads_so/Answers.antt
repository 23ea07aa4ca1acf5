use Rattle.std.proofs.Common.{◌∙◌, sym, ap}
use Rattle.std.specs.Option.{option_copied}
use Rattle.graph_order.specs.Order.{edge_of}
use Rattle.graph_builder.specs.Rules.{edges_of}
use Rattle.graph_order.proofs.CheckLemmas.{leads_so, leads_not}
use Rattle.graph_order.proofs.check.leads_so.Goals as goal

pub returns-in-Some : goal.returns-in-Some
returns-in-Some c =
    leads_so c.args.graph.now.entries (edges_of c.args.held.now) (edge_of c.args.edge.now) c.in-Some.dependency.now
    c.leads_there.result (sym c.nth_edge.ensures ∙ ap option_copied c.in-Some.is) c.leads_there.ensures

pub returns-in-None : goal.returns-in-None
returns-in-None c = (
  λ e. absurd cc,
  λ so. absurd (leads_not c.args.graph.now.entries (edges_of c.args.held.now) (edge_of c.args.edge.now)
      (sym c.nth_edge.ensures ∙ ap option_copied c.in-None.is) so),
)
