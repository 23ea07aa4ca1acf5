use Rattle.std.proofs.Common.{◌∙◌, sym, ap}
use Rattle.std.specs.Prelude.{option_map}
use Rattle.std.specs.Option.{option_copied}
use Rattle.graph_entry.specs.Specifier.{text_of}
use Rattle.graph_order.proofs.CheckLemmas.{leads_there}
use Rattle.graph_order.proofs.check.leads_there.Goals as goal

pub returns-in-Some : goal.returns-in-Some
returns-in-Some c =
    leads_there c.args.graph.now.entries c.args.edge.now (text_of c.in-Some.found.now) (text_of c.args.target.now)
    c.is_same.result (sym c.static_target.ensures ∙ ap (λ r. option_map text_of (option_copied r)) c.in-Some.is)
    c.is_same.ensures
