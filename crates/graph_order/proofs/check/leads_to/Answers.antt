use Rattle.std.proofs.Common.{◌∙◌, sym, ap}
use Rattle.std.specs.Prelude.{is_some, option_map}
use Rattle.std.specs.Option.{option_copied}
use Rattle.graph_entry.specs.Specifier.{text_of}
use Rattle.graph_order.proofs.CheckLemmas.{leads_some}
use Rattle.graph_order.proofs.check.leads_to.Goals as goal

pub returns-in-Some : goal.returns-in-Some
returns-in-Some c =
    leads_some c.args.graph.now.entries c.args.placed.now c.args.edge.now (text_of c.in-Some.target.now)
    c.is_some.result
    (sym c.static_target.ensures ∙ ap (λ r. option_map text_of (option_copied r)) c.in-Some.is)
    (c.is_some.ensures ∙ ap is_some c.number.ensures.value)
