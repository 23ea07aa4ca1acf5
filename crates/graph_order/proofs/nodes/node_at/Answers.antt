-- What stands at the specifier's number.
use Rattle.std.proofs.Common.{◌∙◌, sym}
use Rattle.graph_entry.specs.Specifier.{text_of}
use Rattle.graph_order.proofs.NodeLemmas.{none_named, node_value}
use Rattle.graph_order.proofs.nodes.node_at.Goals as goal

pub returns-in_err-number : goal.returns-in_err-number
returns-in_err-number c =
    c.from_residual.ensures
    ∙ sym (none_named c.args.graph.now c.requires.ascending (text_of c.args.specifier.now)
    (c.number.ensures.none.0 c.in_err-number.was))

pub returns : goal.returns
returns c =
    node_value c.args.graph.now c.requires.ascending c.args.nodes.now c.requires.nodes (text_of c.args.specifier.now)
    c.in_ok-number.field-0 (sym c.number.ensures.value ∙ c.in_ok-number.was)
