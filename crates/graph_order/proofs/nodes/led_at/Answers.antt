-- The number of the module that the specifier with a number leads to.
use Rattle.std.proofs.Common.{◌≡◌, ◌∙◌, sym, ap, Some}
use Rattle.std.specs.Option.{option_copied}
use Rattle.graph_order.specs.Nodes.{node_there}
use Rattle.graph_order.proofs.NodeLemmas.{node_led, text_numbered, same_texts}
use Rattle.graph_order.proofs.nodes.led_at.Goals as goal

pub returns-in-Some : goal.returns-in-Some
returns-in-Some c = λ s is. sym
    (node_led c.args.graph.now c.requires.ascending c.args.nodes.now c.requires.nodes c.args.number c.in-Some.node
    c.in-Some.is s is)

pub returns-in_ok-numbered-in-None : goal.returns-in_ok-numbered-in-None
returns-in_ok-numbered-in-None c = λ s is.
    let (u, get, same) = text_numbered c.args.graph.now.numbered s c.args.number is in
    let one : Some c.in_ok-numbered-in-None.field-0.now ≡ Some u
    = ap option_copied (sym c.in_ok-numbered-in-None.was) ∙ c.numbered.ensures.value ∙ get in
    c.led_from.ensures
    ∙ ap (node_there c.args.graph.now.entries) (same_texts c.in_ok-numbered-in-None.field-0.now u one ∙ same)
