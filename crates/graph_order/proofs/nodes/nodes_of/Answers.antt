-- One name more is placed.
use Rattle.std.proofs.Common.{◌≡◌, ◌∙◌, ◌<◌, ℕ, length, sym, ap, subst, arith}
use Rattle.graph_builder.specs.Graph.{number_in}
use Rattle.graph_entry.specs.Specifier.{text_of}
use Rattle.graph_order.specs.Names.{Names, named, name_of}
use Rattle.graph_order.specs.Nodes.{AreNodes}
use Rattle.graph_order.proofs.NodeLemmas.{length-named_at, name_at, nodes_more}
use Rattle.graph_order.proofs.nodes.nodes_of.Goals as goal

pub loop-node-preserved : goal.loop-node-preserved
loop-node-preserved c =
    let names : length c.args.names.now ≡ length (named c.args.graph.now.entries)
    = sym (length-named_at c.args.names.now) ∙ ap (λ (ns : Names). length ns) c.requires.named in
    let low : c.loop-node.node < length c.args.names.now = omega (arith, c.loop-node-test.true) in
    let name : text_of c.index-names-node.result.now ≡ name_of (named c.args.graph.now.entries) c.loop-node.node
    = name_at c.args.names.now c.loop-node.node c.index-names-node.result low c.index-names-node.is
    ∙ ap (λ (ns : Names). name_of ns c.loop-node.node) c.requires.named in
    nodes_more c.args.graph.now c.requires.ascending c.loop-node.nodes c.set_node.new.nodes c.loop-node.node
    (subst (λ (k : ℕ). c.loop-node.node < k) names low) c.loop-node.invariant c.set_node.ensures.len
    (λ n is. c.set_node.ensures.here n (ap (number_in c.args.graph.now.numbered) name ∙ is))
    (λ n other. c.set_node.ensures.others n (λ is. other (ap (number_in c.args.graph.now.numbered) (sym name) ∙ is)))

pub returns : goal.returns
returns c =
    let names : length c.args.names.now ≡ length (named c.args.graph.now.entries)
    = sym (length-named_at c.args.names.now) ∙ ap (λ (ns : Names). length ns) c.requires.named in
    let whole : c.loop-node.node ≡ length c.args.names.now
    = omega (arith, c.loop-node-test.false, c.loop-node.auto.node-end) in
    subst (λ (k : ℕ). AreNodes c.args.graph.now (named c.args.graph.now.entries) k c.loop-node.nodes) (whole ∙ names)
    c.loop-node.invariant
