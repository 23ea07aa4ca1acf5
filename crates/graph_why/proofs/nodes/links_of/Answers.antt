-- The links of one entry more.
use Rattle.std.proofs.Common.{arith}
use Rattle.graph_builder.specs.Rules.{Specifier}
use Rattle.graph_builder.specs.Graph.{entry_of}
use Rattle.graph_why.specs.Nodes.{row_of}
use Rattle.graph_why.proofs.NodeLemmas.{rows_step}
use Rattle.graph_why.proofs.nodes.links_of.Goals as goal

pub loop-number-preserved : goal.loop-number-preserved
loop-number-preserved c = (
  c.loop-number.invariant.0,
  rows_step
      (λ (s : Specifier).
      row_of c.args.graph.now.numbered c.in_ok-sink.sink c.args.following (entry_of c.args.graph.now.entries s))
      c.args.graph.now.numbered c.loop-number.number c.loop-number.links c.push.new.self
      c.in_ok-entry_links.field-0 (omega (arith, c.loop-number-test.true, c.loop-number.invariant.0))
      c.in_ok-push.ensures.ok c.loop-number.invariant.1 c.in_ok-entry_links.ensures,
)
