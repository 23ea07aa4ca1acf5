use Rattle.std.proofs.Common.{◌≡◌, [], take}
use Rattle.graph_builder.specs.ByText.{keys_at}
use Rattle.graph_builder.specs.Graph.{texts}
use Rattle.graph_order.specs.Order.{IsFree, EachBehind}
use Rattle.graph_order.proofs.check.check_order.Given as goal

-- those so far stand so, each behind those before it
abbrev pub invariant-loop-url : goal.invariant-loop-url
invariant-loop-url l = record {
  placed : keys_at l.placed ≡ texts (take l.url-index l.list);
  each : EachBehind (IsFree l.graph.entries) [] (texts (take l.url-index l.list));
}
