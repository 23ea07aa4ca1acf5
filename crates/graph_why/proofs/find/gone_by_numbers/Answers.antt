-- What is gone of the numbers is gone of the graph.
use Rattle.std.proofs.lemmas.Result.{IfOk-weaker}
use Rattle.graph_builder.specs.Graph.{texts}
use Rattle.graph_why.proofs.SearchLemmas.{within_at, starts_at, gone_at}
use Rattle.graph_why.proofs.find.gone_by_numbers.Goals as goal

pub gone_without-requires-clause-within : goal.gone_without-requires-clause-within
gone_without-requires-clause-within c =
    within_at c.args.graph.now c.args.following c.in_ok-links.links c.as_slice-targets.result.now c.in_ok-links.ensures
    c.as_slice-targets.ensures c.in_ok-starts.starts c.as_slice-begun.result.now c.in_ok-starts.ensures
    c.as_slice-begun.ensures

pub gone_without-requires-clause-roots : goal.gone_without-requires-clause-roots
gone_without-requires-clause-roots c =
    starts_at c.args.graph.now c.args.following c.in_ok-links.links c.as_slice-targets.result.now c.in_ok-links.ensures
    c.as_slice-targets.ensures c.in_ok-starts.starts c.as_slice-begun.result.now c.in_ok-starts.ensures
    c.as_slice-begun.ensures

pub returns : goal.returns
returns c =
    IfOk-weaker c.names_of.result _ _
    (λ urls is w i.
    gone_at c.args.graph.now c.args.following c.in_ok-links.links c.as_slice-targets.result.now c.in_ok-links.ensures
    c.as_slice-targets.ensures c.in_ok-starts.starts c.as_slice-begun.result.now c.in_ok-starts.ensures
    c.as_slice-begun.ensures c.args.left c.in_ok-gone.gone c.as_slice-nodes.result.now c.in_ok-gone.ensures
    c.as_slice-nodes.ensures (texts urls) is w i)
    c.names_of.ensures
