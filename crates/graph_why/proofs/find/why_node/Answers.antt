-- What is found of the numbers is found of the graph.
use Rattle.graph_why.proofs.SearchLemmas.{within_at, starts_at, low_at, why_at, none_at}
use Rattle.graph_why.proofs.find.why_node.Goals as goal

pub shortest-requires-clause-within : goal.shortest-requires-clause-within
shortest-requires-clause-within c =
    within_at c.args.graph.now c.args.following c.in_ok-links.links c.as_slice-targets.result.now c.in_ok-links.ensures
    c.as_slice-targets.ensures c.in_ok-starts.starts c.as_slice-begun.result.now c.in_ok-starts.ensures
    c.as_slice-begun.ensures

pub shortest-requires-clause-roots : goal.shortest-requires-clause-roots
shortest-requires-clause-roots c =
    starts_at c.args.graph.now c.args.following c.in_ok-links.links c.as_slice-targets.result.now c.in_ok-links.ensures
    c.as_slice-targets.ensures c.in_ok-starts.starts c.as_slice-begun.result.now c.in_ok-starts.ensures
    c.as_slice-begun.ensures

pub steps-requires : goal.steps-requires
steps-requires c =
    low_at c.args.graph.now c.args.following c.in_ok-links.links c.as_slice-targets.result.now c.in_ok-links.ensures
    c.as_slice-targets.ensures c.in_ok-starts.starts c.as_slice-begun.result.now c.in_ok-starts.ensures
    c.as_slice-begun.ensures c.args.node c.requires c.in-Some.path c.as_slice.result.now
    (rw c.in-Some.is at c.in_ok-found.ensures) c.as_slice.ensures

pub returns-in-Some : goal.returns-in-Some
returns-in-Some c =
    why_at c.args.graph.now c.args.following c.in_ok-links.links c.as_slice-targets.result.now c.in_ok-links.ensures
    c.as_slice-targets.ensures c.in_ok-starts.starts c.as_slice-begun.result.now c.in_ok-starts.ensures
    c.as_slice-begun.ensures c.args.node c.requires c.in-Some.path c.as_slice.result.now
    (rw c.in-Some.is at c.in_ok-found.ensures) c.as_slice.ensures c.in_ok-steps-in-Some.field-0
    c.in_ok-steps-in-Some.ensures

pub returns : goal.returns
returns c =
    none_at c.args.graph.now c.args.following c.in_ok-links.links c.as_slice-targets.result.now c.in_ok-links.ensures
    c.as_slice-targets.ensures c.in_ok-starts.starts c.as_slice-begun.result.now c.in_ok-starts.ensures
    c.as_slice-begun.ensures c.args.node c.requires (rw c.in-None.is at c.in_ok-found.ensures)
