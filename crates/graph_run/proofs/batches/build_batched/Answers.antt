-- The graph is the bundle's, or the bundle is too large.
use Rattle.graph_run.proofs.GraphLemmas.{graph_of, large_of}
use Rattle.graph_run.proofs.batches.build_batched.Goals as goal

pub returns-clause-graph : goal.returns-clause-graph
returns-clause-graph g c =
    let made = c.in_ok-build.ensures in
    let polled = c.poll_batches.ensures in
    graph_of c.args.bundle c.in_ok-build.build.inner c.in_ok-build.build.inner.loader.modules made.ways made.starts
    made.limit made.modules c.poll_batches.result made.roots made.imports polled.graph polled.roots polled.imports
    polled.within

pub returns-clause-large : goal.returns-clause-large
returns-clause-large g c =
    let made = c.in_ok-build.ensures in
    large_of c.args.bundle c.in_ok-build.build.inner c.in_ok-build.build.inner.loader.modules made.ways made.starts
    made.limit made.modules c.poll_batches.result c.poll_batches.ensures.large
