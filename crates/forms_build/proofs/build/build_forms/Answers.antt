-- The graph is the bundle's, or the bundle is too large.
use Rattle.std.proofs.Common.{ap}
use Rattle.graph_run.specs.Steps.{BundleWays}
use Rattle.forms_build.proofs.GraphLemmas.{graph_of, large_of}
use Rattle.forms_build.proofs.build.build_forms.Goals as goal

pub returns-clause-graph : goal.returns-clause-graph
returns-clause-graph g c =
    let made = c.in_ok-plain.ensures in
    let found = c.graph_by.ensures in
    graph_of c.args.forms c.in_ok-plain.plain.inner (record {
      follows = ap (λ (w : BundleWays). w.following) made.ways;
      roots = made.roots;
      imports = made.imports;
      limit = made.limit;
      modules = made.modules;
    }) c.graph_by.result found.graph found.roots found.imports found.within

pub returns-clause-large : goal.returns-clause-large
returns-clause-large g c =
    let made = c.in_ok-plain.ensures in
    large_of c.args.forms c.in_ok-plain.plain.inner (record {
      follows = ap (λ (w : BundleWays). w.following) made.ways;
      roots = made.roots;
      imports = made.imports;
      limit = made.limit;
      modules = made.modules;
    }) c.graph_by.result c.graph_by.ensures.large
