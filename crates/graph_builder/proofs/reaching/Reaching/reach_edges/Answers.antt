use Rattle.graph_builder.proofs.ReachingLemmas.{grows_source}
use Rattle.graph_builder.proofs.reaching.Reaching.reach_edges.Goals as goal

-- a source has types by its media type
pub returns-in-Js-clause-grows : goal.returns-in-Js-clause-grows
returns-in-Js-clause-grows c =
    grows_source c.args.following c.in-Js.source c.args.importer.now c.is_typed-typed.result c.as_slice.result.now
    c.args.self.now
    c.reach_dependencies.new.self c.reach_dependencies.result c.in-Js.is c.is_typed-typed.ensures c.as_slice.ensures
    c.reach_dependencies.ensures.grows
