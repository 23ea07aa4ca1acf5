use Rattle.std.proofs.Common.{rules}
use Rattle.graph_session.specs.contracts.loader.AskedLoader.{the_view}
use Rattle.graph_session.proofs.AskingLemmas.{kept_started}
use Rattle.graph_session.proofs.loader.AskedLoaderLoader.start.Goals as goal

-- one request more
pub invariant_of-self-2 : goal.invariant_of-self-2
invariant_of-self-2 c =
    kept_started (the_view c.self.inside) _ c.args.specifier.now c.self.invariant (search rules)
