use Rattle.es_walk.proofs.LookLemmas.{node_asked}
use Rattle.es_variables.specs.scope_analysis.Events.{rules}
use Rattle.es_variables.proofs.declarations.source.Source.node.Goals as goal

pub returns : goal.returns
returns c =
    node_asked (rules c.args.self.now.text.now c.args.self.now.tokens.now) c.args.parts.now.entries.now c.args.path
    c.node_at.result c.node_at.ensures
