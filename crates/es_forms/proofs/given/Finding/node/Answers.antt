use Rattle.es_walk.proofs.LookLemmas.{node_asked}
use Rattle.es_forms.specs.Seen.{rules_of}
use Rattle.es_forms.proofs.given.Finding.node.Goals as goal

pub returns : goal.returns
returns c =
    node_asked (rules_of c.args.self.now) c.args.parts.now.entries.now c.args.path c.node_at.result c.node_at.ensures
