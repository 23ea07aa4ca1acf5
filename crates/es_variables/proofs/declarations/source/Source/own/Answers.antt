use Rattle.std.proofs.Common.{◌∙◌}
use Rattle.es_walk.proofs.LookLemmas.{own_asked}
use Rattle.es_variables.specs.scope_analysis.Events.{rules}
use Rattle.es_variables.proofs.declarations.source.Source.own.Goals as goal

pub returns : goal.returns
returns c =
    own_asked (rules c.args.self.now.text.now c.args.self.now.tokens.now) c.args.parts.now.entries.now c.args.path
    ∙ c.own_at.ensures
