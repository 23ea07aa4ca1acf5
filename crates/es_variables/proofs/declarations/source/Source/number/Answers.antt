use Rattle.std.proofs.Common.{◌∙◌}
use Rattle.es_walk.proofs.LookLemmas.{number_asked}
use Rattle.es_variables.specs.scope_analysis.Events.{rules}
use Rattle.es_variables.proofs.declarations.source.Source.number.Goals as goal

pub returns : goal.returns
returns c =
    number_asked (rules c.args.self.now.text.now c.args.self.now.tokens.now) c.args.parts.now.entries.now c.args.path
    ∙ c.number_at.ensures
