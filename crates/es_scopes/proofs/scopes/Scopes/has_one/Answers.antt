use Rattle.std.proofs.Common.{◌∙◌}
use Rattle.es_walk.proofs.LookLemmas.{one_asked}
use Rattle.es_scopes.specs.Marks.{scopes}
use Rattle.es_scopes.proofs.scopes.Scopes.has_one.Goals as goal

pub returns : goal.returns
returns c =
    one_asked (scopes c.args.self.now.tokens.now c.args.self.now.bodies) c.args.parts.now.entries.now c.args.path
    ∙ c.has_parts.ensures
