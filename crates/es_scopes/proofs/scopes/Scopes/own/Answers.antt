use Rattle.std.proofs.Common.{◌∙◌}
use Rattle.es_walk.proofs.LookLemmas.{own_asked}
use Rattle.es_scopes.specs.Marks.{scopes}
use Rattle.es_scopes.proofs.scopes.Scopes.own.Goals as goal

pub returns : goal.returns
returns c =
    own_asked (scopes c.args.self.now.tokens.now c.args.self.now.bodies) c.args.parts.now.entries.now c.args.path
    ∙ c.own_at.ensures
