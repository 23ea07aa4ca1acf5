use Rattle.std.proofs.Common.{◌∙◌}
use Rattle.es_walk.proofs.LookLemmas.{one_asked}
use Rattle.es_required.specs.Seen.{rules_of}
use Rattle.es_required.proofs.given.Making.has_one.Goals as goal

pub returns : goal.returns
returns c =
    one_asked (rules_of c.args.self.now) c.args.parts.now.entries.now c.args.path ∙ c.has_parts.ensures
