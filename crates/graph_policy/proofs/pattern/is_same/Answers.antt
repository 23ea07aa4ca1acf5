use Rattle.std.proofs.Common.{◌∙◌}
use Rattle.graph_policy.proofs.PatternLemmas.{equal_is}
use Rattle.graph_policy.proofs.pattern.is_same.Goals as goal

pub returns : goal.returns
returns c = c.are_equal.ensures ∙ equal_is c.args.pattern.now c.args.text.now c.requires
