use Rattle.graph_policy.proofs.PatternLemmas.{ends_is}
use Rattle.graph_policy.proofs.pattern.ends_so.Goals as goal

pub returns : goal.returns
returns c = ends_is _ c.args.pattern.now c.args.text.now c.requires c.ends_with.ensures.cases
