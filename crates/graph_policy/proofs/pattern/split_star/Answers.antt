use Rattle.std.proofs.Common.{arith}
use Rattle.std.proofs.lemmas.Str.Pattern.{split_parts}
use Rattle.graph_policy.proofs.pattern.split_star.Goals as goal

pub returns : goal.returns
returns c = split_parts 42 _ _ c.split_once.ensures.cases (omega arith)
