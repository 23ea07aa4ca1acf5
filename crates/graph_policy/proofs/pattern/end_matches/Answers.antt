use Rattle.std.proofs.Common.{◌∙◌, sym, rules}
use Rattle.graph_policy.proofs.PatternLemmas.{part_there, part_lacks}
use Rattle.graph_policy.proofs.pattern.end_matches.Goals as goal

-- the first place is where all that may follow is left
pub loop-front-preserved : goal.loop-front-preserved
loop-front-preserved c = (
  search rules,
  search rules,
  c.loop-front.invariant.2 ∙ part_there c.loop-front.ahead.now c.in-Some.front.now c.in-Some.rest.now
      c.loop-front.left.now c.in-Some-after_first.behind.now c.in-Some.ensures.0 c.in-Some.ensures.1
      c.in-Some-after_first.ensures,
)

pub returns-in-None : goal.returns-in-None
returns-in-None c =
    sym (c.loop-front.invariant.2 ∙ part_lacks c.loop-front.ahead.now c.in-Some.front.now c.in-Some.rest.now
    c.loop-front.left.now c.in-Some.ensures.0 c.in-Some.ensures.1 c.in-None.ensures)
