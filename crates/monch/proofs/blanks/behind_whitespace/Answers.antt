use Rattle.std.proofs.Common.{rules}
use Rattle.monch.proofs.FrontLemmas.{IsPassingFront-map}
use Rattle.monch.proofs.blanks.behind_whitespace.Goals as goal

-- the closure answers what `is_whitespace` does
pub returns : goal.returns
returns c = (
  c.behind_passing.ensures.0,
  IsPassingFront-map _ _ _ _ _ (λ x answer said. search rules) c.behind_passing.ensures.1,
)
