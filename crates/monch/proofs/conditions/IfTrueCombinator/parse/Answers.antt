use Rattle.std.proofs.Common.{refl, inr}
use Rattle.monch.proofs.conditions.IfTrueCombinator.parse.Goals as goal

-- the closure said no of the value
pub returns-then-not-condition : goal.returns-then-not-condition
returns-then-not-condition g c =
    inr (
      refl,
      c.in_ok-rest.rest.now,
      c.in_ok-rest.value,
      c.in_ok-rest.ensures,
      record { shown = _; shows = refl; says = record { met = c.if-not-condition.ensures } },
    )

-- the closure said yes of it
pub returns : goal.returns
returns g c = (
  c.in_ok-rest.ensures,
  record { shown = _; shows = refl; says = record { met = c.if-not-condition.ensures } },
)
