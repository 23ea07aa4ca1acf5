use Rattle.std.proofs.Common.{inl, inr, [], rules}
use Rattle.monch.proofs.FrontLemmas.{IsPassingFront-none, IsPassingFront-more, behind_is_shorter}
use Rattle.monch.proofs.whiles.behind_passing.Goals as goal

-- a character that does not pass stands first in what is left
pub returns-then-not-passes : goal.returns-then-not-passes
returns-then-not-passes g c =
    c.loop-c.invariant.1 [] c.loop-c.rest.now
    (IsPassingFront-none _ _ (inr (c.in-Some.c, c.in-Some.behind.now, c.in-Some.ensures, c.if-not-passes.ensures)))

-- nothing is left
pub returns-in_default : goal.returns-in_default
returns-in_default g c = c.loop-c.invariant.1 [] c.loop-c.rest.now (IsPassingFront-none _ _ (inl c.in_default.ensures))

-- what is left is shorter by a character
pub loop-c-smaller : goal.loop-c-smaller
loop-c-smaller g c = behind_is_shorter _ _ c.in-Some.c c.in-Some.ensures

-- the character that passed goes before each front
pub loop-c-preserved : goal.loop-c-preserved
loop-c-preserved g c = (
  search rules,
  λ front rest more. c.loop-c.invariant.1 _ rest
      (IsPassingFront-more _ _ _ front rest c.in-Some.c c.in-Some.ensures c.if-not-passes.ensures more),
)
