use Rattle.std.proofs.Common.{◌∙◌}
use Rattle.dts_enums.proofs.EnumLemmas.{members_next}
use Rattle.dts_enums.proofs.enums.all_members.Goals as goal

-- one turn less is left
pub loop-turn-preserved : goal.loop-turn-preserved
loop-turn-preserved c = (
  λ e. c.loop-turn.invariant.0 (c.member.ensures.before e),
  c.member.ensures.state ∙ c.loop-turn.invariant.1,
  λ e x by.
      members_next by x _ _ _ _ _ _ _ _ (c.in-Some.ensures.value x _)
      (c.loop-turn.invariant.2 (c.member.ensures.before e) x by) (c.member.ensures.written e x by),
)
