use Rattle.std.proofs.Common.{refl}
use Rattle.es_lowering.specs.TypePatterns.{this_parameter}
use Rattle.es_view_types.specs.members.Param.{this}
use Rattle.es_view_types.proofs.members.param.this.Goals as goal

-- part by part
pub returns-in-Some-clause-form : goal.returns-in-Some-clause-form
unfolding this_parameter this
returns-in-Some-clause-form c = λ x ts r.
    rw (
      c.has.ensures x ts,
      c.in-Some.ensures x ts,
      c.group_at.ensures.value x ts,
    ) refl
