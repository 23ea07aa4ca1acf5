use Rattle.es_lowering.specs.Value.{group, part}
use Rattle.es_syntax.specs.Held.{held}
use Rattle.dts_members.proofs.HeadLemmas.{result_gone, result_kept}
use Rattle.dts_members.proofs.heads.result_part.Goals as goal

-- of a setter
pub returns-in-Some-clause-written : goal.returns-in-Some-clause-written
returns-in-Some-clause-written c = λ e x ts by.
    result_gone by x ts c.args.setter _ _ (group (held x ts c.args.it.now.parts.entries.now) 2) c.if-setter.true
    (c.no_result.ensures.written e x ts)

pub returns-in-None-clause-written : goal.returns-in-None-clause-written
returns-in-None-clause-written c = λ e x ts by.
    result_gone by x ts c.args.setter _ _ (group (held x ts c.args.it.now.parts.entries.now) 2) c.if-setter.true
    (c.no_result-in-None.ensures.written e x ts)

-- of any other
pub returns-else-setter-clause-written : goal.returns-else-setter-clause-written
returns-else-setter-clause-written c = λ e x ts by.
    result_kept by x ts c.args.setter _ _ _ (part (held x ts c.args.it.now.parts.entries.now) 2) c.if-setter.false
    (c.keep_part.ensures.written (c.dropped.ensures.before e) x ts) (c.dropped.ensures.written e x ts)
