use Rattle.es_syntax.specs.Held.{held}
use Rattle.dts_operands.proofs.CalleeLemmas.{arguments_only}
use Rattle.dts_operands.proofs.callees.only_argument.Goals as goal

pub returns-in-Some-Arguments-clause-is : goal.returns-in-Some-Arguments-clause-is
returns-in-Some-Arguments-clause-is c = λ by x ts.
    rw (c.in-Some-Arguments.ensures.form x ts, c.in-Some-Arguments.field-0-is)
    (arguments_only by x ts c.only_in.result (held x ts c.in-Some-Arguments.row.entries.now)
    (c.only_in.ensures.is by x ts))
