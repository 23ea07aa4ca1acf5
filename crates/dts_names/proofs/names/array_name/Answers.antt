use Rattle.dts_names.proofs.NameLemmas.{array_written, array_none}
use Rattle.dts_names.proofs.names.array_name.Goals as goal

pub returns-then-is_array-clause-written : goal.returns-then-is_array-clause-written
returns-then-is_array-clause-written c = λ e by knows.
    array_written by _ knows _ _ c.in-Some.ensures c.is_array.ensures c.if-is_array.true
    (c.typeof_name.ensures.written e _ _)

pub returns-else-is_array-clause-written : goal.returns-else-is_array-clause-written
returns-else-is_array-clause-written c = λ e by knows.
    array_none by _ knows _ _ _ c.in-Some.ensures c.is_array.ensures c.if-is_array.false
