use Rattle.dts_names.proofs.NameLemmas.{class_written, class_none}
use Rattle.dts_names.proofs.names.class_name.Goals as goal

pub returns-then-is_plain-clause-written : goal.returns-then-is_plain-clause-written
returns-then-is_plain-clause-written c = λ e by knows.
    class_written by _ knows _ _ c.in-Some.ensures c.is_plain.ensures c.if-is_plain.true
    (c.named_type.ensures.written e _ _)

pub returns-else-is_plain-clause-written : goal.returns-else-is_plain-clause-written
returns-else-is_plain-clause-written c = λ e by knows.
    class_none by _ knows _ _ _ c.in-Some.ensures c.is_plain.ensures c.if-is_plain.false
