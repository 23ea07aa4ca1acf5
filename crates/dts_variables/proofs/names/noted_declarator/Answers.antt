use Rattle.std.proofs.Common.{◌∙◌}
use Rattle.dts_variables.proofs.names.noted_declarator.Goals as goal

pub returns-clause-noted : goal.returns-clause-noted
returns-clause-noted c = λ e.
    c.kept_declarator.ensures.state
    ∙ (rw c.span_of-range.ensures at (c.note.ensures.noted (c.kept_declarator.ensures.before e)))

pub returns-clause-written : goal.returns-clause-written
returns-clause-written c = λ e x ts. rw c.note.ensures.row at (c.kept_declarator.ensures.written e x ts)
