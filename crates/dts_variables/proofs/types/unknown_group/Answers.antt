use Rattle.std.proofs.Common.{◌∙◌}
use Rattle.dts_variables.proofs.types.unknown_group.Goals as goal

pub returns-clause-noted : goal.returns-clause-noted
returns-clause-noted c = λ e. c.any_group.ensures.state ∙ c.note.ensures.noted (c.any_group.ensures.before e)

pub returns-clause-written : goal.returns-clause-written
returns-clause-written c = λ e x ts. rw c.note.ensures.row at (c.any_group.ensures.written e x ts)
