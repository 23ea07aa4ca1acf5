use Rattle.dts_enums.proofs.CopyLemmas.{copies_something}
use Rattle.dts_enums.proofs.copies.keep_others.Goals as goal

pub returns-in-Some-clause-written : goal.returns-in-Some-clause-written
returns-in-Some-clause-written c = λ e x ts. copies_something x ts _ _ _ (c.keep_parts.ensures.written e x ts)
