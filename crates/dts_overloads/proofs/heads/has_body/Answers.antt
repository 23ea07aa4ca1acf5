use Rattle.es_syntax.specs.Held.{held}
use Rattle.dts_overloads.proofs.HeadLemmas.{parts_body}
use Rattle.dts_overloads.proofs.heads.has_body.Goals as goal

-- a group is no body
pub returns-in-Parts : goal.returns-in-Parts
returns-in-Parts c = λ x ts.
    parts_body x ts (held x ts c.args.group.now.entries.now) (held x ts c.in-Some.field-0-1.entries.now) c.in-Some.it
    (c.in-Some.ensures.value x ts) c.in-Parts.is
