use Rattle.es_syntax.specs.Held.{held, valued}
use Rattle.dts_members.proofs.TypedLemmas.{absent_body, end_body, sign_body}
use Rattle.dts_members.proofs.typed_methods.bodyless.Goals as goal

pub returns-in-None-clause-written : goal.returns-in-None-clause-written
returns-in-None-clause-written c = λ e x ts. absent_body x ts _ _ (c.absent.ensures.written e x ts)

pub returns-in-Node-clause-written : goal.returns-in-Node-clause-written
returns-in-Node-clause-written c = λ e x ts. absent_body x ts _ _ (c.absent-in-Node.ensures.written e x ts)

pub returns-in-Role-clause-written : goal.returns-in-Role-clause-written
returns-in-Role-clause-written c = λ e x ts. absent_body x ts _ _ (c.absent-in-Role.ensures.written e x ts)

pub returns-in-Lean-clause-written : goal.returns-in-Lean-clause-written
returns-in-Lean-clause-written c = λ e x ts. absent_body x ts _ _ (c.absent-in-Lean.ensures.written e x ts)

-- `;`
pub returns-in-Leaf-clause-written : goal.returns-in-Leaf-clause-written
returns-in-Leaf-clause-written c = λ e x ts.
    sign_body x ts _ _ _ (valued x ts c.args.body.now) (held x ts c.in-Some.field-0-1.entries.now) c.in-Some.first.from
    (c.group.ensures.value x ts) (rw c.in-Leaf.is at (c.in-Some.ensures.value x ts))
    (c.keep_there.ensures.written e x ts)

-- the end of a line
pub returns-in-Parts-clause-written : goal.returns-in-Parts-clause-written
returns-in-Parts-clause-written c = λ e x ts.
    end_body x ts _ _ _ (valued x ts c.args.body.now) (held x ts c.in-Some.field-0-1.entries.now)
    c.in-Some.first.parts.entries.now
    (c.group.ensures.value x ts) (rw c.in-Parts.is at (c.in-Some.ensures.value x ts))
    (c.keep_there-in-Parts.ensures.written e x ts)
