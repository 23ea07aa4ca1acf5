use Rattle.es_syntax.specs.Held.{held}
use Rattle.dts_parts.proofs.FunctionLemmas.{absent_body, sign_body}
use Rattle.dts_parts.proofs.functions.bodyless.Goals as goal

-- none
pub returns-in-None-clause-written : goal.returns-in-None-clause-written
returns-in-None-clause-written c = λ e x ts. absent_body x ts _ _ (c.absent.ensures.written e x ts)

-- `;`
pub returns-in-Leaf-clause-written : goal.returns-in-Leaf-clause-written
returns-in-Leaf-clause-written c = λ e x ts.
    sign_body x ts _ _ _ (held x ts c.in-Some.field-0-1.entries.now) c.in-Some.first.from
    (rw c.in-Leaf.is at (c.in-Some.ensures.value x ts)) (c.kept_group.ensures.written e x ts)
