use Rattle.std.proofs.Common.{arith, ap, sym, ◌∙◌}
use Rattle.es_lowering.specs.Value.{Value, post_at}
use Rattle.es_syntax.specs.Roles.{post_in}
use Rattle.dts_draft.proofs.There.{same}
use Rattle.dts_operands.proofs.CalleeLemmas.{under_more}
use Rattle.dts_operands.proofs.callees.turn_callee.Goals as goal

pub returns-in-Some-clause-leads : goal.returns-in-Some-clause-leads
returns-in-Some-clause-leads c = λ by.
    let x = c.args.env.now.text.now in
    let ts = c.args.env.now.tokens.now in
    same _ _ _ (ap (λ (g : Value). post_at g 0) (sym (c.group.ensures.value x ts))
    ∙ ap post_in (c.in-Some.ensures.value x ts)) (c.next_callee.ensures.leads by)

pub returns-in-Some-clause-below : goal.returns-in-Some-clause-below
returns-in-Some-clause-below c =
    let inner = c.in-Some.ensures.below in
    let outer = c.group.ensures.below in
    under_more c.next_callee.result _ _ (omega arith) c.next_callee.ensures.below
