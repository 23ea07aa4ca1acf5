use Rattle.es_syntax.specs.Held.{held, valued}
use Rattle.dts_variables.proofs.DeclaratorLemmas.{typed}
use Rattle.dts_variables.proofs.declarators.typed_node.Goals as goal

pub returns-in-Some-clause-written : goal.returns-in-Some-clause-written
returns-in-Some-clause-written c = λ e by knows.
    let x = c.args.env.now.text.now in
    let ts = c.args.env.now.tokens.now in
    typed by x ts c.args.out.now c.marked_declarator.new.out _ (held x ts c.args.parts.now.entries.now)
    (valued x ts c.in-Some.name) (held x ts c.group_at-mark.result.entries.now)
    (held x ts c.group_at-ty.result.entries.now) (held x ts c.group_at-values.result.entries.now) _
    (c.in-Some.ensures.value x ts) (c.group_at-mark.ensures.value x ts) (c.group_at-ty.ensures.value x ts)
    (c.group_at-values.ensures.value x ts) (c.first_part-value.ensures x ts)
    (c.marked_declarator.ensures.written e by knows)
