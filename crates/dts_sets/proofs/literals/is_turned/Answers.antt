use Rattle.es_lowering.specs.Value.{more}
use Rattle.es_syntax.specs.Held.{held, valued}
use Rattle.dts_sets.proofs.LiteralLemmas.{group_at_place, group_right}
use Rattle.dts_sets.proofs.literals.is_turned.Goals as goal

-- a word, and what is after it
pub returns-in-Some-split : goal.returns-in-Some-split
returns-in-Some-split c =
    let x = c.args.text.now in
    let ts = c.args.tokens.now in
    let it = valued x ts c.in-Some-split.it in
    let rest = held x ts c.in-Some-split.field-0-1.entries.now in
    group_right ts c.args.before (held x ts c.args.g.now.entries.now) (valued x ts c.in-Some.right) it rest
    c.token_at.result c.is_asserted.result (c.in-Some.ensures.value x ts)
    (group_at_place x ts c.in-Some.right (more it rest) c.in-Parts.is (c.in-Some-split.ensures.value x ts))
    (c.token_at.ensures x ts) c.is_asserted.ensures
