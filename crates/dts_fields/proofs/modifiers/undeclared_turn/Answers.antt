use Rattle.std.proofs.Common.{◌∙◌}
use Rattle.es_syntax.specs.Held.{held, valued}
use Rattle.dts_fields.proofs.ModifierLemmas.{turn_gone, turn_kept}
use Rattle.dts_fields.proofs.modifiers.undeclared_turn.Goals as goal

-- `declare`
pub returns-then-is_kind-clause-written : goal.returns-then-is_kind-clause-written
returns-then-is_kind-clause-written c = λ e x.
    let ts = c.args.tokens.now in
    turn_gone x ts _ _ (valued x ts c.args.turn.now) (held x ts c.group.result.entries.now) c.in-Some.at
    (c.group.ensures.value x ts) (c.in-Some.ensures x ts) (c.is_kind.ensures ∙ c.if-is_kind.true)
    (c.dropped.ensures.written e x ts)

-- any other
pub returns-else-is_kind-clause-written : goal.returns-else-is_kind-clause-written
returns-else-is_kind-clause-written c = λ e x.
    let ts = c.args.tokens.now in
    turn_kept x ts _ _ (valued x ts c.args.turn.now) (held x ts c.group.result.entries.now) c.in-Some.at
    (c.group.ensures.value x ts) (c.in-Some.ensures x ts) (c.is_kind.ensures ∙ c.if-is_kind.false)
    (c.keep_there.ensures.written e x ts)
