use Rattle.dts_fields.proofs.ModifierLemmas.{undeclared_group}
use Rattle.std.proofs.Common.{refl}
use Rattle.dts_fields.proofs.modifiers.undeclared.Goals as goal

-- opened, written, closed
pub returns-clause-written : goal.returns-clause-written
returns-clause-written c = λ e x.
    let f = c.close_group.ensures.before e in
    let g = c.undeclared_turns.ensures.before f in
    undeclared_group x c.args.tokens.now c.args.out.now.row _ _ _ _ _ _ (c.open-group.ensures.written g)
    (c.open-group.ensures.place g) refl (c.undeclared_turns.ensures.written f x) (c.close_group.ensures.written e)
