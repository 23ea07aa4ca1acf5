use Rattle.es_syntax.specs.Held.{held}
use Rattle.dts_member_keys.proofs.LookLemmas.{turned_none, turned_sees}
use Rattle.dts_member_keys.proofs.looks.turned_look.Goals as goal

pub returns-then-is_cast-clause-tells : goal.returns-then-is_cast-clause-tells
returns-then-is_cast-clause-tells c = λ by x ts r.
    turned_sees by x ts c.is_cast.result r _ _ (held x ts c.args.turn.now.entries.now) c.if-is_cast.true
    (c.is_cast.ensures by x ts)

pub returns-clause-tells : goal.returns-clause-tells
returns-clause-tells c = λ by x ts r.
    turned_none by x ts c.is_cast.result r _ _ (held x ts c.args.turn.now.entries.now) c.if-is_cast.false
    (c.is_cast.ensures by x ts)
