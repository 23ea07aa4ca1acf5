use Rattle.es_lowering.specs.Texts.{span_of}
use Rattle.es_syntax.specs.Held.{valued}
use Rattle.es_syntax.specs.Roles.{expr_in}
use Rattle.dts_items.proofs.DefaultLemmas.{default_made, default_stays}
use Rattle.dts_items.proofs.defaults.other_default.Goals as goal

pub returns-then-made_const-clause-written : goal.returns-then-made_const-clause-written
returns-then-made_const-clause-written c = λ e turned is by knows.
    let x = c.args.env.now.text.now in
    let ts = c.args.env.now.tokens.now in
    let f = c.made_default.ensures.before e in
    let g = c.made_const.ensures.before f in
    default_made x ts by c.args.out.now c.draw-number.new.self c.made_const.new.out c.made_default.new.out
    c.draw-number.result c.made_const.result (span_of ts c.args.it.now.from c.args.it.now.to)
    (expr_in (valued x ts c.args.e.now)) c.if-made_const.true c.draw-number.ensures.row (c.draw-number.ensures.drawn g)
    (c.draw-number.ensures.number g) (c.made_const.ensures.written f by knows) (c.made_default.ensures.written e x ts)
    c.made_default.ensures.state (knows.names _)

pub returns-else-made_const-clause-written : goal.returns-else-made_const-clause-written
returns-else-made_const-clause-written c = λ e turned is by knows.
    let x = c.args.env.now.text.now in
    let ts = c.args.env.now.tokens.now in
    let f = c.keep_there.ensures.before e in
    let g = c.made_const.ensures.before f in
    default_stays x ts by c.args.turn.now c.args.it.now c.args.out.now c.draw-number.new.self c.made_const.new.out
    c.keep_there.new.self c.draw-number.result c.made_const.result (span_of ts c.args.it.now.from c.args.it.now.to)
    (expr_in (valued x ts c.args.e.now)) c.if-made_const.false c.draw-number.ensures.row
    (c.draw-number.ensures.drawn g) (c.made_const.ensures.written f by knows) turned
    (c.keep_there.ensures.written e x ts) c.keep_there.ensures.state is
