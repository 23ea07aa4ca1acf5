use Rattle.std.proofs.Common.{◌∙◌}
use Rattle.es_lowering.specs.Texts.{span_of}
use Rattle.es_syntax.specs.Held.{valued}
use Rattle.es_syntax.specs.Roles.{expr_in}
use Rattle.dts_items.proofs.DefaultLemmas.{name_default, other_default}
use Rattle.dts_items.proofs.NameLemmas.{named, unnamed}
use Rattle.dts_items.proofs.defaults.default_expr.Goals as goal

pub returns-then-is_name-clause-written : goal.returns-then-is_name-clause-written
returns-then-is_name-clause-written c = λ e turned is ranges top by knows listed.
    let x = c.args.env.now.text.now in
    let ts = c.args.env.now.tokens.now in
    name_default x ts by top c.args.turn.now c.args.it.now c.args.out.now c.keep_there.new.self
    (span_of ts c.args.it.now.from c.args.it.now.to) (expr_in (valued x ts c.args.e.now)) turned
    (c.keep_there.ensures.written e x ts) c.keep_there.ensures.state is
    (named x ts c.args.e.now (c.is_name.ensures ∙ c.if-is_name.true))

pub returns-else-is_name-clause-written : goal.returns-else-is_name-clause-written
returns-else-is_name-clause-written c = λ e turned is ranges top by knows listed.
    let x = c.args.env.now.text.now in
    let ts = c.args.env.now.tokens.now in
    other_default x ts by top c.args.out.now c.other_default.new.out (span_of ts c.args.it.now.from c.args.it.now.to)
    (expr_in (valued x ts c.args.e.now)) (unnamed x ts by c.args.e.now (c.is_name.ensures ∙ c.if-is_name.false))
    (c.other_default.ensures.written e turned is by knows)
