use Rattle.es_syntax.specs.Held.{held, valued}
use Rattle.es_syntax.specs.Roles.{expr_in, post_in}
use Rattle.dts_overloads.proofs.PathLemmas.{has_chain}
use Rattle.dts_overloads.proofs.paths.chain_path.Goals as goal

pub returns : goal.returns
returns c = λ r.
    let x = c.args.text.now in
    let ts = c.args.tokens.now in
    has_chain r (expr_in (valued x ts c.args.base.now)) (post_in (valued x ts c.args.first.now))
    (held x ts c.args.others.now.entries.now) c.in_ok-start.start c.in_ok-next.next c.in_ok-all.all
    c.in_ok-start.ensures c.in_ok-next.ensures c.in_ok-all.ensures
