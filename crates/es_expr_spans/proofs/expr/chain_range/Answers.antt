use Rattle.es_syntax.specs.Held.{held, valued}
use Rattle.es_expr_spans.proofs.Chains.{chain_span}
use Rattle.es_expr_spans.proofs.expr.chain_range.Goals as goal

pub returns-in-Some : goal.returns-in-Some
returns-in-Some c =
    let ts = c.args.tokens.now in
    λ x.
    chain_span c.args.node (held x ts c.args.parts.now.entries.now) (valued x ts c.in-Some.first)
    (held x ts c.group_at.result.entries.now) c.post_end-end.result c.posts_end-end.result
    (c.in-Some.ensures.value x ts)
    (c.group_at.ensures.value x ts) (c.post_end-end.ensures x) (c.posts_end-end.ensures x)
