use Rattle.std.proofs.Common.{◌∙◌}
use Rattle.es_syntax.specs.Held.{held}
use Rattle.dts_items.proofs.BlockLemmas.{outer_made}
use Rattle.dts_items.proofs.blocks.outer_entity.Goals as goal

pub returns-else-is_kind-clause-written : goal.returns-else-is_kind-clause-written
returns-else-is_kind-clause-written c = λ e x by r.
    let ts = c.args.tokens.now in
    outer_made by x ts c.args.out.now.row c.first_name.new.out.row c.in-Some.at
    (held x ts c.args.parts.now.entries.now) r (c.in-Some.ensures x ts)
    (c.is_kind.ensures ∙ c.if-is_kind.false) (c.first_name.ensures.written e x ts)
