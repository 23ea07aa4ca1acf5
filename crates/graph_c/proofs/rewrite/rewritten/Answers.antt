use Rattle.graph_c.proofs.RewriteLemmas.{found_text}
use Rattle.graph_c.proofs.rewrite.rewritten.Goals as goal

-- bytes of which sites were found are a text
pub unreachable-requires : goal.unreachable-requires
unreachable-requires c =
    found_text c.args.media_type c.args.bytes.now c.in-Err.field-0 c.args.sites.now c.requires c.in-Err.ensures.refused
