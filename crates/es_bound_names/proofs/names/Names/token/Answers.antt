use Rattle.std.proofs.Common.{sym}
use Rattle.es_bound_names.proofs.names.Names.token.Goals as goal

-- each token cuts the text
pub cut-requires : goal.cut-requires
cut-requires c = c.requires c.args.at c.in-Some.token (sym c.in-Some.ensures)
