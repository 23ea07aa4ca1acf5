use Rattle.std.proofs.Common.{sym}
use Rattle.es_exports.proofs.tokens.str_name.Goals as goal

-- each token cuts the text
pub cut-requires : goal.cut-requires
cut-requires c = c.requires c.args.at c.in-Some.token (sym c.in-Some.ensures)
