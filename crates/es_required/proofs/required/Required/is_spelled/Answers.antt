use Rattle.std.proofs.Common.{sym}
use Rattle.es_required.proofs.required.Required.is_spelled.Goals as goal

-- a token cuts the text
pub cut-requires : goal.cut-requires
cut-requires c = c.args.self.now.cut c.args.at c.in-Some.token (sym c.in-Some.ensures)
