use Rattle.std.proofs.Common.{sym}
use Rattle.es_required.proofs.required.Required.is_same_text.Goals as goal

-- a token cuts the text
pub cut-requires : goal.cut-requires
cut-requires c = c.args.self.now.cut c.args.a c.in-Some.token (sym c.in-Some.ensures)
