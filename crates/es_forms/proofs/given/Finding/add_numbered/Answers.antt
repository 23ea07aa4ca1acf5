use Rattle.std.proofs.Common.{sym}
use Rattle.es_forms.proofs.given.Finding.add_numbered.Goals as goal

-- a token cuts the text
pub add_literal-requires : goal.add_literal-requires
add_literal-requires c = c.args.self.now.cut c.args.at c.in-Some.token (sym c.in-Some.ensures)
