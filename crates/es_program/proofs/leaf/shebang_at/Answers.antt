use Rattle.std.proofs.Common.{sym}
use Rattle.es_program.proofs.CutLemmas.{line_cut}
use Rattle.es_program.proofs.leaf.shebang_at.Goals as goal

-- the tokens read the text
pub line_of-requires : goal.line_of-requires
line_of-requires c =
    line_cut c.args.text.now c.args.tokens.now c.args.at c.in-Some.token c.utf8.text c.requires (sym c.in-Some.ensures)
