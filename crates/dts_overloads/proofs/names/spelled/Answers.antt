use Rattle.std.proofs.Common.{sym}
use Rattle.dts_overloads.proofs.NameLemmas.{reads_cut}
use Rattle.dts_overloads.proofs.names.spelled.Goals as goal

-- each token cuts the text
pub cut-requires : goal.cut-requires
cut-requires c =
    reads_cut c.args.text.now c.args.tokens.now c.utf8.text c.requires c.args.at c.in-Some.token
    (sym c.in-Some.ensures)
