use Rattle.std.proofs.Common.{sym}
use Rattle.dts_overloads.proofs.NameLemmas.{reads_cut}
use Rattle.dts_overloads.proofs.names.spelled_private.Goals as goal

-- each token cuts the text
pub cut_second-requires : goal.cut_second-requires
cut_second-requires c =
    reads_cut c.args.text.now c.args.tokens.now c.utf8.text c.requires c.args.at c.in-Some.token
    (sym c.in-Some.ensures)
