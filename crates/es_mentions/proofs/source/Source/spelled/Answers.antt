use Rattle.std.proofs.Common.{sym}
use Rattle.es_variables.proofs.declarations_lemmas.CutLemmas.{cut_told}
use Rattle.es_mentions.proofs.source.Source.spelled.Goals as goal

-- a token cuts the text
pub cut-requires : goal.cut-requires
cut-requires c =
    cut_told c.args.self.now.text.now c.args.self.now.tokens.now c.args.self.now.cut c.args.at c.in-Some.token
    (sym c.in-Some.ensures)
