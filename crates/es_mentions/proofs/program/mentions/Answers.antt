use Rattle.es_variables.proofs.scope_numbers_lemmas.CutLemmas.{reads_cut}
use Rattle.es_mentions.proofs.program.mentions.Goals as goal

-- the tokens cut the text
pub invariant_of-source : goal.invariant_of-source
invariant_of-source c =
    record { cut = reads_cut c.args.text.now c.args.tokens.now c.utf8.text c.requires }
