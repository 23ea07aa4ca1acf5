use Rattle.es_variables.proofs.scope_numbers_lemmas.CutLemmas.{reads_cut}
use Rattle.es_variables.proofs.scope_numbers.ids.scope_ids.Goals as goal

-- the tokens cut the text
pub meet-requires : goal.meet-requires
meet-requires c = reads_cut c.args.text.now c.args.tokens.now c.utf8.text c.requires
