use Rattle.es_variables.proofs.scope_numbers_lemmas.CutLemmas.{reads_cut}
use Rattle.es_variables.proofs.scope.Scope.analyze.Goals as goal

-- the tokens cut the text
pub declared_in-requires : goal.declared_in-requires
declared_in-requires c = reads_cut c.args.text.now c.args.tokens.now c.utf8.text c.requires.reads
