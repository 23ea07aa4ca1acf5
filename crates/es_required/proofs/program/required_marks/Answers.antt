use Rattle.es_variables.proofs.scope_numbers_lemmas.CutLemmas.{reads_cut}
use Rattle.es_required.proofs.program.required_marks.Goals as goal

-- the tokens cut the text
pub invariant_of-walk_first : goal.invariant_of-walk_first
invariant_of-walk_first c = record { cut = reads_cut c.args.text.now c.args.tokens.now c.utf8.text c.requires }
