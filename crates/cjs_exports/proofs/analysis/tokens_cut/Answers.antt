use Rattle.es_exports.proofs.Bodies.{reads_cut}
use Rattle.cjs_exports.proofs.analysis.tokens_cut.Goals as goal

-- each token ends behind its start, between characters
pub returns : goal.returns
returns c = reads_cut c.args.text.now c.args.tokens.now c.utf8.text c.requires
