-- The text begins with the byte of which the class was found.
use Rattle.es_lexer.proofs.ByteLemmas.{slash_text, brace_text, dot_text}
use Rattle.es_lexer.proofs.look.look_from.Goals as goal

pub slash_from-requires-clause-slash : goal.slash_from-requires-clause-slash
slash_from-requires-clause-slash c = slash_text c.args.text.now c.in-len1-up.len_at_least c.in-Slash.ensures

pub brace_from-requires-clause-brace : goal.brace_from-requires-clause-brace
brace_from-requires-clause-brace c = brace_text c.args.text.now c.in-len1-up.len_at_least c.in-Brace.ensures

pub dot_from-requires-clause-dot : goal.dot_from-requires-clause-dot
dot_from-requires-clause-dot c = dot_text c.args.text.now c.in-len1-up.len_at_least c.in-Dot.ensures
