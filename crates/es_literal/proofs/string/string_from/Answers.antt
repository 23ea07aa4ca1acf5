-- What is found is what the relation says.
use Rattle.es_literal.proofs.StringLemmas.{string_finds}
use Rattle.es_literal.proofs.string.string_from.Goals as goal

pub returns-clause-found : goal.returns-clause-found
returns-clause-found c = λ k. rw c.string_at.ensures (string_finds c.args.start c.args.text.now k)
