-- Before the text's front nothing stands.
use Rattle.es_comments.proofs.TokenLemmas.{past_none}
use Rattle.es_comments.proofs.place.go_to.Goals as goal

pub go_on-requires-clause-past : goal.go_on-requires-clause-past
go_on-requires-clause-past c = past_none c.args.text.now c.args.tokens.now
