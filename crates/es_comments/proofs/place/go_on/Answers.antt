-- No fewer tokens begin before a later place.
use Rattle.es_comments.proofs.TokenLemmas.{counts_on}
use Rattle.es_comments.proofs.place.go_on.Goals as goal

pub pass-passed-requires : goal.pass-passed-requires
pass-passed-requires c =
    rw c.requires.past.passed (counts_on c.args.tokens.now c.args.past.place c.args.place c.requires.on)
