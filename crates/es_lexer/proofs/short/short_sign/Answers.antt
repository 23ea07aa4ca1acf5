-- The text has three bytes at least.
use Rattle.es_lexer.proofs.ShortLemmas.{found_before, none_at, short_told}
use Rattle.es_lexer.proofs.short.short_sign.Goals as goal

pub returns-in-len3-up-clause-found : goal.returns-in-len3-up-clause-found
returns-in-len3-up-clause-found c =
    found_before c.args.goal c.args.text.now c.short_before.result c.in-len3-up.len_at_least
    c.short_before.ensures.found

pub returns-in-len3-up-clause-value : goal.returns-in-len3-up-clause-value
returns-in-len3-up-clause-value c =
    short_told c.args.goal.bracket c.args.text.now c.short_before.result c.in-len3-up.len_at_least
    c.short_before.ensures.value

-- A shorter text has none.
pub returns-in_default-clause-value : goal.returns-in_default-clause-value
returns-in_default-clause-value c = none_at c.args.goal.bracket c.args.text.now c.in_default.len_below
