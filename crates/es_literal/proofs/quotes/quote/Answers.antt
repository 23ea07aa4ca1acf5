-- What is written is a literal that stands for the text.
use Rattle.es_literal.proofs.QuoteLemmas.{quoted_string, text_value, text_lone}
use Rattle.std.proofs.Common.{chars}
use Rattle.es_literal.proofs.quotes.quote.Goals as goal

pub returns-clause-whole : goal.returns-clause-whole
returns-clause-whole c = rw (c.from_string.ensures, c.in_ok-quoted.ensures) (quoted_string (chars c.args.value.now))

pub returns-clause-text : goal.returns-clause-text
returns-clause-text c = rw (c.from_string.ensures, c.in_ok-quoted.ensures) (text_value c.args.value.now c.utf8.value)

pub returns-clause-lone : goal.returns-clause-lone
returns-clause-lone c = rw (c.from_string.ensures, c.in_ok-quoted.ensures) (text_lone c.args.value.now c.utf8.value)
