-- Another byte of ASCII is no part and begins none.
use Rattle.std.proofs.Common.{sym}
use Rattle.es_lexer.proofs.NarrowLemmas.{no_unit}
use Rattle.es_lexer.proofs.bytes.ends_word.Goals as goal

pub returns-then-b-lt128-clause-none : goal.returns-then-b-lt128-clause-none
returns-then-b-lt128-clause-none c =
    sym (no_unit c.args.text.now c.is_part.result c.in-len1-up.len_at_least c.is_part.ensures c.if-is_part.false
    c.if-b-eq92.false c.if-b-lt128.true)
