-- A byte of ASCII that is no part begins none.
use Rattle.es_lexer.proofs.NarrowLemmas.{no_part}
use Rattle.es_lexer.proofs.bytes.part_unit.Goals as goal

pub returns-then-b-lt128-clause-value : goal.returns-then-b-lt128-clause-value
returns-then-b-lt128-clause-value c =
    no_part c.args.text.now c.is_part.result c.in-len1-up.len_at_least c.is_part.ensures c.if-is_part.false
    c.if-b-lt128.true
