-- A byte of ASCII is a part by itself, or begins an escape, or begins none.
use Rattle.es_lexer.proofs.NarrowLemmas.{unit_of_part, no_unit, wide_unit}
use Rattle.es_lexer.proofs.bytes.word_unit.Goals as goal

pub returns-then-is_part-clause-value : goal.returns-then-is_part-clause-value
returns-then-is_part-clause-value c =
    unit_of_part c.args.text.now c.is_part.result c.in-len1-up.len_at_least c.is_part.ensures c.if-is_part.true

pub returns-then-b-lt128-clause-value : goal.returns-then-b-lt128-clause-value
returns-then-b-lt128-clause-value c =
    no_unit c.args.text.now c.is_part.result c.in-len1-up.len_at_least c.is_part.ensures c.if-is_part.false
    c.if-b-eq92.false c.if-b-lt128.true

pub returns-else-b-lt128-clause-value : goal.returns-else-b-lt128-clause-value
returns-else-b-lt128-clause-value c =
    wide_unit c.args.text.now c.is_part.result c.wide_size.result c.in-len1-up.len_at_least c.is_part.ensures
    c.if-is_part.false c.if-b-eq92.false c.wide_size.ensures.value
