-- A number that is told by its digits alone is the one that stands there.
use Rattle.std.proofs.Common.{sym}
use Rattle.std.proofs.lemmas.List.{take_rest}
use Rattle.es_lexer.proofs.SpanLemmas.{number_told}
use Rattle.es_lexer.proofs.spans.number_end_from.Goals as goal

pub returns-in-Some-clause-value : goal.returns-in-Some-clause-value
returns-in-Some-clause-value c =
    (number_told c.args.start c.in-Some.end c.args.text.now _ c.in-len1-up.len_at_least c.if-b-eq46.false
    c.if-b-eq48.false (take_rest c.args.text.now 1) (sym c.in-Some.ensures)).value

pub returns-in-Some-clause-from : goal.returns-in-Some-clause-from
returns-in-Some-clause-from c =
    (number_told c.args.start c.in-Some.end c.args.text.now _ c.in-len1-up.len_at_least c.if-b-eq46.false
    c.if-b-eq48.false (take_rest c.args.text.now 1) (sym c.in-Some.ensures)).from

pub returns-in-Some-clause-within : goal.returns-in-Some-clause-within
returns-in-Some-clause-within c =
    (number_told c.args.start c.in-Some.end c.args.text.now _ c.in-len1-up.len_at_least c.if-b-eq46.false
    c.if-b-eq48.false (take_rest c.args.text.now 1) (sym c.in-Some.ensures)).within
