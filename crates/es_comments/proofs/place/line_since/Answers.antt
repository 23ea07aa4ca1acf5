-- Behind the same token, what was seen before holds, and what lies between is looked through.
use Rattle.std.proofs.Common.{sym, ◌∙◌, refl}
use Rattle.es_comments.proofs.TokenLemmas.{line_on}
use Rattle.es_comments.proofs.place.line_since.Goals as goal

pub returns-then-past : goal.returns-then-past
returns-then-past c =
    sym
    (line_on c.args.text.now c.args.tokens.now c.args.past c.args.passed c.args.place c.in-Some.last c.requires.past
    c.requires.on c.in-Some.ensures c.if-passed-past.true
    ∙ rw c.if-past.true refl)

pub returns-else-past : goal.returns-else-past
returns-else-past c =
    sym
    (line_on c.args.text.now c.args.tokens.now c.args.past c.args.passed c.args.place c.in-Some.last c.requires.past
    c.requires.on c.in-Some.ensures c.if-passed-past.true
    ∙ rw (c.if-past.false, c.has_line_end.ensures, c.max.ensures, c.range-end.ensures) refl)
