-- Each step asks whether one more token begins before the place.
use Rattle.es_comments.proofs.TokenLemmas.{counts_more, counts_end, counts_all}
use Rattle.es_comments.proofs.place.pass.Goals as goal

pub loop-passed-preserved : goal.loop-passed-preserved
loop-passed-preserved c =
    counts_more c.args.tokens.now c.args.place c.loop-passed.passed _ c.loop-passed.invariant c.loop-passed-test.true
    (rw (c.range.ensures, c.index-tokens-passed.is) at c.if-range-place.true)

pub returns-else-range-place : goal.returns-else-range-place
returns-else-range-place c =
    counts_end c.args.tokens.now c.args.place c.loop-passed.passed _ c.loop-passed.invariant
    (rw (c.range.ensures, c.index-tokens-passed.is) at c.if-range-place.false)

pub returns-after-loop-passed : goal.returns-after-loop-passed
returns-after-loop-passed c =
    counts_all c.args.tokens.now c.args.place c.loop-passed.passed c.loop-passed.invariant c.loop-passed-test.false
