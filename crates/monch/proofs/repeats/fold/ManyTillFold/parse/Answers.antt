-- The state is what the calls have made of the values so far.
use Rattle.std.proofs.Common.{rules}
use Rattle.monch.proofs.repeats_lemmas.RepeatLemmas.{FoldsSoFar-start, FoldsSoFar-round, FoldsSoFar-ends, FoldsSoFar-refused}
use Rattle.monch.proofs.repeats.fold.ManyTillFold.parse.Goals as goal

pub loop-self-init : goal.loop-self-init
loop-self-init g c = (c.utf8.input, FoldsSoFar-start _ _ _ _ c.args.input.now)

pub loop-self-preserved : goal.loop-self-preserved
loop-self-preserved g c =
    let item = rw c.in-Some.is at c.in_ok-rest.ensures.round in
    let text = rw c.in-Some.is at c.in_ok-rest.ensures.text in
    (text, FoldsSoFar-round _ _ _ _ _ _ _ _ _ _ c.loop-self.invariant.1 item c.fold-state.ensures)

pub returns-in_err-rest : goal.returns-in_err-rest
returns-in_err-rest g c =
    let given = FoldsSoFar-refused _ _ _ _ _ _ _ _ c.loop-self.invariant.1 c.in_err-rest.ensures.refused in
    search rules

pub returns : goal.returns
returns g c =
    let ended = rw c.in_default.is at c.in_ok-rest.ensures.round in
    FoldsSoFar-ends _ _ _ _ _ _ _ c.loop-self.invariant.1 ended
