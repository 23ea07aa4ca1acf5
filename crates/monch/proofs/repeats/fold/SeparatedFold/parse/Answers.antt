-- The state is what the calls have made of the values so far.
use Rattle.std.proofs.Common.{rules}
use Rattle.monch.specs.repeats.Separated.{AdvancesTogether}
use Rattle.monch.specs.repeats.Advance.{alternating}
use Rattle.monch.proofs.repeats_lemmas.RepeatLemmas.{FoldsSoFar-start, FoldsSoFar-round, FoldsSoFar-ends, FoldsSoFar-last, FoldsSoFar-refused}
use Rattle.monch.proofs.repeats.fold.SeparatedFold.parse.Goals as goal

pub rounds-init : goal.rounds-init
rounds-init g c = (c.utf8.input, FoldsSoFar-start _ _ _ _ c.args.input.now)

pub rounds-smaller : goal.rounds-smaller
rounds-smaller g c =
    let round = rw c.in-Next.is at c.in_ok-rest.ensures.round in
    let shorter : AdvancesTogether (g.A.Combinator.gives c.args.self.item) (g.B.Combinator.gives c.args.self.separator) =
    alternating (g.A.Combinator.gives c.args.self.item) (g.B.Combinator.gives c.args.self.separator)
    (g.A.Combinator.leaves_suffix c.args.self.item c.requires.item) (g.B.Combinator.leaves_suffix c.args.self.separator c.requires.separator)
    (g.A.Combinator.leaves_less c.args.self.item c.requires.item) (g.B.Combinator.leaves_less c.args.self.separator c.requires.separator)
    c.requires.advances in
    shorter _ _ _ _ _ round.reads round.separates

pub rounds-preserved : goal.rounds-preserved
rounds-preserved g c =
    let round = rw c.in-Next.is at c.in_ok-rest.ensures.round in
    let text = rw c.in-Next.is at c.in_ok-rest.ensures.text in
    (text, FoldsSoFar-round _ _ _ _ _ _ _ _ _ _ c.rounds.invariant.1 round c.fold-state.ensures)

pub returns-in_err-rest : goal.returns-in_err-rest
returns-in_err-rest g c =
    let given = FoldsSoFar-refused _ _ _ _ _ _ _ _ c.rounds.invariant.1 c.in_err-rest.ensures.refused in
    search rules

pub returns-in-Last : goal.returns-in-Last
returns-in-Last g c =
    let ended = rw c.in-Last.is at c.in_ok-rest.ensures.round in
    FoldsSoFar-last _ _ _ _ _ _ _ _ _ _ c.rounds.invariant.1 ended c.fold.ensures

pub returns-in-End : goal.returns-in-End
returns-in-End g c =
    let ended = rw c.in-End.is at c.in_ok-rest.ensures.round in
    FoldsSoFar-ends _ _ _ _ _ _ _ c.rounds.invariant.1 ended
