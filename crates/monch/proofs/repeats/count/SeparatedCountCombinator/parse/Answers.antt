-- So many rounds have been read.
use Rattle.std.proofs.Common.{rules}
use Rattle.monch.specs.repeats.Separated.{AdvancesTogether}
use Rattle.monch.specs.repeats.Advance.{alternating}
use Rattle.monch.proofs.repeats_lemmas.RepeatLemmas.{CountsSoFar-start, CountsSoFar-round, CountsSoFar-ends, CountsSoFar-last, CountsSoFar-refused}
use Rattle.monch.proofs.repeats.count.SeparatedCountCombinator.parse.Goals as goal

pub rounds-init : goal.rounds-init
rounds-init g c = (c.utf8.input, CountsSoFar-start _ _ c.args.input.now)

pub rounds-preserved-in-Next : goal.rounds-preserved-in-Next
rounds-preserved-in-Next g c =
    let round = rw c.in-Next.is at c.in_ok-rest.ensures.round in
    let shorter : AdvancesTogether (g.A.Combinator.gives c.args.self.now.item) (g.B.Combinator.gives c.args.self.now.separator) =
    alternating (g.A.Combinator.gives c.args.self.now.item) (g.B.Combinator.gives c.args.self.now.separator)
    (g.A.Combinator.leaves_suffix c.args.self.now.item c.requires.0) (g.B.Combinator.leaves_suffix c.args.self.now.separator c.requires.1)
    (g.A.Combinator.leaves_less c.args.self.now.item c.requires.0) (g.B.Combinator.leaves_less c.args.self.now.separator c.requires.1)
    c.requires.2 in
    let text = rw c.in-Next.is at c.in_ok-rest.ensures.text in (
      text,
      CountsSoFar-round _ _ _ _ _ _ _ c.rounds.invariant.1 round
          (shorter _ _ _ _ _ round.reads round.separates),
    )

pub returns-in_err-rest : goal.returns-in_err-rest
returns-in_err-rest g c =
    let given = CountsSoFar-refused _ _ _ _ _ _ c.rounds.invariant.1 c.in_err-rest.ensures.refused in
    search rules

pub returns-in-Last : goal.returns-in-Last
returns-in-Last g c =
    let ended = rw c.in-Last.is at c.in_ok-rest.ensures.round in
    CountsSoFar-last _ _ _ _ _ _ _ c.rounds.invariant.1 ended

pub returns-in-End : goal.returns-in-End
returns-in-End g c =
    let ended = rw c.in-End.is at c.in_ok-rest.ensures.round in
    CountsSoFar-ends _ _ _ _ _ c.rounds.invariant.1 ended
