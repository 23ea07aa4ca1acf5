-- So many rounds have been read.
use Rattle.std.proofs.Common.{rules}
use Rattle.monch.specs.core_parsers.Outcome.{Advances}
use Rattle.monch.specs.repeats.Advance.{advancing}
use Rattle.monch.proofs.repeats_lemmas.RepeatLemmas.{CountsSoFar-round, CountsSoFar-ends, CountsSoFar-refused}
use Rattle.monch.proofs.repeats.count.Many0CountCombinator.parse.Goals as goal

pub loop-rest-preserved-in-Some : goal.loop-rest-preserved-in-Some
loop-rest-preserved-in-Some g c =
    let item = rw c.in-Some.is at c.in_ok-rest.ensures.round in
    let text = rw c.in-Some.is at c.in_ok-rest.ensures.text in
    let shorter : Advances (g.A.Combinator.gives c.args.self.now.item) =
    advancing (g.A.Combinator.gives c.args.self.now.item) (g.A.Combinator.leaves_less c.args.self.now.item c.requires.0)
    c.requires.1 in
    (text, CountsSoFar-round _ _ _ _ _ _ _ c.loop-rest.invariant.1 item (shorter _ _ _ item.reads))

pub returns-in_err-rest : goal.returns-in_err-rest
returns-in_err-rest g c =
    let given = CountsSoFar-refused _ _ _ _ _ _ c.loop-rest.invariant.1 c.in_err-rest.ensures.refused in
    search rules

pub returns : goal.returns
returns g c =
    let ended = rw c.in_default.is at c.in_ok-rest.ensures.round in
    CountsSoFar-ends _ _ _ _ _ c.loop-rest.invariant.1 ended
