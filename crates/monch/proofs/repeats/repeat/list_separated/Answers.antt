-- The values so far are what the rounds so far have read.
use Rattle.std.proofs.Common.{rules}
use Rattle.monch.proofs.repeats_lemmas.RepeatLemmas.{SoFar-round, SoFar-ends, SoFar-last, SoFar-vec_refused}
use Rattle.monch.proofs.repeats.repeat.list_separated.Goals as goal

pub rounds-preserved : goal.rounds-preserved
rounds-preserved g c =
    let round = rw c.in-Next.is at c.in_ok-rest.ensures.round in
    let text = rw c.in-Next.is at c.in_ok-rest.ensures.text in
    (text, rw c.in_ok-push-in-Next.ensures.items (SoFar-round _ _ _ _ _ _ _ c.rounds.invariant.1 round))

pub returns-in_err-rest : goal.returns-in_err-rest
returns-in_err-rest g c =
    let given = SoFar-vec_refused _ _ _ _ _ _ c.rounds.invariant.1 c.in_err-rest.ensures.refused in
    search rules

pub returns-in-Last : goal.returns-in-Last
returns-in-Last g c =
    let ended = rw c.in-Last.is at c.in_ok-rest.ensures.round in
    rw c.in_ok-push-in-Last.ensures.items (SoFar-last _ _ _ _ _ _ _ c.rounds.invariant.1 ended)

pub returns-in-End : goal.returns-in-End
returns-in-End g c =
    let ended = rw c.in-End.is at c.in_ok-rest.ensures.round in
    SoFar-ends _ _ _ _ _ c.rounds.invariant.1 ended
