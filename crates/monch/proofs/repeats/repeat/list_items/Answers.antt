-- The values so far are what the rounds so far have read.
use Rattle.std.proofs.Common.{rules}
use Rattle.monch.specs.core_parsers.Outcome.{Advances}
use Rattle.monch.specs.repeats.Advance.{advancing}
use Rattle.monch.proofs.repeats_lemmas.RepeatLemmas.{SoFar-start, SoFar-round, SoFar-ends, SoFar-vec_refused}
use Rattle.monch.proofs.repeats.repeat.list_items.Goals as goal

pub loop-values-init : goal.loop-values-init
loop-values-init g c = (c.utf8.input, rw c.new-values.ensures.items (SoFar-start _ _ c.args.input.now))

pub loop-values-smaller : goal.loop-values-smaller
loop-values-smaller g c =
    let item = rw c.in-Some.is at c.in_ok-rest.ensures.round in
    let shorter : Advances (g.A.Combinator.gives c.args.item.now) =
    advancing (g.A.Combinator.gives c.args.item.now) (g.A.Combinator.leaves_less c.args.item.now c.requires.item)
    c.requires.advances in
    shorter _ _ _ item.reads

pub loop-values-preserved : goal.loop-values-preserved
loop-values-preserved g c =
    let item = rw c.in-Some.is at c.in_ok-rest.ensures.round in
    let text = rw c.in-Some.is at c.in_ok-rest.ensures.text in
    (text, rw c.in_ok-push.ensures.items (SoFar-round _ _ _ _ _ _ _ c.loop-values.invariant.1 item))

pub returns-in_err-rest : goal.returns-in_err-rest
returns-in_err-rest g c =
    let given = SoFar-vec_refused _ _ _ _ _ _ c.loop-values.invariant.1 c.in_err-rest.ensures.refused in
    search rules

pub returns : goal.returns
returns g c =
    let ended = rw c.in_default.is at c.in_ok-rest.ensures.round in
    SoFar-ends _ _ _ _ _ c.loop-values.invariant.1 ended
