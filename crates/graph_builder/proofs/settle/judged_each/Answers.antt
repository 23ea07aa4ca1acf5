use Rattle.std.proofs.Common.{◌∙◌, ◌++◌, ◌∷◌, [], sym, ap, append_assoc}
use Rattle.graph_builder.proofs.SettlingLemmas.{place_now, judged_push, next_there, value_there}
use Rattle.graph_builder.proofs.settle.judged_each.Goals as goal

-- there is a verdict on each entry
pub bounds-verdicts-len : goal.bounds-verdicts-len
bounds-verdicts-len c =
    place_now c.args.values c.loop-first.yielded _ c.in-Some.first c.len-in-loop-first.result _
    (c.loop-first.invariant.whole ∙ ap (λ l. c.loop-first.yielded ++ l) c.in-Some.ensures.steps.0)
    (c.len-in-loop-first.ensures ∙ c.loop-first.invariant.counted) c.requires.even

pub judged-requires : goal.judged-requires
judged-requires c =
    let whole = c.loop-first.invariant.whole ∙ ap (λ l. c.loop-first.yielded ++ l) c.in-Some.ensures.steps.0 in
    let here = c.len-in-loop-first.ensures ∙ c.loop-first.invariant.counted in
    c.requires.each c.len-in-loop-first.result c.index-verdicts-len.result c.in-Some.first
    (value_there c.args.verdicts.now c.len-in-loop-first.result c.index-verdicts-len.result c.index-verdicts-len.result
    (place_now c.args.values c.loop-first.yielded _ c.in-Some.first c.len-in-loop-first.result _ whole here
    c.requires.even)
    c.index-verdicts-len.is)
    (next_there c.args.values c.loop-first.yielded _ c.in-Some.first c.len-in-loop-first.result whole here)

pub loop-first-preserved : goal.loop-first-preserved
loop-first-preserved c =
    let whole = c.loop-first.invariant.whole ∙ ap (λ l. c.loop-first.yielded ++ l) c.in-Some.ensures.steps.0 in
    let more = judged_push c.args.verdicts.now c.args.values c.loop-first.yielded _ c.loop-first.made c.push.new.self
    c.in-Some.first c.in_ok-entry.entry c.index-verdicts-len.result _ c.len-in-loop-first.result
    c.loop-first.invariant.made
    c.loop-first.invariant.counted whole c.requires.even c.len-in-loop-first.ensures c.index-verdicts-len.is
    c.in_ok-entry.ensures
    c.in_ok-push.ensures.ok in record {
      made = more.0;
      counted = more.1;
      whole = whole ∙ sym (append_assoc c.loop-first.yielded (c.in-Some.first ∷ []) _);
    }
