use Rattle.dts_overloads.specs.Met.{way_of}
use Rattle.dts_overloads.specs.Left.{ahead}
use Rattle.dts_overloads.proofs.WalkLemmas.{some_takes}
use Rattle.dts_overloads.proofs.walk.advance.Goals as goal

pub returns-in_ok-enter-in-Some-clause-takes : goal.returns-in_ok-enter-in-Some-clause-takes
returns-in_ok-enter-in-Some-clause-takes c =
    let x = c.args.text.now in
    let ts = c.args.tokens.now in
    some_takes x ts c.args.frame.row.entries.now (way_of c.args.frame.mode) (ahead x ts c.args.stack.now)
    (c.in-Some.item, c.in-Some.others) (way_of c.ways-inward.result.0) (way_of c.ways-inward.result.1)
    (ahead x ts c.put.new.stack) (ahead x ts c.enter.new.stack) c.args.found.now c.enter.new.found
    c.in-Some.ensures.trees (c.ways-inward.ensures.inward x ts) (c.ways-inward.ensures.onward x ts)
    (c.in_ok-put-in-Some.ensures.told x ts) c.in_ok-enter-in-Some.ensures.takes
