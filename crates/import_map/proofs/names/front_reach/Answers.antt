use Rattle.import_map.proofs.NamesLemmas.{tried_none, tried_more, tried_all}
use Rattle.import_map.proofs.names.front_reach.Goals as goal

pub loop-end-init : goal.loop-end-init
loop-end-init c = tried_none c.args.text.now c.args.names.now

pub loop-end-preserved : goal.loop-end-preserved
loop-end-preserved c =
    rw (c.max-longest.ensures, c.noted_at.ensures, c.front_at.ensures)
    (tried_more c.args.text.now c.args.names.now c.loop-end.end c.loop-end.longest c.loop-end.invariant
    c.loop-end-test.true)

pub returns : goal.returns
returns c =
    tried_all c.args.text.now c.args.names.now c.loop-end.end c.loop-end.longest c.loop-end.invariant
    c.loop-end-test.false
