-- One more item, the first fault, and the end of the count, each by the loop's law.
use Rattle.std.proofs.lemmas.Result.{err_from_is_err_and}
use Rattle.wasm_dep_analyzer.specs.Values.{items_at}
use Rattle.wasm_dep_analyzer.proofs.LoopLemmas.{goes_on, ends, is_done}
use Rattle.wasm_dep_analyzer.proofs.values.read_items.Goals as goal

pub returns-in_err-item : goal.returns-in_err-item
returns-in_err-item g c =
    let p = err_from_is_err_and c.from_residual.result c.from_residual.ensures.1 in
    let one = g.R.ReadItem.item c.args.reader.now in
    rw (p.1, p.2) (ends one (g.R.ReadItem.show_all c.loop.items.items) c.args.count c.loop.counter c.loop.rest.now
    c.in_err-item.field-0.0 (items_at one c.args.count c.args.input.now) c.loop-test.true c.in_err-item.ensures
    c.loop.invariant)

pub loop-preserved : goal.loop-preserved
loop-preserved g c =
    let one = g.R.ReadItem.item c.args.reader.now in
    rw (c.in_ok-push.ensures.items, g.R.ReadItem.shows_more c.loop.items.items c.in_ok-item.item)
    (goes_on one (g.R.ReadItem.show_all c.loop.items.items) c.args.count c.loop.counter c.loop.rest.now
    (g.R.ReadItem.show c.in_ok-item.item) c.in_ok-item.after.now (items_at one c.args.count c.args.input.now)
    c.loop-test.true c.in_ok-item.ensures c.loop.invariant)

pub returns : goal.returns
returns g c =
    let one = g.R.ReadItem.item c.args.reader.now in
    is_done one (g.R.ReadItem.show_all c.loop.items.items) c.args.count c.loop.counter c.loop.rest.now
    (items_at one c.args.count c.args.input.now) c.loop-test.false c.loop.invariant
