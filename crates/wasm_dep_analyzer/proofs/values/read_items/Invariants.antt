-- the items so far, and what is still read, are what is read from the start
use Rattle.std.proofs.Common.{◌≡◌, ◌-◌}
use Rattle.wasm_dep_analyzer.specs.Values.{items_at}
use Rattle.wasm_dep_analyzer.proofs.LoopLemmas.{with_front}
use Rattle.wasm_dep_analyzer.proofs.values.read_items.Given as goal

abbrev pub invariant-loop : goal.invariant-loop
invariant-loop g l =
    with_front (g.R.ReadItem.show_all l.items.items)
    (items_at (g.R.ReadItem.item l.reader) (l.count - l.counter) l.rest)
    ≡ items_at (g.R.ReadItem.item l.reader) l.count l.input
