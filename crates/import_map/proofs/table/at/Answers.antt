use Rattle.std.proofs.Common.{sym, ap, ◌∙◌, Some, arith, ◌+◌, ◌-◌, ◌/◌}
use Rattle.import_map.proofs.EntriesLemmas.{at_any, entry_at-Some, entry_at-narrowed, narrowed_low, narrowed_high}
use Rattle.import_map.proofs.table.at.Goals as goal

pub returns-in-Equal : goal.returns-in-Equal
returns-in-Equal g c =
    let at = c.loop-low.low + (c.loop-low.high - c.loop-low.low) / 2 in
    ap Some c.index-table-middle-in-Equal.is
    ∙ sym (entry_at-Some c.args.table.now c.args.key.now at c.index-table-middle-in-Equal.result
    c.requires
    (omega (arith, c.loop-low.invariant.fits))
    (at_any c.args.table.now c.args.key.now at c.index-table-middle-in-Equal.result
    c.index-table-middle.result
    (omega (arith, c.loop-low.invariant.fits))
    (sym c.in-Equal.ensures)))

pub loop-low-preserved-in-Less : goal.loop-low-preserved-in-Less
loop-low-preserved-in-Less g c =
    narrowed_low _ _ _ _ _ c.index-table-middle.result c.requires c.loop-low.invariant (omega arith)
    (sym c.in-Less.ensures)

pub loop-low-preserved : goal.loop-low-preserved
loop-low-preserved g c =
    narrowed_high _ _ _ _ _ c.index-table-middle.result c.requires c.loop-low.invariant (omega arith)
    (sym c.in-Greater.ensures)

pub returns : goal.returns
returns g c = sym (entry_at-narrowed c.args.table.now c.args.key.now _ _ c.loop-low.invariant c.loop-low-test.false)
