use Rattle.std.proofs.Common.{sym, arith, inl, inr}
use Rattle.import_map.proofs.FrontsLemmas.{cut_low, cut_high, cut_done}
use Rattle.import_map.proofs.fronts.upto.Goals as goal

pub loop-low-preserved-in-Greater : goal.loop-low-preserved-in-Greater
loop-low-preserved-in-Greater g c = (
  cut_high _ _ _ _ _ c.index-table-middle.result c.requires c.loop-low.invariant.0 (omega arith)
      (sym c.in-Greater.ensures),
  omega arith,
)

pub loop-low-preserved-in-Less : goal.loop-low-preserved-in-Less
loop-low-preserved-in-Less g c = (
  cut_low _ _ _ _ _ c.index-table-middle.result c.requires c.loop-low.invariant.0 (omega arith)
      (inl (sym c.in-Less.ensures)),
  omega arith,
)

pub loop-low-preserved : goal.loop-low-preserved
loop-low-preserved g c = (
  cut_low _ _ _ _ _ c.index-table-middle.result c.requires c.loop-low.invariant.0 (omega arith)
      (inr (sym c.in-Equal.ensures)),
  omega arith,
)

pub returns : goal.returns
returns g c =
    cut_done c.args.table.now c.args.sought.now c.loop-low.low c.loop-low.high c.loop-low.invariant.0
    c.loop-low.invariant.1 c.loop-low-test.false
