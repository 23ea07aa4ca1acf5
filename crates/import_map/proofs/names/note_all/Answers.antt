use Rattle.std.proofs.Common.{arith}
use Rattle.import_map.proofs.NamesLemmas.{notes_more, notes_all}
use Rattle.import_map.proofs.names.note_all.Goals as goal

pub loop-key-init : goal.loop-key-init
loop-key-init c = (tt, λ q n h. h)

pub loop-key-preserved : goal.loop-key-preserved
loop-key-preserved c = (
  notes_more c.loop-key.names.entries c.note.new.names.entries c.args.len c.args.table.now c.loop-key.key-index
      c.loop-key-item.result c.in_ok-note.ensures.kept c.loop-key.invariant.0 (omega (arith, c.loop-key-test.true))
      c.loop-key-item.is c.in_ok-note.ensures.noted,
  λ q n h. c.in_ok-note.ensures.kept q n (c.loop-key.invariant.1 q n h),
)

pub returns-clause-noted : goal.returns-clause-noted
returns-clause-noted c =
    notes_all c.loop-key.names.entries c.args.len c.args.table.now c.loop-key.key-index c.loop-key.invariant.0
    (omega (arith, c.loop-key-test.false))

pub returns-clause-kept : goal.returns-clause-kept
returns-clause-kept c = c.loop-key.invariant.1
