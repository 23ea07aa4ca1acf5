use Rattle.std.proofs.Common.{take}
use Rattle.graph_tables.specs.specifier_table.Numbers.{HasNumbers, plain}
use Rattle.graph_tables.proofs.specifier_table.order.places.Given as goal

-- the numbers so far
abbrev pub invariant-loop-number : goal.invariant-loop-number
invariant-loop-number g l = HasNumbers (take l.number l.all) (plain l.map.entries)
