use Rattle.std.proofs.Common.{◌≡◌, map}
use Rattle.graph_tables.specs.specifier_table.Numbers.{plain}
use Rattle.graph_tables.proofs.specifier_table.order.listed.Given as goal

-- the numbers so far
abbrev pub invariant-loop-number : goal.invariant-loop-number
invariant-loop-number l = l.order ≡ map (λ e. e.1) (plain l.yielded)
