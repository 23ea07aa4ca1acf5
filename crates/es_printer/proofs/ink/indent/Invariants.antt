use Rattle.std.proofs.Common.{◌≡◌, ◌++◌}
use Rattle.std.specs.Prelude.{string_bytes}
use Rattle.es_printer.specs.Lines.{indent}
use Rattle.es_printer.proofs.ink.indent.Given as goal

-- the blanks that are left, behind those that are written
abbrev pub invariant-loop-left : goal.invariant-loop-left
invariant-loop-left l = string_bytes l.out ++ indent l.left ≡ string_bytes l.initial.out ++ indent l.depth

abbrev pub decreases-loop-left : goal.decreases-loop-left
decreases-loop-left l = l.left
