-- The numbers by now, and those of the names that are left, are those of all.
use Rattle.std.specs.Prelude.{[]}
use Rattle.std.proofs.Common.{◌≡◌, ◌++◌, length}
use Rattle.es_scopes.specs.Numbers.{named_in, numbered}
use Rattle.es_variables.specs.scope_numbers.Stacks.{left_in, AreDeclared, AreStacked}
use Rattle.es_variables.specs.scope_numbers.Spelt.{tops_in}
use Rattle.es_variables.specs.scope_numbers.Meets.{tokens_in}
use Rattle.es_variables.proofs.scope_numbers.ids.scope_ids.Given as goal

abbrev pub invariant-loop-mark : goal.invariant-loop-mark
invariant-loop-mark l =
    AreDeclared (named_in [] 1 l.marks) (tokens_in l.declared)
    × AreStacked l.text l.tokens (named_in [] 1 l.marks) l.opened.around (tops_in l.tops)
    × (l.ids ++ left_in l.text l.tokens (named_in [] 1 l.marks) l.opened l.row
    ≡ numbered l.text l.tokens (named_in [] 1 l.marks) (named_in [] 1 l.marks))

abbrev pub decreases-loop-mark : goal.decreases-loop-mark
decreases-loop-mark l = length l.row
