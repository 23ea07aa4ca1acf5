-- What is left of the marks declares what all of them do.
use Rattle.std.specs.Prelude.{ℕ, []}
use Rattle.std.proofs.Common.{◌≡◌, ◌++◌, length}
use Rattle.es_scopes.specs.Numbers.{named_in}
use Rattle.es_variables.specs.scope_numbers.Stacks.{declared_in}
use Rattle.es_variables.specs.scope_numbers.Meets.{tokens_in}
use Rattle.es_variables.proofs.scope_numbers.declared.declared_names.Given as goal

abbrev pub invariant-loop-mark : goal.invariant-loop-mark
invariant-loop-mark l =
    (n : ℕ) → tokens_in l.declared n ++ declared_in n (named_in l.opened.around l.opened.next l.row)
    ≡ declared_in n (named_in [] 1 l.marks)

abbrev pub decreases-loop-mark : goal.decreases-loop-mark
decreases-loop-mark l = length l.row
