-- What is left decides; what was passed can name none.
use Rattle.std.proofs.Common.{◌≡◌, ◌≤◌, length}
use Rattle.es_tree_sites.specs.Named.{any_may_name}
use Rattle.es_tree_sites.proofs.LeftLemmas.{Passed}
use Rattle.es_tree_sites.proofs.search.first_named.Given as goal

abbrev pub invariant-loop-entry : goal.invariant-loop-entry
invariant-loop-entry l =
    (any_may_name l.row ≡ any_may_name l.fn.entries) × (length l.row ≤ length l.fn.entries) × Passed l.fn.entries l.row

abbrev pub decreases-loop-entry : goal.decreases-loop-entry
decreases-loop-entry l = length l.row
