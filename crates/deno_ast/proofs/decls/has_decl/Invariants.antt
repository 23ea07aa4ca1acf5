-- What is left has an import or an export where all do.
use Rattle.std.proofs.Common.{◌≡◌, length}
use Rattle.std.specs.List.{list_any}
use Rattle.es_program.specs.items.Lent.{items_left}
use Rattle.deno_ast.specs.Steps.{is_decl}
use Rattle.deno_ast.proofs.decls.has_decl.Given as goal

abbrev pub invariant-loop-item : goal.invariant-loop-item
invariant-loop-item l = list_any is_decl (items_left l.rest) ≡ list_any is_decl (items_left l.fn.body)

abbrev pub decreases-loop-item : goal.decreases-loop-item
decreases-loop-item l = length l.rest.turns.entries.now
