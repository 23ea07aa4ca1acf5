-- What stands last by now is what the whole ends with.
use Rattle.std.proofs.Common.{length}
use Rattle.es_syntax.specs.Held.{valued}
use Rattle.es_syntax.specs.Roles.{expr_in}
use Rattle.cjs_calls.specs.Rights.{LastOf}
use Rattle.cjs_calls.proofs.rights.last_right.Given as goal

abbrev pub invariant-loop-right : goal.invariant-loop-right
invariant-loop-right l = LastOf (expr_in (valued l.text l.tokens l.it)) (expr_in (valued l.text l.tokens l.last))

abbrev pub decreases-loop-right : goal.decreases-loop-right
decreases-loop-right l = length l.last.parts.entries.now
