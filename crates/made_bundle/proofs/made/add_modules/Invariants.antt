use Rattle.made_bundle.specs.Made.{Adds, modules_upto}
use Rattle.made_bundle.proofs.made.add_modules.Given as goal

-- the modules so far were added
abbrev pub invariant-loop-number : goal.invariant-loop-number
invariant-loop-number l = Adds l.initial.out l.out (modules_upto l.count l.number)
