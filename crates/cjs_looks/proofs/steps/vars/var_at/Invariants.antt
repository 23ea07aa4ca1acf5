use Rattle.std.specs.Option.{option_copied}
use Rattle.std.proofs.Common.{◌≡◌, take}
use Rattle.cjs_facts.specs.Exports.{var_in}
use Rattle.cjs_looks.specs.Seen.{name_at}
use Rattle.cjs_looks.proofs.steps.vars.var_at.Given as goal

-- the last among the first ones
abbrev pub invariant-loop-var : goal.invariant-loop-var
invariant-loop-var l = option_copied l.last ≡ var_in (take l.var-index l.vars) (name_at l.text l.tokens l.at)
