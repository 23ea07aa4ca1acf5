use Rattle.std.proofs.Common.{◌≡◌, filter}
use Rattle.cjs_exports.specs.names.Sets.{lacks}
use Rattle.cjs_exports.proofs.names.names.without.Given as goal

-- those among the names so far that the others lack
abbrev pub invariant-loop-name : goal.invariant-loop-name
invariant-loop-name l = l.left ≡ filter (lacks l.others.keys) l.yielded
