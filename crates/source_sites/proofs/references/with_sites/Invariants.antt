use Rattle.std.proofs.Common.{◌≡◌, ◌++◌}
use Rattle.source_sites.proofs.references.with_sites.Given as goal

-- those found, and the others so far
abbrev pub invariant-loop-site : goal.invariant-loop-site
invariant-loop-site l = l.all ≡ l.fn.found ++ l.yielded
