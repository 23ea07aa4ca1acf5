use Rattle.std.proofs.Common.{◌≡◌, take}
use Rattle.deno_ast.proofs.source.copy_sites.Given as goal

-- the sites so far
abbrev pub invariant-loop-site : goal.invariant-loop-site
invariant-loop-site l = l.copy ≡ take l.site-index l.found
