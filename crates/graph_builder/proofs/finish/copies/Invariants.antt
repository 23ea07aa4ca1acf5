use Rattle.std.proofs.Common.{◌≡◌, take}
use Rattle.graph_builder.proofs.finish.copies.Given as goal

abbrev pub invariant-loop-url : goal.invariant-loop-url
invariant-loop-url l = l.copy ≡ take l.url-index l.urls
