use Rattle.std.proofs.Common.{◌≡◌, take}
use Rattle.graph_builder.specs.Graph.{texts}
use Rattle.graph_builder.specs.Reaching.{HasReached}
use Rattle.graph_builder.proofs.reaching.Reaching.reach_all.Given as goal

-- the specifiers so far are reached
abbrev pub invariant-loop-url : goal.invariant-loop-url
invariant-loop-url l = record {
  reached : HasReached (texts (take l.url-index l.urls)) l.fn.self l.self;
  limit : l.self.limit ≡ l.fn.self.limit;
}
