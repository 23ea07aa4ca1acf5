use Rattle.std.proofs.Common.{◌≡◌, map, take}
use Rattle.std.specs.List.{filter_map}
use Rattle.graph_entry.specs.Entry.{edge_target}
use Rattle.graph_builder.specs.Rules.{led_to, is_followed}
use Rattle.graph_builder.specs.ByText.{keys_at}
use Rattle.graph_builder.specs.Links.{AreLinks}
use Rattle.graph_builder.specs.Reaching.{HasReached}
use Rattle.graph_builder.proofs.reaching.Reaching.reach_dependencies.Given as goal

-- the targets so far are reached
abbrev pub invariant-loop-dependency : goal.invariant-loop-dependency
invariant-loop-dependency l = record {
  reached : HasReached (filter_map (led_to (is_followed l.following l.typed)) (take l.dependency-index l.dependencies))
      l.fn.self l.self;
  linked : AreLinks (keys_at l.self.reached) l.links.items (map edge_target (take l.dependency-index l.dependencies));
  limit : l.self.limit ≡ l.fn.self.limit;
}
