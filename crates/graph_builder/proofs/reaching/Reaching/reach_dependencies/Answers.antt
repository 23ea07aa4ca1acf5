use Rattle.std.proofs.Common.{◌∙◌, ap, map, take, ◌+◌, List}
use Rattle.std.specs.Prelude.{option_to_list}
use Rattle.std.specs.List.{filter_map}
use Rattle.graph_entry.specs.Entry.{edge_target}
use Rattle.graph_builder.specs.Rules.{led_to, is_followed}
use Rattle.graph_builder.specs.Reach.{Specifier, has}
use Rattle.graph_builder.proofs.ReachingLemmas.{reached_more, grows_err, filter_map_more, has_filter_map_take, ends_more, links_more}
use Rattle.graph_builder.proofs.reaching.Reaching.reach_dependencies.Goals as goal

-- the targets so far and the next one are the first of the targets
pub returns-in-Err-clause-grows : goal.returns-in-Err-clause-grows
returns-in-Err-clause-grows c =
    let more = filter_map_more (led_to (is_followed c.args.following c.args.typed)) c.args.dependencies.now
    c.loop-dependency.dependency-index c.dependency-item.result
    c.loop-dependency-test.true c.dependency-item.is in
    grows_err (filter_map (led_to (is_followed c.args.following c.args.typed))
    (take c.loop-dependency.dependency-index c.args.dependencies.now))
    (option_to_list ((led_to (is_followed c.args.following c.args.typed)) c.dependency-item.result))
    (filter_map (led_to (is_followed c.args.following c.args.typed)) c.args.dependencies.now)
    c.args.self.now c.loop-dependency.self c.reach_dependency.new.self c.in-Err.error
    c.loop-dependency.invariant.reached c.loop-dependency.invariant.limit
    (λ t h. has_filter_map_take (led_to (is_followed c.args.following c.args.typed)) c.args.dependencies.now
    (c.loop-dependency.dependency-index + 1) t
    (ap (λ (xs : List Specifier). has xs t) more ∙ h))
    c.in-Err.ensures.grows

pub loop-dependency-preserved : goal.loop-dependency-preserved
loop-dependency-preserved c =
    let more = filter_map_more (led_to (is_followed c.args.following c.args.typed)) c.args.dependencies.now
    c.loop-dependency.dependency-index c.dependency-item.result
    c.loop-dependency-test.true c.dependency-item.is in
    let ends = ends_more c.args.dependencies.now c.loop-dependency.dependency-index c.dependency-item.result
    c.loop-dependency-test.true c.dependency-item.is in
    record {
      reached = rw more
          (reached_more (filter_map (led_to (is_followed c.args.following c.args.typed))
          (take c.loop-dependency.dependency-index c.args.dependencies.now))
          (option_to_list ((led_to (is_followed c.args.following c.args.typed)) c.dependency-item.result))
          c.args.self.now c.loop-dependency.self c.reach_dependency.new.self c.loop-dependency.invariant.reached
          c.in-Ok.ensures.grows);
      linked = rw ends
          (links_more (option_to_list ((led_to (is_followed c.args.following c.args.typed)) c.dependency-item.result))
          c.loop-dependency.self c.reach_dependency.new.self c.loop-dependency.links.items
          c.reach_dependency.new.links.items
          (map edge_target (take c.loop-dependency.dependency-index c.args.dependencies.now))
          (edge_target c.dependency-item.result) c.in-Ok.ensures.grows c.loop-dependency.invariant.linked
          c.in-Ok.ensures.linked);
      limit = c.in-Ok.ensures.limit ∙ c.loop-dependency.invariant.limit;
    }
