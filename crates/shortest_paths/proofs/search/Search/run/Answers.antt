use Rattle.std.proofs.Common.{◌+◌, ◌∙◌}
use Rattle.shortest_paths.proofs.FollowLemmas.{front_next, roots_kept}
use Rattle.shortest_paths.proofs.search.Search.run.Goals as goal

pub follow_all-requires-clause-search : goal.follow_all-requires-clause-search
follow_all-requires-clause-search c = (
  c.loop-alloc.invariant.0.0 + 1,
  front_next c.args.scope.links.now c.args.scope.roots.now c.args.scope.without c.loop-alloc.self.met
      c.loop-alloc.self.level c.loop-alloc.self.from c.loop-alloc.self.next c.as_slice.result.now
      c.replace-front.new.dest c.loop-alloc.invariant.0.0 (c.as_slice.ensures ∙ c.replace-front.ensures.value)
      (c.replace-front.ensures.after ∙ c.new.ensures) c.loop-alloc.invariant.0.1,
)

pub loop-alloc-preserved : goal.loop-alloc-preserved
loop-alloc-preserved c = (
  c.in_ok-follow_all.ensures.search,
  roots_kept c.args.scope.roots.now c.args.scope.without c.loop-alloc.self.met c.follow_all.new.self.met
      c.loop-alloc.self.level c.follow_all.new.self.level c.in_ok-follow_all.ensures.kept c.loop-alloc.invariant.1,
)
