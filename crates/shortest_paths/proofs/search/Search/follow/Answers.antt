use Rattle.std.proofs.Common.{◌<◌, ◌+◌, ◌∙◌, sym, subst, ap, rules, ℕ, List, length}
use Rattle.std.specs.Prelude.{slice_index}
use Rattle.std.specs.List.{AllByRecursion}
use Rattle.topological_order.proofs.OrderLemmas.{all_at}
use Rattle.shortest_paths.proofs.FollowLemmas.{node_met, node_within, follow_more, follow_less, follow_done}
use Rattle.shortest_paths.proofs.search.Search.follow.Goals as goal
use Rattle.shortest_paths.proofs.search.Search.follow.Goals.{then-keeps+in_ok-meet, else-keeps}

pub targets_of-targets-requires : goal.targets_of-targets-requires
targets_of-targets-requires c =
    node_within c.args.scope.links.now c.args.scope.roots.now c.args.scope.without c.args.front.now c.args.at
    c.requires.at c.args.self.now.met c.args.self.now.level c.args.self.now.from c.args.self.now.next
    c.requires.search.0
    c.requires.search.1

pub bounds-as_slice-node : goal.bounds-as_slice-node
bounds-as_slice-node c =
    rw (c.as_slice.ensures, c.requires.search.1.level_len)
    (node_within c.args.scope.links.now c.args.scope.roots.now c.args.scope.without c.args.front.now c.args.at
    c.requires.at c.args.self.now.met c.args.self.now.level c.args.self.now.from c.args.self.now.next
    c.requires.search.0 c.requires.search.1)

pub offset_bounds-as_slice-node : goal.offset_bounds-as_slice-node
offset_bounds-as_slice-node c =
    let l : slice_index c.args.front.now c.args.at < length c.as_slice.result.now =
    rw (c.as_slice.ensures, c.requires.search.1.level_len)
    (node_within c.args.scope.links.now c.args.scope.roots.now c.args.scope.without c.args.front.now c.args.at
    c.requires.at c.args.self.now.met c.args.self.now.level c.args.self.now.from c.args.self.now.next
    c.requires.search.0 c.requires.search.1) in
    search rules

pub meet-requires-clause-met : goal.meet-requires-clause-met
meet-requires-clause-met c =
    rw c.loop-place.invariant.0.1.met_len
    (all_at (λ t. t < length c.args.scope.links.now) c.targets_of-targets.result.now c.loop-place.place
    (subst (λ (ts : List ℕ). AllByRecursion (λ t. t < length c.args.scope.links.now) ts)
    (sym c.targets_of-targets.ensures)
    (c.requires.within (slice_index c.args.front.now c.args.at))) c.loop-place-test.true)

pub loop-place-preserved : goal.loop-place-preserved
loop-place-preserved c =
    elim c.if-keeps.branch [
      | then-keeps+in_ok-meet w ↦
          rw w.self-is
          (follow_more c.args.scope.links.now c.args.scope.roots.now c.args.scope.without c.args.front.now c.args.at
          c.requires.at c.args.self.now.met c.args.self.now.level c.args.self.now.next c.loop-place.place
          c.loop-place.self.met c.loop-place.self.level c.loop-place.self.from c.loop-place.self.next _
          c.targets_of-targets.result.now w.meet.new.self.met w.meet.new.self.level w.meet.new.self.from
          w.meet.new.self.next c.requires.within
          (node_met c.args.scope.links.now c.args.scope.roots.now c.args.scope.without c.args.front.now c.args.at
          c.requires.at c.args.self.now.met c.args.self.now.level c.args.self.now.from c.args.self.now.next
          c.requires.search.0 c.requires.search.1)
          c.targets_of-targets.ensures c.loop-place-test.true
          (ap (λ (xs : List ℕ). slice_index xs (slice_index c.args.front.now c.args.at) + 1) c.as_slice.ensures)
          (sym c.keeps.ensures ∙ w.if-keeps.true) c.loop-place.invariant w.in_ok-meet.ensures.stays
          w.in_ok-meet.ensures.fresh)
      | else-keeps w ↦
          rw w.self-is
          (follow_less c.args.scope.links.now c.args.scope.roots.now c.args.scope.without c.args.front.now c.args.at
          c.requires.at c.args.self.now.met c.args.self.now.level c.args.self.now.next c.loop-place.place
          c.loop-place.self.met c.loop-place.self.level c.loop-place.self.from c.loop-place.self.next
          c.targets_of-targets.result.now c.targets_of-targets.ensures (sym c.keeps.ensures ∙ w.if-keeps.false)
          c.loop-place.invariant)
    ]

pub returns-clause-search : goal.returns-clause-search
returns-clause-search c =
    follow_done c.args.scope.links.now c.args.scope.roots.now c.args.scope.without c.args.front.now c.args.at
    c.requires.at c.args.self.now.met c.args.self.now.level c.args.self.now.next c.loop-place.place
    c.loop-place.self.met
    c.loop-place.self.level c.loop-place.self.from c.loop-place.self.next c.targets_of-targets.result.now
    c.targets_of-targets.ensures c.loop-place-test.false c.loop-place.invariant
