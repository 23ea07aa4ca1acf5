use Rattle.std.proofs.Common.{◌∙◌, sym}
use Rattle.shortest_paths.proofs.FollowLemmas.{meet_more, meet_less, meet_done}
use Rattle.shortest_paths.proofs.search.Search.meet_roots.Goals as goal
use Rattle.shortest_paths.proofs.search.Search.meet_roots.Goals.{then-keeps_root+in_ok-meet, else-keeps_root}

pub loop-root-preserved : goal.loop-root-preserved
loop-root-preserved c =
    elim c.if-keeps_root.branch [
      | then-keeps_root+in_ok-meet w ↦
          rw w.self-is
          (meet_more c.args.scope.links.now c.args.scope.roots.now c.args.scope.without c.loop-root.root-index
          c.loop-root.self.met c.loop-root.self.level c.loop-root.self.from c.loop-root.self.next w.meet.new.self.met
          w.meet.new.self.level w.meet.new.self.from w.meet.new.self.next c.requires.roots c.loop-root-test.true
          (sym c.keeps_root.ensures ∙ w.if-keeps_root.true) c.loop-root.invariant w.in_ok-meet.ensures.stays
          w.in_ok-meet.ensures.fresh)
      | else-keeps_root w ↦
          rw w.self-is
          (meet_less c.args.scope.links.now c.args.scope.roots.now c.args.scope.without c.loop-root.root-index
          c.loop-root.self.met c.loop-root.self.level c.loop-root.self.from c.loop-root.self.next
          (sym c.keeps_root.ensures ∙ w.if-keeps_root.false) c.loop-root.invariant)
    ]

pub returns-clause-roots : goal.returns-clause-roots
returns-clause-roots c =
    meet_done c.args.scope.links.now c.args.scope.roots.now c.args.scope.without c.loop-root.root-index
    c.loop-root.self.met c.loop-root.self.level c.loop-root.self.from c.loop-root.self.next c.loop-root-test.false
    c.loop-root.invariant
