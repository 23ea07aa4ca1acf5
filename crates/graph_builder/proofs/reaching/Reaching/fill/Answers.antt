use Rattle.std.proofs.Common.{refl, arith, subst, List, Err}
use Rattle.url.specs.Parts.{Parts}
use Rattle.graph_builder.specs.declared.slot.Slot.{Slot}
use Rattle.graph_builder.specs.declared.slot.Slot.TheVariants.{Done}
use Rattle.graph_builder.specs.Rules.{rules_by, targets}
use Rattle.graph_builder.specs.Reaching.{Grows}
use Rattle.graph_builder.proofs.ReachingLemmas.{reached_longer, reached_key, marked, filled, fills_err}
use Rattle.graph_builder.proofs.reaching.Reaching.fill.Goals as goal

pub set_done-requires-clause-there : goal.set_done-requires-clause-there
set_done-requires-clause-there g c =
    omega (
      arith,
      c.requires.there,
      reached_longer _ c.args.self.now c.reach_targets.new.self
          (rw c.no_links-links.ensures.stays at c.in-Ok.ensures.grows),
    )

pub returns-in-Err-clause-fills : goal.returns-in-Err-clause-fills
returns-in-Err-clause-fills g c = λ s at.
    let rules = rules_by (g.W.Ways.means c.args.ways.now) (g.W.Ways.follows c.args.ways.now) in
    fills_err rules s c.args.entry c.args.self.now c.reach_targets.new.self c.in-Err.error
    (subst (λ (es : List (Parts × Slot)). Grows (targets rules c.args.entry)
    (record { reached = es; next = c.args.self.now.next; limit = c.args.self.now.limit }) c.reach_targets.new.self
    (Err c.in-Err.error)) c.no_links-links.ensures.stays c.in-Err.ensures.grows)

pub returns-in-Ok-set_done-clause-fills : goal.returns-in-Ok-set_done-clause-fills
returns-in-Ok-set_done-clause-fills g c = λ s at.
    let grown = rw c.no_links-links.ensures.stays at c.in-Ok.ensures.grows in
    filled (rules_by (g.W.Ways.means c.args.ways.now) (g.W.Ways.follows c.args.ways.now)) s c.args.entry c.args.self.now
    c.reach_targets.new.self
    (record
    { reached = c.set_done.new.self; next = c.reach_targets.new.self.next; limit = c.reach_targets.new.self.limit })
    grown
    (marked c.reach_targets.new.self
    (record
    { reached = c.set_done.new.self; next = c.reach_targets.new.self.next; limit = c.reach_targets.new.self.limit })
    s (Done c.args.entry)
    (λ t. c.in-Ok-set_done.ensures.at s t
    (reached_key _ c.args.self.now c.reach_targets.new.self c.args.number s grown at))
    c.in-Ok-set_done.ensures.keys refl) refl
