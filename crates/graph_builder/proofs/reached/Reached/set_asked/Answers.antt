use Rattle.std.proofs.Common.{refl}
use Rattle.graph_builder.specs.declared.slot.Slot.TheVariants as slot
use Rattle.graph_builder.specs.declared.links.Place.TheVariants as place
use Rattle.graph_builder.proofs.LinksLemmas.{placed_mark, slots_mark, within_places, written_at, written_keys}
use Rattle.graph_builder.proofs.reached.Reached.set_asked.Goals as goal

pub set-requires : goal.set-requires
set-requires c =
    within_places _ _ c.self.inside.links.places c.self.inside.entries c.args.self.now c.args.number c.self.invariant
    c.self.view_is c.requires

pub invariant_of-self : goal.invariant_of-self
invariant_of-self c =
    rw c.set.ensures
    (placed_mark _ _ c.self.inside.links.places c.self.inside.entries c.args.number place.Asked (λ e. tt)
    c.self.invariant)

pub returns-clause-at : goal.returns-clause-at
returns-clause-at c = λ s t at.
    rw c.set.ensures
    (written_at _ _ c.self.inside.links.places c.self.inside.entries c.args.self.now _ c.args.number slot.Asked
    c.self.invariant c.self.view_is c.count-count.ensures.once
    (slots_mark _ _ c.self.inside.links.places c.self.inside.entries c.args.number place.Asked slot.Asked (λ e. refl)
    c.self.invariant) s t at)

pub returns-clause-keys : goal.returns-clause-keys
returns-clause-keys c =
    rw c.set.ensures
    (written_keys c.self.inside.links.places c.self.inside.entries c.args.self.now _ c.args.number slot.Asked
    c.self.view_is
    (slots_mark _ _ c.self.inside.links.places c.self.inside.entries c.args.number place.Asked slot.Asked (λ e. refl)
    c.self.invariant))
