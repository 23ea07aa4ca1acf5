use Rattle.std.proofs.Common.{◌≡◌}
use Rattle.graph_tables.specs.specifier_table.Numbers as numbers
use Rattle.graph_builder.specs.declared.slot.Slot.TheVariants as slot
use Rattle.graph_builder.specs.declared.links.Place.TheVariants as place
use Rattle.graph_builder.specs.Links.{slots_in}
use Rattle.graph_builder.proofs.LinksLemmas.{within_places, within_entries, written_at, written_keys, slots_set, done_placed}
use Rattle.graph_builder.proofs.reached.Reached.set_done.Goals as goal

pub set-requires : goal.set-requires
set-requires c =
    within_places _ _ c.self.inside.links.places c.self.inside.entries c.args.self.now c.args.number c.self.invariant
    c.self.view_is c.requires.there

pub set-requires-2 : goal.set-requires-2
set-requires-2 c =
    within_entries _ _ c.self.inside.links.places c.self.inside.entries c.args.self.now c.args.number c.self.invariant
    c.self.view_is c.requires.there

pub invariant_of-self-2 : goal.invariant_of-self-2
invariant_of-self-2 c =
    rw (c.in_ok-append.ensures.items, c.set.ensures)
    (done_placed c.self.inside.links.numbers.items c.args.links.items c.self.inside.links.places c.self.inside.entries
    c.set-2.new.self c.args.number c.total-start.result c.args.entry c.args.self.now c.self.view_is
    c.total-start.ensures
    c.set-2.ensures.with c.self.invariant c.requires.linked)

pub returns : goal.returns
returns c =
    let written : slots_in c.set.new.self c.set-2.new.self
    ≡ numbers.with_value (slots_in c.self.inside.links.places c.self.inside.entries) c.args.number
    (slot.Done c.args.entry) =
    rw (c.set.ensures, c.set-2.ensures.with)
    (slots_set _ _ c.self.inside.links.places c.self.inside.entries c.args.number (place.Done c.total-start.result)
    c.args.entry c.self.invariant) in record {
      at = λ s t at. written_at _ _ c.self.inside.links.places c.self.inside.entries c.args.self.now _ c.args.number
          (slot.Done c.args.entry) c.self.invariant c.self.view_is c.count-count.ensures.once written s t at;
      keys = written_keys c.self.inside.links.places c.self.inside.entries c.args.self.now _ c.args.number
          (slot.Done c.args.entry) c.self.view_is written;
    }
