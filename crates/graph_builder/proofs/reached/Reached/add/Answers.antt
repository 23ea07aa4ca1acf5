use Rattle.std.proofs.Common.{◌∙◌, sym, ap, position, ◌++◌, ◌∷◌, [], List}
use Rattle.std.specs.Prelude.{bytes_eq}
use Rattle.url.specs.Parts.{Parts}
use Rattle.graph_entry.specs.Specifier.{text_of}
use Rattle.graph_entry.specs.declared.entry.Entry.TheVariants.{External}
use Rattle.graph_builder.specs.declared.slot.Slot.{Slot}
use Rattle.graph_builder.specs.declared.slot.Slot.TheVariants.{Queued}
use Rattle.graph_builder.specs.ByText.{keys_at}
use Rattle.graph_builder.proofs.LinksLemmas.{slots_keys, slots_push, added, popped_place}
use Rattle.graph_builder.proofs.reached.Reached.add.Goals as goal

pub add-requires : goal.add-requires
add-requires c = record {
  new = ap (position (bytes_eq (text_of c.args.url)))
      (sym (slots_keys _ _ c.self.inside.links.places c.self.inside.entries c.self.invariant)
      ∙ ap keys_at c.self.view_is)
      ∙ c.requires.new;
}

pub invariant_of-self-in-Ok : goal.invariant_of-self-in-Ok
invariant_of-self-in-Ok c =
    added c.self.inside.links.numbers.items c.self.inside.links.places c.push.new.self c.self.inside.entries
    c.add.new.all
    c.args.url c.in_ok-push.ensures.ok c.in-Ok.ensures.ok c.self.invariant

pub returns-in-Ok : goal.returns-in-Ok
returns-in-Ok c = record {
  ok = rw (c.in_ok-push.ensures.ok, c.in-Ok.ensures.ok)
      (slots_push _ _ c.self.inside.links.places c.self.inside.entries c.args.url External c.self.invariant
      ∙ ap (λ (es : List (Parts × Slot)). es ++ (c.args.url, Queued) ∷ []) c.self.view_is);
}

pub invariant_of-self-in-Err : goal.invariant_of-self-in-Err
invariant_of-self-in-Err c =
    rw (
      c.in-Err.ensures.err,
      popped_place c.self.inside.links.places c.push.new.self c.pop.new.self c.pop.result
          c.in_ok-push.ensures.ok c.pop.ensures,
    )
    c.self.invariant
