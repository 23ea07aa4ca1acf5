use Rattle.std.proofs.Common.{◌∙◌, ap, slice_get, List}
use Rattle.std.specs.Prelude.{option_map}
use Rattle.url.specs.Parts.{Parts}
use Rattle.graph_builder.specs.declared.slot.Slot.{Slot}
use Rattle.graph_builder.proofs.LinksLemmas.{slots_key}
use Rattle.graph_builder.proofs.reached.Reached.numbered.Goals as goal

pub returns : goal.returns
returns c =
    c.numbered.ensures
    ∙ slots_key _ _ c.self.inside.links.places c.self.inside.entries c.args.number c.self.invariant
    ∙ ap (λ (es : List (Parts × Slot)). option_map (λ e. e.0) (slice_get es c.args.number)) c.self.view_is
