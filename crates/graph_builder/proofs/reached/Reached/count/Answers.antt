use Rattle.std.proofs.Common.{◌∙◌, sym, ap, subst, length}
use Rattle.std.specs.Prelude.{bytes_eq}
use Rattle.std.specs.List.{IsDistinct}
use Rattle.graph_builder.specs.ByText.{keys_at}
use Rattle.graph_builder.proofs.LinksLemmas.{slots_length, slots_keys}
use Rattle.graph_builder.proofs.reached.Reached.count.Goals as goal

pub returns-clause-len : goal.returns-clause-len
returns-clause-len c =
    c.count.ensures.len
    ∙ sym (slots_length _ _ c.self.inside.links.places c.self.inside.entries c.self.invariant)
    ∙ ap length c.self.view_is

pub returns-clause-once : goal.returns-clause-once
returns-clause-once c =
    subst (IsDistinct bytes_eq)
    (sym (slots_keys _ _ c.self.inside.links.places c.self.inside.entries c.self.invariant) ∙ ap keys_at c.self.view_is)
    c.count.ensures.once
