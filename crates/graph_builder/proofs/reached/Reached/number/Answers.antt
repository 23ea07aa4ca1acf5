use Rattle.std.proofs.Common.{◌<◌, ◌∙◌, sym, ap, subst, length, position, ℕ}
use Rattle.std.specs.Prelude.{bytes_eq, IfSome}
use Rattle.graph_entry.specs.Specifier.{text_of}
use Rattle.graph_builder.specs.ByText.{keys_at}
use Rattle.graph_builder.proofs.LinksLemmas.{slots_length, slots_keys}
use Rattle.graph_builder.proofs.reached.Reached.number.Goals as goal

pub returns-clause-value : goal.returns-clause-value
returns-clause-value c =
    c.number.ensures.value
    ∙ ap (position (bytes_eq (text_of c.args.url.now)))
    (sym (slots_keys _ _ c.self.inside.links.places c.self.inside.entries c.self.invariant) ∙ ap keys_at c.self.view_is)

pub returns-clause-within : goal.returns-clause-within
returns-clause-within c =
    subst (λ (m : ℕ). IfSome c.number.result (λ n. n < m))
    (sym (slots_length _ _ c.self.inside.links.places c.self.inside.entries c.self.invariant)
    ∙ ap length c.self.view_is)
    c.number.ensures.within
