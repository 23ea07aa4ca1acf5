use Rattle.std.proofs.Common.{◌∙◌, sym}
use Rattle.graph_builder.proofs.LinksLemmas.{slots_done}
use Rattle.graph_builder.proofs.reached.Reached.into_parts.Goals as goal

pub returns-clause-entries : goal.returns-clause-entries
returns-clause-entries c =
    sym c.self.view_is
    ∙ slots_done _ _ c.self.inside.links.places c.self.inside.entries c.requires.entries c.self.invariant
    (c.self.view_is ∙ c.requires.is)
