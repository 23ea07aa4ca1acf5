use Rattle.graph_builder.proofs.LinksLemmas.{asked_here, asked_nowhere}
use Rattle.graph_builder.proofs.reached.Reached.is_asked.Goals as goal

pub returns-in-Some : goal.returns-in-Some
returns-in-Some c =
    asked_here _ _ c.self.inside.links.places c.self.inside.entries c.args.self.now c.args.number c.in-Some.place.now
    c.is_asked.result c.self.invariant c.self.view_is c.in-Some.ensures.value c.is_asked.ensures

pub returns-in-None : goal.returns-in-None
returns-in-None c =
    asked_nowhere _ _ c.self.inside.links.places c.self.inside.entries c.args.self.now c.args.number c.self.invariant
    c.self.view_is c.in-None.ensures.value
