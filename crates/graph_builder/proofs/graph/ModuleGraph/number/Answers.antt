use Rattle.std.proofs.Common.{◌≡◌, ◌∙◌, ap, subst, None}
use Rattle.std.specs.Prelude.{◌↔◌}
use Rattle.graph_entry.specs.Specifier.{text_of}
use Rattle.graph_builder.specs.Graph.{GraphData, entry_of, number_in}
use Rattle.graph_builder.proofs.GraphLemmas.{number_numbered, number_none}
use Rattle.graph_builder.proofs.graph.ModuleGraph.number.Goals as goal

pub returns-clause-value : goal.returns-clause-value
returns-clause-value c =
    c.number.ensures.value ∙ number_numbered c.self.inside.all (text_of c.args.specifier.now)
    ∙ ap (λ (v : GraphData). number_in v.numbered (text_of c.args.specifier.now)) c.self.view_is

pub returns-clause-none : goal.returns-clause-none
returns-clause-none c =
    subst (λ (v : GraphData). (c.number.result ≡ None) ↔ (entry_of v.entries (text_of c.args.specifier.now) ≡ None))
    c.self.view_is
    (number_none c.self.inside.all c.self.inside.order c.self.invariant.0 (text_of c.args.specifier.now) c.number.result
    c.number.ensures.value)
