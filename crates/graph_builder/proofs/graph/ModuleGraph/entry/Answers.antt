use Rattle.std.proofs.Common.{◌∙◌, sym, ap}
use Rattle.graph_entry.specs.Specifier.{text_of}
use Rattle.graph_builder.specs.Graph.{GraphData, entry_of}
use Rattle.graph_builder.proofs.GraphLemmas.{entry_numbered}
use Rattle.graph_builder.proofs.graph.ModuleGraph.entry.Goals as goal

pub returns : goal.returns
returns c =
    c.find.ensures
    ∙ sym (entry_numbered c.self.inside.all c.self.inside.order c.self.invariant.0 (text_of c.args.specifier.now))
    ∙ ap (λ (v : GraphData). entry_of v.entries (text_of c.args.specifier.now)) c.self.view_is
