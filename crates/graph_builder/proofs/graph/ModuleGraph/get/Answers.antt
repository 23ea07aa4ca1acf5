use Rattle.std.proofs.Common.{◌∙◌, sym, ap}
use Rattle.url.specs.Parts.{Parts}
use Rattle.graph_entry.specs.Specifier.{text_of}
use Rattle.graph_builder.specs.Graph.{GraphData, module_at}
use Rattle.graph_builder.proofs.GraphLemmas.{module_numbered}
use Rattle.graph_builder.proofs.graph.ModuleGraph.get.Goals as goal

pub returns : goal.returns
returns c =
    c.module_in.ensures
    ∙ ap (λ (url : Parts). module_at c.self.inside.all (text_of url)) c.stop_at.ensures.specifier
    ∙ sym (module_numbered c.self.inside.all c.self.inside.order c.self.invariant.0 (text_of c.args.specifier.now))
    ∙ ap (λ (v : GraphData). module_at v.entries (text_of c.args.specifier.now)) c.self.view_is
