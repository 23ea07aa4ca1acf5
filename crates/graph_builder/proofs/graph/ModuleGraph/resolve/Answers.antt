use Rattle.std.proofs.Common.{◌∙◌, sym, ap}
use Rattle.url.specs.Parts.{Parts}
use Rattle.graph_entry.specs.Specifier.{text_of}
use Rattle.graph_builder.specs.Graph.{GraphData, resolved}
use Rattle.graph_builder.proofs.GraphLemmas.{resolved_numbered}
use Rattle.graph_builder.proofs.graph.ModuleGraph.resolve.Goals as goal

pub returns : goal.returns
returns c =
    c.resolve_in.ensures.to
    ∙ ap (λ (url : Parts). resolved c.self.inside.all (text_of url)) c.stop_at.ensures.specifier
    ∙ sym (resolved_numbered c.self.inside.all c.self.inside.order c.self.invariant.0 (text_of c.args.specifier.now))
    ∙ ap (λ (v : GraphData). resolved v.entries (text_of c.args.specifier.now)) c.self.view_is
