use Rattle.std.proofs.Common.{◌≡◌, ◌-◌}
use Rattle.graph_entry.specs.Specifier.{text_of}
use Rattle.graph_builder.specs.Graph.{resolved_over}
use Rattle.graph_builder.specs.Stops.{IsStop}
use Rattle.graph_builder.proofs.graph.resolve_in.Given as goal

-- the redirects that are left lead from here to where all lead from the specifier
abbrev pub invariant-loop : goal.invariant-loop
invariant-loop l = record {
  to : resolved_over l.all (10 - l.counter) (text_of l.at.specifier.now)
      ≡ resolved_over l.all 10 (text_of l.fn.from.specifier.now);
  stop : IsStop l.all l.at;
}
