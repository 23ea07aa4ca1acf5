use Rattle.std.proofs.Common.{◌≡◌, ◌-◌}
use Rattle.graph_entry.specs.Specifier.{text_of}
use Rattle.graph_builder.specs.Graph.{redirected}
use Rattle.graph_builder.specs.Settling.{led}
use Rattle.graph_builder.specs.Stops.{IsStop}
use Rattle.graph_builder.proofs.settle.leads_on.Given as goal

-- the steps that are left lead from here to where all lead from the specifier
abbrev pub invariant-loop : goal.invariant-loop
invariant-loop l = record {
  to : led (redirected l.firsts) (10 - l.counter) (text_of l.at.specifier.now)
      ≡ led (redirected l.firsts) 10 (text_of l.fn.from.specifier.now);
  stop : IsStop l.firsts l.at;
}
