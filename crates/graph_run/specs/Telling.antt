-- What is told of a graph.
use Rattle.std.specs.Prelude.{◌≡◌, ℕ, List}
use Rattle.graph_builder.specs.Graph.{GraphData}
use Rattle.graph_run.specs.declared.verdict.Telling.{Telling}
use Rattle.graph_run.specs.declared.verdict.Telling.TheVariants.{Report, Counts, Order}
use Rattle.graph_report.specs.Report.{report_of}
use Rattle.graph_report.specs.Summary.{summary_of}
use Rattle.graph_report.specs.Orders.{IsOrderText}

-- its report, its counts, or the order of its modules
abbrev pub told_by : Telling → GraphData → List ℕ → Type 0
told_by Report graph text = text ≡ report_of graph
told_by Counts graph text = text ≡ summary_of graph
told_by Order graph text = IsOrderText graph text
