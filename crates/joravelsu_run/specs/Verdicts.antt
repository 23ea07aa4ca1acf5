-- What rules say of a graph, as a line (this project's profile).
use Rattle.std.specs.Prelude.{ℕ, List, ◌++◌, codes, decimal}
use Rattle.graph_entry.specs.Specifier.{text_of}
use Rattle.graph_builder.specs.Graph.{GraphData}
use Rattle.graph_policy.specs.declared.rule.Policy.{Policy}
use Rattle.graph_policy.specs.declared.rule.Breach.{Breach}
use Rattle.graph_policy.specs.declared.rule.Breach.TheVariants.{Forbidden, NotAllowed, Lacking}
use Rattle.graph_report.specs.Report.{line_end, blank, state, edge_words}
use Rattle.graph_check.specs.SeenGraph.{Thing, held, edge, things_in}
use Rattle.graph_check.specs.Check.{Look, kept, broken, look_from}
use Rattle.graph_run.specs.declared.status.Status.{Status}
use Rattle.graph_run.specs.declared.status.Status.TheVariants.{Done, BuildRefused}

-- the first thing that breaks a rule, or how many things were looked at
abbrev pub look_at : Policy → GraphData → Look
look_at policy graph = look_from policy graph 0 (things_in graph)

-- why: the number of the rule that forbids it, counted from 0, that no rule allows it, or the number of the rule whose edge it lacks
unfoldable pub breach_words : Breach → List ℕ
breach_words (Forbidden rule) = codes "forbidden " ++ decimal rule
breach_words NotAllowed = codes "not-allowed"
breach_words (Lacking rule) = codes "lacking " ++ decimal rule

-- a thing: an entry as the report has it, or the specifier of a module and the words of its edge
unfoldable pub thing_words : Thing → List ℕ
thing_words (held url entry) = text_of url ++ blank ++ state entry
thing_words (edge url dependency) = text_of url ++ blank ++ edge_words dependency

unfoldable pub look_line : Look → List ℕ
look_line (kept n) = codes "policy kept " ++ decimal n ++ line_end
look_line (broken n breach thing) =
    codes "policy " ++ breach_words breach ++ blank ++ thing_words thing ++ line_end

abbrev pub look_status : Look → Status
look_status (kept n) = Done
look_status (broken n breach thing) = BuildRefused

-- of a graph
abbrev pub verdict_line : Policy → GraphData → List ℕ
verdict_line policy graph = look_line (look_at policy graph)

abbrev pub verdict_status : Policy → GraphData → Status
verdict_status policy graph = look_status (look_at policy graph)
