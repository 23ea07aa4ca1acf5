use Rattle.graph_builder.specs.Entries.{entries_left}
use Rattle.graph_vendor.specs.Refused.{Told, IsFirstRefused}
use Rattle.graph_vendor.proofs.refused.first_refused.Given as goal

-- the entries that are left decide
abbrev pub invariant-loop-specifier : goal.invariant-loop-specifier
invariant-loop-specifier g l =
    (found : Told) → IsFirstRefused (g.M.ModuleAnalyzer.reads l.analyzer) (entries_left l.specifier-iterator) found
    → IsFirstRefused (g.M.ModuleAnalyzer.reads l.analyzer) l.graph.entries found
