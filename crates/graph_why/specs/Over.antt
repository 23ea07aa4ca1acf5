-- Paths over an entry or an edge.
use Rattle.std.specs.Prelude.{◌||◌, Bool, not, List, Some}
use Rattle.std.specs.List.{list_any}
use Rattle.graph_builder.specs.Rules.{Specifier}
use Rattle.graph_why.specs.declared.step.Without.{Without}
use Rattle.graph_why.specs.Why.{Step, keeps_start, keeps}

-- a path from this start goes over it
abbrev pub goes_over : Without → Specifier → List Step → Bool
goes_over w start path = not (keeps_start (Some w) start) || list_any (λ e. not (keeps (Some w) e)) path
