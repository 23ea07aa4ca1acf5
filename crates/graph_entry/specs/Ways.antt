-- How specifiers are resolved and sources are read: what a caller may put in the place of the URL Standard and of the parser.
use Rattle.std.specs.Prelude.{ℕ, List}
use Rattle.url.specs.Parts.{Parts}
use Rattle.specifier_resolver.specs.Resolver.{Resolving, default_resolving}
use Rattle.graph_entry.specs.Resolution.{KindResolving, KindResolves, resolve_by_kind}
use Rattle.graph_entry.specs.Reading.{Reading, ReadsSource}

pub record Ways : Type 1 where
  pub resolves : KindResolves
  pub reads : Reading

-- those of a resolver that hears the kinds of edges, and an analyser
abbrev pub kind_ways_by : KindResolving → Reading → Ways
kind_ways_by resolving reading = record { resolves = resolve_by_kind resolving; reads = reading }

-- those of a resolver and an analyser
abbrev pub ways_by : (List ℕ → Parts → Resolving) → Reading → Ways
ways_by resolving reading = kind_ways_by (λ kind. resolving) reading

-- those of this project
abbrev pub default_ways : Ways
default_ways = ways_by default_resolving ReadsSource
