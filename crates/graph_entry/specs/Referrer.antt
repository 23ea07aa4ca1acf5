-- What a place outside the graph imports, as a configuration file does, and where a graph's reach starts by it.
use Rattle.std.specs.Prelude.{◌≡◌, ℕ, false, List, ◌++◌, map, None, option_to_list}
use Rattle.std.specs.List.{flat_map}
use Rattle.url.specs.Parts.{Parts}
use Rattle.es_site.specs.declared.site.DependencyKind.TheVariants.{Referrer}
use Rattle.es_site.specs.declared.site.Attribute.TheVariants.{Unknown}
use Rattle.graph_entry.specs.declared.entry.Dependency.{Dependency}
use Rattle.graph_entry.specs.declared.referrer.ReferrerImports.{ReferrerImports}
use Rattle.graph_entry.specs.Specifier.{text_of}
use Rattle.graph_entry.specs.Entry.{edge_target}
use Rattle.graph_entry.specs.Resolution.{Resolves, KindResolving, resolve_by, resolve}

-- where a resolver leads what referrers import
abbrev pub referrer_resolves : KindResolving → Resolves
referrer_resolves resolving = resolve_by (resolving Referrer)

-- the edge of a text that a referrer imports: it stands in no module, and its attribute isn't told
abbrev pub referrer_edge : Resolves → List ℕ → List ℕ → Dependency
referrer_edge resolves referrer text = record {
  kind = Referrer;
  type_only = false;
  range = None;
  text = text;
  attribute = Unknown;
  resolution = resolves referrer text;
}

-- the edges of what a referrer imports, in its order
abbrev pub referrer_edges : Resolves → ReferrerImports → List Dependency
referrer_edges resolves place = map (referrer_edge resolves (text_of place.referrer)) place.imports

-- a referrer with its edges
abbrev pub referred_by : Resolves → ReferrerImports → Parts × List Dependency
referred_by resolves place = (place.referrer, referrer_edges resolves place)

abbrev pub referred : ReferrerImports → Parts × List Dependency
referred = referred_by resolve

-- where an edge leads, if it has a target
abbrev pub led_by : Dependency → List (List ℕ)
led_by d = option_to_list (edge_target d)

-- where the edges of what a referrer imports lead
abbrev pub led_from : Resolves → ReferrerImports → List (List ℕ)
led_from resolves place = flat_map led_by (referrer_edges resolves place)

-- where reach starts: at the roots, and at the targets of what is imported outside
abbrev pub starts_by : Resolves → List Parts → List ReferrerImports → List (List ℕ)
starts_by resolves roots places = map text_of roots ++ flat_map (led_from resolves) places

abbrev pub starts_of : List Parts → List ReferrerImports → List (List ℕ)
starts_of = starts_by resolve

-- specifiers were put behind a list of URLs
abbrev pub Adds : List Parts → List Parts → List (List ℕ) → Type 0
Adds old new more = map text_of new ≡ map text_of old ++ more
