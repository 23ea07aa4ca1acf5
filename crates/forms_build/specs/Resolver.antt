-- Where the specifiers of a bundle with choices lead, by the kinds of their edges.
use Rattle.std.specs.Prelude.{Bool, true, false, Option, Some, None, if◌then◌else◌}
use Rattle.es_site.specs.declared.site.DependencyKind.{DependencyKind}
use Rattle.es_site.specs.declared.site.DependencyKind.TheVariants.{Require, RequireResolve}
use Rattle.import_map.specs.ImportMap.{MapData, map_resolve}
use Rattle.specifier_resolver.specs.Resolver.{resolving_or}
use Rattle.graph_entry.specs.Resolution.{KindResolving}
use Rattle.forms_build.specs.declared.resolver.FormsResolver.{FormsResolver}

-- an edge of this kind is of `require`
abbrev pub is_of_require : DependencyKind → Bool
is_of_require Require = true
is_of_require RequireResolve = true
is_of_require _ = false

-- the map by which an edge of this kind is resolved, of the import map and of that of `require`
abbrev pub map_for : DependencyKind → Option MapData → Option MapData → Option MapData
map_for kind map None = map
map_for kind map (Some requires) = if is_of_require kind then Some requires else map

-- by that map, or by the URL Standard where there is none
abbrev pub kind_resolving : FormsResolver → KindResolving
kind_resolving resolver kind = resolving_or map_resolve (map_for kind resolver.map resolver.require_map)
