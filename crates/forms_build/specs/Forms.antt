-- The graph of a bundle with choices, where further forms count too, all forms are read, or not, and `require` has a map of its
-- own, or not.
use Rattle.std.specs.Prelude.{◌≡◌, Bool, ℕ, ◌≤◌, length, map}
use Rattle.graph_entry.specs.Ways.{Ways, kind_ways_by}
use Rattle.graph_entry.specs.Analysed.{AnalysedBy}
use Rattle.graph_entry.specs.Resolution.{Resolves, KindResolving}
use Rattle.graph_entry.specs.Referrer.{referrer_resolves, referred_by}
use Rattle.graph_builder.specs.Rules.{Rules, rules_by}
use Rattle.graph_builder.specs.Graph.{GraphData, IsGraph}
use Rattle.graph_builder.specs.Memory.{Memory, tells, data_of}
use Rattle.graph_builder.specs.Builder.{BuildingBy, following_of, json_allowed, new_building_by}
use Rattle.graph_builder.specs.declared.following.Following.{Following}
use Rattle.graph_builder.specs.declared.own.Own.{Own}
use Rattle.graph_run.specs.Run.{bundle_resolves, bundle_starts}
use Rattle.graph_run.specs.Steps.{BundleWays}
use Rattle.forms_analyzer.specs.declared.analyzer.FormsAnalyzer.{FormsAnalyzer}
use Rattle.forms_analyzer.specs.Forms.{ReadsBy}
use Rattle.forms_build.specs.declared.bundle.FormsBundle.{FormsBundle}
use Rattle.forms_build.specs.declared.resolver.FormsResolver.{FormsResolver}
use Rattle.forms_build.specs.Resolver.{kind_resolving}

-- what reads its sources
abbrev pub analyzer_of : FormsBundle → FormsAnalyzer
analyzer_of forms = record { forms = forms.forms; all_forms = forms.all_forms }

-- what resolves its specifiers
abbrev pub resolver_of : FormsBundle → FormsResolver
resolver_of forms = record { map = forms.chosen.bundle.import_map; require_map = forms.require_map }

abbrev pub forms_resolving : FormsBundle → KindResolving
forms_resolving forms = kind_resolving (resolver_of forms)

-- the rules of its graph
abbrev pub forms_rules : FormsBundle → Rules
forms_rules forms =
    rules_by (AnalysedBy (kind_ways_by (forms_resolving forms) (ReadsBy forms.forms forms.all_forms)))
    (json_allowed forms.chosen.json_without_attribute (following_of forms.chosen.bundle.options))

-- the graph: of the bundle's roots and of what places outside import, over its modules, within its limit
pub record IsGraphOf (forms : FormsBundle) (graph : GraphData) : Type 0 where
  pub roots : graph.roots ≡ forms.chosen.bundle.roots
  pub imports : graph.imports ≡ map (referred_by (bundle_resolves forms.chosen.bundle)) forms.chosen.bundle.options.imports
  pub entries : IsGraph (forms_rules forms) (bundle_starts forms.chosen.bundle) (tells forms.chosen.bundle.modules)
      graph.entries
  pub within : length graph.entries ≤ forms.chosen.bundle.options.limit

-- ---- what the functions of the crate promise each other

-- what a builder with such an analyser goes by, whatever resolves
abbrev pub FormsWays : Type 0 → Type 0
FormsWays R = Own R FormsAnalyzer

-- where specifiers lead by it, and how sources are read
abbrev pub ways_of : {R : Type 0} → (R → KindResolving) → FormsWays R → Ways
ways_of resolving own = kind_ways_by (resolving own.resolver) (ReadsBy own.analyzer.forms own.analyzer.all_forms)

-- where what referrers import leads
abbrev pub resolves_of : {R : Type 0} → (R → KindResolving) → FormsWays R → Resolves
resolves_of resolving own = referrer_resolves (resolving own.resolver)

-- the rules of a graph by it
abbrev pub rules_in : {R : Type 0} → (R → KindResolving) → FormsWays R → Rules
rules_in resolving own = rules_by (AnalysedBy (ways_of resolving own)) own.following

-- the ways of a builder that follows edges so, with these choices
abbrev pub ways_reading : {R : Type 0} → Bool → R → FormsAnalyzer → Following → FormsWays R
ways_reading is_allowed resolver analyzer following = record {
  following = json_allowed is_allowed following;
  resolver = resolver;
  analyzer = analyzer;
}

-- the builder of the same that goes by these, over the same loader
abbrev pub reread : {R : Type 0} → (R → KindResolving) → Bool → R → FormsAnalyzer → BuildingBy Memory BundleWays
    → BuildingBy Memory (FormsWays R)
reread resolving is_allowed resolver analyzer b =
    new_building_by (ways_reading is_allowed resolver analyzer b.following.following)
    (referrer_resolves (resolving resolver)) b.roots b.imports b.limit b.loader (data_of b.loader)
