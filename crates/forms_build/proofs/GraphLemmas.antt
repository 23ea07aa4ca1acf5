-- The graph of a bundle with choices, of what its builder is.
use Rattle.std.proofs.Common.{◌≡◌, refl, sym, ◌∙◌, ap, subst, ℕ, ◌≤◌, Bool, List, length, map, Option, Some, None, Result, Ok, Err, IfOk, IfErr}
use Rattle.url.specs.Parts.{Parts}
use Rattle.graph_entry.specs.declared.answer.LoadAnswer.{LoadAnswer}
use Rattle.graph_entry.specs.declared.referrer.ReferrerImports.{ReferrerImports}
use Rattle.es_site.specs.declared.site.DependencyKind.TheVariants.{Referrer}
use Rattle.import_map.specs.ImportMap.{MapData, map_resolve}
use Rattle.specifier_resolver.specs.Resolver.{resolving_or}
use Rattle.graph_entry.specs.Resolution.{Resolves, KindResolving, resolve_by}
use Rattle.graph_entry.specs.Referrer.{referrer_resolves, referred_by, starts_by}
use Rattle.graph_builder.specs.declared.following.Following.{Following}
use Rattle.graph_builder.specs.Reach.{Specifier, Answers}
use Rattle.graph_builder.specs.Graph.{GraphData, IsGraph}
use Rattle.graph_builder.specs.declared.error.BuildError.{BuildError}
use Rattle.graph_builder.specs.Memory.{Memory, tells, data_of}
use Rattle.graph_builder.specs.Loader.{LoaderData}
use Rattle.graph_builder.specs.Events.{asked_of, log_of}
use Rattle.graph_builder.specs.declared.own.Own.{Own}
use Rattle.graph_builder.specs.Builder.{BuildingBy, following_of, json_allowed, new_building_by}
use Rattle.deno_graph.specs.declared.analyzer.analyzer.ParserModuleAnalyzer.{ParserModuleAnalyzer}
use Rattle.graph_bundle.specs.declared.bundle.Bundle.{Bundle}
use Rattle.graph_run.specs.Run.{bundle_resolves, bundle_starts}
use Rattle.graph_run.specs.Steps.{BundleWays, IsFresh, IsNew, SaysLarge, mapped_resolves}
use Rattle.forms_analyzer.specs.declared.analyzer.FormsAnalyzer.{FormsAnalyzer}
use Rattle.forms_build.specs.declared.bundle.FormsBundle.{FormsBundle}
use Rattle.forms_build.specs.declared.resolver.FormsResolver.{FormsResolver}
use Rattle.forms_build.specs.Resolver.{map_for, kind_resolving}
use Rattle.forms_build.specs.Forms.{IsGraphOf, analyzer_of, resolver_of, forms_resolving, forms_rules, FormsWays, rules_in, resolves_of, ways_reading, reread}

-- a builder that is given the choice
abbrev given_choice : Bool → BuildingBy Memory BundleWays → BuildingBy Memory BundleWays
given_choice is_allowed b =
    new_building_by (record {
      following = json_allowed is_allowed b.following.following;
      resolver = b.following.resolver;
      analyzer = b.following.analyzer;
    }) (mapped_resolves b.following.resolver.map) b.roots b.imports b.limit b.loader (data_of b.loader)

-- one that is given a resolver
abbrev given_resolver : {R : Type 0} → (R → KindResolving) → R → BuildingBy Memory BundleWays
    → BuildingBy Memory (Own R ParserModuleAnalyzer)
given_resolver resolving resolver b =
    new_building_by (record {
      following = b.following.following;
      resolver = resolver;
      analyzer = b.following.analyzer;
    }) (referrer_resolves (resolving resolver)) b.roots b.imports b.limit b.loader (data_of b.loader)

-- and one that is given an analyser
abbrev given_analyzer : {R : Type 0} → (R → KindResolving) → FormsAnalyzer
    → BuildingBy Memory (Own R ParserModuleAnalyzer) → BuildingBy Memory (FormsWays R)
given_analyzer resolving analyzer b =
    new_building_by (record {
      following = b.following.following;
      resolver = b.following.resolver;
      analyzer = analyzer;
    }) (referrer_resolves (resolving b.following.resolver)) b.roots b.imports b.limit b.loader (data_of b.loader)

-- a builder over a loader to which nothing happened yet is new
new_of : {L W : Type 0} (own : W) (resolves : Resolves) (roots : List Parts) (imports : List ReferrerImports)
    (limit : ℕ) (loader : L) (seen : LoaderData) → IsFresh seen
    → IsNew seen (new_building_by own resolves roots imports limit loader seen)
new_of own resolves roots imports limit loader seen fresh = record {
  events = fresh.events;
  asked = ap asked_of fresh.events;
  log = ap log_of fresh.events;
  patient = fresh.patient;
  fair = fresh.fair;
  goes_on = refl;
}

-- a builder that is given the choice, then what resolves, then what reads, goes by these
pub again_is : {R : Type 0} (resolving : R → KindResolving) (is_allowed : Bool) (resolver : R)
    (analyzer : FormsAnalyzer) (plain chosen : BuildingBy Memory BundleWays)
    (led : BuildingBy Memory (Own R ParserModuleAnalyzer)) (b : BuildingBy Memory (FormsWays R))
    → chosen ≡ given_choice is_allowed plain → led ≡ given_resolver resolving resolver chosen
    → b ≡ given_analyzer resolving analyzer led → b ≡ reread resolving is_allowed resolver analyzer plain
again_is resolving is_allowed resolver analyzer plain chosen led b chooses leads reads =
    reads ∙ ap (given_analyzer resolving analyzer) (leads ∙ ap (given_resolver resolving resolver) chooses)

-- so is one that resolves and reads otherwise
pub reread_new : {R : Type 0} (resolving : R → KindResolving) (is_allowed : Bool) (resolver : R)
    (analyzer : FormsAnalyzer) (plain : BuildingBy Memory BundleWays) (b : BuildingBy Memory (FormsWays R))
    → b ≡ reread resolving is_allowed resolver analyzer plain → IsFresh (data_of plain.loader)
    → IsNew (data_of b.loader) b
reread_new {R} resolving is_allowed resolver analyzer plain b again fresh =
    subst (λ (x : BuildingBy Memory (FormsWays R)). IsNew (data_of x.loader) x) (sym again)
    (new_of (ways_reading is_allowed resolver analyzer plain.following.following)
    (referrer_resolves (resolving resolver)) plain.roots plain.imports plain.limit plain.loader (data_of plain.loader)
    fresh)

-- what is polled of it, in terms of the plain one
module _ {R : Type 0} (resolving : R → KindResolving) (is_allowed : Bool) (resolver : R) (analyzer : FormsAnalyzer)
    (plain : BuildingBy Memory BundleWays) (b : BuildingBy Memory (FormsWays R))
    (again : b ≡ reread resolving is_allowed resolver analyzer plain) (r : Result GraphData BuildError) where
  abbrev reads : FormsWays R
  reads = ways_reading is_allowed resolver analyzer plain.following.following

  abbrev begins : List Specifier
  begins = starts_by (referrer_resolves (resolving resolver)) plain.roots plain.imports

  pub graph_again : IfOk r (λ g. IsGraph (rules_in resolving b.following) b.starting (tells b.loader.modules) g.entries)
      → IfOk r (λ g. IsGraph (rules_in resolving reads) begins (tells plain.loader.modules) g.entries)
  graph_again = subst (λ (x : BuildingBy Memory (FormsWays R)).
      IfOk r (λ g. IsGraph (rules_in resolving x.following) x.starting (tells x.loader.modules) g.entries)) again

  pub roots_again : IfOk r (λ g. g.roots ≡ b.roots) → IfOk r (λ g. g.roots ≡ plain.roots)
  roots_again = subst (λ (x : BuildingBy Memory (FormsWays R)). IfOk r (λ g. g.roots ≡ x.roots)) again

  pub imports_again : IfOk r (λ g. g.imports ≡ map (referred_by (resolves_of resolving b.following)) b.imports)
      → IfOk r (λ g. g.imports ≡ map (referred_by (referrer_resolves (resolving resolver))) plain.imports)
  imports_again = subst (λ (x : BuildingBy Memory (FormsWays R)).
      IfOk r (λ g. g.imports ≡ map (referred_by (resolves_of resolving x.following)) x.imports)) again

  pub within_again : IfOk r (λ g. length g.entries ≤ b.limit) → IfOk r (λ g. length g.entries ≤ plain.limit)
  within_again = subst (λ (x : BuildingBy Memory (FormsWays R)). IfOk r (λ g. length g.entries ≤ x.limit)) again

  pub large_again : IfErr r (SaysLarge (rules_in resolving b.following) b.starting (tells b.loader.modules) b.limit)
      → IfErr r (SaysLarge (rules_in resolving reads) begins (tells plain.loader.modules) plain.limit)
  large_again = subst (λ (x : BuildingBy Memory (FormsWays R)).
      IfErr r (SaysLarge (rules_in resolving x.following) x.starting (tells x.loader.modules) x.limit)) again

-- what is polled goes by what the builder went by before
module _ {R : Type 0} (resolving : R → KindResolving) (old new : FormsWays R) (r : Result GraphData BuildError)
    (ss : List Specifier) (ms : Answers) where
  pub graph_kept : new ≡ old → IfOk r (λ g. IsGraph (rules_in resolving new) ss ms g.entries)
      → IfOk r (λ g. IsGraph (rules_in resolving old) ss ms g.entries)
  graph_kept = subst (λ (w : FormsWays R). IfOk r (λ g. IsGraph (rules_in resolving w) ss ms g.entries))

  pub large_kept : (limit : ℕ) → new ≡ old → IfErr r (SaysLarge (rules_in resolving new) ss ms limit)
      → IfErr r (SaysLarge (rules_in resolving old) ss ms limit)
  large_kept limit = subst (λ (w : FormsWays R). IfErr r (SaysLarge (rules_in resolving w) ss ms limit))

-- what referrers import leads where the import map says: it isn't of `require`
referrer_leads : (forms : FormsBundle)
    → referrer_resolves (forms_resolving forms) ≡ bundle_resolves forms.chosen.bundle
referrer_leads forms = by forms.require_map
  where
    by : (o : Option MapData)
        → resolve_by (resolving_or map_resolve (map_for Referrer forms.chosen.bundle.import_map o))
        ≡ bundle_resolves forms.chosen.bundle
    by None = refl
    by (Some requires) = refl

-- a plain builder of a bundle, whatever resolves
pub record IsPlain (bundle : Bundle) (plain : BuildingBy Memory BundleWays) : Type 0 where
  pub follows : plain.following.following ≡ following_of bundle.options
  pub roots : plain.roots ≡ bundle.roots
  pub imports : plain.imports ≡ bundle.options.imports
  pub limit : plain.limit ≡ bundle.options.limit
  pub modules : plain.loader.modules ≡ bundle.modules

-- what is polled of a builder that goes by the bundle's choice is the bundle's graph, or it is too large
module _ (forms : FormsBundle) (plain : BuildingBy Memory BundleWays) (is : IsPlain forms.chosen.bundle plain)
    (r : Result GraphData BuildError) where
  abbrev reads_by : Following → FormsWays FormsResolver
  reads_by following =
      ways_reading forms.chosen.json_without_attribute (resolver_of forms) (analyzer_of forms) following

  abbrev begins_at : List Specifier
  begins_at = starts_by (referrer_resolves (forms_resolving forms)) plain.roots plain.imports

  starting : begins_at ≡ bundle_starts forms.chosen.bundle
  starting =
      ap (λ (to : Resolves). starts_by to plain.roots plain.imports) (referrer_leads forms)
      ∙ ap (λ (rs : List Parts). starts_by (bundle_resolves forms.chosen.bundle) rs plain.imports) is.roots
      ∙ ap (starts_by (bundle_resolves forms.chosen.bundle) forms.chosen.bundle.roots) is.imports

  pub graph_of : IfOk r (λ g. IsGraph (rules_in kind_resolving (reads_by plain.following.following)) begins_at
      (tells plain.loader.modules) g.entries)
      → IfOk r (λ g. g.roots ≡ plain.roots)
      → IfOk r (λ g. g.imports ≡ map (referred_by (referrer_resolves (forms_resolving forms))) plain.imports)
      → IfOk r (λ g. length g.entries ≤ plain.limit) → IfOk r (IsGraphOf forms)
  graph_of = by r
    where
      by : (r : Result GraphData BuildError)
          → IfOk r (λ g. IsGraph (rules_in kind_resolving (reads_by plain.following.following)) begins_at
          (tells plain.loader.modules) g.entries)
          → IfOk r (λ g. g.roots ≡ plain.roots)
          → IfOk r (λ g. g.imports ≡ map (referred_by (referrer_resolves (forms_resolving forms))) plain.imports)
          → IfOk r (λ g. length g.entries ≤ plain.limit) → IfOk r (IsGraphOf forms)
      by (Ok g) graph its_roots its_imports within = record {
        roots = its_roots ∙ is.roots;
        imports = its_imports
            ∙ ap (λ (to : Resolves). map (referred_by to) plain.imports) (referrer_leads forms)
            ∙ ap (map (referred_by (bundle_resolves forms.chosen.bundle))) is.imports;
        entries = subst (λ (f : Following). IsGraph (rules_in kind_resolving (reads_by f))
            (bundle_starts forms.chosen.bundle) (tells forms.chosen.bundle.modules) g.entries) is.follows
            (subst (λ (ss : List Specifier). IsGraph (rules_in kind_resolving (reads_by plain.following.following)) ss
            (tells forms.chosen.bundle.modules) g.entries) starting
            (subst (λ (ms : List (Parts × LoadAnswer)). IsGraph
            (rules_in kind_resolving (reads_by plain.following.following)) begins_at (tells ms) g.entries)
            is.modules graph));
        within = subst (λ (n : ℕ). length g.entries ≤ n) is.limit within;
      }
      by (Err e) graph its_roots its_imports within = tt

  pub large_of : IfErr r (SaysLarge (rules_in kind_resolving (reads_by plain.following.following)) begins_at
      (tells plain.loader.modules) plain.limit)
      → IfErr r (SaysLarge (forms_rules forms) (bundle_starts forms.chosen.bundle) (tells forms.chosen.bundle.modules)
      forms.chosen.bundle.options.limit)
  large_of large =
      subst (λ (f : Following). IfErr r (SaysLarge (rules_in kind_resolving (reads_by f))
      (bundle_starts forms.chosen.bundle) (tells forms.chosen.bundle.modules) forms.chosen.bundle.options.limit))
      is.follows
      (subst (λ (ss : List Specifier). IfErr r (SaysLarge
      (rules_in kind_resolving (reads_by plain.following.following)) ss (tells forms.chosen.bundle.modules)
      forms.chosen.bundle.options.limit)) starting
      (subst (λ (ms : List (Parts × LoadAnswer)). IfErr r (SaysLarge
      (rules_in kind_resolving (reads_by plain.following.following)) begins_at (tells ms)
      forms.chosen.bundle.options.limit)) is.modules
      (subst (λ (n : ℕ). IfErr r (SaysLarge (rules_in kind_resolving (reads_by plain.following.following)) begins_at
      (tells plain.loader.modules) n)) is.limit large)))
