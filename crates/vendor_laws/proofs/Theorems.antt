-- The graph of the bundle that is written of a plan is the graph that was planned, without its redirects, renamed.
use Rattle.std.proofs.Common.{◌≡◌, ◌∙◌, refl, sym, ap, subst, ℕ, ◌<◌, ◌≤◌, ◌^◌, List, [], ◌∷◌, ◌++◌, length, append-nil, arith, Ok}
use Rattle.std.specs.Prelude.{map}
use Rattle.url.specs.Parts.{Parts}
use Rattle.es_site.specs.declared.site.Site.{Site}
use Rattle.media_type.specs.declared.media_type.MediaType.{MediaType}
use Rattle.source_reading.specs.Read.{HasSites}
use Rattle.graph_entry.specs.Reading.{ReadsSource, with_sites, no_program}
use Rattle.graph_entry.specs.ReadingLaws.{reads_once}
use Rattle.graph_entry.specs.Referrer.{referred_by, starts_by}
use Rattle.graph_entry.specs.Specifier.{text_of}
use Rattle.graph_entry.specs.Ways.{Ways, ways_by}
use Rattle.graph_entry.specs.declared.referrer.ReferrerImports.{ReferrerImports}
use Rattle.graph_builder.specs.declared.following.Following.{Following}
use Rattle.graph_builder.specs.Builder.{following_of}
use Rattle.graph_builder.specs.Memory.{tells}
use Rattle.graph_builder.specs.Reach.{Specifier}
use Rattle.graph_builder.specs.Rules.{rules_of}
use Rattle.graph_builder.specs.Graph.{GraphData, IsGraph, texts}
use Rattle.graph_builder.proofs.Theorems.{rules_once, graph_agrees}
use Rattle.graph_bundle.specs.declared.bundle.Bundle.{Bundle}
use Rattle.graph_bundle.specs.Bundle.{highest_limit}
use Rattle.graph_run.specs.Run.{bundle_resolving, bundle_resolves, bundle_rules, bundle_starts, IsGraphOf, IsInput}
use Rattle.graph_vendor.specs.declared.plan.VendorPlan.{VendorPlan}
use Rattle.graph_vendor.specs.Names.{Entries, names_in}
use Rattle.graph_vendor.specs.Plan.{IsPlanned, targets_of}
use Rattle.graph_vendor.specs.vendored.Vendored.{vendored_answers}
use Rattle.graph_vendor.proofs.vendored.Theorems.{vendored, vendored_graph, vendored_apart}
use Rattle.graph_run.specs.declared.status.Status.TheVariants.{Done}
use Rattle.vendor_run.specs.Readable.{IsReadable}
use Rattle.vendor_run.specs.Due.{OfPlan, IsVendored, OfBundle, IsDue}
use Rattle.vendor_run.specs.Due as due
use Rattle.vendor_report.specs.declared.wanted.Wanted.{Wanted}
use Rattle.vendor_report.specs.Plans.{wanted_of}
use Rattle.vendor_laws.specs.Bundle.{modules_at, bundle_at, IsWritten, IsDone}
use Rattle.vendor_laws.proofs.Answered.{answers}
use Rattle.vendor_laws.proofs.Fresh.{fresh}
use Rattle.vendor_laws.proofs.Limit.{limited}
pub use Rattle.vendor_laws.proofs.Read.{plan_read}
pub use Rattle.vendor_laws.proofs.Says.{plan_says}

-- sources are read as the parser reads them
as_parser : (s : List ℕ) (media : MediaType) (text : List ℕ) (sites : List Site)
    → ReadsSource s media text (Ok sites) → HasSites media text sites
as_parser s media text sites (with_sites found has is) =
    let same : found ≡ sites = cc in subst (HasSites media text) same has
as_parser s media text sites (no_program kind range faulty is) = absurd (let bad : ⊥ = cc in bad)

no_places : (bundle : Bundle) (places : List ReferrerImports) → map (referred_by (bundle_resolves bundle)) places ≡ []
    → places ≡ []
no_places bundle [] e = refl
no_places bundle (place ∷ places) e = absurd (let bad : ⊥ = cc in bad)

module _ (input : List ℕ) (bundle : Bundle) (graph : GraphData) (base : Parts) (plan : VendorPlan)
    (says : IsInput input bundle) (of : IsGraphOf bundle graph)
    (planned : IsPlanned ReadsSource graph base (Ok plan)) (readable : IsReadable (wanted_of bundle.options) plan) where
  abbrev wanted : Wanted
  wanted = wanted_of bundle.options

  abbrev starting : List ReferrerImports → List Specifier
  starting places = starts_by (bundle_resolves bundle) bundle.roots places

  -- nothing outside imports from the graph, so its reach starts at its roots
  starts : bundle_starts bundle ≡ texts graph.roots
  starts =
      let none = no_places bundle bundle.options.imports (sym of.imports ∙ planned.0.alone) in
      ap starting none ∙ append-nil (map text_of bundle.roots) ∙ ap texts (sym of.roots)

  old : IsGraph (bundle_rules bundle) (texts graph.roots) (tells bundle.modules) graph.entries
  old = subst (λ (at : List Specifier). IsGraph (bundle_rules bundle) at (tells bundle.modules) graph.entries) starts
      of.entries

  abbrev ways : Ways
  ways = ways_by (bundle_resolving bundle) ReadsSource

  abbrev following : Following
  following = following_of bundle.options

  -- over the plan's own answers
  alone : (news : Entries) × IsGraph (rules_of following) (texts plan.roots) (vendored_answers plan) news
      × (length news ≤ length graph.entries)
  alone = vendored_graph ways following ReadsSource (tells bundle.modules) graph base plan reads_once as_parser old
      planned

  -- over those of its bundle
  told : IsGraph (rules_of following) (texts plan.roots) (tells (modules_at plan)) alone.0
  told = graph_agrees (rules_of following) (rules_once following) (texts plan.roots) (vendored_answers plan)
      (tells (modules_at plan)) alone.0 alone.1 (λ s reached a given. answers plan s a given)

  abbrev news : GraphData
  news = record { roots = plan.roots; imports = []; entries = alone.0; numbered = [] }

  its_starts : texts plan.roots ≡ bundle_starts (bundle_at wanted plan)
  its_starts = sym (append-nil (texts plan.roots))

  is_graph : IsGraphOf (bundle_at wanted plan) news
  is_graph =
      let few_entries = alone.2 in
      let within = of.within in
      record {
        roots = refl;
        imports = refl;
        entries = subst (λ (at : List Specifier). IsGraph (bundle_rules (bundle_at wanted plan)) at
            (tells (modules_at plan)) alone.0)
            its_starts told;
        within = omega (arith, few_entries, within);
      }

  bounds : (1 ≤ bundle.options.limit) × (bundle.options.limit ≤ highest_limit)
  bounds = limited says.value bundle says.says

  pub written : IsWritten bundle graph base plan
  written = let few = bounds.1 in record {
    json = (readable.utf8, plan_read wanted plan (omega (arith, few)));
    says = plan_says wanted plan readable
        (fresh [] (targets_of plan.files ++ texts plan.externals)
        (vendored_apart ways following ReadsSource (tells bundle.modules) graph base plan reads_once as_parser old
        planned))
        bounds.0 bounds.1;
    news = news;
    is_graph = is_graph;
    moves = vendored ways following ReadsSource (tells bundle.modules) graph base plan reads_once as_parser old planned
        alone.0 alone.1;
  }

-- With `Done` that is what was written.
pub done_written : (base : Parts) (input text : List ℕ) → IsDue base input Done text → IsDone base input text
done_written base input text (due.long more is line) = absurd (let bad : ⊥ = cc in bad)
done_written base input text (due.no_json within none is line) = absurd (let bad : ⊥ = cc in bad)
done_written base input text (due.no_bundle within value json at none is line) = absurd (let bad : ⊥ = cc in bad)
done_written base input text (due.bundle bundle says of_bundle) = by of_bundle
  where
    so : (graph : GraphData) → IsGraphOf bundle graph → (plan : VendorPlan)
        → IsPlanned ReadsSource graph base (Ok plan) → OfPlan (wanted_of bundle.options) plan Done text
        → IsDone base input text
    so graph of plan is_plan (due.bundled readable is same) = record {
      bundle = bundle;
      says = says;
      graph = graph;
      of = of;
      plan = plan;
      planned = is_plan;
      is = same;
      written = written input bundle graph base plan says of is_plan readable;
    }
    so graph of plan is_plan (due.unread name first is line) = absurd (let bad : ⊥ = cc in bad)

    made : (graph : GraphData) → IsGraphOf bundle graph → IsVendored base (wanted_of bundle.options) graph Done text
        → IsDone base input text
    made graph of (due.planned plan is_plan of_plan) = so graph of plan is_plan of_plan
    made graph of (due.refused cause specifier is_plan is line) = absurd (let bad : ⊥ = cc in bad)

    by : OfBundle base bundle Done text → IsDone base input text
    by (due.vendored graph of is) = made graph of is
    by (due.large many is line) = absurd (let bad : ⊥ = cc in bad)
