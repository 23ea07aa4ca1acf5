-- The bundle that is written of a plan, as it is read (this project's profile).
use Rattle.std.specs.Prelude.{◌≡◌, ℕ, List, [], ◌++◌, map, None, Ok}
use Rattle.url.specs.Parts.{Parts}
use Rattle.graph_entry.specs.declared.answer.LoadAnswer.{LoadAnswer}
use Rattle.graph_entry.specs.declared.answer.LoadAnswer.TheVariants.{External}
use Rattle.graph_entry.specs.Reading.{ReadsSource}
use Rattle.graph_builder.specs.Graph.{GraphData}
use Rattle.graph_bundle.specs.declared.bundle.Bundle.{Bundle}
use Rattle.graph_bundle.specs.Bundle.{IsJson, bundle_of}
use Rattle.graph_run.specs.Run.{IsGraphOf, IsInput}
use Rattle.graph_vendor.specs.declared.plan.VendorPlan.{VendorPlan}
use Rattle.graph_vendor.specs.Names.{names_in}
use Rattle.graph_vendor.specs.Plan.{IsPlanned}
use Rattle.graph_vendor.specs.vendored.Vendored.{content_of, IsVendored}
use Rattle.vendor_report.specs.declared.wanted.Wanted.{Wanted}
use Rattle.vendor_report.specs.Plans.{wanted_of, plan_text}
use Rattle.vendor_laws.specs.Written.{plan_value}

-- what isn't part of the sources
abbrev pub outside_at : Parts → Parts × LoadAnswer
outside_at url = (url, External)

abbrev pub modules_at : VendorPlan → List (Parts × LoadAnswer)
modules_at plan = map content_of plan.files ++ map outside_at plan.externals

-- the plan's files, without headers, and what isn't part of the sources
abbrev pub bundle_at : Wanted → VendorPlan → Bundle
bundle_at wanted plan = record {
  roots = plan.roots;
  options = record {
    kind = wanted.kind;
    limit = wanted.limit;
    skip_dynamic_deps = wanted.skip_dynamic_deps;
    imports = [];
  };
  modules = modules_at plan;
  arrival = [];
  import_map = None;
}

-- The text that is written of a plan says a bundle, whose graph is the old one without its redirects, renamed.
pub record IsWritten (bundle : Bundle) (graph : GraphData) (base : Parts) (plan : VendorPlan) : Type 0 where
  pub json : IsJson (plan_text (wanted_of bundle.options) plan) (plan_value (wanted_of bundle.options) plan)
  pub says : bundle_of (plan_value (wanted_of bundle.options) plan) ≡ Ok (bundle_at (wanted_of bundle.options) plan)
  pub news : GraphData
  pub is_graph : IsGraphOf (bundle_at (wanted_of bundle.options) plan) news
  pub moves : IsVendored graph.entries (names_in base graph.entries) news.entries

-- So it is of a text that is due with `Done` for an input and a folder: it is that of a plan.
pub record IsDone (base : Parts) (input text : List ℕ) : Type 0 where
  pub bundle : Bundle
  pub says : IsInput input bundle
  pub graph : GraphData
  pub of : IsGraphOf bundle graph
  pub plan : VendorPlan
  pub planned : IsPlanned ReadsSource graph base (Ok plan)
  pub is : text ≡ plan_text (wanted_of bundle.options) plan
  pub written : IsWritten bundle graph base plan
