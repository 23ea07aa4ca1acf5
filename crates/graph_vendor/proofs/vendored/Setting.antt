-- A graph of which there is a plan.
use Rattle.std.proofs.Common.{List, ℕ}
use Rattle.std.specs.Prelude.{Ok}
use Rattle.url.specs.Parts.{Parts}
use Rattle.es_site.specs.declared.site.Site.{Site}
use Rattle.media_type.specs.declared.media_type.MediaType.{MediaType}
use Rattle.source_reading.specs.Read.{HasSites}
use Rattle.graph_entry.specs.Reading.{Reading, IsFunction}
use Rattle.graph_entry.specs.Ways.{Ways}
use Rattle.graph_entry.specs.Analysed.{AnalysedBy}
use Rattle.graph_builder.specs.declared.following.Following.{Following}
use Rattle.graph_builder.specs.Rules.{Rules, rules_by, rules_of}
use Rattle.graph_builder.specs.Reach.{Answers}
use Rattle.graph_builder.specs.Graph.{GraphData, IsGraph, texts}
use Rattle.graph_vendor.specs.declared.plan.VendorPlan.{VendorPlan}
use Rattle.graph_vendor.specs.Names.{Entries, Names, names_in}
use Rattle.graph_vendor.specs.Plan.{Passes, IsMade}
use Rattle.graph_vendor.specs.vendored.Vendored.{vendored_answers}

-- sources are read as the parser reads them
abbrev pub AsParser : Reading → Type 0
AsParser reads =
    (s : List ℕ) (media : MediaType) (text : List ℕ) (sites : List Site) → reads s media text (Ok sites)
    → HasSites media text sites

abbrev pub rules_with : Ways → Following → Rules
rules_with ways following = rules_by (AnalysedBy ways) following

pub record Setting : Type 1 where
  pub ways : Ways
  pub once : IsFunction ways.reads
  pub following : Following
  pub reads : Reading
  pub parser : AsParser reads
  pub answers : Answers
  pub graph : GraphData
  pub base : Parts
  pub plan : VendorPlan
  pub old : IsGraph (rules_with ways following) (texts graph.roots) answers graph.entries
  pub passes : Passes reads graph
  pub made : IsMade graph (names_in base graph.entries) plan

abbrev pub entries_of : Setting → Entries
entries_of v = v.graph.entries

abbrev pub names_of : Setting → Names
names_of v = names_in v.base v.graph.entries

abbrev pub old_rules : Setting → Rules
old_rules v = rules_with v.ways v.following

abbrev pub new_rules : Setting → Rules
new_rules v = rules_of v.following

abbrev pub new_answers : Setting → Answers
new_answers v = vendored_answers v.plan
