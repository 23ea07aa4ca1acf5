-- A shortest way to an entry, and what is gone without it, line by line (this project's profile).
use Rattle.std.specs.Prelude.{◌≡◌, ℕ, List, [], ◌++◌, length, codes, decimal, map, Option, Some, None, slice_get}
use Rattle.std.specs.List.{flat_map}
use Rattle.url.specs.Parts.{Parts}
use Rattle.graph_entry.specs.declared.entry.Dependency.{Dependency}
use Rattle.graph_entry.specs.declared.entry.Entry.{Entry}
use Rattle.graph_entry.specs.Specifier.{text_of}
use Rattle.graph_builder.specs.declared.following.Following.{Following}
use Rattle.graph_builder.specs.Graph.{GraphData, texts, entry_of}
use Rattle.graph_report.specs.Report.{line_end, blank, edge_words, edges_of}
use Rattle.graph_why.specs.declared.step.Step.{Step}
use Rattle.graph_why.specs.declared.step.Without.{Without}
use Rattle.graph_why.specs.declared.step.Without.TheVariants as without
use Rattle.graph_why.specs.Why.{IsPath, IsShortest, AreGone, step_of}
use Rattle.graph_why.specs.Why as why

-- the words of an edge, if there is one
abbrev pub words_of : Option Dependency → List ℕ
words_of (Some d) = edge_words d
words_of None = []

-- the words of an entry's edge with a number
abbrev pub edge_at : Option Entry → ℕ → List ℕ
edge_at (Some entry) n = words_of (slice_get (edges_of entry) n)
edge_at None n = []

-- the words of a step: those of the edge, or of the redirect
abbrev pub step_words : GraphData → Step → Option ℕ → List ℕ
step_words graph step (Some n) = edge_at (entry_of graph.entries (text_of step.from)) n
step_words graph step None = codes "redirect " ++ text_of step.to

-- the line of a step
unfoldable pub step_line : GraphData → Step → List ℕ
step_line graph step =
    codes "way " ++ text_of step.from ++ blank ++ step_words graph step step.dependency ++ line_end

-- how many steps it has, and these
unfoldable pub path_lines : GraphData → List Step → List ℕ
path_lines graph path =
    codes "why " ++ decimal (length path) ++ line_end ++ flat_map (step_line graph) path

-- the text is that of a shortest way to a specifier's entry, or says that there is none
pub data IsWayText (graph : GraphData) (following : Following) (to : Parts) (text : List ℕ) : Type 0 where
  way : (path : List Step) → IsShortest graph following (map step_of path) (text_of to) → text ≡ path_lines graph path
      → IsWayText graph following to text
  none : ((path : List why.Step) → ¬ IsPath graph following None path (text_of to)) → text ≡ codes "why none" ++ line_end
      → IsWayText graph following to text

-- the line of what is gone
unfoldable pub gone_line : Parts → List ℕ
gone_line url = codes "gone " ++ text_of url ++ line_end

-- the text is that of a shortest way to a specifier's entry, and of the entries to which each path leads over this one
pub record IsWhyText (graph : GraphData) (following : Following) (to : Parts) (text : List ℕ) : Type 0 where
  pub way : List ℕ
  pub gone : List Parts
  pub is_way : IsWayText graph following to way
  pub are_gone : AreGone graph following (without.Entry to) (texts gone)
  pub both : text ≡ way ++ flat_map gone_line gone

-- the text is that of the entries to which paths lead, and each over this entry or edge
pub record IsGoneText (graph : GraphData) (following : Following) (left : Without) (text : List ℕ) : Type 0 where
  pub gone : List Parts
  pub are_gone : AreGone graph following left (texts gone)
  pub lines : text ≡ flat_map gone_line gone
