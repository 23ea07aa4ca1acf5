-- The graph: the entries of all that is reached, by the text of the specifiers.
use Rattle.std.specs.Prelude.{◌≡◌, ℕ, zero, suc, List, [], ◌∷◌, ◌++◌, map, fold, bytes_eq, Option, Some, None, option_and_then, position, if◌then◌else◌}
use Rattle.std.specs.Map.{lookup}
use Rattle.std.specs.List.Sorted.{IsStrictlySortedBy}
use Rattle.std.specs.Ordering.{nat_cmp}
use Rattle.std.specs.Cmp.Lexicographic.{slice_cmp}
use Rattle.url.specs.Parts.{Parts}
use Rattle.graph_entry.specs.declared.entry.Dependency.{Dependency}
use Rattle.graph_entry.specs.declared.entry.Module.{Module}
use Rattle.graph_entry.specs.declared.entry.Entry.{Entry}
use Rattle.graph_entry.specs.declared.entry.Entry.TheVariants as entry
use Rattle.graph_entry.specs.Specifier.{text_of}
use Rattle.graph_entry.specs.Entry.{EdgesCut}
use Rattle.graph_builder.specs.Reach.{Specifier, Answers, Rules, has, IsReach}
use Rattle.graph_builder.specs.Final.{most_redirects, redirect_of, IsFinal}

-- what contracts see of a graph: its roots as handed in, the referrers outside with their edges, its entries, and their
-- specifiers by their numbers
pub record GraphData : Type 0 where
  pub roots : List Parts
  pub imports : List (Parts × List Dependency)
  pub entries : List (Parts × Entry)
  pub numbered : List Parts

-- the specifiers' texts
abbrev pub texts : List Parts → List Specifier
texts urls = map text_of urls

-- the list with one more at its end, unless it has it
abbrev pub with_one : List Specifier → Specifier → List Specifier
with_one ts t = if has ts t then ts else ts ++ t ∷ []

-- the different ones of a list, in the order in which they first stand there
abbrev pub different : List Specifier → List Specifier
different ts = fold with_one [] ts

-- the specifiers that have an entry
abbrev pub members_of : List (Parts × Entry) → List Specifier
members_of entries = map (λ e. text_of e.0) entries

-- the entry of a specifier
abbrev pub entry_of : List (Parts × Entry) → Specifier → Option Entry
entry_of entries s = lookup (λ url. bytes_eq s (text_of url)) entries

-- the place that is led to from here, or this one
abbrev pub on_from : Specifier → (Specifier → Specifier) → Option Specifier → Specifier
on_from s later None = s
on_from s later (Some t) = later t

-- the number of a specifier, which is its place
abbrev pub number_in : List Parts → Specifier → Option ℕ
number_in numbered s = position (bytes_eq s) (texts numbered)

-- where a specifier redirects to
abbrev pub redirected : List (Parts × Entry) → Specifier → Option Specifier
redirected entries s = option_and_then redirect_of (entry_of entries s)

-- where the redirects from a specifier lead, over so many of them at most
abbrev pub resolved_over : List (Parts × Entry) → ℕ → Specifier → Specifier
resolved_over entries zero s = s
resolved_over entries (suc n) s = on_from s (resolved_over entries n) (redirected entries s)

-- where the redirects from a specifier lead
abbrev pub resolved : List (Parts × Entry) → Specifier → Specifier
resolved entries s = resolved_over entries most_redirects s

-- the module of an entry
abbrev pub module_of : Entry → Option Module
module_of (entry.Redirect target) = None
module_of (entry.Module m) = Some m
module_of (entry.Package held) = None
module_of entry.External = None
module_of (entry.Error e) = None

-- the module that a specifier leads to
abbrev pub module_at : List (Parts × Entry) → Specifier → Option Module
module_at entries s = option_and_then module_of (entry_of entries (resolved entries s))

-- the entries are in the order of the bytes of their specifiers, none twice
abbrev pub IsAscending : List (Parts × Entry) → Type 0
IsAscending entries = IsStrictlySortedBy (slice_cmp nat_cmp) (members_of entries)

-- the entries are those of the reached specifiers, in the order of their bytes
pub record IsGraph (rules : Rules) (starts : List Specifier) (answers : Answers) (entries : List (Parts × Entry)) : Type 0 where
  pub ascending : IsAscending entries
  pub members : IsReach rules starts answers (members_of entries)
  pub each : (s : Specifier) (e : Entry) → entry_of entries s ≡ Some e → IsFinal rules answers s e

-- each source edge's range cuts from its module's text the literal whose value is the edge's text
abbrev pub EachEdgeCuts : List (Parts × Entry) → Type 0
EachEdgeCuts entries = (s : Specifier) (e : Entry) → entry_of entries s ≡ Some e → EdgesCut e
