-- Where the edges and redirects of entries lead, as numbers.
use Rattle.std.specs.Prelude.{◌≡◌, ◌+◌, ◌<◌, ℕ, List, [], ◌∷◌, ◌++◌, map, drop, slice_get, Option, Some, None, option_map, option_and_then}
use Rattle.url.specs.Parts.{Parts}
use Rattle.graph_entry.specs.declared.entry.Entry.{Entry}
use Rattle.graph_entry.specs.declared.entry.Entry.TheVariants as entry
use Rattle.graph_entry.specs.Specifier.{text_of}
use Rattle.graph_entry.specs.Entry.{edge_target}
use Rattle.graph_builder.specs.declared.slot.Slot.{Slot}
use Rattle.graph_builder.specs.declared.slot.Slot.TheVariants as slot
use Rattle.graph_builder.specs.declared.links.Place.{Place}
use Rattle.graph_builder.specs.declared.links.Place.TheVariants as place
use Rattle.graph_builder.specs.declared.links.Links.{Links}
use Rattle.graph_builder.specs.Rules.{edges_of}
use Rattle.graph_builder.specs.Reach.{Specifier}
use Rattle.graph_builder.specs.ByText.{keys_at}

-- ---- ends

-- where the edges of an entry lead, followed or not; a redirect is as one edge
abbrev pub ends_of : Entry → List (Option Specifier)
ends_of (entry.Redirect target) = Some (text_of target) ∷ []
ends_of (entry.Module m) = map edge_target (edges_of m)
ends_of (entry.Package held) = []
ends_of entry.External = []
ends_of (entry.Error e) = []

-- the ends of the entry with a number
abbrev pub ends_in : List (Parts × Entry) → ℕ → Option (List (Option Specifier))
ends_in entries n = option_map (λ e. ends_of e.1) (slice_get entries n)

-- where an edge of the entry with a number leads
abbrev pub end_at : List (Parts × Entry) → ℕ → ℕ → Option Specifier
end_at entries n edge = option_and_then (λ ends. option_and_then (λ end. end) (slice_get ends edge)) (ends_in entries n)

-- ---- links

-- a link of this number has none
abbrev pub no_link : ℕ
no_link = 4294967295

-- a link keeps the number, if it has one
abbrev pub IsKept : ℕ → ℕ → Type 0
IsKept number link = link < no_link → link ≡ number

-- a link of an edge's end: its number, if it has one, is that of the end
abbrev pub IsLink : List Specifier → ℕ → Option Specifier → Type 0
IsLink keys link None = Unit {0}
IsLink keys link (Some t) = link < no_link → slice_get keys link ≡ Some t

-- a link for each end
abbrev pub AreLinks : List Specifier → List ℕ → List (Option Specifier) → Type 0
AreLinks keys [] [] = Unit {0}
AreLinks keys (x ∷ xs) (t ∷ ts) = IsLink keys x t × AreLinks keys xs ts
AreLinks keys [] (t ∷ ts) = ⊥
AreLinks keys (x ∷ xs) [] = ⊥

-- the list begins with a link for each end
abbrev pub BeginsWithLinks : List Specifier → List ℕ → List (Option Specifier) → Type 0
BeginsWithLinks keys xs [] = Unit {0}
BeginsWithLinks keys [] (t ∷ ts) = ⊥
BeginsWithLinks keys (x ∷ xs) (t ∷ ts) = IsLink keys x t × BeginsWithLinks keys xs ts

-- one more link, of this end
abbrev pub IsOneMore : List Specifier → Option Specifier → List ℕ → List ℕ → Type 0
IsOneMore keys end old new = (link : ℕ) × (new ≡ old ++ link ∷ []) × IsLink keys link end

-- ---- entries with their links

-- the links of an entry that is there begin at its place
abbrev pub IsPlaced : List Specifier → List ℕ → Place → Entry → Type 0
IsPlaced keys numbers place.Queued e = Unit {0}
IsPlaced keys numbers place.Asked e = Unit {0}
IsPlaced keys numbers (place.Done start) e = BeginsWithLinks keys (drop start numbers) (ends_of e)

-- the same of all
abbrev pub ArePlaced : List Specifier → List ℕ → List Place → List (Parts × Entry) → Type 0
ArePlaced keys numbers [] [] = Unit {0}
ArePlaced keys numbers (p ∷ ps) (e ∷ es) = IsPlaced keys numbers p e.1 × ArePlaced keys numbers ps es
ArePlaced keys numbers [] (e ∷ es) = ⊥
ArePlaced keys numbers (p ∷ ps) [] = ⊥

abbrev pub HaveLinks : List (Parts × Entry) → Links → Type 0
HaveLinks entries links = ArePlaced (keys_at entries) links.numbers.items links.places entries

-- an edge of an entry has this number as its link
pub record IsLinked (links : Links) (n edge number : ℕ) : Type 0 where
  pub start : ℕ
  pub done : slice_get links.places n ≡ Some (place.Done start)
  pub link : slice_get links.numbers.items (start + edge) ≡ Some number
  pub some : number < no_link

-- ---- slots

-- what is known of a specifier
abbrev pub slot_of : Place → Entry → Slot
slot_of place.Queued e = slot.Queued
slot_of place.Asked e = slot.Asked
slot_of (place.Done start) e = slot.Done e

-- the same of all
abbrev pub slots_in : List Place → List (Parts × Entry) → List (Parts × Slot)
slots_in [] es = []
slots_in (p ∷ ps) [] = []
slots_in (p ∷ ps) (e ∷ es) = (e.0, slot_of p e.1) ∷ slots_in ps es
