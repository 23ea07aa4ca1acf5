-- Changes of a text. Places are bytes of the source, from 0. Parts of the source past its end are empty.
use Rattle.std.specs.Prelude.{◌≡◌, ℕ, ◌+◌, Bool, ◌&&◌, ◌||◌, nat_lt, nat_le, List, [], ◌∷◌, ◌++◌, drop, slice_index, slice_range, Option, Some, None, if◌then◌else◌}
use Rattle.std.specs.Option.{option_or}
use Rattle.std.specs.Ordering.{is_lt, nat_cmp, ordering_then}
use Rattle.std.specs.List.Sorted.{IsPermutation, IsSortedBy, IsStableBy}
use Rattle.source_text.specs.declared.text_changes.change.TextChange.{TextChange}
use Rattle.source_text.specs.declared.text_changes.error.TextChangeError.{TextChangeError}
use Rattle.source_text.specs.declared.text_changes.error.TextChangeError.TheVariants.{Reversed, Overlapping, MidCharacter}

-- the first change comes before the second: by start, then by end
abbrev pub is_before : TextChange → TextChange → Bool
is_before a b = is_lt (ordering_then (nat_cmp a.range.start b.range.start) (nat_cmp a.range.end b.range.end))

-- the given changes by start, then by end, and those of equal ranges in the order given
pub record AreInOrder (given sorted : List TextChange) : Type 0 where
  pub same : IsPermutation given sorted
  pub ascending : IsSortedBy is_before sorted
  pub stable : IsStableBy is_before given sorted

-- the place is inside a character: its byte goes on with one (UTF-8, bytes from 128 to 191)
abbrev pub cuts_character : List ℕ → ℕ → Bool
cuts_character source place = nat_le 128 (slice_index source place) && nat_lt (slice_index source place) 192

-- the fault of a change of this number, behind one that ends at `past`: the first that it has, in this order
abbrev pub fault_of : List ℕ → ℕ → ℕ → TextChange → Option TextChangeError
fault_of source past number change =
    if nat_lt change.range.end change.range.start then Some (Reversed number)
    else (if nat_lt change.range.start past then Some (Overlapping number)
    else (if cuts_character source change.range.start || cuts_character source change.range.end
    then Some (MidCharacter number)
    else None))

-- the fault of the first faulty change, the first of the list having this number and standing behind `past`
abbrev pub first_fault : List ℕ → ℕ → ℕ → List TextChange → Option TextChangeError
first_fault source past number [] = None
first_fault source past number (change ∷ rest) =
    option_or (fault_of source past number change) (first_fault source change.range.end (number + 1) rest)

-- the source from `past` on with the changes applied: what stands between them, and the new texts
abbrev pub changed : List ℕ → ℕ → List TextChange → List ℕ
changed source past [] = drop past source
changed source past (change ∷ rest) =
    slice_range source past change.range.start ++ change.new_text ++ changed source change.range.end rest

-- in order, none of the given changes is faulty, and the text is the source with them applied
pub record IsChanged (source : List ℕ) (given : List TextChange) (text : List ℕ) : Type 0 where
  pub sorted : List TextChange
  pub in_order : AreInOrder given sorted
  pub faultless : first_fault source 0 0 sorted ≡ None
  pub value : text ≡ changed source 0 sorted

-- in order, the first faulty one of the given changes has this fault
pub record IsRefused (source : List ℕ) (given : List TextChange) (fault : TextChangeError) : Type 0 where
  pub sorted : List TextChange
  pub in_order : AreInOrder given sorted
  pub faulty : first_fault source 0 0 sorted ≡ Some fault
