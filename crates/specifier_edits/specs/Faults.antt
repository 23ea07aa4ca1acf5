-- Why changes of numbered sites can't be made.
use Rattle.std.specs.Prelude.{◌≡◌, ℕ, zero, suc, ◌+◌, ◌<◌, ◌≤◌, nat_lt, Bool, true, false, List, [], ◌∷◌, slice_get, Option, Some, None, String, if◌then◌else◌}
use Rattle.es_site.specs.declared.site.Site.{Site}
use Rattle.specifier_edits.specs.Sites.{is_reference, IsLiteral}
use Rattle.specifier_edits.specs.declared.numbers.ChangeFault.{ChangeFault}
use Rattle.specifier_edits.specs.declared.numbers.ChangeFault.TheVariants.{NoSite, NoLiteral, NoOrder}

-- why a change can't have this number, where it may not be below another
abbrev pub HasFault : List Site → ℕ → ℕ → ChangeFault → Type 0
HasFault sites from number NoSite = slice_get sites number ≡ None
HasFault sites from number NoLiteral =
    (site : Site) × (slice_get sites number ≡ Some site) × (is_reference site.kind ≡ true)
HasFault sites from number NoOrder =
    (site : Site) × (slice_get sites number ≡ Some site) × IsLiteral site × (number < from)

-- the change at this place can't be made, and those before it name literals, in their order
abbrev pub IsFirstFault : {A : Type 0} → List Site → ℕ → List (ℕ × String A) → ℕ → ChangeFault → Type 0
IsFirstFault sites from [] at fault = ⊥
IsFirstFault sites from (change ∷ changes) zero fault = HasFault sites from change.0 fault
IsFirstFault sites from (change ∷ changes) (suc at) fault =
    (site : Site) × (slice_get sites change.0 ≡ Some site) × IsLiteral site × (from ≤ change.0)
    × IsFirstFault sites (change.0 + 1) changes at fault

-- ---- how the first one is found

-- of a site of such a kind
abbrev pub literal_fault : Bool → ℕ → ℕ → Option ChangeFault
literal_fault true from number = Some NoLiteral
literal_fault false from number = if nat_lt number from then Some NoOrder else None

abbrev pub fault_at : Option Site → ℕ → ℕ → Option ChangeFault
fault_at None from number = Some NoSite
fault_at (Some site) from number = literal_fault (is_reference site.kind) from number

abbrev pub or_later : ℕ → Option ChangeFault → Option (ℕ × ChangeFault) → Option (ℕ × ChangeFault)
or_later at (Some fault) later = Some (at, fault)
or_later at None later = later

abbrev pub first_fault : {A : Type 0} → List Site → ℕ → ℕ → List (ℕ × String A) → Option (ℕ × ChangeFault)
first_fault sites from at [] = None
first_fault sites from at (change ∷ changes) =
    or_later at (fault_at (slice_get sites change.0) from change.0) (first_fault sites (change.0 + 1) (at + 1) changes)
