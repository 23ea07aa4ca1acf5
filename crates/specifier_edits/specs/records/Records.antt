-- New specifiers for sites, by records over one buffer of bytes.
use Rattle.std.specs.Prelude.{◌≡◌, ℕ, zero, suc, ◌≤◌, List, [], ◌∷◌, length, slice_range, String, string_bytes, IsUtf8}
use Rattle.std.specs.Global.{Global}
use Rattle.es_site.specs.declared.site.Site.{Site}
use Rattle.source_text.specs.text_changes.Changes.{changed}
use Rattle.specifier_edits.specs.Edits.{NamesLiterals, edits}
use Rattle.specifier_edits.specs.Faults.{IsFirstFault}
use Rattle.specifier_edits.specs.declared.records.records.SourceChange.{SourceChange}
use Rattle.specifier_edits.specs.declared.records.records.Told.{Told}
use Rattle.specifier_edits.specs.declared.records.records.Told.TheVariants.{Changes, Lost}
use Rattle.specifier_edits.specs.declared.records.rewrite.Rewritten.{Rewritten}
use Rattle.specifier_edits.specs.declared.records.rewrite.Rewritten.TheVariants.{Made, NoValue, Faulty}

-- ---- what records tell

-- the bytes of the new specifier
abbrev pub value_of : List ℕ → SourceChange → List ℕ
value_of values it = slice_range values it.value_start it.value_end

-- they stand in the buffer, and are UTF-8
abbrev pub HasValue : List ℕ → SourceChange → Type 0
HasValue values it =
    (it.value_start ≤ it.value_end) × (it.value_end ≤ length values) × IsUtf8 (value_of values it)

-- each change is the one that its record tells
abbrev pub AreTold : List ℕ → List SourceChange → List (ℕ × String Global) → Type 0
AreTold values [] [] = Unit {0}
AreTold values (it ∷ records) (change ∷ changes) =
    HasValue values it × (change.0 ≡ it.site) × (string_bytes change.1 ≡ value_of values it)
    × AreTold values records changes
AreTold values _ _ = ⊥

-- the record at this place is the first that has no specifier
abbrev pub IsFirstLost : List ℕ → List SourceChange → ℕ → Type 0
IsFirstLost values [] at = ⊥
IsFirstLost values (it ∷ records) zero = ¬ HasValue values it
IsFirstLost values (it ∷ records) (suc at) = HasValue values it × IsFirstLost values records at

-- ---- what becomes of a text and its sites

abbrev pub IsRewritten : List ℕ → List Site → List SourceChange → List ℕ → Rewritten → Type 0
IsRewritten text sites records values (Made new) =
    (changes : List (ℕ × String Global)) × AreTold values records changes × NamesLiterals sites 0 changes
    × (string_bytes new ≡ changed text 0 (edits sites changes))
IsRewritten text sites records values (NoValue at) = IsFirstLost values records at
IsRewritten text sites records values (Faulty at fault) =
    (changes : List (ℕ × String Global)) × AreTold values records changes × IsFirstFault sites 0 changes at fault

-- ---- what the functions inside the crate promise each other

abbrev pub IsTold : List ℕ → List SourceChange → Told → Type 0
IsTold values records (Changes changes) = AreTold values records changes.items
IsTold values records (Lost at) = IsFirstLost values records at

abbrev pub IsDone : List ℕ → List Site → List (ℕ × String Global) → Rewritten → Type 0
IsDone text sites changes (Made new) =
    NamesLiterals sites 0 changes × (string_bytes new ≡ changed text 0 (edits sites changes))
IsDone text sites changes (NoValue at) = ⊥
IsDone text sites changes (Faulty at fault) = IsFirstFault sites 0 changes at fault
