-- What is wrong with the texts of a graph's modules, line by line (this project's profile).
use Rattle.std.specs.Prelude.{◌≡◌, ℕ, List, [], ◌∷◌, ◌++◌, codes, decimal, Option, Some, None}
use Rattle.base.specs.declared.range.Range.{Range}
use Rattle.url.specs.Parts.{Parts}
use Rattle.graph_entry.specs.declared.entry.Entry.{Entry}
use Rattle.graph_entry.specs.declared.entry.Entry.TheVariants as entry
use Rattle.graph_entry.specs.declared.entry.ModuleError.{ModuleError}
use Rattle.graph_entry.specs.declared.entry.ModuleError.TheVariants.{Parse}
use Rattle.graph_entry.specs.Specifier.{text_of}
use Rattle.graph_report.specs.Report.{line_end, blank}
use Rattle.parse_diagnostic.specs.declared.kind.SyntaxErrorKind.{SyntaxErrorKind}
use Rattle.parse_diagnostic.specs.Diagnosis.{Told, name_of_kind}

-- the line of a fault at a byte
unfoldable pub fault_line : Parts → SyntaxErrorKind → ℕ → List ℕ
fault_line url kind place =
    codes "fault " ++ text_of url ++ blank ++ name_of_kind kind ++ blank ++ decimal place ++ line_end

-- the byte where a lexical fault is; of a fault among the tokens no place is promised
abbrev pub IsPlaceOf : Option Range → ℕ → Type 0
IsPlaceOf (Some range) place = place ≡ range.start
IsPlaceOf None place = Unit {0}

-- why the text of an entry is no program
abbrev pub fault_of_error : ModuleError → Option Told
fault_of_error (Parse d) = Some d
fault_of_error _ = None

abbrev pub fault_of : Entry → Option Told
fault_of (entry.Error e) = fault_of_error e
fault_of _ = None

-- the text is the line of a fault, if there is one
abbrev pub IsFaultText : Parts → Option Told → List ℕ → Type 0
IsFaultText url (Some d) text = (place : ℕ) × IsPlaceOf d.range place × (text ≡ fault_line url d.kind place)
IsFaultText url None text = text ≡ []

-- the text is that of these entries' faults, one after the other
pub data IsFaultsText : List (Parts × Entry) → List ℕ → Type 0 where
  none : IsFaultsText [] []
  more : (entries : List (Parts × Entry)) (text : List ℕ) (e : Parts × Entry) (line : List ℕ) → IsFaultsText entries text
      → IsFaultText e.0 (fault_of e.1) line → IsFaultsText (entries ++ e ∷ []) (text ++ line)
